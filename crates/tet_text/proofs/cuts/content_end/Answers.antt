use Rattle.std.proofs.Common.{sym, ◌∙◌, arith}
use Rattle.std.proofs.lemmas.List.Sums.{position_or_len_is}
use Rattle.tet_text.specs.Contents.{ends_content}
use Rattle.tet_text.proofs.cuts.content_end.Goals as goal

pub returns-else-not-ends_content-clause-place : goal.returns-else-not-ends_content-clause-place
returns-else-not-ends_content-clause-place c =
    let ends = sym c.ends_content.ensures ∙ c.if-not-ends_content.false in
    sym (position_or_len_is ends_content c.args.bytes.now c.loop-at.at 0 (omega arith) c.loop-at.invariant.1 (λ lt. ends))

pub returns-after-loop-at-clause-place : goal.returns-after-loop-at-clause-place
returns-after-loop-at-clause-place c =
    sym (position_or_len_is ends_content c.args.bytes.now c.loop-at.at 0 (omega arith) c.loop-at.invariant.1 (λ lt. absurd (omega arith)))
