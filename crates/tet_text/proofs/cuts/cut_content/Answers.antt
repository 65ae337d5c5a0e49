use Rattle.std.proofs.Common.{◌≡◌, ◌+◌, ◌-◌, ℕ, List, length, take, drop, sym, ap, ◌∙◌, arith, length-drop}
use Rattle.std.specs.List.{position_or_len, before_first, after_first}
use Rattle.std.proofs.lemmas.Bool.{eq-eqb, ne_eqb}
use Rattle.std.proofs.lemmas.List.{take_all}
use Rattle.std.proofs.Math.ListN.{drop_of_length-le}
use Rattle.tet_text.specs.Lines.{is_line_feed, content_of}
use Rattle.tet_text.specs.Contents.{ends_content}
use Rattle.tet_text.proofs.Contents.{content_is_before, behind_content, behind_comment}
use Rattle.tet_text.proofs.cuts.cut_content.Goals as goal

content_at : (bytes : List ℕ) (end : ℕ) → end ≡ position_or_len ends_content bytes
    → take end bytes ≡ content_of (before_first is_line_feed bytes)
content_at bytes end place = ap (λ (k : ℕ). take k bytes) place ∙ content_is_before bytes

rest_at : (bytes : List ℕ) (end : ℕ) → end ≡ position_or_len ends_content bytes
    → take (length bytes - (end + 1)) (drop (end + 1) bytes) ≡ after_first ends_content bytes
rest_at bytes end place =
    take_all (length bytes - (end + 1)) (drop (end + 1) bytes) (omega (arith, length-drop (end + 1) bytes))
    ∙ ap (λ (k : ℕ). drop (k + 1) bytes) place

pub returns-then-end-bytes-clause-content : goal.returns-then-end-bytes-clause-content
returns-then-end-bytes-clause-content c =
    let end = c.content_end-end.result in
    sym (take_all end c.args.bytes.now (omega arith)) ∙ content_at c.args.bytes.now end c.content_end-end.ensures.place

pub returns-then-end-bytes-clause-after : goal.returns-then-end-bytes-clause-after
returns-then-end-bytes-clause-after c =
    let end = c.content_end-end.result in
    let place = c.content_end-end.ensures.place in
    sym (drop_of_length-le c.args.bytes.now {i = end + 1} (omega arith)) ∙ ap (λ (k : ℕ). drop (k + 1) c.args.bytes.now) place
    ∙ behind_content c.args.bytes.now end place (λ lt. absurd (omega arith))

pub returns-then-bytes-end-eq35-clause-content : goal.returns-then-bytes-end-eq35-clause-content
returns-then-bytes-end-eq35-clause-content c = content_at c.args.bytes.now c.content_end-end.result c.content_end-end.ensures.place

pub returns-then-bytes-end-eq35-clause-after : goal.returns-then-bytes-end-eq35-clause-after
returns-then-bytes-end-eq35-clause-after c =
    let end = c.content_end-end.result in
    let place = c.content_end-end.ensures.place in
    c.cut_line.ensures.after ∙ ap (after_first is_line_feed) (rest_at c.args.bytes.now end place)
    ∙ behind_comment c.args.bytes.now end place (omega arith) (eq-eqb _ _ c.if-bytes-end-eq35.true)

pub returns-clause-content : goal.returns-clause-content
returns-clause-content c = content_at c.args.bytes.now c.content_end-end.result c.content_end-end.ensures.place

pub returns-clause-after : goal.returns-clause-after
returns-clause-after c =
    let end = c.content_end-end.result in
    let place = c.content_end-end.ensures.place in
    rest_at c.args.bytes.now end place ∙ behind_content c.args.bytes.now end place (λ lt. ne_eqb _ _ c.if-bytes-end-eq35.false)
