use Rattle.std.proofs.Common.{length, ◌+◌, sym, ◌∙◌}
use Rattle.std.proofs.lemmas.Bool.{eqb-true}
use Rattle.tet_text.specs.Views.{content_left, line_total}
use Rattle.tet_text.proofs.ContentLines.{next_is, next_passes, next_counts, no_line}
use Rattle.tet_text.proofs.lines.Lines.next_fields.Goals as goal

pub returns-then-not-is_empty-clause-next : goal.returns-then-not-is_empty-clause-next
unfolding content_left
returns-then-not-is_empty-clause-next c =
    let some = sym c.is_empty.ensures ∙ c.loop-content-test.true in
    let has = sym c.is_empty-in-loop-content.ensures ∙ c.if-not-is_empty.true in
    sym c.loop-content.invariant.0 ∙ next_is (c.loop-content.self.passed + 1) c.loop-content.self.rest.now c.cut_content.result.0.now c.cut_content.result.1.now c.of-fields.result some c.cut_content.ensures.content c.cut_content.ensures.after c.of-fields.ensures has

pub returns-then-not-is_empty-clause-count : goal.returns-then-not-is_empty-clause-count
unfolding line_total
returns-then-not-is_empty-clause-count c =
    let some = sym c.is_empty.ensures ∙ c.loop-content-test.true in
    next_counts c.loop-content.self.passed c.loop-content.self.rest.now c.cut_content.result.1.now some c.cut_content.ensures.after ∙ c.loop-content.invariant.1

pub loop-content-preserved : goal.loop-content-preserved
unfolding content_left line_total
loop-content-preserved c =
    let some = sym c.is_empty.ensures ∙ c.loop-content-test.true in
    let none = sym c.is_empty-in-loop-content.ensures ∙ c.if-not-is_empty.false in
    let content = next_passes (c.loop-content.self.passed + 1) c.loop-content.self.rest.now c.cut_content.result.0.now c.cut_content.result.1.now c.of-fields.result some c.cut_content.ensures.content c.cut_content.ensures.after c.of-fields.ensures none in
    let count = next_counts c.loop-content.self.passed c.loop-content.self.rest.now c.cut_content.result.1.now some c.cut_content.ensures.after in
    (sym content ∙ c.loop-content.invariant.0, count ∙ c.loop-content.invariant.1)

pub returns-clause-next : goal.returns-clause-next
unfolding content_left
returns-clause-next c =
    let none = eqb-true (length c.loop-content.self.rest.now) 0 (sym c.is_empty.ensures ∙ c.loop-content-test.false) in
    let e = no_line (c.loop-content.self.passed + 1) c.loop-content.self.rest.now none in
    (sym c.loop-content.invariant.0 ∙ e, e)
