use Rattle.std.proofs.Common.{◌≡◌, ◌+◌, ◌<◌, ℕ, take, length, get_or, refl, sym, subst, ◌∙◌, arith}
use Rattle.std.specs.Prelude.{All}
use Rattle.segment_protect.specs.Watch.{pieces_of}
use Rattle.segment_protect.specs.Passed.{IsPassed, AreSidesFrom}
use Rattle.segment_protect.specs.declared.passed.Passed.{Passed}
use Rattle.segment_protect.proofs.Lost.{AreSidesOf, sides_more, sides_left_out, sides_before}
use Rattle.segment_protect.proofs.passed.Passed.first_lost.Goals as goal
use Rattle.segment_protect.proofs.passed.Passed.first_lost.Goals.{then-v-len, else-v-len}

pub loop-v-preserved : goal.loop-v-preserved
loop-v-preserved c =
    let ps = c.args.living.now.points in
    let lost = c.args.lost.now in
    let i = c.loop-v.v-index in
    let v = get_or lost i 0 in
    let all = pieces_of c.args.self.now.watched.items in
    let so = c.loop-v.invariant in
    let points = so.passed.linked.points in
    let P : Passed → ℕ → Type 0 = λ self least. record {
      pieces : pieces_of self.watched.items ≡ all;
      passed : IsPassed ps c.args.touched.now self;
      sides : AreSidesOf ps (take (i + 1) lost) least all;
    } in
    elim c.if-v-len.branch [
      | then-v-len w ↦
          let done = w.first_lost_at-least in
          let from = subst (AreSidesFrom ps v done.result) so.pieces done.ensures.sides in
          subst (λ self. P self c.if-v-len.least) (sym w.self-is)
          (subst (P done.new.self) (sym w.least-is)
          (record {
            pieces = done.ensures.pieces ∙ so.pieces;
            passed = done.ensures.passed;
            sides = sides_more ps lost i v c.loop-v.least done.result all c.loop-v-test.true refl done.ensures.least so.sides from;
          }))
      | else-v-len w ↦
          let ends = subst (λ qs. All (λ p. p.a < length ps) qs) so.pieces so.passed.linked.ends in
          subst (λ self. P self c.if-v-len.least) (sym w.self-is)
          (subst (P c.loop-v.self) (sym w.least-is)
          (record {
            pieces = so.pieces;
            passed = so.passed;
            sides = sides_left_out ps (length ps) lost i v c.loop-v.least all ends c.loop-v-test.true refl (omega (arith, w.if-v-len.false)) so.sides;
          }))
    ]

pub returns-clause-sides : goal.returns-clause-sides
returns-clause-sides c =
    let so = c.loop-v.invariant in
    sides_before c.args.living.now.points c.args.lost.now c.loop-v.v-index c.loop-v.least c.args.self.now.watched.items c.loop-v.self.watched.items (omega arith) so.pieces c.requires.kept so.sides
