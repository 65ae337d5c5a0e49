use Rattle.std.proofs.Common.{◌≡◌, ℕ, ◌<◌, ◌≤◌, ◌*◌, sym, ◌∙◌, arith, subst}
use Rattle.std.proofs.lemmas.Nat.{one_shl}
use Rattle.grid_coords.proofs.Sizes.{halvings_less, halvings_found, halvings_none}
use Rattle.grid_coords.proofs.choice.halvings_for.Goals as goal

pub loop-halvings-preserved : goal.loop-halvings-preserved
loop-halvings-preserved c =
    let shifted = one_shl c.loop-halvings.halvings 64 (omega arith) in
    (halvings_less c.args.wide c.loop-halvings.halvings c.args.size c.loop-halvings-test.true (subst (λ (p : ℕ). c.args.wide < c.args.size * p) shifted c.if-size-halvings.true) ∙ c.loop-halvings.invariant.0, omega arith)

pub returns-else-size-halvings : goal.returns-else-size-halvings
returns-else-size-halvings c =
    let shifted = one_shl c.loop-halvings.halvings 64 (omega arith) in
    sym (halvings_found c.args.wide c.loop-halvings.halvings c.args.size (subst (λ (p : ℕ). c.args.size * p ≤ c.args.wide) shifted c.if-size-halvings.false)) ∙ c.loop-halvings.invariant.0

pub returns-after-loop-halvings : goal.returns-after-loop-halvings
returns-after-loop-halvings c =
    let none : c.loop-halvings.halvings ≡ 0 = omega arith in
    none ∙ sym (halvings_none c.args.wide c.loop-halvings.halvings c.args.size none) ∙ c.loop-halvings.invariant.0
