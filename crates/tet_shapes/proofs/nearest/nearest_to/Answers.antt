use Rattle.std.proofs.Common.{◌≡◌, ◌+◌, ℕ, ℤ, pos, refl, sym, subst, ◌∙◌, arith, to_z, of_z}
use Rattle.std.specs.Int.{w128}
use Rattle.std.proofs.lemmas.Int.{ints}
use Rattle.std.specs.Prelude.{Option, IfSome}
use Rattle.sign_predicates.specs.Point.{Point}
use Rattle.tet_shapes.specs.Nearest.{gap, AreNoNearer}
use Rattle.tet_shapes.proofs.Nearer.{nearer, no_nearer, IsNearestTo}
use Rattle.tet_shapes.proofs.nearest.nearest_to.Goals as goal
use Rattle.tet_shapes.proofs.nearest.nearest_to.Goals.{then-is_nearer, else-is_nearer}

pub loop-i-preserved : goal.loop-i-preserved
loop-i-preserved c =
    let ps = c.args.points.now in
    let s = c.args.s in
    let i = c.loop-i.i in
    let h = c.loop-i.invariant in
    let n = to_z w128 c.if-is_nearer.least-bits in
    let o : Point = record { x = pos 0; y = pos 0; z = pos 0 } in
    let a = sym (c.at-a.ensures o) in
    let b = sym (c.at-b.ensures o) in
    let p = sym (c.at.ensures o) in
    let back : to_z w128 (of_z w128 c.gap-own.result) ≡ c.gap-own.result = omega (arith, ints) in
    let own = back ∙ c.gap-own.ensures ∙ (λ t. gap (a t) (b t) (p t)) in
    elim c.if-is_nearer.branch [
      | then-is_nearer w ↦
          let tests = w.if-is_nearer.ensures in
          record {
            least = subst (AreNoNearer ps s (i + 1)) (sym w.least-is)
                (nearer ps s i _ _ h.least own (tests.less refl));
            nearest = subst (λ (o : Option ℕ). IfSome o (IsNearestTo ps s n)) (sym w.nearest-is)
                (omega arith, tests.yes refl, w.least-is ∙ own);
          }
      | else-is_nearer w ↦
          let tests = w.if-is_nearer.ensures in
          record {
            least = subst (AreNoNearer ps s (i + 1)) (sym w.least-is) (no_nearer ps s i _ _ h.least own (tests.no refl));
            nearest = subst (λ (o : Option ℕ). IfSome o (IsNearestTo ps s n)) (sym w.nearest-is)
                (subst (λ (m : ℤ). IfSome c.loop-i.nearest (IsNearestTo ps s m)) (sym w.least-is) h.nearest);
          }
    ]
