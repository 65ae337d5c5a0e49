use Rattle.std.proofs.Common.{◌≡◌, ℕ, ◌<◌, List, Option, sym, ap, ◌∙◌}
use Rattle.mesh_arena.specs.declared.slot.Corner.{Corner}
use Rattle.mesh_arena.specs.declared.slot.Corner.TheVariants.{Point}
use Rattle.mesh_arena.specs.Mesh.{corner, corner_in}
use Rattle.mesh_tests.proofs.OneSlot.{IsRim-one, ArePaired-one, IsOffRim-one}
use Rattle.mesh_tests.proofs.tests.surgery.split.Goals as goal

pub replace_cavity-requires-clause-rim : goal.replace_cavity-requires-clause-rim
replace_cavity-requires-clause-rim c =
    rw (c.in_ok-rim.ensures, c.in_ok-cavity.ensures)
    (IsRim-one _ c.args.s c.in-Some.a c.in-Some-across.b c.in-Some-across-2.c c.in-Some-across-3.d c.tet-t.ensures.mesh (sym c.in-Some.ensures.value) (sym c.in-Some-across.ensures.value) (sym c.in-Some-across-2.ensures.value) (sym c.in-Some-across-3.ensures.value))

pub replace_cavity-requires-clause-pairs : goal.replace_cavity-requires-clause-pairs
replace_cavity-requires-clause-pairs c =
    rw c.in_ok-rim.ensures
    (ArePaired-one _ c.args.s c.in-Some.a c.in-Some-across.b c.in-Some-across-2.c c.in-Some-across-3.d c.tet-t.ensures.mesh (sym c.in-Some.ensures.value) (sym c.in-Some-across.ensures.value) (sym c.in-Some-across-2.ensures.value) (sym c.in-Some-across-3.ensures.value))

pub replace_cavity-requires-clause-point : goal.replace_cavity-requires-clause-point
replace_cavity-requires-clause-point c =
    let none : (k : ℕ) → k < 4 → corner c.args.arena.now.slots c.args.s.index k ≡ Point c.args.point → ⊥ =
    λ k lt e. c.lacks.ensures c.if-not-lacks.false k lt (sym (ap (λ (o : Option (List Corner)). corner_in o k) c.tet-t.ensures.corners) ∙ e) in
    rw c.in_ok-rim.ensures
    (IsOffRim-one _ c.args.s c.in-Some.a c.in-Some-across.b c.in-Some-across-2.c c.in-Some-across-3.d c.tet-t.ensures.mesh (sym c.in-Some.ensures.value) (sym c.in-Some-across.ensures.value) (sym c.in-Some-across-2.ensures.value) (sym c.in-Some-across-3.ensures.value) (Point c.args.point) none)
