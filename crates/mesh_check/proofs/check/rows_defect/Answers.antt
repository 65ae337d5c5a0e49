use Rattle.std.proofs.Common.{◌≡◌, ℕ, List, Option, Some, None, subst, sym, ◌∙◌, arith}
use Rattle.sign_predicates.specs.Point.{Point}
use Rattle.mesh_check.specs.Defects.{ReadMesh, IsNotPositive, IsSameSide}
use Rattle.mesh_check.specs.Searches.{IsLeastOf, IsLeastPair}
use Rattle.mesh_check.specs.declared.defect.Defect.TheVariants.{NotPositive, SameSide}
use Rattle.mesh_check.proofs.DefectKinds.{none_0, none_1, first_0, first_1, among_some, among_none, one_kind, two_kinds}
use Rattle.mesh_check.proofs.check.rows_defect.Goals as goal

pub returns-in-Some : goal.returns-in-Some
returns-in-Some c = λ faces neighbors.
    let m : ReadMesh = record { points = c.args.points.now; rows = c.args.list.now; faces = faces; neighbors = neighbors } in
    let first = subst (λ (o : Option ℕ). IsLeastOf (IsNotPositive c.args.points.now c.args.list.now) o) c.in-Some.is c.first_not_positive.ensures in
    among_some m 0 2 (NotPositive c.in-Some.row) (omega arith) (omega arith) first.0 (λ n le lt. absurd (omega arith)) (first_0 m c.in-Some.row first)

pub returns-in-Some-met : goal.returns-in-Some-met
returns-in-Some-met c = λ faces neighbors.
    let m : ReadMesh = record { points = c.args.points.now; rows = c.args.list.now; faces = faces; neighbors = neighbors } in
    let none = subst (λ (o : Option ℕ). IsLeastOf (IsNotPositive c.args.points.now c.args.list.now) o) c.in_default.is c.first_not_positive.ensures in
    let is : c.in_ok-met.met ≡ Some (c.in-Some-met.one, c.in-Some-met.two) = cc in
    let first = subst (λ (o : Option (ℕ × ℕ)). IsLeastPair (IsSameSide c.args.points.now c.args.list.now) o) is c.in_ok-met.ensures in
    among_some m 0 2 (SameSide c.in-Some-met.one c.in-Some-met.two) (omega arith) (omega arith) first.0 (one_kind m 0 (none_0 m none)) (first_1 m c.in-Some-met.one c.in-Some-met.two first)

pub returns-in-None : goal.returns-in-None
returns-in-None c = λ faces neighbors.
    let m : ReadMesh = record { points = c.args.points.now; rows = c.args.list.now; faces = faces; neighbors = neighbors } in
    let none = subst (λ (o : Option ℕ). IsLeastOf (IsNotPositive c.args.points.now c.args.list.now) o) c.in_default.is c.first_not_positive.ensures in
    let is : c.in_ok-met.met ≡ None = cc in
    among_none m 0 2 (two_kinds m 0 (none_0 m none) (none_1 m (subst (λ (o : Option (ℕ × ℕ)). IsLeastPair (IsSameSide c.args.points.now c.args.list.now) o) is c.in_ok-met.ensures)))
