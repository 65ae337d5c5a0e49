use Rattle.std.proofs.Common.{◌≡◌, ℕ, List, Option, Some, None, subst, sym, ap, ◌∙◌, arith}
use Rattle.mesh_check.specs.Among.{IsFirstOfKinds}
use Rattle.mesh_check.specs.Defects.{ReadMesh, IsStray, IsUnlisted, IsBent}
use Rattle.mesh_check.specs.Searches.{IsLeastOf, IsLeastPair}
use Rattle.mesh_check.specs.declared.defect.Defect.TheVariants.{Stray, Unlisted, Bent}
use Rattle.mesh_check.proofs.DefectKinds.{none_4, none_5, none_6, first_4, first_5, first_6, among_some, among_none, one_kind, two_kinds, three_kinds}
use Rattle.mesh_check.proofs.check.faces_defect.Goals as goal

pub returns-in-Some : goal.returns-in-Some
returns-in-Some c = λ neighbors.
    let m : ReadMesh = record { points = c.args.points.now; rows = c.args.list.now; faces = c.args.faces.now; neighbors = neighbors } in
    let is : c.first_stray.result ≡ Some c.in-Some.face = cc in
    let first = subst (λ (o : Option ℕ). IsLeastOf (IsStray c.args.list.now c.args.faces.now) o) is c.first_stray.ensures in
    among_some m 4 7 (Stray c.in-Some.face) (omega arith) (omega arith) first.0 (λ n le lt. absurd (omega arith)) (first_4 m c.in-Some.face first)

pub returns-in-Some-first_unlisted : goal.returns-in-Some-first_unlisted
returns-in-Some-first_unlisted c = λ neighbors.
    let m : ReadMesh = record { points = c.args.points.now; rows = c.args.list.now; faces = c.args.faces.now; neighbors = neighbors } in
    let stray : c.first_stray.result ≡ None = cc in
    let none = subst (λ (o : Option ℕ). IsLeastOf (IsStray c.args.list.now c.args.faces.now) o) stray c.first_stray.ensures in
    let first = c.in-Some-first_unlisted.ensures in
    among_some m 4 7 (Unlisted c.in-Some-first_unlisted.row c.in-Some-first_unlisted.corner) (omega arith) (omega arith) first.0 (one_kind m 4 (none_4 m none)) (first_5 m c.in-Some-first_unlisted.row c.in-Some-first_unlisted.corner first)

pub returns-in-Some-first_bent : goal.returns-in-Some-first_bent
returns-in-Some-first_bent c = λ neighbors.
    let m : ReadMesh = record { points = c.args.points.now; rows = c.args.list.now; faces = c.args.faces.now; neighbors = neighbors } in
    let stray : c.first_stray.result ≡ None = cc in
    let unlisted : c.first_unlisted.result ≡ None = cc in
    let none = subst (λ (o : Option ℕ). IsLeastOf (IsStray c.args.list.now c.args.faces.now) o) stray c.first_stray.ensures in
    let no_more = subst (λ (o : Option (ℕ × ℕ)). IsLeastPair (IsUnlisted c.args.list.now c.args.faces.now) o) unlisted c.first_unlisted.ensures in
    let first = c.in-Some-first_bent.ensures in
    among_some m 4 7 (Bent c.in-Some-first_bent.one c.in-Some-first_bent.two) (omega arith) (omega arith) first.0 (two_kinds m 4 (none_4 m none) (none_5 m no_more)) (first_6 m c.in-Some-first_bent.one c.in-Some-first_bent.two first)

pub returns : goal.returns
returns c = λ neighbors.
    let m : ReadMesh = record { points = c.args.points.now; rows = c.args.list.now; faces = c.args.faces.now; neighbors = neighbors } in
    let stray : c.first_stray.result ≡ None = cc in
    let unlisted : c.first_unlisted.result ≡ None = cc in
    let bent : c.first_bent.result ≡ None = cc in
    let none = subst (λ (o : Option ℕ). IsLeastOf (IsStray c.args.list.now c.args.faces.now) o) stray c.first_stray.ensures in
    let no_more = subst (λ (o : Option (ℕ × ℕ)). IsLeastPair (IsUnlisted c.args.list.now c.args.faces.now) o) unlisted c.first_unlisted.ensures in
    let last = subst (λ (o : Option (ℕ × ℕ)). IsLeastPair (IsBent c.args.points.now c.args.list.now c.args.faces.now) o) bent c.first_bent.ensures in
    among_none m 4 7 (three_kinds m 4 (none_4 m none) (none_5 m no_more) (none_6 m last))
