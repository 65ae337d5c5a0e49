use Rattle.std.proofs.Common.{◌≡◌, ℕ, List, [], Option, Some, None, subst, sym, ap, ◌∙◌, arith}
use Rattle.std.specs.Option.{option_copied}
use Rattle.mesh_check.specs.Among.{IsFirstOfKinds}
use Rattle.mesh_check.specs.Defects.{ReadMesh, neighbors_or}
use Rattle.mesh_check.specs.declared.defect.Defect.{Defect}
use Rattle.mesh_check.specs.declared.defect.Defect.TheVariants.{SameSide}
use Rattle.mesh_check.proofs.DefectKinds.{none_before, none_on, first_defect, no_defect}
use Rattle.mesh_check.proofs.check.check_mesh.Goals as goal

pub returns-in-Some : goal.returns-in-Some
returns-in-Some c =
    let m : ReadMesh = record { points = c.args.points.now; rows = c.args.list.now; faces = c.args.faces.now; neighbors = neighbors_or c.args.list.now (option_copied c.args.neighbors) } in
    let is : c.in_ok-of_rows.of_rows ≡ Some c.in-Some.defect = cc in
    first_defect m 0 2 c.in-Some.defect (λ e lt. absurd (omega arith)) (subst (λ (o : Option Defect). IsFirstOfKinds m 0 2 o) is (c.in_ok-of_rows.ensures m.faces m.neighbors))

pub returns-in-Some-neighbors_defect : goal.returns-in-Some-neighbors_defect
returns-in-Some-neighbors_defect c =
    let m : ReadMesh = record { points = c.args.points.now; rows = c.args.list.now; faces = c.args.faces.now; neighbors = neighbors_or c.args.list.now (option_copied c.args.neighbors) } in
    let none : c.in_ok-of_rows.of_rows ≡ None = cc in
    let rows = subst (λ (o : Option Defect). IsFirstOfKinds m 0 2 o) none (c.in_ok-of_rows.ensures m.faces m.neighbors) in
    first_defect m 2 4 c.in-Some-neighbors_defect.defect (none_before m 2 rows) (c.in-Some-neighbors_defect.ensures m.points m.faces)

pub faces_defect-requires-clause-apart : goal.faces_defect-requires-clause-apart
faces_defect-requires-clause-apart c =
    let m : ReadMesh = record { points = c.args.points.now; rows = c.args.list.now; faces = c.args.faces.now; neighbors = neighbors_or c.args.list.now (option_copied c.args.neighbors) } in
    let none : c.in_ok-of_rows.of_rows ≡ None = cc in
    let rows = subst (λ (o : Option Defect). IsFirstOfKinds m 0 2 o) none (c.in_ok-of_rows.ensures m.faces m.neighbors) in
    λ i j. rows (SameSide i j) (omega arith, omega arith)

pub returns-in-Some-of_faces : goal.returns-in-Some-of_faces
returns-in-Some-of_faces c =
    let m : ReadMesh = record { points = c.args.points.now; rows = c.args.list.now; faces = c.args.faces.now; neighbors = neighbors_or c.args.list.now (option_copied c.args.neighbors) } in
    let none : c.in_ok-of_rows.of_rows ≡ None = cc in
    let listed : c.neighbors_defect.result ≡ None = cc in
    let is : c.in_ok-of_faces.of_faces ≡ Some c.in-Some-of_faces.defect = cc in
    let rows = subst (λ (o : Option Defect). IsFirstOfKinds m 0 2 o) none (c.in_ok-of_rows.ensures m.faces m.neighbors) in
    let neighbors = subst (λ (o : Option Defect). IsFirstOfKinds m 2 4 o) listed (c.neighbors_defect.ensures m.points m.faces) in
    first_defect m 4 7 c.in-Some-of_faces.defect (none_on m 2 4 (none_before m 2 rows) neighbors) (subst (λ (o : Option Defect). IsFirstOfKinds m 4 7 o) is (c.in_ok-of_faces.ensures m.neighbors))

pub returns : goal.returns
returns c =
    let m : ReadMesh = record { points = c.args.points.now; rows = c.args.list.now; faces = c.args.faces.now; neighbors = neighbors_or c.args.list.now (option_copied c.args.neighbors) } in
    let none : c.in_ok-of_rows.of_rows ≡ None = cc in
    let listed : c.neighbors_defect.result ≡ None = cc in
    let is : c.in_ok-of_faces.of_faces ≡ None = cc in
    let rows = subst (λ (o : Option Defect). IsFirstOfKinds m 0 2 o) none (c.in_ok-of_rows.ensures m.faces m.neighbors) in
    let neighbors = subst (λ (o : Option Defect). IsFirstOfKinds m 2 4 o) listed (c.neighbors_defect.ensures m.points m.faces) in
    let faces = subst (λ (o : Option Defect). IsFirstOfKinds m 4 7 o) is (c.in_ok-of_faces.ensures m.neighbors) in
    no_defect m (none_on m 4 7 (none_on m 2 4 (none_before m 2 rows) neighbors) faces)
