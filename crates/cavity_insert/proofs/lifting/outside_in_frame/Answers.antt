use Rattle.std.proofs.Common.{◌≡◌, subst, sym, ◌∙◌, arith}
use Rattle.sign_predicates.specs.Point.{origin}
use Rattle.sign_predicates.specs.Sphere.{is_outside}
use Rattle.sign_predicates.specs.Lifted.{IsInFrame, AreInFrame}
use Rattle.sign_predicates.specs.declared.tetrahedron.Corners.{Corners}
use Rattle.geo_laws.specs.Delaunay.{corners, point, as_numbers}
use Rattle.cavity_insert.proofs.Lifts.{lifted_row, lifted_corners}
use Rattle.cavity_insert.proofs.lifting.outside_in_frame.Goals as goal

pub at-p-requires : goal.at-p-requires
at-p-requires c = let are = c.requires.lifted in omega (arith, c.requires.inside, are.count)

pub corners-requires : goal.corners-requires
corners-requires c = let a = c.args in record { on = lifted_row a.lifted.now a._points.now a.row c.requires.lifted c.requires.on }

pub returns : goal.returns
returns c =
    let a = c.args in
    let are = c.requires.lifted in
    let ps = a._points.now in
    let t = corners ps a.row in
    let frame = a.lifted.now.frame in
    let there : point a.lifted.now.points a.number ≡ c.at-p.result = c.at-p.ensures origin in
    let is : c.lifted_outside.result ≡ is_outside t (as_numbers a.row) (point ps a.number) a.number =
    c.lifted_outside.ensures frame t (point ps a.number) are.some
    (subst (λ (q : Corners). AreInFrame frame q t) (sym c.corners.ensures) (lifted_corners a.lifted.now ps a.row are c.requires.on))
    (subst (λ q. IsInFrame frame q (point ps a.number)) there (are.each a.number c.requires.inside))
    ∙ (λ i. is_outside t (c.numbers_of.ensures i) (point ps a.number) a.number) in
    (λ h. sym is ∙ h, λ h. is ∙ h)
