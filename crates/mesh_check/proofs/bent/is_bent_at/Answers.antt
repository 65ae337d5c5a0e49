use Rattle.std.proofs.Common.{◌≡◌, ℕ, subst, sym, ap, ◌∙◌, arith}
use Rattle.std.specs.Prelude.{pos, ◌<ℤ◌, ℤ}
use Rattle.sign_predicates.specs.Point.{Point, origin}
use Rattle.sign_predicates.specs.Sphere.{in_sphere}
use Rattle.sign_predicates.specs.declared.tetrahedron.Corners.{Corners}
use Rattle.geo_laws.specs.Delaunay.{point, corners}
use Rattle.geo_laws.specs.declared.faces.Face.{Face}
use Rattle.mesh_check.specs.FaceSets.{HasFace}
use Rattle.mesh_check.proofs.bent.is_bent_at.Goals as goal

pub returns : goal.returns
returns c =
    let ps = c.args.mesh.points.now in
    let sphere : in_sphere c.corners_of.result c.at-point.result ≡ in_sphere (corners ps c.args.s) c.at-point.result = ap (λ (t : Corners). in_sphere t c.at-point.result) c.corners_of.ensures in
    let further = ap (λ (p : Point). in_sphere (corners ps c.args.s) p) (sym (c.at-point.ensures origin) ∙ ap (λ (n : ℕ). point ps n) c.point_in.ensures) in
    let same = sphere ∙ further in (
      λ h. (c.is_shared.ensures.0 (cc), λ x. let y = c.has.ensures.1 (subst (λ (f : Face). HasFace c.args.mesh.listed.now f) (sym c.face_in-face.ensures) x) in absurd (cc), subst (λ (z : ℤ). pos 0 <ℤ z) same (c.is_inside_sphere.ensures.0 h)),
      λ h. c.is_inside_sphere.ensures.1 (subst (λ (z : ℤ). pos 0 <ℤ z) (sym same) h.2),
    )
