use Rattle.std.proofs.Common.{◌≤◌, ◌^◌, ap, sym, subst, ◌∙◌, pos, ◌-ℤ◌, unsigned_abs, w32, arith}
use Rattle.std.specs.Prelude.{◌≤ℤ◌}
use Rattle.exact_algebra.proofs.Size.{back}
use Rattle.sign_predicates.specs.Point.{Point, origin}
use Rattle.sign_predicates.specs.Sphere.{in_sphere}
use Rattle.sign_predicates.specs.Reach.{AreWithin}
use Rattle.sign_predicates.specs.declared.tetrahedron.Corners.{Corners}
use Rattle.sign_predicates.proofs.Vectors.{grid_size}
use Rattle.tangle_fill.proofs.sphere.sphere_bounds.Goals as goal

pub at-a-requires : goal.at-a-requires
at-a-requires c = c.requires.on 0 0 (omega arith)

pub returns : goal.returns
returns c e h =
    let t = c.corners_of.result in
    let p = c.a.inside in
    let g = c.a.invariant in
    let reach = c.in_ok-reach.reach in
    let near : AreWithin reach t.a e = c.in_ok-reach.ensures.reach e (subst (λ s. pos 0 ≤ℤ in_sphere s e) (sym c.corners_of.ensures) h) in
    let at = c.a.view_is ∙ sym (c.at-a.ensures origin) ∙ ap (λ (s : Corners). s.a) (sym c.corners_of.ensures) in
    let x = back w32 (2 ^ 29) p.x tt (grid_size p.x g.x_low g.x_high) ∙ ap (λ (q : Point). q.x) at in
    let y = back w32 (2 ^ 29) p.y tt (grid_size p.y g.y_low g.y_high) ∙ ap (λ (q : Point). q.y) at in
    let z = back w32 (2 ^ 29) p.z tt (grid_size p.z g.z_low g.z_high) ∙ ap (λ (q : Point). q.z) at in
    record {
      x = c.around.ensures e.x (subst (λ k. unsigned_abs (e.x -ℤ k) ≤ reach) (sym x) near.x);
      y = c.around-2.ensures e.y (subst (λ k. unsigned_abs (e.y -ℤ k) ≤ reach) (sym y) near.y);
      z = c.around-3.ensures e.z (subst (λ k. unsigned_abs (e.z -ℤ k) ≤ reach) (sym z) near.z);
    }
