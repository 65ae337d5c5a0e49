use Rattle.std.proofs.Common.{◌≡◌, ℤ, pos, ap, sym, subst, ◌∙◌, arith, to_z, of_z}
use Rattle.std.specs.Int.{w64, w128}
use Rattle.std.proofs.lemmas.Int.{ints}
use Rattle.sign_predicates.specs.Point.{Point, from_to}
use Rattle.sign_predicates.specs.Sphere.{square_length}
use Rattle.geo_laws.specs.Delaunay.{point}
use Rattle.tet_shapes.specs.Nearest.{gap, gap_of, whole, IsWithin}
use Rattle.tet_shapes.proofs.nearest.near_of.Goals as goal

pub returns : goal.returns
returns c =
    let ps = c.args.points.now in
    let s = c.args.s in
    let h = c.args.grid.halvings in
    let units = c.in_ok-units.units in
    let o : Point = record { x = pos 0; y = pos 0; z = pos 0 } in
    let a = sym (c.at-a.ensures o) in
    let b = sym (c.at-b.ensures o) in
    let p = sym (c.at.ensures o) in
    let length : Point → Point → ℤ = λ u v. square_length (from_to u v) in
    let whole-now : ℤ = to_z w64 (of_z w64 c.square_length-whole.result) in
    let gap-now : ℤ = to_z w128 (of_z w128 c.gap.result) in
    let whole-back : whole-now ≡ c.square_length-whole.result = omega (arith, ints) in
    let gap-back : gap-now ≡ c.gap.result = omega (arith, ints) in
    let whole-is : whole-now ≡ whole (point ps s.a) (point ps s.b) =
    whole-back ∙ c.square_length-whole.ensures.value ∙ ap square_length c.from_to.ensures ∙ (λ t. length (a t) (b t)) in
    let gap-is : gap-now ≡ gap_of ps s c.in_ok-place.place = gap-back ∙ c.gap.ensures ∙ (λ t. gap (a t) (b t) (p t)) in
    record {
      nearest = c.in_ok-place.ensures;
      within = subst (λ (z : ℤ). IsWithin h z (gap_of ps s c.in_ok-place.place) units) whole-is
          (subst (λ (z : ℤ). IsWithin h whole-now z units) gap-is c.in_ok-units.ensures);
    }
