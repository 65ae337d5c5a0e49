-- A side that two polygons have in common, one on either hand.
use Rattle.std.proofs.Common.{inl, ◌≡◌, ◌≢◌, ℕ, Bool, true, false, List, refl, ap, sym, subst, ◌∙◌, arith, eqb-true}
use Rattle.std.proofs.lemmas.Int.{ints}
use Rattle.std.specs.Prelude.{pos, ◌*ℤ◌, ◌<ℤ◌, ◌≤ℤ◌, ◌&&◌, ◌||◌, ◌%◌, ◌==◌}
use Rattle.std.specs.List.{AllByRecursion}
use Rattle.sign_predicates.specs.Point.{Point, RationalPoint}
use Rattle.sign_predicates.specs.Orientation.{Triangle, normal, side, side_rational}
use Rattle.geo_laws.specs.Delaunay.{point}
use Rattle.geo_laws.specs.Segment.{sides, same_ends}
use Rattle.geo_laws.specs.Facet.{Axis, is_round, is_on_piece}
use Rattle.geo_laws.specs.declared.complex.Piece.{Piece}
use Rattle.geo_laws.proofs.Members.{both_true}
use Rattle.facet_laws.specs.Legs.{IsClear, dropped}
use Rattle.facet_laws.specs.Parity.{xor}
use Rattle.facet_laws.proofs.Constant.{all_map}
use Rattle.facet_laws.proofs.FlatHull.{IsPlaced, round_hull}
use Rattle.facet_laws.proofs.Halves.{Has, between_three}
use Rattle.facet_laws.specs.Passing.{PassesThrough, PassesOrClear, LiesBeside, BesideLaw}
use Rattle.facet_laws.proofs.Passed.{law_passing}
use lib.IntN.{+ℤ_comm}

-- the side with its ends the other way round
turned_side : (x y : RationalPoint) (a b : Point) → PassesThrough x y a b → PassesThrough x y b a
turned_side x y a b h = record {
  g = h.g;
  a_on = h.b_on;
  b_on = h.a_on;
  x_side = h.x_side;
  y_side = h.y_side;
  ends = λ e. h.ends (sym e);
  at = h.at;
  weight = h.weight;
  leg = h.leg;
  part = record {
    total = h.part.total;
    to_x = h.part.to_y;
    to_y = h.part.to_x;
    some = h.part.some;
    x_weighs = h.part.y_weighs;
    y_weighs = h.part.x_weighs;
    x_is = +ℤ_comm (h.part.to_y *ℤ b.x) (h.part.to_x *ℤ a.x) ∙ h.part.x_is;
    y_is = +ℤ_comm (h.part.to_y *ℤ b.y) (h.part.to_x *ℤ a.y) ∙ h.part.y_is;
    z_is = +ℤ_comm (h.part.to_y *ℤ b.z) (h.part.to_x *ℤ a.z) ∙ h.part.z_is;
    w_is = +ℤ_comm (h.part.to_y *ℤ pos 1) (h.part.to_x *ℤ pos 1) ∙ h.part.w_is;
  };
  a_weighs = h.b_weighs;
  b_weighs = h.a_weighs;
}

pub either : {P : Type 0} (a b : Bool) → a || b ≡ true → (a ≡ true → P) → (b ≡ true → P) → P
either true b e f g = f refl
either false b e f g = g e

-- a side with the same ends is passed through too
with_ends : (ps : List Point) (x y : RationalPoint) (s r : Piece) → PassesThrough x y (point ps s.a) (point ps s.b) → same_ends s r ≡ true → PassesThrough x y (point ps r.a) (point ps r.b)
with_ends ps x y s r h e =
    either (s.a == r.a && s.b == r.b) (s.a == r.b && s.b == r.a) e
    (λ t. let b = both_true (s.a == r.a) (s.b == r.b) t in
    subst (λ i. PassesThrough x y (point ps i) (point ps r.b)) (eqb-true s.a r.a b.0) (subst (λ i. PassesThrough x y (point ps s.a) (point ps i)) (eqb-true s.b r.b b.1) h))
    (λ t. let b = both_true (s.a == r.b) (s.b == r.a) t in
    turned_side x y (point ps r.b) (point ps r.a)
    (subst (λ i. PassesThrough x y (point ps i) (point ps r.a)) (eqb-true s.a r.b b.0) (subst (λ i. PassesThrough x y (point ps s.a) (point ps i)) (eqb-true s.b r.a b.1) h)))

-- a polygon in a half space is round no point off it
pub not_beyond : (ps : List Point) (f g : Triangle) (axis : Axis) (polygon : List ℕ) (y : RationalPoint) → pos 0 <ℤ y.w → dropped axis (normal f) ≢ pos 0 → side_rational f y ≡ pos 0
    → LiesBeside ps f g polygon → AllByRecursion (λ r. is_on_piece ps r y ≡ false) (sides polygon) → side_rational g y <ℤ pos 0 → is_round ps axis polygon y ≡ false
not_beyond ps f g axis polygon y w steep fy beside off below = untrue (is_round ps axis polygon y) (λ e. clash (between_three ps f g y w (round_hull (Has ps g) ps f axis polygon y w steep fy placed off e)))
  where
    untrue : (b : Bool) → ¬ (b ≡ true) → b ≡ false
    untrue true n = absurd (n refl)
    untrue false n = refl

    clash : pos 0 ≤ℤ side_rational g y → ⊥
    clash h = omega (arith, ints)

    placed : AllByRecursion (IsPlaced (Has ps g) ps f) polygon
    placed = all_map (λ i. (side f (point ps i) ≡ pos 0) × (pos 0 ≤ℤ side g (point ps i))) (IsPlaced (Has ps g) ps f) polygon (λ i h. record { below = h.1; flat = h.0 }) beside

true_of : (a b : Bool) → b ≡ false → xor a b ≡ true → a ≡ true
true_of true b e f = refl
true_of false true e f = cc
true_of false false e f = cc

pub law_beside : BesideLaw
law_beside ps f axis polygon s steep x xw fx y yw fy h beside once clear off = (
  true_of (is_round ps axis polygon x) (is_round ps axis polygon y) outside
      (law_passing ps f axis polygon (same_ends s) steep
      (all_map (λ i. (side f (point ps i) ≡ pos 0) × (pos 0 ≤ℤ side h.g (point ps i))) (λ i. side f (point ps i) ≡ pos 0) polygon (λ i k. k.0) beside) x xw fx y yw fy
      (all_map (λ r. same_ends s r ≡ false → IsClear x y (point ps r.a) (point ps r.b)) (λ r. PassesOrClear x y (point ps r.a) (point ps r.b) (same_ends s r)) (sides polygon)
      (λ r c. each r (same_ends s r) refl c) clear)
      ∙ ap (λ n. n % 2 == 1) once),
  outside,
)
  where
    outside : is_round ps axis polygon y ≡ false
    outside = not_beyond ps f h.g axis polygon y yw steep fy beside off h.y_side

    each : (r : Piece) (b : Bool) → same_ends s r ≡ b → (same_ends s r ≡ false → IsClear x y (point ps r.a) (point ps r.b)) → PassesOrClear x y (point ps r.a) (point ps r.b) b
    each r true e c = inl (with_ends ps x y s r h e)
    each r false e c = c e
