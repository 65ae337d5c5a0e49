-- A side that two polygons have in common, one on either hand: a leg through it leads from inside of the one to inside of the other.
use Rattle.std.proofs.Common.{[], ◌≡◌, ℕ, true, false, List, ◌∙◌, arith}
use Rattle.std.proofs.lemmas.Int.{ints}
use Rattle.std.specs.Prelude.{ℤ, pos, neg_ℤ, ◌*ℤ◌, ◌<ℤ◌, ◌≤ℤ◌, not, ◌&&◌, ◌||◌, Contains}
use Rattle.std.specs.List.{list_all}
use Rattle.exact_algebra.proofs.Ring.{neg, ring, same}
use Rattle.sign_predicates.specs.Point.{Point, RationalPoint}
use Rattle.sign_predicates.specs.Orientation.{Triangle, side, side_rational, orient, orient_rational, det}
use Rattle.sign_predicates.proofs.Terms.{TriangleE, triangleE, pointE, rationalE, of_rational, of_triangle, of_point, sideE, side_rationalE}
use Rattle.geo_laws.specs.Delaunay.{point}
use Rattle.geo_laws.specs.Segment.{sides, same_ends}
use Rattle.geo_laws.specs.Facet.{Facet, Axis, areas, is_round, is_within, is_on_side, keeps}
use Rattle.geo_laws.proofs.Members.{member_of, any_true, or_true}
use Rattle.facet_laws.specs.Legs.{IsWeightedMean, IsClear}
use Rattle.facet_laws.proofs.Constant.{all_map}
use Rattle.facet_laws.specs.Passing.{PassesThrough, CommonSideLaw, InnerSideLaw}
use Rattle.facet_laws.proofs.Common.{law_beside}
use lib.IntN.{+ℤ_comm}

-- ---- the other half space, and the leg back

abbrev pub over : Triangle → Triangle
over g = record { a = g.a; b = g.c; c = g.b }

abbrev overE : TriangleE → TriangleE
overE g = record { a = g.a; b = g.c; c = g.b }

pub side-over : (g : Triangle) (p : Point) → side (over g) p ≡ neg_ℤ (side g p)
unfolding same det orient
side-over g p = ring (sideE (overE (triangleE 0)) (pointE 9)) (neg (sideE (triangleE 0) (pointE 9))) tt (of_triangle g (of_point p []))

pub side_rational-over : (g : Triangle) (x : RationalPoint) → side_rational (over g) x ≡ neg_ℤ (side_rational g x)
unfolding same det orient_rational
side_rational-over g x = ring (side_rationalE (overE (triangleE 0)) (rationalE 9)) (neg (side_rationalE (triangleE 0) (rationalE 9))) tt (of_triangle g (of_rational x []))

abbrev pub leg_back : (x y z : RationalPoint) → IsWeightedMean x y z → IsWeightedMean y x z
leg_back x y z l = record {
  total = l.total;
  to_x = l.to_y;
  to_y = l.to_x;
  some = l.some;
  x_weighs = l.y_weighs;
  y_weighs = l.x_weighs;
  x_is = +ℤ_comm (l.to_y *ℤ y.x) (l.to_x *ℤ x.x) ∙ l.x_is;
  y_is = +ℤ_comm (l.to_y *ℤ y.y) (l.to_x *ℤ x.y) ∙ l.y_is;
  z_is = +ℤ_comm (l.to_y *ℤ y.z) (l.to_x *ℤ x.z) ∙ l.z_is;
  w_is = +ℤ_comm (l.to_y *ℤ y.w) (l.to_x *ℤ x.w) ∙ l.w_is;
}

pub clear_back : (x y : RationalPoint) (a b : Point) → IsClear x y a b → IsClear y x a b
clear_back x y a b c z w l = c z w (leg_back y x z l)

pub zero_over : (m n : ℤ) → m ≡ neg_ℤ n → n ≡ pos 0 → m ≡ pos 0
zero_over m n e z = omega (arith, ints)

pub above_over : (m n : ℤ) → m ≡ neg_ℤ n → n <ℤ pos 0 → pos 0 <ℤ m
above_over m n e z = omega (arith, ints)

pub below_over : (m n : ℤ) → m ≡ neg_ℤ n → pos 0 <ℤ n → m <ℤ pos 0
below_over m n e z = omega (arith, ints)

pub least_over : (m n : ℤ) → m ≡ neg_ℤ n → n ≤ℤ pos 0 → pos 0 ≤ℤ m
least_over m n e z = omega (arith, ints)

back : (x y : RationalPoint) (a b : Point) → PassesThrough x y a b → PassesThrough y x a b
back x y a b h = record {
  g = over h.g;
  a_on = zero_over _ (side h.g a) (side-over h.g a) h.a_on;
  b_on = zero_over _ (side h.g b) (side-over h.g b) h.b_on;
  x_side = above_over _ (side_rational h.g y) (side_rational-over h.g y) h.y_side;
  y_side = below_over _ (side_rational h.g x) (side_rational-over h.g x) h.x_side;
  ends = h.ends;
  at = h.at;
  weight = h.weight;
  leg = leg_back x y h.at h.leg;
  part = h.part;
  a_weighs = h.a_weighs;
  b_weighs = h.b_weighs;
}

pub law_common_side : CommonSideLaw
unfolding back
law_common_side ps f axis p q s steep x xw fx y yw fy h on_p on_q only_p only_q =
    let one = law_beside ps f axis p s steep x xw fx y yw fy h on_p only_p.once only_p.clear only_p.y_off in
    let two = law_beside ps f axis q s steep y yw fy x xw fx (back x y (point ps s.a) (point ps s.b) h)
    (all_map (λ i. (side f (point ps i) ≡ pos 0) × (side h.g (point ps i) ≤ℤ pos 0)) (λ i. (side f (point ps i) ≡ pos 0) × (pos 0 ≤ℤ side (over h.g) (point ps i))) q
    (λ i k. (k.0, least_over _ (side h.g (point ps i)) (side-over h.g (point ps i)) k.1)) on_q)
    only_q.once
    (all_map (λ r. same_ends s r ≡ false → IsClear x y (point ps r.a) (point ps r.b)) (λ r. same_ends s r ≡ false → IsClear y x (point ps r.a) (point ps r.b)) (sides q)
    (λ r c e. clear_back x y (point ps r.a) (point ps r.b) (c e)) only_q.clear) only_q.x_off in
    (one.0, one.1, two.1, two.0)

-- ---- within a facet that has both

pub within : (ps : List Point) (facet : Facet) (axis : Axis) (p : List ℕ) (x : RationalPoint) → facet.holes ≡ [] → Contains (areas facet) p → is_round ps axis p x ≡ true → is_within ps axis facet x ≡ true
within ps facet axis p x none has round =
    (λ j. is_on_side ps facet x || (any_true (λ q. is_round ps axis q x) (areas facet) p (member_of (areas facet) p has) round j
    && list_all (keeps ps axis facet x) (none j)))
    ∙ or_true (is_on_side ps facet x)

pub law_inner_side : InnerSideLaw
law_inner_side ps facet f axis p q s steep none has_p has_q x xw fx y yw fy h on_p on_q only_p only_q =
    let r = law_common_side ps f axis p q s steep x xw fx y yw fy h on_p on_q only_p only_q in
    (within ps facet axis p x none has_p r.0, within ps facet axis q y none has_q r.3)
