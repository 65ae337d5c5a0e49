-- What is found when all sides were noted: which facets are one, and which sides are inner.
use Rattle.std.proofs.Common.{◌≡◌, ◌⊎◌, inl, inr, ℕ, ◌<◌, true, List, [], length, get_or, refl, ap, sym, ◌∙◌, subst, arith, eqb-true, eq-eqb}
use Rattle.std.specs.Prelude.{◌==◌, ◌&&◌, IsTrue, Contains}
use Rattle.sign_predicates.specs.Point.{Point}
use Rattle.geo_laws.specs.Complex.{Complex, HasCornersOf}
use Rattle.geo_laws.specs.Delaunay.{HasDistinctPoints}
use Rattle.geo_laws.specs.Segment.{piece, sides, same_ends}
use Rattle.geo_laws.specs.declared.complex.Piece.{Piece}
use Rattle.geo_laws.proofs.Members.{IsMember, Found, found_of, member_of, contains_of, both_true, some_true, any_true}
use Rattle.merged_facets.specs.Merged.{AreJoined, AreChained, alone, onward, IsInner, IsLeastOfGroup, IsMerging, only_polygon, facet_at}
use Rattle.merged_facets.proofs.FacetGroups.{law_joined_back}
use Rattle.incidence.proofs.Found.{same_of}
use Rattle.merged_facets.specs.Labels.{AreLabels, IsIdentity}
use Rattle.merged_facets.specs.FacetSides.{facet_side, ends_of, ends_at, AreFacetSidesOf}
use Rattle.merged_facets.specs.Merging.{Groups, group_of, is_side_of, is_inner, inner_side, IsSoundForest, IsNoted, facet_side_at, AreInnerFound, HasFound}
use Rattle.merged_facets.specs.declared.sides.FacetSide.{FacetSide}
use Rattle.merged_facets.specs.declared.sides.Ends.{Ends}
use Rattle.merged_facets.specs.declared.merging.InnerSide.{InnerSide}
use Rattle.merged_facets.proofs.Joins.{joined_alike, not_alone, side_among}
use Rattle.merged_facets.proofs.Notes.{ends_same}
use Rattle.merged_facets.proofs.Once.{counted}

-- at first each facet is alone, and no side is inner
pub found_first : (ps : List Point) (c : Complex) (list : List FacetSide) (down : List ℕ) → IsIdentity down (length c.facets) → HasFound ps c list 0 down []
found_first ps c list down h = (
  (λ i. i),
  record {
    sound = record {
      forest = λ i l. let e = h.each i (omega (arith, h.long)) in omega arith;
      long = h.long;
      labels = record { least = λ i. omega arith; again = λ i. refl; kept = λ i l. h.each i (omega (arith, h.long)); own = λ i l e. refl };
      chained = λ f. alone f;
      inner_is = λ k s m e. none k (member_of [] k m);
    };
    noted = λ k l. absurd (omega arith);
  },
)
  where
    none : {P : Type 0} (k : InnerSide) → IsMember k [] → P
    none k m = elim m [ ]

-- ---- joined facets are noted

before_after : (a b : ℕ) → (a < b) ⊎ ((a ≡ b) ⊎ (b < a))
before_after a b = grind arith

-- the facets have one label, and the side is noted for both
pub record Noted (inner : List InnerSide) (label : ℕ → ℕ) (x y : FacetSide) : Type 0 where
  pub same : label x.facet ≡ label y.facet
  pub first : Contains inner (inner_side x)
  pub second : Contains inner (inner_side y)

noted_at : (ps : List Point) (c : Complex) (list : List FacetSide) (inner : List InnerSide) (label : ℕ → ℕ) (down : List ℕ) (x y : FacetSide) → HasDistinctPoints ps → HasCornersOf ps c
    → AreFacetSidesOf c list → AreInnerFound ps c list (length list) down inner label → Contains list x → Contains list y → ends_of x.side ≡ ends_of y.side → AreJoined ps c x.side x.facet y.facet
    → AreJoined ps c y.side y.facet x.facet → Noted inner label x y
noted_at ps c list inner label down x y distinct corners listed h mx my e j back = go (before_after fx.place fy.place)
  where
    fx : Found list x
    fx = found_of list x (member_of list x mx)

    fy : Found list y
    fy = found_of list y (member_of list y my)

    at_x : facet_side_at list (found_of list x (member_of list x mx)).place ≡ x
    at_x = fx.is (facet_side 0 (piece 0 0 0))

    at_y : facet_side_at list (found_of list y (member_of list y my)).place ≡ y
    at_y = fy.is (facet_side 0 (piece 0 0 0))

    ends : ends_at list (found_of list x (member_of list x mx)).place ≡ ends_at list (found_of list y (member_of list y my)).place
    ends = ap (λ (z : FacetSide). ends_of z.side) at_x ∙ e ∙ sym (ap (λ (z : FacetSide). ends_of z.side) at_y)

    pair : (a b : FacetSide) (i k : ℕ) → facet_side_at list i ≡ a → facet_side_at list k ≡ b → IsNoted ps c inner label (facet_side_at list i) (facet_side_at list k) → IsNoted ps c inner label a b
    pair a b i k ea eb n =
        subst (λ (z : FacetSide). IsNoted ps c inner label z b) ea (subst (λ (z : FacetSide). IsNoted ps c inner label (facet_side_at list i) z) eb n)

    go : (fx.place < fy.place) ⊎ ((fx.place ≡ fy.place) ⊎ (fy.place < fx.place)) → Noted inner label x y
    go (inl less) =
        let n = pair y x fy.place fx.place at_y at_x (h.noted fy.place fy.within fx.place less tt ends) back in
        record { same = sym n.0; first = n.2; second = n.1 }
    go (inr (inl at)) =
        let same : x ≡ y = sym at_x ∙ ap (facet_side_at list) at ∙ at_y in
        absurd (not_alone ps c x.side x.facet distinct (side_among ps c x corners (listed.each x mx))
        (subst (λ (z : FacetSide). AreJoined ps c x.side x.facet z.facet) (sym same) j))
    go (inr (inr less)) =
        let n = pair x y fx.place fy.place at_x at_y (h.noted fx.place fx.within fy.place less tt (sym ends)) j in
        record { same = n.0; first = n.1; second = n.2 }

-- the sides over which two facets are joined are in the list
pub noted_joined : (ps : List Point) (c : Complex) (list : List FacetSide) (inner : List InnerSide) (label : ℕ → ℕ) (down : List ℕ) (s : Piece) (f g : ℕ) → HasDistinctPoints ps → HasCornersOf ps c
    → AreFacetSidesOf c list → AreInnerFound ps c list (length list) down inner label → AreJoined ps c s f g
    → (x : FacetSide) × (y : FacetSide) × (x.facet ≡ f) × (y.facet ≡ g) × (ends_of x.side ≡ ends_of s) × Noted inner label x y
noted_joined ps c list inner label down s f g distinct corners listed h j =
    let r = counted (same_ends s) (sides (only_polygon (facet_at c f))) j.over.once_in_first in
    let q = counted (same_ends s) (sides (only_polygon (facet_at c g))) j.over.once_in_second in
    let er = ends_same s r.0 r.2 in
    let eq = ends_same s q.0 q.2 in (
      facet_side f r.0,
      facet_side g q.0,
      refl,
      refl,
      sym er,
      noted_at ps c list inner label down (facet_side f r.0) (facet_side g q.0) distinct corners listed h
          (listed.all f r.0 j.has_first (contains_of (sides (only_polygon (facet_at c f))) r.0 r.1))
          (listed.all g q.0 j.has_second (contains_of (sides (only_polygon (facet_at c g))) q.0 q.1))
          (sym er ∙ eq)
          (joined_alike ps c s r.0 f g (same_of s r.0 r.2) j)
          (law_joined_back ps c q.0 f g (joined_alike ps c s q.0 f g (same_of s q.0 q.2) j)),
    )

-- facets in a chain have one label
pub one_label : (ps : List Point) (c : Complex) (list : List FacetSide) (inner : List InnerSide) (label : ℕ → ℕ) (down : List ℕ) (f g : ℕ) → HasDistinctPoints ps → HasCornersOf ps c
    → AreFacetSidesOf c list → AreInnerFound ps c list (length list) down inner label → AreChained ps c f g → label f ≡ label g
one_label ps c list inner label down _ _ distinct corners listed h (alone f) = refl
one_label ps c list inner label down _ _ distinct corners listed h (onward f m g s j r) =
    let n = noted_joined ps c list inner label down s f m distinct corners listed h j in
    sym (ap label n.2) ∙ n.5.same ∙ ap label n.3 ∙ one_label ps c list inner label down m g distinct corners listed h r

-- ---- all together

side_test : (f : ℕ) (s : Piece) (k : InnerSide) → k.facet ≡ f → k.ends ≡ ends_of s → is_side_of f s k ≡ true
side_test f s k e d =
    (λ j. eq-eqb k.facet f e j && (eq-eqb k.ends.low (ends_of s).low (ap (λ (x : Ends). x.low) d) j && eq-eqb k.ends.high (ends_of s).high (ap (λ (x : Ends). x.high) d) j))

test_side : (f : ℕ) (s : Piece) (k : InnerSide) → is_side_of f s k ≡ true → (k.facet ≡ f) × (ends_of s ≡ k.ends)
test_side f s k h =
    let r = both_true (k.facet == f) (k.ends.low == (ends_of s).low && k.ends.high == (ends_of s).high) h in
    let e = both_true (k.ends.low == (ends_of s).low) (k.ends.high == (ends_of s).high) r.1 in
    (eqb-true k.facet f r.0, λ j. record { low = sym (eqb-true k.ends.low (ends_of s).low e.0) j; high = sym (eqb-true k.ends.high (ends_of s).high e.1) j })

pub merging_found : (ps : List Point) (c : Complex) (list : List FacetSide) (down : List ℕ) (m : Groups) → HasDistinctPoints ps → HasCornersOf ps c → AreFacetSidesOf c list
    → HasFound ps c list (length list) down m.inner → length m.least ≡ length down
    → ((label : ℕ → ℕ) → AreLabels down label → (i : ℕ) → i < length m.least → get_or m.least i 0 ≡ label i) → IsMerging ps c (group_of m) (is_inner m)
merging_found ps c list down m distinct corners listed found long settled = record { groups = groups; sides_of = sides_of }
  where
    label : ℕ → ℕ
    label = found.0

    sound : IsSoundForest ps c down m.inner found.0
    sound = found.1.sound

    at : (f : ℕ) → f < length c.facets → group_of m f ≡ found.0 f
    at f l = settled found.0 sound.labels f (omega (arith, sound.long))

    groups : (f : ℕ) → f < length c.facets → IsLeastOfGroup ps c f (group_of m f)
    groups f l = record {
      chained = subst (λ (n : ℕ). AreChained ps c f n) (sym (at f l)) (sound.chained f);
      below_all = λ g k.
          let e = at f l ∙ one_label ps c list m.inner found.0 down f g distinct corners listed found.1 k in
          let b = sound.labels.least g in
          omega arith;
    }

    sides_of : (f : ℕ) (s : Piece) → f < length c.facets → (IsTrue (is_inner m f s) → IsInner ps c f s) × (IsInner ps c f s → IsTrue (is_inner m f s))
    sides_of f s l = (
      λ t. let k = some_true (is_side_of f s) m.inner t in
          let e = test_side f s k.0 k.2 in
          subst (λ (i : ℕ). IsInner ps c i s) e.0 (sound.inner_is k.0 s (contains_of m.inner k.0 k.1) e.1),
      λ j. let n = noted_joined ps c list m.inner found.0 down s f j.0 distinct corners listed found.1 j.1 in
          any_true (is_side_of f s) m.inner (inner_side n.0) (member_of m.inner (inner_side n.0) n.5.first) (side_test f s (inner_side n.0) n.2 n.4),
    )
