-- Where the new point lies in a closed row of its cavity, each place of the cavity is joined to that row.
use Rattle.geo_laws.proofs.General.{near_point, closed_of}
use Rattle.geo_laws.proofs.Places.{number}
use Rattle.std.proofs.Common.{◌≡◌, ◌⊎◌, inl, inr, ℤ, pos, neg_ℤ, ◌<ℤ◌, ◌≤ℤ◌, List, length, refl, ap, sym, subst, ◌∙◌, arith, ℕ}
use Rattle.std.specs.Prelude.{Contains}
use Rattle.std.proofs.lemmas.Int.{ints}
use Rattle.sign_predicates.specs.Point.{Point, RationalPoint, as_rational}
use Rattle.sign_predicates.specs.Orientation.{side, side_rational, IsPositive, StrictlyInside, InClosed, SpansPlane}
use Rattle.geo_laws.specs.Delaunay.{point, corners}
use Rattle.geo_laws.specs.Height.{IsLowestAmong}
use Rattle.geo_laws.specs.Laws.{KeepsSide}
use Rattle.geo_laws.specs.declared.tetrahedra.Tet.{Tet}
use Rattle.geo_laws.proofs.Determinants as ring
use Rattle.exact_algebra.proofs.Signs.{sign_of}
use Rattle.sign_predicates.proofs.Places.{A, B, C, D}
use Rattle.geo_laws.proofs.Heights.{all_fours, in_all_fours}
use Rattle.geo_laws.proofs.Determinants.{spans}
use Rattle.geo_laws.proofs.Radical.{law_radical}
use Rattle.geo_laws.specs.OrientedFace.{Face, triangle, reversed, beside}
use Rattle.insert_laws.specs.LowestInsertion.{IsNew, IsLowestHullFace, HasAbove, LowestSees, RowOrGhost, row_place, ghost_place, IsInLowestCavity, row_in, ghost_in, ghost_row, AreLowestPlacesJoined, joined_self, joined_by, LowestInsideCavityLaw}
use Rattle.insert_laws.proofs.Identities as identity
use Rattle.insert_laws.proofs.Pencil.{IsBare}
use Rattle.geo_laws.proofs.Arrangement.{even_back}
use Rattle.insert_laws.proofs.FacePencil.{side_of}
use Rattle.insert_laws.proofs.LowestBridge
use Rattle.insert_laws.proofs.Climb.{climb}
use Rattle.insert_laws.proofs.Inside as inside

-- a generic point strictly inside s, near the new point
record IsTarget (ps : List Point) (ms : List ℕ) (p : ℕ) (s : Tet) (y : RationalPoint) : Type 0 where
  w : pos 0 <ℤ y.w
  strictly : StrictlyInside (corners ps s) y
  keeps : (f : Face) → LowestBridge.IsFaceOn (Contains ms) f → SpansPlane (triangle ps f) → KeepsSide (as_rational (point ps p)) y (triangle ps f)

target : (ps : List Point) (ms : List ℕ) (p : ℕ) (new : IsNew ps ms p) (s : Tet) → IsPositive (corners ps s) → InClosed (corners ps s) (as_rational (point ps p))
    → (y : RationalPoint) × IsTarget ps ms p s y
target ps ms p new s positive closed =
    let n = near_point ps ms (corners ps s) (as_rational (point ps p)) positive (omega (arith, ints)) closed in
    (n.near, record { w = n.w; strictly = n.strictly; keeps = λ f on spans. n.keeps f.a f.b f.c on.on_a on.on_b on.on_c spans })

not_below : (n : ℤ) → ¬ (pos 0 <ℤ n) → pos 0 ≤ℤ neg_ℤ n
not_below n h = go (sign_of n)
  where
    go : (pos 0 <ℤ n) ⊎ ((n ≡ pos 0) ⊎ (pos 0 <ℤ neg_ℤ n)) → pos 0 ≤ℤ neg_ℤ n
    go (inl k) = absurd (h k)
    go (inr (inl e)) = omega (arith, ints)
    go (inr (inr k)) = omega (arith, ints)

-- a row of the cavity is joined to s
rows_joined : (lifts : ℕ → ℤ) (ps : List Point) (ms : List ℕ) (p : ℕ) (new : IsNew ps ms p) (s : Tet) → IsLowestAmong ps ms lifts s → (y : RationalPoint) → IsTarget ps ms p s y → (t : Tet) → inside.IsCavityRow lifts ps ms p t → AreLowestPlacesJoined lifts ps ms p (row_place t) (row_place s)
rows_joined lifts ps ms p new s is_s y target t cavity =
    climb Tet (inside.rises_at lifts ps y) (inside.IsCavityRow lifts ps ms p) (λ t. AreLowestPlacesJoined lifts ps ms p (row_place t) (row_place s))
    (λ x z u hx hz hu a b. inside.rises_trans lifts ps y x z u (positive x hx) (positive z hz) (positive u hu) a b)
    (λ x h. inside.rises_never lifts ps y x h)
    step (length (all_fours ms)) (all_fours ms) (omega arith) t cavity
    (λ u g r. (let low = four u g in in_all_fours ms u (λ w. low.on (number u w) (w, refl))))
  where
    four : (t : Tet) → inside.IsCavityRow lifts ps ms p t → LowestBridge.IsLowFour lifts ps (Contains ms) t
    four t c = LowestBridge.low_of_lowest lifts ps ms (Contains ms) (LowestBridge.of_list ps ms new.within) t c.is_row

    positive : (t : Tet) → inside.IsCavityRow lifts ps ms p t → IsPositive (corners ps t)
    positive t c = (four t c).positive

    s_low : LowestBridge.IsLowFour lifts ps (Contains ms) s
    s_low = LowestBridge.low_of_lowest lifts ps ms (Contains ms) (LowestBridge.of_list ps ms new.within) s is_s

    same_as_s : (t : Tet) → inside.IsCavityRow lifts ps ms p t → StrictlyInside (corners ps t) y → t ≡ s
    same_as_s t c h = (law_radical.lowest ps ms lifts t s c.is_row is_s).1 (y, target.w, (h, target.strictly))

    Step : Tet → Type 0
    Step t = AreLowestPlacesJoined lifts ps ms p (row_place t) (row_place s) ⊎ ((r : Tet) × inside.IsCavityRow lifts ps ms p r × inside.rises_at lifts ps y t r × (AreLowestPlacesJoined lifts ps ms p (row_place r) (row_place s) → AreLowestPlacesJoined lifts ps ms p (row_place t) (row_place s)))

    onward : (t : Tet) → inside.IsCavityRow lifts ps ms p t → (b : inside.IsBeyondFace ps t y)
        → (LowestBridge.IsFaceOn (Contains ms) b.face × IsBare (side_of ps b.face) (Contains ms)) ⊎ inside.IsNext lifts ps ms p y t
        → AreLowestPlacesJoined lifts ps ms p (row_place t) (row_place s) ⊎ ((r : Tet) × inside.IsCavityRow lifts ps ms p r × inside.rises_at lifts ps y t r × (AreLowestPlacesJoined lifts ps ms p (row_place r) (row_place s) → AreLowestPlacesJoined lifts ps ms p (row_place t) (row_place s)))
    onward t c b (inl h) = absurd (inside.not_beyond (corners ps s) (triangle ps b.face) y s_low.positive (closed_of (corners ps s) y target.strictly)
        (h.1 s.a (s_low.on s.a (A, refl))) (h.1 s.b (s_low.on s.b (B, refl))) (h.1 s.c (s_low.on s.c (C, refl))) (h.1 s.d (s_low.on s.d (D, refl))) b.beyond)
    onward t c b (inr n) = inr (n.row, n.cavity, n.rises, λ rest. joined_by (row_place t) (row_place n.row) (row_place s) n.touches (row_in n.row n.cavity.is_row n.cavity.not_above) rest)

    -- p is not strictly behind the face
    at_least : (t : Tet) → inside.IsCavityRow lifts ps ms p t → (b : inside.IsBeyondFace ps t y) → pos 0 ≤ℤ side_of ps b.face p
    at_least t c b = subst (λ n. pos 0 ≤ℤ n) turned_back (not_below (side_of ps (reversed b.face) p) (λ k. behind (keep.above (subst (λ n. pos 0 <ℤ n) (sym (ring.side_rational-as_rational (triangle ps (reversed b.face)) (point ps p))) k))))
      where
        low : LowestBridge.IsLowFour lifts ps (Contains ms) (beside (reversed b.face) b.apex)
        low = LowestBridge.low_even lifts ps (Contains ms) t (beside (reversed b.face) b.apex) (even_back ps (beside (reversed b.face) b.apex) t b.even) (four t c)

        keep : KeepsSide (as_rational (point ps p)) y (triangle ps (reversed b.face))
        keep = target.keeps (reversed b.face) (LowestBridge.face_on lifts ps (Contains ms) (reversed b.face) b.apex low) (spans (corners ps (beside (reversed b.face) b.apex)) low.positive D)

        opposite : (m n : ℤ) → m ≡ neg_ℤ n → pos 0 <ℤ m → pos 0 <ℤ n → ⊥
        opposite m n e h k = omega (arith, ints)

        behind : pos 0 <ℤ side_rational (triangle ps (reversed b.face)) y → ⊥
        behind k = opposite _ _ (identity.side_rational-reverse (triangle ps b.face) y) k b.beyond

        turned_back : neg_ℤ (side_of ps (reversed b.face) p) ≡ side_of ps b.face p
        turned_back = ap neg_ℤ (identity.side-reverse (triangle ps b.face) (point ps p)) ∙ identity.neg-neg (side_of ps b.face p)

    step : (t : Tet) → inside.IsCavityRow lifts ps ms p t
        → AreLowestPlacesJoined lifts ps ms p (row_place t) (row_place s) ⊎ ((r : Tet) × inside.IsCavityRow lifts ps ms p r × inside.rises_at lifts ps y t r × (AreLowestPlacesJoined lifts ps ms p (row_place r) (row_place s) → AreLowestPlacesJoined lifts ps ms p (row_place t) (row_place s)))
    step t c = go (inside.inside_or_beyond ps t y
        (target.keeps (record { a = t.b; b = t.d; c = t.c }) (record { on_a = at_b; on_b = at_d; on_c = at_c }) (spans (corners ps t) low.positive A)).off
        (target.keeps (record { a = t.a; b = t.c; c = t.d }) (record { on_a = at_a; on_b = at_c; on_c = at_d }) (spans (corners ps t) low.positive B)).off
        (target.keeps (record { a = t.a; b = t.d; c = t.b }) (record { on_a = at_a; on_b = at_d; on_c = at_b }) (spans (corners ps t) low.positive C)).off
        (target.keeps (record { a = t.a; b = t.b; c = t.c }) (record { on_a = at_a; on_b = at_b; on_c = at_c }) (spans (corners ps t) low.positive D)).off)
      where
        low : LowestBridge.IsLowFour lifts ps (Contains ms) t
        low = four t c

        at_a : Contains ms t.a
        at_a = low.on t.a (A, refl)

        at_b : Contains ms t.b
        at_b = low.on t.b (B, refl)

        at_c : Contains ms t.c
        at_c = low.on t.c (C, refl)

        at_d : Contains ms t.d
        at_d = low.on t.d (D, refl)

        go : StrictlyInside (corners ps t) y ⊎ inside.IsBeyondFace ps t y
            → AreLowestPlacesJoined lifts ps ms p (row_place t) (row_place s) ⊎ ((r : Tet) × inside.IsCavityRow lifts ps ms p r × inside.rises_at lifts ps y t r × (AreLowestPlacesJoined lifts ps ms p (row_place r) (row_place s) → AreLowestPlacesJoined lifts ps ms p (row_place t) (row_place s)))
        go (inl h) = inl (subst (λ u. AreLowestPlacesJoined lifts ps ms p (row_place u) (row_place s)) (sym (same_as_s t c h)) (joined_self (row_place s)))
        go (inr b) = onward t c b (inside.next lifts ps ms p new y t c b (at_least t c b))

-- p lies in a closed row, and so beyond no hull face
pub not_beyond_hull : (lifts : ℕ → ℤ) (ps : List Point) (ms : List ℕ) (p : ℕ) (new : IsNew ps ms p) (s : Tet) → IsLowestAmong ps ms lifts s → InClosed (corners ps s) (as_rational (point ps p)) → (f : Face) → IsLowestHullFace lifts ps ms f → ¬ (pos 0 <ℤ side (triangle ps f) (point ps p))
not_beyond_hull lifts ps ms p new s is_s closed f h k =
    inside.not_beyond (corners ps s) (triangle ps f) (as_rational (point ps p)) is_s.is_positive closed (h.none_beyond s.a (low.on s.a (A, refl))) (h.none_beyond s.b (low.on s.b (B, refl)))
    (h.none_beyond s.c (low.on s.c (C, refl))) (h.none_beyond s.d (low.on s.d (D, refl))) (subst (λ n. pos 0 <ℤ n) (sym (ring.side_rational-as_rational (triangle ps f) (point ps p))) k)
  where
    low : LowestBridge.IsLowFour lifts ps (Contains ms) s
    low = LowestBridge.low_of_lowest lifts ps ms (Contains ms) (LowestBridge.of_list ps ms new.within) s is_s

-- from each tetrahedron of the cavity a walk that rises at the near point ends in s
pub law_inside_cavity : LowestInsideCavityLaw
law_inside_cavity lifts ps ms p new s is_s closed in_s = go
  where
    near : (y : RationalPoint) × IsTarget ps ms p s y
    near = target ps ms p new s is_s.is_positive closed

    joined : (t : Tet) → IsLowestAmong ps ms lifts t → ¬ HasAbove lifts ps t p → AreLowestPlacesJoined lifts ps ms p (row_place t) (row_place s)
    joined t d n = rows_joined lifts ps ms p new s is_s near.0 near.1 t (record { is_row = d; not_above = n })

    go : (a : RowOrGhost) → IsInLowestCavity lifts ps ms p a → AreLowestPlacesJoined lifts ps ms p a (row_place s)
    go (row_place t) (row_in u d n) = joined t d n
    go (ghost_place f) (ghost_in g h sees) = by sees
      where
        by : LowestSees lifts ps p f h.behind → AreLowestPlacesJoined lifts ps ms p (ghost_place f) (row_place s)
        by (inl k) = absurd (not_beyond_hull lifts ps ms p new s is_s closed f h k)
        by (inr k) = joined_by (ghost_place f) (row_place h.behind) (row_place s) (ghost_row f h.behind h.is_face) (row_in h.behind h.is_row k.1) (joined h.behind h.is_row k.1)
