-- Where the new point lies in a closed row of its cavity, each place of the cavity is joined to that row: a walk to a generic point near the new one.
use Rattle.exact_algebra.proofs.Signs.{nonneg_of_pos}
use Rattle.geo_laws.proofs.Arrangement.{even_volume, even_height}
use Rattle.geo_laws.proofs.Heights.{order-trans}
use Rattle.std.proofs.Common.{◌≡◌, ◌≢◌, ◌⊎◌, inl, inr, ℕ, ℤ, pos, neg_ℤ, ◌+ℤ◌, ◌-ℤ◌, ◌*ℤ◌, ◌<ℤ◌, ◌≤ℤ◌, List, map, length, ap, sym, subst, ◌∙◌, arith}
use Rattle.std.specs.Prelude.{Contains, flat_map}
use Rattle.std.proofs.lemmas.Int.{ints}
use Rattle.sign_predicates.specs.Point.{Point, RationalPoint}
use Rattle.sign_predicates.specs.declared.tetrahedron.Corners.{Corners}
use Rattle.sign_predicates.specs.Orientation.{Triangle, volume, side, side_rational, opposite_a, opposite_b, opposite_c, opposite_d, IsPositive, StrictlyInside, InClosed}
use Rattle.geo_laws.specs.Delaunay.{point, corners}
use Rattle.geo_laws.specs.Height.{IsLowestAmong}
use Rattle.geo_laws.specs.Height.{height, height_at, places}
use Rattle.geo_laws.specs.declared.tetrahedra.Tet.{Tet}
use Rattle.geo_laws.proofs.Determinants as ring
use Rattle.exact_algebra.proofs.Signs.{sign_of, mul_pos}
use Rattle.geo_laws.proofs.Lexicographic.{IsLexAbove, lex_same, lex_scale, above_not_zero, zero_everywhere}
use Rattle.geo_laws.proofs.Members.{IsMember, in_flat_map, in_map, member_of}
use Rattle.geo_laws.proofs.Heights.{gap_at}
use Rattle.geo_laws.specs.OrientedFace.{Face, triangle, reversed, beside, IsOther}
use Rattle.insert_laws.specs.LowestInsertion.{IsNew, IsFaceOf, HasAbove, row_place, Touches, row_row}
use Rattle.insert_laws.proofs.Identities as identity
use Rattle.geo_laws.proofs.Lexicographic.{IsLexBelow, not_both, sum_first}
use Rattle.insert_laws.proofs.Pencil.{IsBare, IsFirst, first_of, neighbor, above_not_zero as positive_not_zero, apart_sides}
use Rattle.geo_laws.specs.Arrangement.{swap_both}
use Rattle.geo_laws.proofs.Arrangement.{IsEven, even_self, even_trans, even_back, even-swap, even-cross, cross}
use Rattle.insert_laws.proofs.FacePencil.{side_of, gap_of, face_pencil}
use Rattle.insert_laws.proofs.LowestBridge
use Rattle.insert_laws.proofs.LowestInsert as insert
use lib.IntN.{*ℤ-zero, zero-*ℤ}

-- ---- all faces on the numbers

pub all_faces : List ℕ → List Face
all_faces ms = flat_map (λ a. flat_map (λ b. map (λ c. record { a = a; b = b; c = c }) ms) ms) ms

pub in_all_faces : (ms : List ℕ) (f : Face) → LowestBridge.IsFaceOn (Contains ms) f → IsMember f (all_faces ms)
unfolding all_faces
in_all_faces ms f on =
    in_flat_map (λ a. flat_map (λ b. map (λ c. record { a = a; b = b; c = c }) ms) ms) f.a f ms (member_of ms f.a on.on_a)
    (in_flat_map (λ b. map (λ c. record { a = f.a; b = b; c = c }) ms) f.b f ms (member_of ms f.b on.on_b)
    (in_map (λ c. record { a = f.a; b = f.b; c = c }) f.c ms (member_of ms f.c on.on_c)))

-- ---- a point of a row is not beyond a plane that no corner is beyond

product_at_most : (w s : ℤ) → pos 0 ≤ℤ w → ¬ (pos 0 <ℤ s) → (w *ℤ s) ≤ℤ pos 0
product_at_most w s hw hs = go (sign_of w) (sign_of s)
  where
    zero : (n : ℤ) → n ≡ pos 0 → n ≤ℤ pos 0
    zero n e = omega (arith, ints)

    below : (n m : ℤ) → neg_ℤ n ≡ m → pos 0 <ℤ m → n ≤ℤ pos 0
    below n m e h = omega (arith, ints)

    go : (pos 0 <ℤ w) ⊎ ((w ≡ pos 0) ⊎ (pos 0 <ℤ neg_ℤ w)) → (pos 0 <ℤ s) ⊎ ((s ≡ pos 0) ⊎ (pos 0 <ℤ neg_ℤ s)) → (w *ℤ s) ≤ℤ pos 0
    go _ (inl h) = absurd (hs h)
    go _ (inr (inl e)) = zero (w *ℤ s) (ap (λ n. w *ℤ n) e ∙ *ℤ-zero w)
    go (inl h) (inr (inr k)) = below (w *ℤ s) (w *ℤ neg_ℤ s) (identity.neg-times_right w s) (mul_pos w (neg_ℤ s) h k)
    go (inr (inl e)) (inr (inr k)) = zero (w *ℤ s) (ap (λ n. n *ℤ s) e ∙ zero-*ℤ s)
    go (inr (inr h)) (inr (inr k)) = absurd (omega (arith, ints))

pub not_beyond : (c : Corners) (f : Triangle) (x : RationalPoint) → IsPositive c → InClosed c x → ¬ (pos 0 <ℤ side f c.a) → ¬ (pos 0 <ℤ side f c.b) → ¬ (pos 0 <ℤ side f c.c) → ¬ (pos 0 <ℤ side f c.d)
    → ¬ (pos 0 <ℤ side_rational f x)
not_beyond c f x p h na nb nc nd above =
    clash (side_rational (opposite_a c) x *ℤ side f c.a) (side_rational (opposite_b c) x *ℤ side f c.b) (side_rational (opposite_c c) x *ℤ side f c.c) (side_rational (opposite_d c) x *ℤ side f c.d) (volume c *ℤ side_rational f x)
    (identity.sides-combine c f x) (mul_pos (volume c) (side_rational f x) p above)
    (product_at_most _ _ h.0 na) (product_at_most _ _ h.1.0 nb) (product_at_most _ _ h.1.1.0 nc) (product_at_most _ _ h.1.1.1.0 nd)
  where
    clash : (a b c d v : ℤ) → a +ℤ (b +ℤ (c +ℤ d)) ≡ v → pos 0 <ℤ v → a ≤ℤ pos 0 → b ≤ℤ pos 0 → c ≤ℤ pos 0 → d ≤ℤ pos 0 → ⊥
    clash a b c d v e h ha hb hc hd = omega (arith, ints)

-- ---- a row holds a point strictly, or the point is beyond one of its faces

-- y is beyond the face, and the row of a is behind it
pub record IsBeyondFace (qs : List Point) (t : Tet) (y : RationalPoint) : Type 0 where
  pub face : Face
  pub apex : ℕ
  pub even : IsEven qs (beside (reversed face) apex) t
  pub beyond : pos 0 <ℤ side_rational (triangle qs face) y

-- inward face g with the apex a
pub beyond_of : (qs : List Point) (t : Tet) (y : RationalPoint) (g : Face) (a : ℕ) → IsEven qs (beside g a) t → pos 0 <ℤ neg_ℤ (side_rational (triangle qs g) y) → IsBeyondFace qs t y
beyond_of qs t y g a even h = record { face = reversed g; apex = a; even = even; beyond = subst (λ n. pos 0 <ℤ n) (sym (identity.side_rational-reverse (triangle qs g) y)) h }

pub inside_or_beyond : (qs : List Point) (t : Tet) (y : RationalPoint)
    → side_rational (opposite_a (corners qs t)) y ≢ pos 0 → side_rational (opposite_b (corners qs t)) y ≢ pos 0 → side_rational (opposite_c (corners qs t)) y ≢ pos 0 → side_rational (opposite_d (corners qs t)) y ≢ pos 0
    → StrictlyInside (corners qs t) y ⊎ IsBeyondFace qs t y
inside_or_beyond qs t y na nb nc nd = go (sign_of (side_rational (opposite_a c) y)) (sign_of (side_rational (opposite_b c) y)) (sign_of (side_rational (opposite_c c) y)) (sign_of (side_rational (opposite_d c) y))
  where
    c : Corners
    c = corners qs t

    Sign : ℤ → Type 0
    Sign n = (pos 0 <ℤ n) ⊎ ((n ≡ pos 0) ⊎ (pos 0 <ℤ neg_ℤ n))

    go : (pos 0 <ℤ side_rational (opposite_a (corners qs t)) y) ⊎ ((side_rational (opposite_a (corners qs t)) y ≡ pos 0) ⊎ (pos 0 <ℤ neg_ℤ (side_rational (opposite_a (corners qs t)) y)))
        → (pos 0 <ℤ side_rational (opposite_b (corners qs t)) y) ⊎ ((side_rational (opposite_b (corners qs t)) y ≡ pos 0) ⊎ (pos 0 <ℤ neg_ℤ (side_rational (opposite_b (corners qs t)) y)))
        → (pos 0 <ℤ side_rational (opposite_c (corners qs t)) y) ⊎ ((side_rational (opposite_c (corners qs t)) y ≡ pos 0) ⊎ (pos 0 <ℤ neg_ℤ (side_rational (opposite_c (corners qs t)) y)))
        → (pos 0 <ℤ side_rational (opposite_d (corners qs t)) y) ⊎ ((side_rational (opposite_d (corners qs t)) y ≡ pos 0) ⊎ (pos 0 <ℤ neg_ℤ (side_rational (opposite_d (corners qs t)) y)))
        → StrictlyInside (corners qs t) y ⊎ IsBeyondFace qs t y
    go (inr (inl e)) _ _ _ = absurd (na e)
    go (inr (inr h)) _ _ _ = inr (beyond_of qs t y (record { a = t.d; b = t.c; c = t.b }) t.a
        (even_back qs t (swap_both (cross t)) (even_trans qs t (cross t) (swap_both (cross t)) (even-cross qs t) (even-swap qs (cross t))))
        (subst (λ n. pos 0 <ℤ neg_ℤ n) (sym (ring.side_rational-turned (opposite_a (corners qs t)) y)) h))
    go (inl _) (inr (inl e)) _ _ = absurd (nb e)
    go (inl _) (inr (inr h)) _ _ = inr (beyond_of qs t y (record { a = t.c; b = t.d; c = t.a }) t.b (even_back qs t (cross t) (even-cross qs t))
        (subst (λ n. pos 0 <ℤ neg_ℤ n) (sym (ring.side_rational-turned (opposite_b (corners qs t)) y)) h))
    go (inl _) (inl _) (inr (inl e)) _ = absurd (nc e)
    go (inl _) (inl _) (inr (inr h)) _ = inr (beyond_of qs t y (record { a = t.b; b = t.a; c = t.d }) t.c (even_back qs t (swap_both t) (even-swap qs t))
        (subst (λ n. pos 0 <ℤ neg_ℤ n) (sym (ring.side_rational-turned (ring.turned (opposite_c (corners qs t))) y ∙ ring.side_rational-turned (opposite_c (corners qs t)) y)) h))
    go (inl _) (inl _) (inl _) (inr (inl e)) = absurd (nd e)
    go (inl _) (inl _) (inl _) (inr (inr h)) = inr (beyond_of qs t y (record { a = t.a; b = t.b; c = t.c }) t.d (even_self qs t) h)
    go (inl a) (inl b) (inl c) (inl d) = inl (a, (b, (c, (d, tt))))

-- ---- rows in the order of their heights at a point

-- the height at y rises from s to t
abbrev pub rises_at : (ℕ → ℤ) → List Point → RationalPoint → Tet → Tet → Type 0
rises_at lifts qs y s t = IsLexAbove (gap_at qs lifts y s t) (places (length qs))

-- the order is transitive
pub rises_trans : (lifts : ℕ → ℤ) (qs : List Point) (y : RationalPoint) (s t u : Tet) → IsPositive (corners qs s) → IsPositive (corners qs t) → IsPositive (corners qs u) → rises_at lifts qs y s t → rises_at lifts qs y t u → rises_at lifts qs y s u
rises_trans lifts qs y s t u hs ht hu st tu =
    sum_first (volume (corners qs t)) (volume (corners qs u)) (volume (corners qs s)) (gap_at qs lifts y s u) (gap_at qs lifts y s t) (gap_at qs lifts y t u) (places (length qs)) ht hu (nonneg_of_pos _ hs)
    (λ k. sym (order-trans (volume (corners qs s)) (volume (corners qs t)) (volume (corners qs u)) (height_at qs lifts s y k) (height_at qs lifts t y k) (height_at qs lifts u y k)))
    st (inl tu)

-- and strict
pub rises_never : (lifts : ℕ → ℤ) (qs : List Point) (y : RationalPoint) (s : Tet) → rises_at lifts qs y s s → ⊥
rises_never lifts qs y s h = above_not_zero (gap_at qs lifts y s s) (places (length qs)) h (zero_everywhere (gap_at qs lifts y s s) (places (length qs)) (λ k. zero (volume (corners qs s) *ℤ height_at qs lifts s y k)))
  where
    zero : (n : ℤ) → n -ℤ n ≡ pos 0
    zero n = omega (arith, ints)

-- across a face that y is beyond the height at y rises
pub rises_across : (lifts : ℕ → ℤ) (qs : List Point) (y : RationalPoint) (f : Face) (a o : ℕ) (s t : Tet) → IsEven qs (beside (reversed f) a) s → IsEven qs (beside f o) t → pos 0 <ℤ side_rational (triangle qs f) y
    → IsLexAbove (gap_of lifts qs (reversed f) a o) (places (length qs)) → rises_at lifts qs y s t
rises_across lifts qs y f a o s t es et beyond above =
    lex_same (λ k. side_rational (triangle qs f) y *ℤ gap_of lifts qs (reversed f) a o k) (gap_at qs lifts y s t) (places (length qs)) same (lex_scale (side_rational (triangle qs f) y) (gap_of lifts qs (reversed f) a o) (places (length qs)) beyond above)
  where
    same : (k : ℕ) → side_rational (triangle qs f) y *ℤ gap_of lifts qs (reversed f) a o k ≡ gap_at qs lifts y s t k
    same k =
        sym (identity.height-across (triangle qs f) (point qs a) (point qs o) y (height lifts f.a k) (height lifts f.b k) (height lifts f.c k) (height lifts a k) (height lifts o k))
        ∙ (λ j. sym (even_volume qs (beside (reversed f) a) s es) j *ℤ even_height qs (beside f o) t et lifts y k j
        -ℤ sym (even_volume qs (beside f o) t et) j *ℤ even_height qs (beside (reversed f) a) s es lifts y k j)

-- ---- the walk

pub face_of : (lifts : ℕ → ℤ) (ps : List Point) (S : ℕ → Type 0) (f : Face) (o : ℕ) (t : Tet) → LowestBridge.IsLowOn lifts ps S f o → IsEven ps (beside f o) t → IsFaceOf ps f t
face_of lifts ps S f o t low even = record { opposite = o; same_corners = LowestBridge.same_of_even ps (beside f o) t even; over = low.over }

-- a row that doesn't have p above
pub record IsCavityRow (lifts : ℕ → ℤ) (ps : List Point) (ms : List ℕ) (p : ℕ) (t : Tet) : Type 0 where
  pub is_row : IsLowestAmong ps ms lifts t
  pub not_above : ¬ HasAbove lifts ps t p

-- the next row, across a face that y is beyond and that p is not strictly behind
pub record IsNext (lifts : ℕ → ℤ) (ps : List Point) (ms : List ℕ) (p : ℕ) (y : RationalPoint) (t : Tet) : Type 0 where
  pub row : Tet
  pub cavity : IsCavityRow lifts ps ms p row
  pub rises : rises_at lifts ps y t row
  pub touches : Touches ps (row_place t) (row_place row)

-- the tetrahedron across such a face is in the cavity, and higher at y
pub next : (lifts : ℕ → ℤ) (ps : List Point) (ms : List ℕ) (p : ℕ) (new : IsNew ps ms p) (y : RationalPoint) (t : Tet) → IsCavityRow lifts ps ms p t → (b : IsBeyondFace ps t y) → pos 0 ≤ℤ side_of ps b.face p
    → (LowestBridge.IsFaceOn (Contains ms) b.face × IsBare (side_of ps b.face) (Contains ms)) ⊎ IsNext lifts ps ms p y t
next lifts ps ms p new y t cavity b beyond = go (first_of (face_pencil lifts qs f) (Contains ms) (LowestBridge.list_set ps ms new.within))
  where
    qs : List Point
    qs = ps

    f : Face
    f = b.face

    low : LowestBridge.IsLowFour lifts ps (Contains ms) (beside (reversed b.face) b.apex)
    low = LowestBridge.low_even lifts ps (Contains ms) t (beside (reversed b.face) b.apex) (even_back ps (beside (reversed b.face) b.apex) t b.even)
        (LowestBridge.low_of_lowest lifts ps ms (Contains ms) (LowestBridge.of_list ps ms new.within) t cavity.is_row)

    on_back : LowestBridge.IsFaceOn (Contains ms) (reversed b.face)
    on_back = LowestBridge.face_on lifts ps (Contains ms) (reversed b.face) b.apex low

    low_back : LowestBridge.IsLowOn lifts ps (Contains ms) (reversed b.face) b.apex
    low_back = LowestBridge.low_on_face lifts ps (Contains ms) (reversed b.face) b.apex low

    on : LowestBridge.IsFaceOn (Contains ms) b.face
    on = LowestBridge.reversed_on (Contains ms) (reversed b.face) on_back

    under : LowestBridge.IsLowUnderOn lifts ps (Contains ms) b.face b.apex
    under = LowestBridge.under_of lifts ps (Contains ms) b.face b.apex low_back

    above : IsLexAbove (gap_of lifts ps b.face b.apex p) (places (length ps))
    above = split (insert.decided lifts ps ms p new (reversed b.face) b.apex on_back low_back)
      where
        split : IsLexAbove (gap_of lifts ps (reversed b.face) b.apex p) (places (length ps)) ⊎ IsLexBelow (gap_of lifts ps (reversed b.face) b.apex p) (places (length ps))
            → IsLexAbove (gap_of lifts ps b.face b.apex p) (places (length ps))
        split (inl k) = absurd (cavity.not_above ((insert.face_above lifts ps ms p new (reversed b.face) b.apex t on_back low_back b.even).1 k))
        split (inr k) = lex_same (λ k. neg_ℤ (gap_of lifts ps (reversed b.face) b.apex p k)) (gap_of lifts ps b.face b.apex p) (places (length ps))
            (λ k. sym (LowestBridge.gap_back lifts ps b.face b.apex p k)) k

    go : IsBare (side_of ps b.face) (Contains ms) ⊎ ((o : ℕ) × IsFirst (side_of ps b.face) (gap_of lifts ps b.face) (places (length ps)) (Contains ms) o)
        → (LowestBridge.IsFaceOn (Contains ms) b.face × IsBare (side_of ps b.face) (Contains ms)) ⊎ IsNext lifts ps ms p y t
    go (inl bare) = inl (on, bare)
    go (inr (o, first)) = inr (record {
      row = r.row;
      cavity = record { is_row = r.is_row; not_above = λ h. not_both (gap_of lifts ps b.face o p) (places (length ps)) ((insert.face_above lifts ps ms p new b.face o r.row on low_o r.even).0 h) below };
      rises = rises_across lifts ps y b.face b.apex o t r.row b.even r.even b.beyond
          (low_back.others o low_o.on (record { not_a = other.not_a; not_b = other.not_c; not_c = other.not_b }) apart);
      touches = row_row b.face t r.row (face_of lifts ps (Contains ms) (reversed b.face) b.apex t low_back b.even) r.is_face;
    })
      where
        low_o : LowestBridge.IsLowOn lifts ps (Contains ms) b.face o
        low_o = neighbor (face_pencil lifts ps b.face) b.apex o under first

        r : LowestBridge.HasRowOn lifts ps ms b.face o
        r = LowestBridge.row_of lifts ps ms (Contains ms) (LowestBridge.of_list ps ms new.within) b.face o on low_o

        other : IsOther b.face o
        other = (face_pencil lifts ps b.face).other o (positive_not_zero (side_of ps b.face o) low_o.over)

        apart : o ≢ b.apex
        apart = apart_sides (side_of ps b.face) o b.apex low_o.over under.under

        below : IsLexBelow (gap_of lifts ps b.face o p) (places (length ps))
        below = sum_first (neg_ℤ (side_of ps b.face b.apex)) (side_of ps b.face o) (side_of ps b.face p)
            (λ k. neg_ℤ (gap_of lifts ps b.face o p k)) (gap_of lifts ps b.face b.apex p) (λ k. neg_ℤ (gap_of lifts ps b.face b.apex o k)) (places (length ps))
            under.under low_o.over beyond
            (λ k. identity.solve-walk (side_of ps b.face b.apex) (gap_of lifts ps b.face o p k) (side_of ps b.face o) (gap_of lifts ps b.face b.apex p k)
            (side_of ps b.face p) (gap_of lifts ps b.face b.apex o k) ((face_pencil lifts ps b.face).relation b.apex o p k))
            above (inl (under.others o low_o.on other apart))
