-- Tetrahedra in the order of their heights at one point, where heights are compared by cross-multiplying with the volumes;
-- of those among some numbers that strictly hold a point, one is least.
use Rattle.std.proofs.Common.{◌≡◌, ◌⊎◌, inl, inr, ℕ, ℤ, pos, neg_ℤ, ◌+ℤ◌, ◌-ℤ◌, ◌*ℤ◌, ◌<ℤ◌, List, [], ◌∷◌, map, length, ap, sym, subst, arith}
use Rattle.std.specs.Prelude.{flat_map, Contains}
use Rattle.std.proofs.lemmas.Int.{ints}
use Rattle.exact_algebra.proofs.Ring.{var, ring, same, ◌⊕◌, ◌⊖◌, ◌⊗◌}
use Rattle.exact_algebra.proofs.Signs.{sign_of}
use Rattle.sign_predicates.specs.Point.{Point, RationalPoint}
use Rattle.sign_predicates.specs.Orientation.{volume, IsPositive, StrictlyInside, side_rational}
use Rattle.geo_laws.specs.Delaunay.{corners}
use Rattle.geo_laws.specs.Height.{height_at, places}
use Rattle.geo_laws.specs.declared.tetrahedra.Tet.{Tet}
use Rattle.sign_predicates.proofs.Places.{Place, A, B, C, D, opposite}
use Rattle.geo_laws.proofs.Places.{number, at_face, all_faces, each_or_not}
use Rattle.geo_laws.proofs.Members.{IsMember, here, there, in_flat_map, flat_map_cases, in_map, map_cases, contains_of, member_of}
use Rattle.geo_laws.proofs.Corners.{contains_or_not}
use Rattle.geo_laws.proofs.Lexicographic.{IsZeroAt, IsLexAbove, IsLexAtLeast, lex_sign_of, at_least_add, at_least_scale, at_least_same, at_least_unscale, lex_same}

-- the tetrahedron is positive, among the numbers, and strictly holds x
pub record Holds (ps : List Point) (ms : List ℕ) (x : RationalPoint) (t : Tet) : Type 0 where
  pub on : (u : Place) → Contains ms (number t u)
  pub positive : IsPositive (corners ps t)
  pub inside : StrictlyInside (corners ps t) x

-- the height of s at x is at most that of t
abbrev pub gap_at : List Point → (ℕ → ℤ) → RationalPoint → Tet → Tet → ℕ → ℤ
gap_at ps first x s t k = volume (corners ps s) *ℤ height_at ps first t x k -ℤ volume (corners ps t) *ℤ height_at ps first s x k

-- the height of s at x is at most that of t, from the first place on that tells them apart
pub record IsAtMost (ps : List Point) (first : ℕ → ℤ) (x : RationalPoint) (s t : Tet) : Type 0 where
  pub gap : IsLexAtLeast (gap_at ps first x s t) (places (length ps))

neg_of_difference : (p q : ℤ) → neg_ℤ (p -ℤ q) ≡ q -ℤ p
neg_of_difference p q = omega (arith, ints)

-- of two tetrahedra one is at most at the height of the other
at_most_total : (ps : List Point) (first : ℕ → ℤ) (x : RationalPoint) (s t : Tet) → IsAtMost ps first x s t ⊎ IsAtMost ps first x t s
at_most_total ps first x s t = go (lex_sign_of (gap_at ps first x s t) (places (length ps)))
  where
    go : IsLexAbove (gap_at ps first x s t) (places (length ps)) ⊎ (IsZeroAt (gap_at ps first x s t) (places (length ps)) ⊎ IsLexAbove (λ k. neg_ℤ (gap_at ps first x s t k)) (places (length ps)))
        → IsAtMost ps first x s t ⊎ IsAtMost ps first x t s
    go (inl a) = inl (record { gap = inl a })
    go (inr (inl z)) = inl (record { gap = inr z })
    go (inr (inr b)) = inr (record { gap = inl (lex_same _ (gap_at ps first x t s) (places (length ps)) (λ k. neg_of_difference (volume (corners ps s) *ℤ height_at ps first t x k) (volume (corners ps t) *ℤ height_at ps first s x k)) b) })

-- the gaps of s to t and of t to u make that of s to u
pub order-trans : (vs vt vu ns nt nu : ℤ) → vu *ℤ (vs *ℤ nt -ℤ vt *ℤ ns) +ℤ vs *ℤ (vt *ℤ nu -ℤ vu *ℤ nt) ≡ vt *ℤ (vs *ℤ nu -ℤ vu *ℤ ns)
unfolding same
order-trans vs vt vu ns nt nu =
    ring (var 2 ⊗ (var 0 ⊗ var 4 ⊖ var 1 ⊗ var 3) ⊕ var 0 ⊗ (var 1 ⊗ var 5 ⊖ var 2 ⊗ var 4)) (var 1 ⊗ (var 0 ⊗ var 5 ⊖ var 2 ⊗ var 3)) tt (vs ∷ vt ∷ vu ∷ ns ∷ nt ∷ nu ∷ [])

-- the order is transitive
at_most_trans : (ps : List Point) (ms : List ℕ) (first : ℕ → ℤ) (x : RationalPoint) (s t u : Tet) → Holds ps ms x s → Holds ps ms x t → Holds ps ms x u
    → IsAtMost ps first x s t → IsAtMost ps first x t u → IsAtMost ps first x s u
at_most_trans ps ms first x s t u hs ht hu st tu =
    let vs = volume (corners ps s) in
    let vt = volume (corners ps t) in
    let vu = volume (corners ps u) in
    let ks = places (length ps) in
    let sum = at_least_add (λ k. vu *ℤ gap_at ps first x s t k) (λ k. vs *ℤ gap_at ps first x t u k) ks
    (at_least_scale vu (gap_at ps first x s t) ks hu.positive st.gap) (at_least_scale vs (gap_at ps first x t u) ks hs.positive tu.gap) in
    record {
      gap = at_least_unscale vt (gap_at ps first x s u) ks ht.positive (at_least_same (λ k. vu *ℤ gap_at ps first x s t k +ℤ vs *ℤ gap_at ps first x t u k) (λ k. vt *ℤ gap_at ps first x s u k) ks
          (λ k. order-trans vs vt vu (height_at ps first s x k) (height_at ps first t x k) (height_at ps first u x k)) sum);
    }

-- and reflexive
at_most_refl : (ps : List Point) (first : ℕ → ℤ) (x : RationalPoint) (s : Tet) → IsAtMost ps first x s s
at_most_refl ps first x s = go (at_most_total ps first x s s)
  where
    go : IsAtMost ps first x s s ⊎ IsAtMost ps first x s s → IsAtMost ps first x s s
    go (inl h) = h
    go (inr h) = h

-- ---- a least one

-- one of the list, or of those that hold x, is least
pub record IsLeast (ps : List Point) (ms : List ℕ) (first : ℕ → ℤ) (x : RationalPoint) (xs : List Tet) : Type 0 where
  pub row : Tet
  pub holds : Holds ps ms x row
  pub least : (t : Tet) → IsMember t xs → Holds ps ms x t → IsAtMost ps first x row t

-- a number is above 0 or not
pub above_or_not : (n : ℤ) → (pos 0 <ℤ n) ⊎ ¬ (pos 0 <ℤ n)
above_or_not n = go (sign_of n)
  where
    go : (pos 0 <ℤ n) ⊎ ((n ≡ pos 0) ⊎ (pos 0 <ℤ neg_ℤ n)) → (pos 0 <ℤ n) ⊎ ¬ (pos 0 <ℤ n)
    go (inl h) = inl h
    go (inr (inl e)) = inr (λ h. omega (arith, ints))
    go (inr (inr h)) = inr (λ k. omega (arith, ints))

-- both hold, or not
pub both_or_not : {P Q : Type 0} → P ⊎ ¬ P → Q ⊎ ¬ Q → (P × Q) ⊎ ¬ (P × Q)
-- both hold, or not
both_or_not (inl p) (inl q) = inl (p, q)
-- both hold, or not
both_or_not (inl p) (inr q) = inr (λ h. q h.1)
-- both hold, or not
both_or_not (inr p) q = inr (λ h. p h.0)

-- a tetrahedron strictly holds x or not
holds_or_not : (ps : List Point) (ms : List ℕ) (x : RationalPoint) (t : Tet) → Holds ps ms x t ⊎ ¬ Holds ps ms x t
holds_or_not ps ms x t =
    go (both_or_not (each_or_not (λ u. Contains ms (number t u)) (λ u. contains_or_not ms (number t u)))
    (both_or_not (above_or_not (volume (corners ps t))) (each_or_not (λ u. pos 0 <ℤ side_rational (opposite (corners ps t) u) x) (λ u. above_or_not (side_rational (opposite (corners ps t) u) x)))))
  where
    go : (((u : Place) → Contains ms (number t u)) × ((pos 0 <ℤ volume (corners ps t)) × ((u : Place) → pos 0 <ℤ side_rational (opposite (corners ps t) u) x)))
        ⊎ ¬ (((u : Place) → Contains ms (number t u)) × ((pos 0 <ℤ volume (corners ps t)) × ((u : Place) → pos 0 <ℤ side_rational (opposite (corners ps t) u) x)))
        → Holds ps ms x t ⊎ ¬ Holds ps ms x t
    go (inl h) = inl (record { on = h.0; positive = h.1.0; inside = all_faces (λ f. pos 0 <ℤ side_rational f x) (corners ps t) h.1.1 })
    go (inr n) = inr (λ h. n (h.on, (h.positive, at_face (λ f. pos 0 <ℤ side_rational f x) (corners ps t) h.inside)))

-- of a row that holds x and the rows of a list, one is least
least_of : (ps : List Point) (ms : List ℕ) (first : ℕ → ℤ) (x : RationalPoint) (s : Tet) → Holds ps ms x s → (xs : List Tet) → IsLeast ps ms first x (s ∷ xs)
least_of ps ms first x s hs [] = record { row = s; holds = hs; least = λ t m ht. only t m }
  where
    only : (t : Tet) → IsMember t (s ∷ []) → IsAtMost ps first x s t
    only t here = at_most_refl ps first x s
    only t (there m) = elim m [ ]
least_of ps ms first x s hs (t ∷ xs) = go (holds_or_not ps ms x t) (least_of ps ms first x s hs xs)
  where
    go : Holds ps ms x t ⊎ ¬ Holds ps ms x t → IsLeast ps ms first x (s ∷ xs) → IsLeast ps ms first x (s ∷ t ∷ xs)
    go (inr not_t) r = record { row = r.row; holds = r.holds; least = λ u m hu. kept u m hu r }
      where
        kept : (u : Tet) → IsMember u (s ∷ t ∷ xs) → Holds ps ms x u → (r : IsLeast ps ms first x (s ∷ xs)) → IsAtMost ps first x r.row u
        kept u here hu r = r.least u here hu
        kept u (there here) hu r = absurd (not_t hu)
        kept u (there (there m)) hu r = r.least u (there m) hu
    go (inl ht) r = compared ht r (at_most_total ps first x r.row t)
      where
        kept : (r : IsLeast ps ms first x (s ∷ xs)) → IsAtMost ps first x r.row t → (u : Tet) → IsMember u (s ∷ t ∷ xs) → Holds ps ms x u → IsAtMost ps first x r.row u
        kept r c u here hu = r.least u here hu
        kept r c u (there here) hu = c
        kept r c u (there (there m)) hu = r.least u (there m) hu

        lower : Holds ps ms x t → (r : IsLeast ps ms first x (s ∷ xs)) → IsAtMost ps first x t r.row → (u : Tet) → IsMember u (s ∷ t ∷ xs) → Holds ps ms x u → IsAtMost ps first x t u
        lower ht r c u here hu = at_most_trans ps ms first x t r.row u ht r.holds hu c (r.least u here hu)
        lower ht r c u (there here) hu = at_most_refl ps first x t
        lower ht r c u (there (there m)) hu = at_most_trans ps ms first x t r.row u ht r.holds hu c (r.least u (there m) hu)

        compared : Holds ps ms x t → (r : IsLeast ps ms first x (s ∷ xs)) → IsAtMost ps first x r.row t ⊎ IsAtMost ps first x t r.row → IsLeast ps ms first x (s ∷ t ∷ xs)
        compared ht r (inl c) = record { row = r.row; holds = r.holds; least = kept r c }
        compared ht r (inr c) = record { row = t; holds = ht; least = lower ht r c }

-- all fours of the numbers
pub all_fours : List ℕ → List Tet
all_fours ms = flat_map (λ a. flat_map (λ b. flat_map (λ c. map (λ d. record { a = a; b = b; c = c; d = d }) ms) ms) ms) ms

pub in_all_fours : (ms : List ℕ) (t : Tet) → ((u : Place) → Contains ms (number t u)) → IsMember t (all_fours ms)
unfolding all_fours
in_all_fours ms t on =
    in_flat_map (λ a. flat_map (λ b. flat_map (λ c. map (λ d. record { a = a; b = b; c = c; d = d }) ms) ms) ms) t.a t ms (member_of ms t.a (on A))
    (in_flat_map (λ b. flat_map (λ c. map (λ d. record { a = t.a; b = b; c = c; d = d }) ms) ms) t.b t ms (member_of ms t.b (on B))
    (in_flat_map (λ c. map (λ d. record { a = t.a; b = t.b; c = c; d = d }) ms) t.c t ms (member_of ms t.c (on C))
    (in_map (λ d. record { a = t.a; b = t.b; c = t.c; d = d }) t.d ms (member_of ms t.d (on D)))))

-- and these are all on the numbers
pub of_all_fours : (ms : List ℕ) (t : Tet) → IsMember t (all_fours ms) → (u : Place) → Contains ms (number t u)
unfolding all_fours
of_all_fours ms t m =
    let a = flat_map_cases (λ a. flat_map (λ b. flat_map (λ c. map (λ d. record { a = a; b = b; c = c; d = d }) ms) ms) ms) t ms m in
    let b = flat_map_cases (λ b. flat_map (λ c. map (λ d. record { a = a.0; b = b; c = c; d = d }) ms) ms) t ms a.2 in
    let c = flat_map_cases (λ c. map (λ d. record { a = a.0; b = b.0; c = c; d = d }) ms) t ms b.2 in
    let d = map_cases (λ d. record { a = a.0; b = b.0; c = c.0; d = d }) t ms c.2 in
    by (contains_of ms a.0 a.1) (contains_of ms b.0 b.1) (contains_of ms c.0 c.1) (contains_of ms d.0 d.1) d.2
  where
    by : {i j k l : ℕ} → Contains ms i → Contains ms j → Contains ms k → Contains ms l → t ≡ record { a = i; b = j; c = k; d = l } → (u : Place) → Contains ms (number t u)
    by ha hb hc hd e A = subst (Contains ms) (sym (ap (λ (s : Tet). s.a) e)) ha
    by ha hb hc hd e B = subst (Contains ms) (sym (ap (λ (s : Tet). s.b) e)) hb
    by ha hb hc hd e C = subst (Contains ms) (sym (ap (λ (s : Tet). s.c) e)) hc
    by ha hb hc hd e D = subst (Contains ms) (sym (ap (λ (s : Tet). s.d) e)) hd

-- of the rows that strictly hold x one is least, if there is any
pub least_row : (ps : List Point) (ms : List ℕ) (first : ℕ → ℤ) (x : RationalPoint) (s : Tet) → Holds ps ms x s
    → (m : Tet) × Holds ps ms x m × ((t : Tet) → Holds ps ms x t → IsAtMost ps first x m t)
least_row ps ms first x s hs =
    let r = least_of ps ms first x s hs (all_fours ms) in
    (r.row, r.holds, λ t ht. r.least t (there (in_all_fours ms t ht.on)) ht)
