-- Lists of places, and marks at them.
use Rattle.std.proofs.Common.{◌≡◌, ◌⊎◌, inl, inr, ℕ, zero, suc, ◌+◌, ◌<◌, ◌≤◌, Bool, true, List, [], ◌∷◌, ◌++◌, length, refl, ap, sym, subst, ◌∙◌, arith}
use Rattle.std.specs.Prelude.{Contains, ◌↔◌}
use Rattle.geo_laws.proofs.Members.{IsMember, here, there, contains_of, member_of, append_cases, in_append_left, in_append_right}
use Rattle.std.proofs.Common.{pos}
use Rattle.sign_predicates.specs.Point.{Point, RationalPoint}
use Rattle.sign_predicates.specs.Orientation.{side_rational, opposite_face}
use Rattle.sign_predicates.specs.declared.tetrahedron.Corners.{Corners}
use Rattle.geo_laws.specs.Delaunay.{corners}
use Rattle.geo_laws.specs.declared.faces.Face.{Face}
use Rattle.geo_laws.specs.declared.tetrahedra.Tet.{Tet}
use Rattle.hole_carve.specs.Ways.{face_opposite}
use Rattle.hole_carve.specs.Seeds.{RowHolds, HoldsOnSome, IsSeedAt}
use Rattle.hole_carve.specs.Flooding.{queue_at}
use Rattle.hole_carve.proofs.Flooding.{default_at}
use Rattle.geo_laws.specs.Marks.{is_marked}

pub at_of : (s : List ℕ) (v : ℕ) → Contains s v → (k : ℕ) × (k < length s) × (queue_at s k ≡ v)
at_of s v c = (c.0, c.1, default_at s c.0 0 v c.1 ∙ c.2)

pub of_at : (s : List ℕ) (k : ℕ) → k < length s → Contains s (queue_at s k)
of_at s k h = (k, h, default_at s k (queue_at s k) 0 h)

only : (i v : ℕ) → IsMember i (v ∷ []) → i ≡ v
only i v here = refl
only i v (there m) = elim m [ ]

-- one more behind
pub contains_behind : (s : List ℕ) (v i : ℕ) → Contains (s ++ v ∷ []) i ↔ (Contains s i ⊎ (i ≡ v))
contains_behind s v i = (λ c. go (append_cases i s (v ∷ []) (member_of _ i c)), back)
  where
    go : IsMember i s ⊎ IsMember i (v ∷ []) → Contains s i ⊎ (i ≡ v)
    go (inl m) = inl (contains_of s i m)
    go (inr m) = inr (only i v m)

    back : Contains s i ⊎ (i ≡ v) → Contains (s ++ v ∷ []) i
    back (inl c) = contains_of _ i (in_append_left i s (v ∷ []) (member_of s i c))
    back (inr e) = contains_of _ i (in_append_right i s (v ∷ []) (subst (λ w. IsMember w (v ∷ [])) (sym e) here))

-- one place more, of which P holds
pub added : (P : ℕ → Type 0) (s s' : List ℕ) (at : ℕ) → s' ≡ s ++ at ∷ [] → P at → (i : ℕ) → Contains s' i ↔ (Contains s i ⊎ (i ≡ at) × P i)
added P s s' at e p i = (λ c. to ((contains_behind s at i).0 (subst (λ l. Contains l i) e c)), λ h. subst (λ l. Contains l i) (sym e) ((contains_behind s at i).1 (from h)))
  where
    to : Contains s i ⊎ (i ≡ at) → Contains s i ⊎ (i ≡ at) × P i
    to (inl c) = inl c
    to (inr d) = inr (d, subst P (sym d) p)

    from : Contains s i ⊎ (i ≡ at) × P i → Contains s i ⊎ (i ≡ at)
    from (inl c) = inl c
    from (inr d) = inr d.0

-- none more, where P does not hold of it
pub unadded : (P : ℕ → Type 0) (s : List ℕ) (at : ℕ) → ¬ P at → (i : ℕ) → Contains s i ↔ (Contains s i ⊎ (i ≡ at) × P i)
unadded P s at n i = (λ c. inl c, from)
  where
    from : Contains s i ⊎ (i ≡ at) × P i → Contains s i
    from (inl c) = c
    from (inr d) = absurd (n (subst P d.0 d.1))

-- what is gathered up to a place, and one more
pub gathered_more : (P : ℕ → Type 0) (s s' : List ℕ) (at : ℕ) → ((i : ℕ) → Contains s i ↔ ((i < at) × P i)) → ((i : ℕ) → Contains s' i ↔ (Contains s i ⊎ (i ≡ at) × P i)) → (i : ℕ)
    → Contains s' i ↔ ((i < at + 1) × P i)
gathered_more P s s' at was more i = (λ c. to ((more i).0 c), λ h. (more i).1 (by h.1 (order i at) h.0))
  where
    order : (a b : ℕ) → (a < b) ⊎ (b ≤ a)
    order a b = grind arith

    to : Contains s i ⊎ (i ≡ at) × P i → (i < at + 1) × P i
    to (inl c) = let h = (was i).0 c in (let l = h.0 in omega arith, h.1)
    to (inr d) = let e = d.0 in (omega arith, d.1)

    by : P i → (i < at) ⊎ (at ≤ i) → i < at + 1 → Contains s i ⊎ (i ≡ at) × P i
    by q (inl l) h = inl ((was i).1 (l, q))
    by q (inr l) h = inr (omega arith, q)

-- marks at the places up to one, and at that one
pub marked_next : (old marks marks' : List Bool) (places : List ℕ) (at place : ℕ) → queue_at places at ≡ place
    → ((i : ℕ) → (is_marked marks i ≡ true) ↔ ((is_marked old i ≡ true) ⊎ (k : ℕ) × (k < at) × (queue_at places k ≡ i)))
    → ((i : ℕ) → (is_marked marks' i ≡ true) ↔ ((is_marked marks i ≡ true) ⊎ (i ≡ place)))
    → (i : ℕ) → (is_marked marks' i ≡ true) ↔ ((is_marked old i ≡ true) ⊎ (k : ℕ) × (k < at + 1) × (queue_at places k ≡ i))
marked_next old marks marks' places at place e was new i = (λ m. to ((new i).0 m), from)
  where
    order : (a b : ℕ) → (a < b) ⊎ (b ≤ a)
    order a b = grind arith

    old_or : (is_marked old i ≡ true) ⊎ (k : ℕ) × (k < at) × (queue_at places k ≡ i) → (is_marked old i ≡ true) ⊎ (k : ℕ) × (k < at + 1) × (queue_at places k ≡ i)
    old_or (inl o) = inl o
    old_or (inr (k, l, d)) = inr (k, omega arith, d)

    to : (is_marked marks i ≡ true) ⊎ (i ≡ place) → (is_marked old i ≡ true) ⊎ (k : ℕ) × (k < at + 1) × (queue_at places k ≡ i)
    to (inl m) = old_or ((was i).0 m)
    to (inr d) = inr (at, omega arith, e ∙ sym d)

    by : (k : ℕ) → (k < at) ⊎ (at ≤ k) → k < at + 1 → queue_at places k ≡ i → is_marked marks' i ≡ true
    by k (inl l) h d = (new i).1 (inl ((was i).1 (inr (k, l, d))))
    by k (inr l) h d = (new i).1 (inr (sym d ∙ ap (queue_at places) (let q : k ≡ at = omega arith in q) ∙ e))

    from : (is_marked old i ≡ true) ⊎ (k : ℕ) × (k < at + 1) × (queue_at places k ≡ i) → is_marked marks' i ≡ true
    from (inl o) = (new i).1 (inl ((was i).1 (inl o)))
    from (inr (k, l, d)) = by k (order k at) l d

-- what lies on a closed face of a row, in the row's own terms
abbrev pub LiesOnSome : Corners → Tet → List Face → RationalPoint → Type 0
LiesOnSome c t closed x = (k : ℕ) × (k < 4) × (side_rational (opposite_face c k) x ≡ pos 0) × Contains closed (face_opposite t k)

pub lies_same : (ps : List Point) (closed : List Face) (x : RationalPoint) (c : Corners) (t t' : Tet) → c ≡ corners ps t → t ≡ t' → LiesOnSome c t closed x → LiesOnSome (corners ps t') t' closed x
lies_same ps closed x c t t' e d h = subst (λ r. LiesOnSome (corners ps r) r closed x) d (subst (λ q. LiesOnSome q t closed x) e h)

pub lies_back : (ps : List Point) (closed : List Face) (x : RationalPoint) (c : Corners) (t t' : Tet) → c ≡ corners ps t → t ≡ t' → LiesOnSome (corners ps t') t' closed x → LiesOnSome c t closed x
lies_back ps closed x c t t' e d h = subst (λ q. LiesOnSome q t closed x) (sym e) (subst (λ r. LiesOnSome (corners ps r) r closed x) (sym d) h)

-- ---- where a flood begins

-- where no closed row holds the point, it begins beyond the hull
pub seeds_beyond : (ps : List Point) (closed : List Face) (rows : List Tet) (x : RationalPoint) → ¬ HoldsOnSome ps closed rows x → ((i : ℕ) → ¬ RowHolds ps rows x i) → (old marks : List Bool)
    → ((i : ℕ) → (is_marked marks i ≡ true) ↔ ((is_marked old i ≡ true) ⊎ (i ≡ length rows))) → (i : ℕ) → (is_marked marks i ≡ true) ↔ ((is_marked old i ≡ true) ⊎ IsSeedAt ps closed rows x i)
seeds_beyond ps closed rows x off none old marks h i = (λ m. to ((h i).0 m), λ s. (h i).1 (from s))
  where
    to : (is_marked old i ≡ true) ⊎ (i ≡ length rows) → (is_marked old i ≡ true) ⊎ IsSeedAt ps closed rows x i
    to (inl m) = inl m
    to (inr e) = inr (record { off = off; holds = inr (e, none) })

    by : RowHolds ps rows x i ⊎ (i ≡ length rows) × ((j : ℕ) → ¬ RowHolds ps rows x j) → i ≡ length rows
    by (inl a) = absurd (none i a)
    by (inr b) = b.0

    from : (is_marked old i ≡ true) ⊎ IsSeedAt ps closed rows x i → (is_marked old i ≡ true) ⊎ (i ≡ length rows)
    from (inl m) = inl m
    from (inr s) = inr (by s.holds)

-- else at each row whose closure holds it
pub seeds_held : (ps : List Point) (closed : List Face) (rows : List Tet) (x : RationalPoint) (holders : List ℕ) → ¬ HoldsOnSome ps closed rows x → ((i : ℕ) → Contains holders i ↔ RowHolds ps rows x i) → 0 < length holders → (old marks : List Bool)
    → ((i : ℕ) → (is_marked marks i ≡ true) ↔ ((is_marked old i ≡ true) ⊎ Contains holders i)) → (i : ℕ) → (is_marked marks i ≡ true) ↔ ((is_marked old i ≡ true) ⊎ IsSeedAt ps closed rows x i)
seeds_held ps closed rows x holders off are some old marks h i = (λ m. to ((h i).0 m), λ s. (h i).1 (from s))
  where
    to : (is_marked old i ≡ true) ⊎ Contains holders i → (is_marked old i ≡ true) ⊎ IsSeedAt ps closed rows x i
    to (inl m) = inl m
    to (inr c) = inr (record { off = off; holds = inl ((are i).0 c) })

    by : RowHolds ps rows x i ⊎ (i ≡ length rows) × ((j : ℕ) → ¬ RowHolds ps rows x j) → Contains holders i
    by (inl a) = (are i).1 a
    by (inr b) = absurd (b.1 (queue_at holders 0) ((are (queue_at holders 0)).0 (of_at holders 0 some)))

    from : (is_marked old i ≡ true) ⊎ IsSeedAt ps closed rows x i → (is_marked old i ≡ true) ⊎ Contains holders i
    from (inl m) = inl m
    from (inr s) = inr (by s.holds)

pub above_zero : (n : ℕ) → ¬ (n ≡ 0) → 0 < n
above_zero zero h = absurd (h refl)
above_zero (suc n) h = omega arith
