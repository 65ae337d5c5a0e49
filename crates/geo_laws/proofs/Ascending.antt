-- Strictly ascending lists: ranges, and maps, filters and joined lists of such; and that the members determine the list.
use Rattle.std.proofs.Common.{◌≡◌, ◌⊎◌, inl, inr, ℕ, zero, suc, ◌+◌, ◌<◌, Bool, true, false, cond, List, [], ◌∷◌, ◌++◌, map, refl, sym, subst, ◌∙◌, arith}
use Rattle.std.specs.Prelude.{AllPairs, flat_map, filter}
use Rattle.std.specs.List.{slice_index_or, range_with_len}
use Rattle.geo_laws.specs.Delaunay.{RowBefore}
use Rattle.geo_laws.specs.declared.tetrahedra.Tet.{Tet}
use Rattle.geo_laws.proofs.Members.{IsMember, here, there, in_cons, found_of, at_place, append_cases, map_cases, flat_map_cases, filter_cases, range_bounds}

-- the list rises: each member stands before each later one
pub data Rises {X : Type 0} (Before : X → X → Type 0) : List X → Type 0 where
  none : Rises Before []
  more : {x : X} {xs : List X} → ((y : X) → IsMember y xs → Before x y) → Rises Before xs → Rises Before (x ∷ xs)

-- a range rises
pub rises-range : (low n : ℕ) → Rises ◌<◌ (range_with_len low n)
rises-range low zero = none
rises-range low (suc n) = more (λ j m. let b = range_bounds (low + 1) n j m in let c = b.0 in omega arith) (rises-range (low + 1) n)

-- two rising lists, the one before the other, rise together
pub rises-append : {X : Type 0} (R : X → X → Type 0) (xs ys : List X) → Rises R xs → Rises R ys → ((x y : X) → IsMember x xs → IsMember y ys → R x y) → Rises R (xs ++ ys)
rises-append R [] ys h k b = k
rises-append R (x ∷ xs) ys (more first rest) k b =
    more (λ y m. go y (append_cases y xs ys m)) (rises-append R xs ys rest k (λ u v m n. b u v (there m) n))
  where
    go : (y : _) → IsMember y xs ⊎ IsMember y ys → R x y
    go y (inl m) = first y m
    go y (inr m) = b x y here m

-- a map that keeps the order keeps it of lists
pub rises-map : {X Y : Type 0} (R : X → X → Type 0) (S : Y → Y → Type 0) (f : X → Y) (xs : List X) → Rises R xs → ((x y : X) → R x y → S (f x) (f y)) → Rises S (map f xs)
rises-map R S f [] h k = none
rises-map R S f (x ∷ xs) (more first rest) k =
    more (λ y m. let r = map_cases f y xs m in subst (λ z. S (f x) z) (sym r.2) (k x r.0 (first r.0 r.1))) (rises-map R S f xs rest k)

-- rising lists, made from the elements of a rising list, rise together where each stands before the next
pub rises-flat_map : {X Y : Type 0} (R : X → X → Type 0) (S : Y → Y → Type 0) (f : X → List Y) (xs : List X) → Rises R xs → ((x : X) → Rises S (f x))
    → ((x y : X) (u v : Y) → R x y → IsMember u (f x) → IsMember v (f y) → S u v) → Rises S (flat_map f xs)
rises-flat_map R S f [] h k b = none
rises-flat_map R S f (x ∷ xs) (more first rest) k b =
    rises-append S (f x) (flat_map f xs) (k x) (rises-flat_map R S f xs rest k b)
    (λ u v m n. let r = flat_map_cases f v xs n in b x r.0 u v (first r.0 r.1) m r.2)

-- what a filter leaves rises
pub rises-filter : {X : Type 0} (R : X → X → Type 0) (test : X → Bool) (xs : List X) → Rises R xs → Rises R (filter test xs)
rises-filter R test [] h = none
rises-filter R test (x ∷ xs) (more first rest) = go (test x) (rises-filter R test xs rest)
  where
    go : (b : Bool) → Rises R (filter test xs) → Rises R (cond b (x ∷ filter test xs) (filter test xs))
    go true r = more (λ y m. first y (filter_cases test y xs m).0) r
    go false r = r

-- two ascending lists with the same members are the same, if no two elements stand before each other
pub rises-same : {X : Type 0} (R : X → X → Type 0) → ((x y : X) → R x y → R y x → ⊥) → (xs ys : List X) → Rises R xs → Rises R ys
    → ((x : X) → IsMember x xs → IsMember x ys) → ((x : X) → IsMember x ys → IsMember x xs) → xs ≡ ys
rises-same R never [] [] h k to from = refl
rises-same R never [] (y ∷ ys) h k to from = elim (from y here) [ ]
rises-same R never (x ∷ xs) [] h k to from = elim (to x here) [ ]
rises-same R never (x ∷ xs) (y ∷ ys) (more first h) (more first' k) to from =
    let e = heads (in_cons x y ys (to x here)) (in_cons y x xs (from y here)) in
    let rest = rises-same R never xs ys h k (λ z m. later z x y e (first z m) (in_cons z y ys (to z (there m)))) (λ z m. later z y x (sym e) (first' z m) (in_cons z x xs (from z (there m)))) in
    λ j. e j ∷ rest j
  where
    heads : (x ≡ y) ⊎ IsMember x ys → (y ≡ x) ⊎ IsMember y xs → x ≡ y
    heads (inl e) _ = e
    heads (inr m) (inl e) = sym e
    heads (inr m) (inr n) = absurd (never x y (first y n) (first' x m))

    later : (z u v : _) → u ≡ v → R u z → {zs : List _} → (z ≡ v) ⊎ IsMember z zs → IsMember z zs
    later z u v e r (inr m) = m
    later z u v e r (inl d) = let s = subst (λ w. R w z) (e ∙ sym d) r in absurd (never z z s s)

-- rising, by the places of the list
pub all_pairs : {X : Type 0} (R : X → X → Type 0) (xs : List X) → Rises R xs → AllPairs R xs
all_pairs R [] h i j d l k = absurd (omega arith)
all_pairs R (x ∷ xs) (more first rest) zero zero d l k = absurd (omega arith)
all_pairs R (x ∷ xs) (more first rest) zero (suc j) d l k = first (slice_index_or xs j d) (at_place xs j d (omega arith))
all_pairs R (x ∷ xs) (more first rest) (suc i) zero d l k = absurd (omega arith)
all_pairs R (x ∷ xs) (more first rest) (suc i) (suc j) d l k = all_pairs R xs rest i j d (omega arith) (omega arith)

-- ---- lists of tetrahedra

-- of two pairs in the order from the left not each is before the other
lex_not_both : {P Q : Type 0} (i j : ℕ) → (P → Q → ⊥) → (i < j) ⊎ (i ≡ j) × P → (j < i) ⊎ (j ≡ i) × Q → ⊥
lex_not_both i j never (inl h) (inl k) = omega arith
lex_not_both i j never (inl h) (inr k) = let e = k.0 in omega arith
lex_not_both i j never (inr h) (inl k) = let e = h.0 in omega arith
lex_not_both i j never (inr h) (inr k) = never h.1 k.1

-- no two tetrahedra stand before each other
before_not_both : (s t : Tet) → RowBefore s t → RowBefore t s → ⊥
before_not_both s t h k = lex_not_both s.a t.a (lex_not_both s.b t.b (lex_not_both s.c t.c (λ l m. omega arith))) h k

-- none stands before itself
pub before_itself : (t : Tet) → RowBefore t t → ⊥
before_itself t h = before_not_both t t h h

-- so of rows
pub pairs_of : (rows : List Tet) → Rises RowBefore rows → AllPairs RowBefore rows
pairs_of rows = all_pairs RowBefore rows

-- and back
pub rises_of : (rows : List Tet) → AllPairs RowBefore rows → Rises RowBefore rows
rises_of [] h = none
rises_of (t ∷ rows) h =
    more (λ u m. let f = found_of rows u m in let l = f.within in subst (RowBefore t) (f.is t) (h 0 (suc f.place) t (omega arith) (omega arith)))
    (rises_of rows (λ i j d l k. h (suc i) (suc j) d (omega arith) (omega arith)))

-- a strictly ascending list of tetrahedra is determined by its members
pub ascending-same : (rows rows' : List Tet) → AllPairs RowBefore rows → AllPairs RowBefore rows' → ((t : Tet) → IsMember t rows → IsMember t rows') → ((t : Tet) → IsMember t rows' → IsMember t rows) → rows ≡ rows'
ascending-same rows rows' h k = rises-same RowBefore before_not_both rows rows' (rises_of rows h) (rises_of rows' k)
