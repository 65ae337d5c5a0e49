-- The members of a merged facet.
use Rattle.std.proofs.Common.{◌≡◌, ◌⊎◌, inl, inr, ℕ, zero, suc, ◌+◌, ◌<◌, Bool, true, false, ◌&&◌, List, [], ◌∷◌, ◌++◌, map, length, refl, ap, sym, subst, ◌∙◌, arith, eqb-true, eq-eqb}
use Rattle.std.specs.Prelude.{Contains, ◌==◌, nat_lt, if◌then◌else◌, flat_map, filter, zip}
use Rattle.std.specs.List.{slice_index_or, range_with_len}
use Rattle.std.proofs.lemmas.List.{length-map}
use Rattle.sign_predicates.specs.Point.{RationalPoint}
use Rattle.geo_laws.specs.Delaunay.{numbers_below}
use Rattle.geo_laws.specs.Facet.{Facet, areas, all_corners}
use Rattle.geo_laws.specs.Complex.{Complex, facets, flat_facet}
use Rattle.geo_laws.proofs.Members.{IsMember, here, there, in_cons, in_head, in_filter, filter_cases, in_flat_map, both_true, contains_of}
use Rattle.facet_laws.proofs.Pieces.{area_listed}
use Rattle.merged_facets.specs.Merged.{facet_at, no_facet, only_polygon, members, merged_facet}

-- ---- numbered lists

-- a number and the item at its place
pub numbered : {X : Type 0} (low n : ℕ) (xs : List X) (d : X) (e : ℕ × X) → IsMember e (zip (range_with_len low n) xs) → (i : ℕ) × (i < n) × (e.0 ≡ low + i) × (e.1 ≡ slice_index_or xs i d)
numbered low zero xs d e m = elim m [ ]
numbered low (suc n) [] d e m = elim m [ ]
numbered {X} low (suc n) (x ∷ xs) d e m = go (in_cons e (low, x) (zip (range_with_len (low + 1) n) xs) m) (numbered (low + 1) n xs d e)
  where
    none : low ≡ low + 0
    none = omega arith

    later : (a b i : ℕ) → a ≡ b + 1 + i → a ≡ b + suc i
    later a b i e = omega arith

    go : (e ≡ (low, x)) ⊎ IsMember e (zip (range_with_len (low + 1) n) xs) → (IsMember e (zip (range_with_len (low + 1) n) xs) → (i : ℕ) × (i < n) × (e.0 ≡ low + 1 + i) × (e.1 ≡ slice_index_or xs i d))
        → (i : ℕ) × (i < suc n) × (e.0 ≡ low + i) × (e.1 ≡ slice_index_or (x ∷ xs) i d)
    go (inl k) rest = (0, omega arith, ap (λ (p : ℕ × X). p.0) k ∙ none, ap (λ (p : ℕ × X). p.1) k)
    go (inr k) rest = let r = rest k in let l = r.1 in (suc r.0, omega arith, later e.0 low r.0 r.2, r.3)

pub numbered_in : {X : Type 0} (low n i : ℕ) (xs : List X) (d : X) → i < n → i < length xs → IsMember (low + i, slice_index_or xs i d) (zip (range_with_len low n) xs)
numbered_in low n i [] d h l = absurd (omega arith)
numbered_in low zero i (x ∷ xs) d h l = absurd (omega arith)
numbered_in {X} low (suc n) zero (x ∷ xs) d h l = in_head (low + 0, x) (low, x) (zip (range_with_len (low + 1) n) xs) (λ j. (none j, x))
  where
    none : low + 0 ≡ low
    none = omega arith
numbered_in {X} low (suc n) (suc i) (x ∷ xs) d h l = there (subst (λ k. IsMember (k, slice_index_or xs i d) (zip (range_with_len (low + 1) n) xs)) next (numbered_in (low + 1) n i xs d (omega arith) (omega arith)))
  where
    next : low + 1 + i ≡ low + suc i
    next = omega arith

-- ---- the facets of a complex with their numbers

abbrev pub all_numbered : Complex → List (ℕ × Facet)
all_numbered c = zip (numbers_below (length c.facets)) (facets c)

pub facet_of : (c : Complex) (e : ℕ × Facet) → IsMember e (all_numbered c) → (e.0 < length c.facets) × (e.1 ≡ facet_at c e.0)
facet_of c e m =
    let r = numbered 0 (length c.facets) (facets c) no_facet e m in
    let same : e.0 ≡ r.0 = zero_first e.0 r.0 r.2 in
    (subst (λ k. k < length c.facets) (sym same) r.1, r.3 ∙ ap (facet_at c) (sym same))
  where
    zero_first : (a b : ℕ) → a ≡ 0 + b → a ≡ b
    zero_first a b e = omega arith

pub in_numbered : (c : Complex) (f : ℕ) → f < length c.facets → IsMember (f, facet_at c f) (all_numbered c)
in_numbered c f h = subst (λ k. IsMember (k, facet_at c f) (all_numbered c)) zero_first (numbered_in 0 (length c.facets) f (facets c) no_facet h (subst (λ n. f < n) (sym (length-map c.facets (flat_facet c.polygons))) h))
  where
    zero_first : 0 + f ≡ f
    zero_first = omega arith

-- a member of a merged facet
pub record Member (group : ℕ → ℕ) (c : Complex) (k : ℕ) (e : ℕ × Facet) : Type 0 where
  pub below : e.0 < length c.facets
  pub is : e.1 ≡ facet_at c e.0
  pub grouped : group e.0 ≡ k

pub member_is : (group : ℕ → ℕ) (c : Complex) (k : ℕ) (e : ℕ × Facet) → IsMember e (members group c k) → Member group c k e
member_is group c k e m =
    let r = filter_cases (λ g. group g.0 == k) e (all_numbered c) m in
    let s = facet_of c e r.0 in
    record { below = s.0; is = s.1; grouped = eqb-true (group e.0) k r.1 }

pub in_members : (group : ℕ → ℕ) (c : Complex) (k f : ℕ) → f < length c.facets → group f ≡ k → IsMember (f, facet_at c f) (members group c k)
in_members group c k f h e = in_filter (λ g. group g.0 == k) (f, facet_at c f) (all_numbered c) (in_numbered c f h) (eq-eqb (group f) k e)

-- ---- one polygon and no hole point

pub record HasOnly (f : Facet) : Type 0 where
  pub polygons : f.polygons ≡ only_polygon f ∷ []
  pub holes : f.holes ≡ []
  pub long : nat_lt 2 (length (only_polygon f)) ≡ true

empty_of : {X : Type 0} (xs : List X) → length xs ≡ 0 → xs ≡ []
empty_of [] e = refl
empty_of (x ∷ xs) e = absurd (omega arith)

pub has_only : (f : Facet) (i : ℕ) → IsMember i (only_polygon f) → HasOnly f
has_only f i m = go f.polygons f.holes i m
  where
    go : (ps : List (List ℕ)) (hs : List RationalPoint) (i : ℕ) → IsMember i (only_polygon (record { polygons = ps; holes = hs })) → HasOnly (record { polygons = ps; holes = hs })
    go [] hs i m = elim m [ ]
    go (p ∷ ps) hs i m = by (length ps == 0 && length hs == 0 && nat_lt 2 (length p)) refl m
      where
        by : (b : Bool) → (length ps == 0 && length hs == 0 && nat_lt 2 (length p)) ≡ b → IsMember i (if b then p else []) → HasOnly (record { polygons = p ∷ ps; holes = hs })
        by false e m = elim m [ ]
        by true e m =
            let t = both_true (length ps == 0 && length hs == 0) (nat_lt 2 (length p)) e in
            let u = both_true (length ps == 0) (length hs == 0) t.0 in
            let one : only_polygon (record { polygons = p ∷ ps; holes = hs }) ≡ p = ap (λ b. if b then p else []) e in
            record {
              polygons = (λ j. sym one j ∷ empty_of ps (eqb-true (length ps) 0 u.0) j);
              holes = empty_of hs (eqb-true (length hs) 0 u.1);
              long = ap (λ q. nat_lt 2 (length q)) one ∙ t.1;
            }

-- each polygon of such a facet is that one
pub is_only : (f : Facet) (q : List ℕ) → HasOnly f → IsMember q f.polygons → q ≡ only_polygon f
is_only f q h m = go (in_cons q (only_polygon f) [] (subst (λ l. IsMember q l) h.polygons m))
  where
    go : (q ≡ only_polygon f) ⊎ IsMember q [] → q ≡ only_polygon f
    go (inl e) = e
    go (inr m) = elim m [ ]

-- and its corners are all corners
pub only_corner : (f : Facet) (i : ℕ) → HasOnly f → IsMember i (only_polygon f) → IsMember i (all_corners f)
only_corner f i h m = in_flat_map (λ p. p) (only_polygon f) i f.polygons (subst (λ l. IsMember (only_polygon f) l) (sym h.polygons) here) m

pub nothing_joined : {X Y : Type 0} (f : X → List Y) (xs : List X) → ((x : X) → IsMember x xs → f x ≡ []) → flat_map f xs ≡ []
nothing_joined f [] h = refl
nothing_joined f (x ∷ xs) h = λ j. h x here j ++ nothing_joined f xs (λ y m. h y (there m)) j
