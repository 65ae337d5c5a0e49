-- Lists of triangles and pieces as lists of parts.
use Rattle.std.proofs.Common.{◌⊎◌, inl, inr, ◌≡◌, ℕ, ◌+◌, ◌<◌, List, [], ◌∷◌, ◌++◌, map, take, length, get_or, Option, None, Some, refl, ap, sym, subst, ◌∙◌, arith}
use Rattle.std.specs.Prelude.{All, MatchOption}
use Rattle.std.proofs.Math.Seq.{take-length}
use Rattle.std.proofs.lemmas.List.{take_more, map-append, get_or-map, length-map, get_or_append_left, get_or-append-add, length-append, append_assoc}
use Rattle.std.proofs.lemmas.List.Elements.{All-append, All-map}
use Rattle.sign_predicates.specs.Point.{Point}
use Rattle.geo_laws.specs.Simplex.{ProperlyMet}
use Rattle.geo_laws.specs.Facet.{corner_numbers}
use Rattle.geo_laws.specs.Mesh.{ends}
use Rattle.geo_laws.specs.declared.complex.Piece.{Piece}
use Rattle.geo_laws.specs.declared.complex.FacetTriangle.{FacetTriangle}
use Rattle.simplex_meets.specs.Proper.{IsTriangle, IsSegment, triangle_face}
use Rattle.simplex_meets.specs.declared.complex_parts.Compared.{Compared}
use Rattle.simplex_meets.specs.declared.complex_parts.Compared.TheVariants.{WithTriangle}
use Rattle.simplex_meets.specs.declared.complex_parts.Part.{Part}
use Rattle.simplex_meets.specs.declared.complex_parts.Part.TheVariants.{Triangle, Segment}
use Rattle.simplex_meets.specs.Parts.{piece_side, IsPart, IsPairMet}
use Rattle.simplex_meets.specs.Pairs.{ArePairwiseMet, IsFirstPair}
use Rattle.simplex_meets.specs.Crossing.{parts_in, AreTrianglesMet}
use Rattle.simplex_meets.proofs.Firsts.{no_part, below_or}

-- one triangle more
pub triangles_more : (ts : List FacetTriangle) (i : ℕ) (old new : List Part) (t : FacetTriangle) → new ≡ old ++ Triangle t ∷ [] → ((d : FacetTriangle) → get_or ts i d ≡ t) → i < length ts → old ≡ map Triangle (take i ts) → new ≡ map Triangle (take (i + 1) ts)
triangles_more ts i old new t put is h before =
    put ∙ ap (λ xs. xs ++ Triangle t ∷ []) before ∙ ap (λ u. map Triangle (take i ts) ++ Triangle u ∷ []) (sym (is t)) ∙ sym (map-append Triangle (take i ts) (get_or ts i t ∷ [])) ∙ ap (map Triangle) (sym (take_more ts i t h))

-- one piece more
pub pieces_more : (base : List Part) (pieces : List Piece) (i : ℕ) (old new : List Part) (p : Piece) → new ≡ old ++ Segment p ∷ [] → ((d : Piece) → get_or pieces i d ≡ p) → i < length pieces → old ≡ base ++ map Segment (take i pieces) → new ≡ base ++ map Segment (take (i + 1) pieces)
pieces_more base pieces i old new p put is h before =
    put ∙ ap (λ xs. xs ++ Segment p ∷ []) before ∙ append_assoc base (map Segment (take i pieces)) (Segment p ∷ [])
    ∙ ap (λ xs. base ++ xs) (ap (λ u. map Segment (take i pieces) ++ Segment u ∷ []) (sym (is p)) ∙ sym (map-append Segment (take i pieces) (get_or pieces i p ∷ [])) ∙ ap (map Segment) (sym (take_more pieces i p h)))

pub take_all : {X : Type 0} (xs : List X) (i : ℕ) → i ≡ length xs → take i xs ≡ xs
take_all xs i e = ap (λ n. take n xs) e ∙ take-length xs

pub are_parts : (ps : List Point) (ts : List FacetTriangle) (pieces : List Piece) → All (λ t. IsTriangle ps (triangle_face t)) ts → All (λ p. IsSegment ps (piece_side p)) pieces → All (IsPart ps) (parts_in ts pieces)
are_parts ps ts pieces h k = All-append (IsPart ps) (map Triangle ts) (map Segment pieces) (All-map (IsPart ps) Triangle ts h) (All-map (IsPart ps) Segment pieces k)

-- no pair was found
pub none_found : (compared : Compared) (ps : List Point) (parts parts' : List Part) (o : Option (ℕ × ℕ)) → parts ≡ parts' → o ≡ None → MatchOption o (ArePairwiseMet compared ps parts) (λ r. IsFirstPair compared ps parts r.0 r.1) → ArePairwiseMet compared ps parts'
none_found compared ps parts parts' o same none found =
    let P : Option (ℕ × ℕ) → Type 0 = λ u. MatchOption u (ArePairwiseMet compared ps parts) (λ r. IsFirstPair compared ps parts r.0 r.1) in
    let Q : List Part → Type 0 = λ us. ArePairwiseMet compared ps us in
    subst Q same (subst P none found)

-- a pair was found
pub some_found : (compared : Compared) (ps : List Point) (parts parts' : List Part) (o : Option (ℕ × ℕ)) (i j : ℕ) → parts ≡ parts' → o ≡ Some (i, j) → MatchOption o (ArePairwiseMet compared ps parts) (λ r. IsFirstPair compared ps parts r.0 r.1) → IsFirstPair compared ps parts' i j
some_found compared ps parts parts' o i j same some found =
    let P : Option (ℕ × ℕ) → Type 0 = λ u. MatchOption u (ArePairwiseMet compared ps parts) (λ r. IsFirstPair compared ps parts r.0 r.1) in
    let Q : List Part → Type 0 = λ us. IsFirstPair compared ps us i j in
    subst Q same (subst P some found)

-- what stands at a place of the list of parts
pub triangle_at : (ts : List FacetTriangle) (pieces : List Piece) (i : ℕ) (t : FacetTriangle) → i < length ts → get_or (parts_in ts pieces) i no_part ≡ Triangle (get_or ts i t)
triangle_at ts pieces i t h = let l = length-map ts Triangle in get_or_append_left (map Triangle ts) (map Segment pieces) no_part i (omega arith) ∙ get_or-map Triangle ts i t no_part h

pub piece_at : (ts : List FacetTriangle) (pieces : List Piece) (i : ℕ) (p : Piece) → i < length pieces → get_or (parts_in ts pieces) (length ts + i) no_part ≡ Segment (get_or pieces i p)
piece_at ts pieces i p h = ap (λ n. get_or (parts_in ts pieces) (n + i) no_part) (sym (length-map ts Triangle)) ∙ get_or-append-add (map Triangle ts) (map Segment pieces) i no_part ∙ get_or-map Segment pieces i p no_part h

pub count_parts : (ts : List FacetTriangle) (pieces : List Piece) → length (parts_in ts pieces) ≡ length ts + length pieces
count_parts ts pieces =
    length-append (map Triangle ts) (map Segment pieces) ∙ ap (λ n. n + length (map Segment pieces)) (length-map ts Triangle)
    ∙ ap (λ n. length ts + n) (length-map pieces Segment)

pub no_triangle : FacetTriangle
no_triangle = record { facet = 0; a = 0; b = 0; c = 0 }

-- what is so of all parts is so of triangles and pieces
pub triangles_met : (ps : List Point) (ts : List FacetTriangle) (pieces : List Piece) → ArePairwiseMet WithTriangle ps (parts_in ts pieces) → AreTrianglesMet ps ts pieces
triangles_met ps ts pieces all = record { triangles_meet = λ i j d h n. two i j d h (shorter j n); triangles_meet_pieces = λ i t h j p n. one i t h j p n }
  where
    shorter : (j : ℕ) → j < length (map corner_numbers ts) → j < length ts
    shorter j n = let l = length-map ts corner_numbers in omega arith

    met : (i j : ℕ) (p q : Part) → i < j → j < length (parts_in ts pieces) → get_or (parts_in ts pieces) i no_part ≡ p → get_or (parts_in ts pieces) j no_part ≡ q → IsPairMet WithTriangle ps p q
    met i j p q h n e f =
        let P : Part → Type 0 = λ u. IsPairMet WithTriangle ps u (get_or (parts_in ts pieces) j no_part) in
        let Q : Part → Type 0 = λ u. IsPairMet WithTriangle ps p u in
        subst Q f (subst P e (all i j no_part h n))

    two : (i j : ℕ) (d : List ℕ) → i < j → j < length ts → ProperlyMet ps (get_or (map corner_numbers ts) i d) (get_or (map corner_numbers ts) j d)
    two i j d h n =
        let P : List ℕ → Type 0 = λ u. ProperlyMet ps u (get_or (map corner_numbers ts) j d) in
        let Q : List ℕ → Type 0 = λ u. ProperlyMet ps (corner_numbers (get_or ts i no_triangle)) u in
        let l = count_parts ts pieces in
        subst P (sym (get_or-map corner_numbers ts i no_triangle d (omega arith)))
        (subst Q (sym (get_or-map corner_numbers ts j no_triangle d n))
        (met i j (Triangle (get_or ts i no_triangle)) (Triangle (get_or ts j no_triangle)) h (omega arith) (triangle_at ts pieces i no_triangle (omega arith)) (triangle_at ts pieces j no_triangle n) refl))

    one : (i : ℕ) (t : FacetTriangle) → i < length ts → (j : ℕ) (p : Piece) → j < length pieces → ProperlyMet ps (corner_numbers (get_or ts i t)) (ends (get_or pieces j p))
    one i t h j p n =
        let l = count_parts ts pieces in
        met i (length ts + j) (Triangle (get_or ts i t)) (Segment (get_or pieces j p)) (omega arith) (omega arith) (triangle_at ts pieces i t h) (piece_at ts pieces j p n) refl

-- what holds of the first i elements holds of one more
pub all_more : {X : Type 0} (P : X → Type 0) (xs : List X) (i : ℕ) (x : X) → ((d : X) → get_or xs i d ≡ x) → P x → ((k : ℕ) (d : X) → k < i → P (get_or xs k d)) → (k : ℕ) (d : X) → k < i + 1 → P (get_or xs k d)
all_more {X} P xs i x is holds before k d h = go (below_or k i h)
  where
    go : (k < i) ⊎ (k ≡ i) → P (get_or xs k d)
    go (inl n) = before k d n
    go (inr e) = let Q : ℕ → Type 0 = λ n. P (get_or xs n d) in subst Q (sym e) (subst P (sym (is d)) holds)
