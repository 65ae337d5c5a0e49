-- Triangles that are known to be properly met, as parts.
use Rattle.std.proofs.Common.{◌≡◌, ◌⊎◌, inl, inr, ℕ, ◌-◌, ◌<◌, ◌≤◌, Bool, not, true, false, List, length, get_or, refl, ap, sym, subst, ◌∙◌, arith, eqb-true}
use Rattle.std.specs.Prelude.{IsTrue, ◌==◌}
use Rattle.std.proofs.lemmas.Bool.{false≢true}
use Rattle.std.proofs.lemmas.List.{get_or_default}
use Rattle.sign_predicates.specs.Point.{Point}
use Rattle.geo_laws.specs.Simplex.{ProperlyMet}
use Rattle.geo_laws.specs.Facet.{corner_numbers}
use Rattle.geo_laws.specs.Mesh.{ends}
use Rattle.geo_laws.specs.declared.complex.Piece.{Piece}
use Rattle.geo_laws.specs.declared.complex.FacetTriangle.{FacetTriangle}
use Rattle.simplex_meets.specs.declared.complex_parts.Compared.TheVariants.{WithTriangle, AcrossPlanes}
use Rattle.simplex_meets.specs.declared.complex_parts.Part.{Part}
use Rattle.simplex_meets.specs.declared.complex_parts.Part.TheVariants.{Triangle, Segment}
use Rattle.simplex_meets.proofs.Sums.{either}
use Rattle.simplex_meets.specs.Parts.{IsPairMet, has_triangle, is_across, lies_in_plane}
use Rattle.simplex_meets.specs.Pairs.{AreMetAt, AreMarkedMet, ArePairwiseMet, IsFirstPair}
use Rattle.simplex_meets.specs.Crossing.{parts_in, AreKnownMet, AreFlatMet, IsFirstCrossing}
use Rattle.simplex_meets.proofs.Firsts.{no_part}
use Rattle.simplex_meets.proofs.Lists.{no_triangle, triangle_at, piece_at, count_parts}

no_piece : Piece
no_piece = record { a = 0; b = 0; halvings = 0 }

before_or : (i n : ℕ) → (i < n) ⊎ (n ≤ i)
before_or i n = grind arith

-- the parts at two places, read at any default
met_at : (ps : List Point) (parts : List Part) (i j : ℕ) (p q : Part) → i < j → j < length parts → get_or parts i no_part ≡ p → get_or parts j no_part ≡ q
    → IsPairMet WithTriangle ps p q → AreMetAt WithTriangle ps parts i j
met_at ps parts i j p q h n e f met d =
    let P : Part → Type 0 = λ u. IsPairMet WithTriangle ps u (get_or parts j d) in
    let Q : Part → Type 0 = λ u. IsPairMet WithTriangle ps p u in
    subst P (sym (get_or_default parts i d no_part (omega arith) ∙ e)) (subst Q (sym (get_or_default parts j d no_part n ∙ f)) met)

-- and back
pair_at : (ps : List Point) (parts : List Part) (i j : ℕ) (p q : Part) → get_or parts i no_part ≡ p → get_or parts j no_part ≡ q → AreMetAt AcrossPlanes ps parts i j
    → IsPairMet AcrossPlanes ps p q
pair_at ps parts i j p q e f met =
    let P : Part → Type 0 = λ u. IsPairMet AcrossPlanes ps u (get_or parts j no_part) in
    let Q : Part → Type 0 = λ u. IsPairMet AcrossPlanes ps p u in
    subst Q f (subst P e (met no_part))

-- the triangle and the piece at two places of their lists
abbrev triangle : List FacetTriangle → ℕ → FacetTriangle
triangle ts i = get_or ts i no_triangle

abbrev piece : List Piece → ℕ → Piece
piece pieces i = get_or pieces i no_piece

-- the piece at a place of the list of parts
piece_of : (ts : List FacetTriangle) (pieces : List Piece) (k : ℕ) → length ts ≤ k → k < length (parts_in ts pieces) → get_or (parts_in ts pieces) k no_part ≡ Segment (piece pieces (k - length ts))
piece_of ts pieces k o l =
    let c = count_parts ts pieces in
    ap (λ m. get_or (parts_in ts pieces) m no_part) (omega arith) ∙ piece_at ts pieces (k - length ts) no_piece (omega arith)

-- two parts of the list are properly met, where they are so as two triangles, or as a triangle and a piece
pair_met : (ps : List Point) (ts : List FacetTriangle) (pieces : List Piece) (i j : ℕ) → i < j → j < length (parts_in ts pieces)
    → (i < length ts → j < length ts → ProperlyMet ps (corner_numbers (triangle ts i)) (corner_numbers (triangle ts j)))
    → (i < length ts → length ts ≤ j → j - length ts < length pieces → ProperlyMet ps (corner_numbers (triangle ts i)) (ends (piece pieces (j - length ts))))
    → AreMetAt WithTriangle ps (parts_in ts pieces) i j
pair_met ps ts pieces i j h n two one = go (before_or i (length ts)) (before_or j (length ts))
  where
    go : (i < length ts) ⊎ (length ts ≤ i) → (j < length ts) ⊎ (length ts ≤ j) → AreMetAt WithTriangle ps (parts_in ts pieces) i j
    go (inl a) (inl b) =
        met_at ps (parts_in ts pieces) i j (Triangle (triangle ts i)) (Triangle (triangle ts j)) h n (triangle_at ts pieces i no_triangle a) (triangle_at ts pieces j no_triangle b) (λ t. two a b)
    go (inl a) (inr b) =
        let c = count_parts ts pieces in
        met_at ps (parts_in ts pieces) i j (Triangle (triangle ts i)) (Segment (piece pieces (j - length ts))) h n (triangle_at ts pieces i no_triangle a) (piece_of ts pieces j b n)
        (λ t. one a b (omega arith))
    go (inr a) (inl b) = absurd (omega arith)
    go (inr a) (inr b) =
        met_at ps (parts_in ts pieces) i j (Segment (piece pieces (i - length ts))) (Segment (piece pieces (j - length ts))) h n (piece_of ts pieces i a (omega arith)) (piece_of ts pieces j b n)
        (λ t. absurd (false≢true t))

-- what is compared across planes is compared
across_has : (ps : List Point) (p q : Part) → is_across ps p q ≡ true → has_triangle p q ≡ true
across_has ps (Triangle t) (Triangle u) h = refl
across_has ps (Triangle t) (Segment p) h = refl
across_has ps (Segment p) q h = h

met_across : (ps : List Point) (p q : Part) → IsPairMet WithTriangle ps p q → IsPairMet AcrossPlanes ps p q
met_across ps p q met h = met (across_has ps p q h)

pub known_parts : (ps : List Point) (ts : List FacetTriangle) (pieces : List Piece) (marks : List Bool) → AreKnownMet ps ts pieces marks
    → AreMarkedMet AcrossPlanes ps (parts_in ts pieces) marks
known_parts ps ts pieces marks known i j h n mi mj d =
    met_across ps (get_or (parts_in ts pieces) i d) (get_or (parts_in ts pieces) j d)
    (pair_met ps ts pieces i j h n (λ a b. known.triangles_meet i j no_triangle h b mi mj) (λ a b l. known.triangles_meet_pieces i (j - length ts) no_triangle no_piece a l mi) d)

-- ---- parts that are known to be met in their plane

two_met : (ps : List Point) (t u : FacetTriangle) → (t.facet ≡ u.facet → ProperlyMet ps (corner_numbers t) (corner_numbers u)) → IsPairMet AcrossPlanes ps (Triangle t) (Triangle u)
    → ProperlyMet ps (corner_numbers t) (corner_numbers u)
two_met ps t u flat met = go (either (t.facet == u.facet))
  where
    go : ((t.facet == u.facet) ≡ true) ⊎ ((t.facet == u.facet) ≡ false) → ProperlyMet ps (corner_numbers t) (corner_numbers u)
    go (inl e) = flat (eqb-true t.facet u.facet e)
    go (inr e) = met (ap not e)

one_met : (ps : List Point) (t : FacetTriangle) (p : Piece) → (IsTrue (lies_in_plane ps t p) → ProperlyMet ps (corner_numbers t) (ends p)) → IsPairMet AcrossPlanes ps (Triangle t) (Segment p)
    → ProperlyMet ps (corner_numbers t) (ends p)
one_met ps t p flat met = go (either (lies_in_plane ps t p))
  where
    go : (lies_in_plane ps t p ≡ true) ⊎ (lies_in_plane ps t p ≡ false) → ProperlyMet ps (corner_numbers t) (ends p)
    go (inl e) = flat e
    go (inr e) = met (ap not e)

flat_met : (ps : List Point) (ts : List FacetTriangle) (pieces : List Piece) → AreFlatMet ps ts pieces → (i j : ℕ) → i < j → j < length (parts_in ts pieces)
    → AreMetAt AcrossPlanes ps (parts_in ts pieces) i j → AreMetAt WithTriangle ps (parts_in ts pieces) i j
flat_met ps ts pieces flat i j h n met =
    pair_met ps ts pieces i j h n
    (λ a b. two_met ps (triangle ts i) (triangle ts j) (flat.triangles_meet i j no_triangle h b)
    (pair_at ps (parts_in ts pieces) i j (Triangle (triangle ts i)) (Triangle (triangle ts j)) (triangle_at ts pieces i no_triangle a) (triangle_at ts pieces j no_triangle b) met))
    (λ a b l. one_met ps (triangle ts i) (piece pieces (j - length ts)) (flat.triangles_meet_pieces i (j - length ts) no_triangle no_piece a l)
    (pair_at ps (parts_in ts pieces) i j (Triangle (triangle ts i)) (Segment (piece pieces (j - length ts))) (triangle_at ts pieces i no_triangle a) (piece_of ts pieces j b n) met))

-- where all are met across planes, all are
pub all_met : (ps : List Point) (ts : List FacetTriangle) (pieces : List Piece) → AreFlatMet ps ts pieces → ArePairwiseMet AcrossPlanes ps (parts_in ts pieces) → ArePairwiseMet WithTriangle ps (parts_in ts pieces)
all_met ps ts pieces flat all i j d h n = flat_met ps ts pieces flat i j h n (λ e. all i j e h n) d

-- and the first two that are not met across planes are the first two that are not
first_met : (ps : List Point) (ts : List FacetTriangle) (pieces : List Piece) (i j : ℕ) → AreFlatMet ps ts pieces → IsFirstPair AcrossPlanes ps (parts_in ts pieces) i j
    → IsFirstPair WithTriangle ps (parts_in ts pieces) i j
first_met ps ts pieces i j flat found = record {
  is = record {
    order = found.is.order;
    within = found.is.within;
    unmet = λ d met. found.is.unmet d (met_across ps (get_or (parts_in ts pieces) i d) (get_or (parts_in ts pieces) j d) met);
  };
  first = λ k l h n before. flat_met ps ts pieces flat k l h n (found.first k l h n before);
}

part_is : (parts xs : List Part) (i : ℕ) (one : Part) → parts ≡ xs → i < length xs → one ≡ get_or parts i one → (d : Part) → get_or xs i d ≡ one
part_is parts xs i one same h is d = get_or_default xs i d one h ∙ ap (λ ys. get_or ys i one) (sym same) ∙ sym is

pub first_crossing : (ps : List Point) (ts : List FacetTriangle) (pieces : List Piece) (parts : List Part) (i j : ℕ) (one two : Part) → AreFlatMet ps ts pieces → parts ≡ parts_in ts pieces
    → IsFirstPair AcrossPlanes ps (parts_in ts pieces) i j → one ≡ get_or parts i one → two ≡ get_or parts j two → IsFirstCrossing ps ts pieces one two
first_crossing ps ts pieces parts i j one two flat same found is is' =
    let h = found.is.order in
    let n = found.is.within in
    record {
      i = i;
      j = j;
      one_is = part_is parts (parts_in ts pieces) i one same (omega arith) is;
      two_is = part_is parts (parts_in ts pieces) j two same n is';
      first = first_met ps ts pieces i j flat found;
    }
