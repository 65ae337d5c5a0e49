-- What comes first comes at one place: the first facet that is not flat, the first pieces and the first parts that are not properly met. And where all
-- is well nothing comes first.
use Rattle.std.proofs.Common.{◌≡◌, ◌⊎◌, inl, inr, ℕ, ◌+◌, ◌-◌, ◌<◌, ◌≤◌, true, false, List, [], map, take, length, get_or, None, Some, ap, sym, subst, ◌∙◌, arith}
use Rattle.std.specs.Prelude.{All}
use Rattle.std.proofs.lemmas.Bool.{cases_order, cases_lt}
use Rattle.std.proofs.lemmas.List.{get_or-map, length-map, get_or_append_left, get_or-append_right, length-append, length-take-le, get_or-take}
use Rattle.sign_predicates.specs.Point.{Point}
use Rattle.geo_laws.specs.Simplex.{ProperlyMet}
use Rattle.geo_laws.specs.Facet.{Facet, IsFlat, corner_numbers}
use Rattle.geo_laws.specs.declared.tetrahedra.Tet.{Tet}
use Rattle.geo_laws.specs.declared.complex.Piece.{Piece}
use Rattle.geo_laws.specs.declared.complex.FacetTriangle.{FacetTriangle}
use Rattle.facet_laws.specs.Plane.{four_apart}
use Rattle.facet_laws.proofs.FlatTest.{law_flat}
use Rattle.facet_plane.specs.Flat.{IsFirstNotFlat}
use Rattle.facet_plane.specs.declared.flat.NotFlat.{NotFlat}
use Rattle.segment_protect.specs.Crossing.{AreMet, ArePiecesPairwiseMet, IsFirstPieceCrossing as IsFirstSegments}
use Rattle.simplex_meets.specs.declared.complex_parts.Compared.TheVariants.{WithTriangle}
use Rattle.simplex_meets.specs.declared.complex_parts.Part.{Part}
use Rattle.simplex_meets.specs.declared.complex_parts.Part.TheVariants.{Triangle, Segment}
use Rattle.simplex_meets.specs.Parts.{IsPairMet}
use Rattle.simplex_meets.specs.Pairs.{IsUnmet}
use Rattle.simplex_meets.specs.Crossing.{parts_in, AreTrianglesMet, IsFirstCrossing as IsFirstParts}

-- ---- the first of places, and of pairs of places

first_place : (Bad : ℕ → Type 0) (i j : ℕ) → Bad i → Bad j → ((k : ℕ) → k < i → ¬ Bad k) → ((k : ℕ) → k < j → ¬ Bad k) → i ≡ j
first_place Bad i j bad bad' before before' = by (cases_order i j)
  where
    by : (i ≡ j) ⊎ ((i < j) ⊎ (j < i)) → i ≡ j
    by (inl e) = e
    by (inr (inl h)) = absurd (before' i h bad)
    by (inr (inr h)) = absurd (before j h bad')

-- one pair of places stands before another
abbrev IsBefore : ℕ → ℕ → ℕ → ℕ → Type 0
IsBefore k l i j = (k < i) ⊎ (k ≡ i) × (l < j)

pair_order : (i j k l : ℕ) → ((i ≡ k) × (j ≡ l)) ⊎ (IsBefore i j k l ⊎ IsBefore k l i j)
pair_order i j k l = by (cases_order i k) (cases_order j l)
  where
    by : (i ≡ k) ⊎ ((i < k) ⊎ (k < i)) → (j ≡ l) ⊎ ((j < l) ⊎ (l < j)) → ((i ≡ k) × (j ≡ l)) ⊎ (IsBefore i j k l ⊎ IsBefore k l i j)
    by (inl e) (inl f) = inl (e, f)
    by (inl e) (inr (inl h)) = inr (inl (inr (e, h)))
    by (inl e) (inr (inr h)) = inr (inr (inr (sym e, h)))
    by (inr (inl h)) f = inr (inl (inl h))
    by (inr (inr h)) f = inr (inr (inl h))

first_pair : (Bad : ℕ → ℕ → Type 0) (i j k l : ℕ) → Bad i j → Bad k l → ((m n : ℕ) → IsBefore m n i j → ¬ Bad m n) → ((m n : ℕ) → IsBefore m n k l → ¬ Bad m n) → (i ≡ k) × (j ≡ l)
first_pair Bad i j k l bad bad' before before' = by (pair_order i j k l)
  where
    by : ((i ≡ k) × (j ≡ l)) ⊎ (IsBefore i j k l ⊎ IsBefore k l i j) → (i ≡ k) × (j ≡ l)
    by (inl e) = e
    by (inr (inl h)) = absurd (before' i j h bad)
    by (inr (inr h)) = absurd (before k l h bad')

-- what stands at one place is one
at_same : {X : Type 0} (xs : List X) (i j : ℕ) (x y : X) → i ≡ j → ((d : X) → get_or xs i d ≡ x) → ((d : X) → get_or xs j d ≡ y) → x ≡ y
at_same xs i j x y e f g = sym (f x) ∙ ap (λ n. get_or xs n x) e ∙ g x

-- what holds of the elements before a place holds of each of them
all_before : {X : Type 0} (P : X → Type 0) (xs : List X) (i k : ℕ) (d : X) → i < length xs → All P (take i xs) → k < i → P (get_or xs k d)
all_before P xs i k d h all n = subst P (get_or-take i xs k d n) (all k d (let l = length-take-le i xs (omega arith) in omega arith))

-- ---- facets

-- a facet with four corners apart is not flat
pub apart_not_flat : (ps : List Point) (f : Facet) (four : Tet) → four_apart ps f ≡ Some four → ¬ IsFlat ps f
apart_not_flat ps f four e flat = never (sym ((law_flat ps f).1 flat) ∙ e)
  where
    never : None ≡ Some four → ⊥
    never e = cc

no_facet : Facet
no_facet = record { polygons = []; holes = [] }

pub not_flat_once : (ps : List Point) (fs : List Facet) (x y : NotFlat) → IsFirstNotFlat ps fs x → IsFirstNotFlat ps fs y → (x.facet ≡ y.facet) × (x.four ≡ y.four)
not_flat_once ps fs x y h k = (same, some_same x.four y.four (sym (h.four no_facet) ∙ ap (λ n. four_apart ps (get_or fs n no_facet)) same ∙ k.four no_facet))
  where
    some_same : (s t : Tet) → Some s ≡ Some t → s ≡ t
    some_same s t e = cc

    bent : (z : NotFlat) → IsFirstNotFlat ps fs z → ¬ IsFlat ps (get_or fs z.facet no_facet)
    bent z m = apart_not_flat ps (get_or fs z.facet no_facet) z.four (m.four no_facet)

    before : (z : NotFlat) → IsFirstNotFlat ps fs z → (n : ℕ) → n < z.facet → ¬ (¬ IsFlat ps (get_or fs n no_facet))
    before z m n l not = not (all_before (IsFlat ps) fs z.facet n no_facet m.there m.before l)

    same : x.facet ≡ y.facet
    same = first_place (λ n. ¬ IsFlat ps (get_or fs n no_facet)) x.facet y.facet (bent x h) (bent y k) (before x h) (before y k)

pub flat_none : (ps : List Point) (fs : List Facet) (x : NotFlat) → IsFirstNotFlat ps fs x → ¬ All (IsFlat ps) fs
flat_none ps fs x h flat = apart_not_flat ps (get_or fs x.facet no_facet) x.four (h.four no_facet) (flat x.facet no_facet h.there)

-- ---- pieces of segments

-- the pieces at two places are not properly met
record CrossAt (ps : List Point) (pieces : List Piece) (i j : ℕ) : Type 0 where
  order : i < j
  within : j < length pieces
  cross : (d : Piece) → ¬ AreMet ps (get_or pieces i d) (get_or pieces j d)

met_pair : (ps : List Point) (p q s t : Piece) → p ≡ s → q ≡ t → AreMet ps p q → AreMet ps s t
met_pair ps p q s t e f h = subst (λ u. AreMet ps s u) f (subst (λ u. AreMet ps u q) e h)

cross_at : (ps : List Point) (pieces : List Piece) (one two : Piece) (h : IsFirstSegments ps pieces one two) → CrossAt ps pieces h.i h.j
cross_at ps pieces one two h = record {
  order = h.order;
  within = h.within;
  cross = λ d met. h.cross (met_pair ps (get_or pieces h.i d) (get_or pieces h.j d) one two (h.one_is d) (h.two_is d) met);
}

pub segments_once : (ps : List Point) (pieces : List Piece) (one two one' two' : Piece) → IsFirstSegments ps pieces one two → IsFirstSegments ps pieces one' two' → (one ≡ one') × (two ≡ two')
segments_once ps pieces one two one' two' h k = (at_same pieces h.i k.i one one' same.0 h.one_is k.one_is, at_same pieces h.j k.j two two' same.1 h.two_is k.two_is)
  where
    same : (h.i ≡ k.i) × (h.j ≡ k.j)
    same = first_pair (CrossAt ps pieces) h.i h.j k.i k.j (cross_at ps pieces one two h) (cross_at ps pieces one' two' k)
        (λ m n before bad. bad.cross one (h.first m n bad.order bad.within before one)) (λ m n before bad. bad.cross one (k.first m n bad.order bad.within before one))

pub segments_none : (ps : List Point) (pieces : List Piece) (one two : Piece) → IsFirstSegments ps pieces one two → ¬ ArePiecesPairwiseMet ps pieces
segments_none ps pieces one two h met = (cross_at ps pieces one two h).cross one (met h.i h.j one h.order h.within)

-- ---- triangles and pieces

pub parts_once : (ps : List Point) (ts : List FacetTriangle) (pieces : List Piece) (one two one' two' : Part) → IsFirstParts ps ts pieces one two → IsFirstParts ps ts pieces one' two' → (one ≡ one') × (two ≡ two')
parts_once ps ts pieces one two one' two' h k =
    (at_same (parts_in ts pieces) h.i k.i one one' same.0 h.one_is k.one_is, at_same (parts_in ts pieces) h.j k.j two two' same.1 h.two_is k.two_is)
  where
    same : (h.i ≡ k.i) × (h.j ≡ k.j)
    same = first_pair (IsUnmet WithTriangle ps (parts_in ts pieces)) h.i h.j k.i k.j h.first.is k.first.is
        (λ m n before bad. bad.unmet one (h.first.first m n bad.order bad.within before one)) (λ m n before bad. bad.unmet one (k.first.first m n bad.order bad.within before one))

no_triangle : FacetTriangle
no_triangle = record { facet = 0; a = 0; b = 0; c = 0 }

no_piece : Piece
no_piece = record { a = 0; b = 0; halvings = 0 }

-- what stands at a place of the list of parts: a triangle, or behind the triangles a piece
data PartAt (ts : List FacetTriangle) (pieces : List Piece) (i : ℕ) (p : Part) : Type 0 where
  triangle_at : i < length ts → p ≡ Triangle (get_or ts i no_triangle) → PartAt ts pieces i p
  piece_at : (k : ℕ) → k < length pieces → i ≡ length ts + k → p ≡ Segment (get_or pieces k no_piece) → PartAt ts pieces i p

part_at : (ts : List FacetTriangle) (pieces : List Piece) (i : ℕ) (d : Part) → i < length (parts_in ts pieces) → PartAt ts pieces i (get_or (parts_in ts pieces) i d)
part_at ts pieces i d h = by (cases_lt i (length ts))
  where
    long : length (parts_in ts pieces) ≡ length ts + length pieces
    long = length-append (map Triangle ts) (map Segment pieces) ∙ ap (λ n. n + length (map Segment pieces)) (length-map ts Triangle) ∙ ap (λ n. length ts + n) (length-map pieces Segment)

    by : (i < length ts) ⊎ (length ts ≤ i) → PartAt ts pieces i (get_or (parts_in ts pieces) i d)
    by (inl l) =
        let e = length-map ts Triangle in
        triangle_at l (get_or_append_left (map Triangle ts) (map Segment pieces) d i (omega arith) ∙ get_or-map Triangle ts i no_triangle d l)
    by (inr l) =
        let e = long in
        let n : i - length ts < length pieces = omega arith in
        piece_at (i - length ts) n (omega arith)
        (get_or-append_right (map Triangle ts) (map Segment pieces) (length ts) i d (length-map ts Triangle) l ∙ get_or-map Segment pieces (i - length ts) no_piece d n)

pair_met : (ps : List Point) (p q s t : Part) → p ≡ s → q ≡ t → IsPairMet WithTriangle ps s t → IsPairMet WithTriangle ps p q
pair_met ps p q s t e f h = subst (λ u. IsPairMet WithTriangle ps p u) (sym f) (subst (λ u. IsPairMet WithTriangle ps u t) (sym e) h)

two_triangles : (ps : List Point) (ts : List FacetTriangle) (pieces : List Piece) → AreTrianglesMet ps ts pieces → (i j : ℕ) → i < j → j < length ts
    → ProperlyMet ps (corner_numbers (get_or ts i no_triangle)) (corner_numbers (get_or ts j no_triangle))
two_triangles ps ts pieces met i j h n =
    let e = length-map ts corner_numbers in
    subst (λ u. ProperlyMet ps (corner_numbers (get_or ts i no_triangle)) u) (get_or-map corner_numbers ts j no_triangle [] n)
    (subst (λ u. ProperlyMet ps u (get_or (map corner_numbers ts) j [])) (get_or-map corner_numbers ts i no_triangle [] (omega arith)) (met.triangles_meet i j [] h (omega arith)))

parts_met : (ps : List Point) (ts : List FacetTriangle) (pieces : List Piece) → AreTrianglesMet ps ts pieces → (i j : ℕ) (p q : Part) → i < j → PartAt ts pieces i p → PartAt ts pieces j q → IsPairMet WithTriangle ps p q
parts_met ps ts pieces met i j p q h (triangle_at m e) (triangle_at n f) =
    pair_met ps p q (Triangle (get_or ts i no_triangle)) (Triangle (get_or ts j no_triangle)) e f (λ tested. two_triangles ps ts pieces met i j h n)
parts_met ps ts pieces met i j p q h (triangle_at m e) (piece_at l n a f) =
    pair_met ps p q (Triangle (get_or ts i no_triangle)) (Segment (get_or pieces l no_piece)) e f (λ tested. met.triangles_meet_pieces i no_triangle m l no_piece n)
parts_met ps ts pieces met i j p q h (piece_at k m b e) (triangle_at n f) = absurd (omega arith)
parts_met ps ts pieces met i j p q h (piece_at k m b e) (piece_at l n a f) =
    pair_met ps p q (Segment (get_or pieces k no_piece)) (Segment (get_or pieces l no_piece)) e f (λ tested. absurd (never tested))
  where
    never : false ≡ true → ⊥
    never e = cc

pub parts_none : (ps : List Point) (ts : List FacetTriangle) (pieces : List Piece) (one two : Part) → IsFirstParts ps ts pieces one two → ¬ AreTrianglesMet ps ts pieces
parts_none ps ts pieces one two h met =
    let bad = h.first.is in
    let order : h.i < h.j = bad.order in
    let within : h.j < length (parts_in ts pieces) = bad.within in
    bad.unmet one
    (parts_met ps ts pieces met h.i h.j (get_or (parts_in ts pieces) h.i one) (get_or (parts_in ts pieces) h.j one) order (part_at ts pieces h.i one (omega arith)) (part_at ts pieces h.j one within))
