-- The text of a list of rows determines the list: numbers end at spaces, attributes at line feeds.
use Rattle.std.proofs.Common.{◌≡◌, ◌≢◌, ◌⊎◌, inl, inr, ◌++◌, ◌+◌, ◌/◌, ◌%◌, ◌^◌, ◌<◌, ◌≤◌, ◌==◌, ℕ, zero, suc, true, false, List, [], ◌∷◌, Option, Some, None, length, refl, sym, ap, subst, ◌∙◌, append_assoc, arith}
use Rattle.std.specs.Prelude.{flat_map, map, pos, if◌then◌else◌, All, AllPairs, Contains, slice_index, slice_index_or}
use Rattle.std.specs.List.{enumerate_from}
use Rattle.std.specs.Fmt.{decimal, digits, digits_onto, digit_glyph, signed_decimal}
use Rattle.std.proofs.Math.Nat.{suc_inj}
use Rattle.std.proofs.lemmas.Bool.{cases_lt, cases_order}
use Rattle.std.proofs.lemmas.Bool.Decides.{nat_tests}
use Rattle.std.proofs.lemmas.Fmt.{decimal_injective}
use Rattle.std.proofs.lemmas.List.{append_cancel_left, get_or_past}
use Rattle.std.proofs.lemmas.List.Elements.{All-nil, All-cons, All-head, All-tail, All-contains_itself, All-weaker, All-map}
use Rattle.geo_laws.specs.Delaunay.{numbers}
use Rattle.geo_laws.specs.declared.complex.Region.{Region}
use Rattle.geo_laws.specs.declared.tetrahedra.Tet.{Tet}
use Rattle.mesh_files.specs.Texts.{fields_then, text_line, attribute_of, AreNamed}
use Rattle.mesh_files.specs.Laws.{AreInOneLine, EleTextLaw}

-- ---- where a text is cut

-- there is a first byte, and it is not so
abbrev Stops : (ℕ → Type 0) → List ℕ → Type 0
Stops P [] = ⊥
Stops P (c ∷ s) = ¬ P c

-- a text is cut in one way only before the first byte that is not so
cut : (P : ℕ → Type 0) (xs ys s t : List ℕ) → All P xs → All P ys → Stops P s → Stops P t → xs ++ s ≡ ys ++ t → (xs ≡ ys) × (s ≡ t)
cut P [] [] s t all all' stop stop' e = (refl, e)
cut P [] (y ∷ ys) [] t all all' stop stop' e = absurd stop
cut P [] (y ∷ ys) (c ∷ s) t all all' stop stop' e =
    let same : y ≡ c = cc in absurd (stop (subst P same (All-head P y ys all')))
cut P (x ∷ xs) [] s [] all all' stop stop' e = absurd stop'
cut P (x ∷ xs) [] s (d ∷ t) all all' stop stop' e =
    let same : x ≡ d = cc in absurd (stop' (subst P same (All-head P x xs all)))
cut P (x ∷ xs) (y ∷ ys) s t all all' stop stop' e =
    let first : x ≡ y = cc in
    let after : xs ++ s ≡ ys ++ t = cc in
    let both = cut P xs ys s t (All-tail P x xs all) (All-tail P y ys all') stop stop' after in
    let rest : xs ≡ ys = both.0 in
    (cc, both.1)

-- ---- numbers

-- digits stand past the blanks and the line feed
abbrev IsGlyph : ℕ → Type 0
IsGlyph c = 48 ≤ c

glyph : (d : ℕ) → IsGlyph (digit_glyph false d)
glyph d = grind (arith, nat_tests)

glyphs_onto : (k n : ℕ) (acc : List ℕ) → All IsGlyph acc → All IsGlyph (digits_onto k 10 false n acc)
glyphs_onto zero n acc all = all
glyphs_onto (suc k) n acc all =
    let c = digit_glyph false (n % 10) in
    let more = All-cons IsGlyph c acc (glyph (n % 10)) all in
    elim (n / 10 == 0) as (λ b. All IsGlyph (if b then c ∷ acc else digits_onto k 10 false (n / 10) (c ∷ acc))) [
      | true ↦ more
      | false ↦ glyphs_onto k (n / 10) (c ∷ acc) more
    ]

glyphs : (n : ℕ) → All IsGlyph (decimal n)
unfolding digits
glyphs n = glyphs_onto 64 n [] (All-nil IsGlyph)

-- numbers as they are told, each after a space, and what follows
abbrev numbers_then : (ℕ → ℕ) → List ℕ → List ℕ → List ℕ
numbers_then told [] rest = rest
numbers_then told (n ∷ ns) rest = 32 ∷ (decimal (told n) ++ numbers_then told ns rest)

fields_are : (told : ℕ → ℕ) (ns rest : List ℕ) → flat_map (λ z. 32 ∷ signed_decimal z) (map (λ n. pos (told n)) ns) ++ rest ≡ numbers_then told ns rest
fields_are told [] rest = refl
fields_are told (n ∷ ns) rest =
    let front = decimal (told n) in
    let left = flat_map (λ z. 32 ∷ signed_decimal z) (map (λ n. pos (told n)) ns) in
    ap (λ s. 32 ∷ s) (append_assoc front left rest ∙ ap (λ s. front ++ s) (fields_are told ns rest))

stops_then : (told : ℕ → ℕ) (ns rest : List ℕ) → Stops IsGlyph rest → Stops IsGlyph (numbers_then told ns rest)
stops_then told [] rest stop = stop
stops_then told (n ∷ ns) rest stop = λ h. absurd (omega arith)

-- numbers below a count are told by numbers that differ and fit 64 bits
record AreTold (count : ℕ) (told : ℕ → ℕ) : Type 0 where
  fits : (n : ℕ) → n < count → told n < 2 ^ 64
  one : (n m : ℕ) → n < count → m < count → told n ≡ told m → n ≡ m

-- as many numbers that print as the same text are the same
numbers_same : (count : ℕ) (told : ℕ → ℕ) → AreTold count told → (ns ms s t : List ℕ) → length ns ≡ length ms → All (λ n. n < count) ns → All (λ n. n < count) ms
    → Stops IsGlyph s → Stops IsGlyph t → numbers_then told ns s ≡ numbers_then told ms t → (ns ≡ ms) × (s ≡ t)
numbers_same count told are [] [] s t long small small' stop stop' e = (refl, e)
numbers_same count told are [] (m ∷ ms) s t long small small' stop stop' e = absurd (omega arith)
numbers_same count told are (n ∷ ns) [] s t long small small' stop stop' e = absurd (omega arith)
numbers_same count told are (n ∷ ns) (m ∷ ms) s t long small small' stop stop' e =
    let below = λ (k : ℕ). k < count in
    let lt : n < count = All-head below n ns small in
    let lt' : m < count = All-head below m ms small' in
    let after : decimal (told n) ++ numbers_then told ns s ≡ decimal (told m) ++ numbers_then told ms t = cc in
    let both = cut IsGlyph (decimal (told n)) (decimal (told m)) (numbers_then told ns s) (numbers_then told ms t)
    (glyphs (told n)) (glyphs (told m)) (stops_then told ns s stop) (stops_then told ms t stop') after in
    let same : n ≡ m = are.one n m lt lt' (decimal_injective (told n) (told m) (are.fits n lt) (are.fits m lt') both.0) in
    let rest = numbers_same count told are ns ms s t (suc_inj long) (All-tail below n ns small) (All-tail below m ms small') stop stop' both.1 in
    let others : ns ≡ ms = rest.0 in
    (cc, rest.1)

-- names that differ, counted from a first number
abbrev named : List ℕ → ℕ → ℕ → ℕ
named names first n = slice_index names n + first

names_told : (names : List ℕ) (first : ℕ) → AllPairs ◌≢◌ names → All (λ n. n + first < 2 ^ 64) names → AreTold (length names) (named names first)
names_told names first apart fits = record {
  fits = λ n l. fits n 0 l;
  one = λ n m l k e. pick n m l k (omega (arith, e)) (cases_order n m);
}
  where
    pick : (n m : ℕ) → n < length names → m < length names → slice_index names n ≡ slice_index names m → (n ≡ m) ⊎ ((n < m) ⊎ (m < n)) → n ≡ m
    pick n m l k e (inl same) = same
    pick n m l k e (inr (inl less)) = absurd (apart n m 0 less k e)
    pick n m l k e (inr (inr more)) = absurd (apart m n 0 more l (sym e))

-- ---- rows

row_of : List ℕ → Tet
row_of (a ∷ b ∷ c ∷ d ∷ ns) = record { a = a; b = b; c = c; d = d }
row_of _ = record { a = 0; b = 0; c = 0; d = 0 }

same_row : (t u : Tet) → numbers t ≡ numbers u → t ≡ u
unfolding row_of
same_row t u e = ap row_of e

-- the lines of rows from a place on, each with its own end
abbrev lines : (ℕ → List ℕ) → List ℕ → ℕ → ℕ → List Tet → List ℕ
lines end names first place rows =
    flat_map (λ r. fields_then (r.0 + first) (map (λ n. pos (named names first n)) (numbers r.1)) (end r.0)) (enumerate_from place rows)

line_then : (end : ℕ → List ℕ) (names : List ℕ) (first place : ℕ) (t : Tet) (rest : List ℕ)
    → fields_then (place + first) (map (λ n. pos (named names first n)) (numbers t)) (end place) ++ rest
    ≡ decimal (place + first) ++ numbers_then (named names first) (numbers t) (end place ++ rest)
line_then end names first place t rest =
    let number = decimal (place + first) in
    let fields = flat_map (λ z. 32 ∷ signed_decimal z) (map (λ n. pos (named names first n)) (numbers t)) in
    append_assoc (number ++ fields) (end place) rest ∙ append_assoc number fields (end place ++ rest)
    ∙ ap (λ s. number ++ s) (fields_are (named names first) (numbers t) (end place ++ rest))

not_empty : (xs : List ℕ) (c : ℕ) (s : List ℕ) → [] ≡ xs ++ (c ∷ s) → ⊥
not_empty [] c s e = cc
not_empty (x ∷ xs) c s e = cc

-- the ends of lines at a place, before what follows
record AreEnds (end end' : ℕ → List ℕ) : Type 0 where
  stops : (place : ℕ) (s : List ℕ) → Stops IsGlyph (end place ++ s)
  stops' : (place : ℕ) (s : List ℕ) → Stops IsGlyph (end' place ++ s)
  cuts : (place : ℕ) (s t : List ℕ) → end place ++ s ≡ end' place ++ t → s ≡ t

-- the corners of the row have names
abbrev HasNames : List ℕ → Tet → Type 0
HasNames names t = AreNamed names (numbers t)

rows_same : (end end' : ℕ → List ℕ) → AreEnds end end' → (names : List ℕ) (first : ℕ) → AreTold (length names) (named names first) → (place : ℕ) (rows rows' : List Tet)
    → All (HasNames names) rows → All (HasNames names) rows' → lines end names first place rows ≡ lines end' names first place rows' → rows ≡ rows'
rows_same end end' ends names first told place [] [] on on' e = refl
rows_same end end' ends names first told place [] (u ∷ us) on on' e =
    absurd (not_empty (decimal (place + first)) _ _ (e ∙ line_then end' names first place u (lines end' names first (place + 1) us)))
rows_same end end' ends names first told place (t ∷ ts) [] on on' e =
    absurd (not_empty (decimal (place + first)) _ _ (sym e ∙ line_then end names first place t (lines end names first (place + 1) ts)))
rows_same end end' ends names first told place (t ∷ ts) (u ∷ us) on on' e =
    let left = lines end names first (place + 1) ts in
    let left' = lines end' names first (place + 1) us in
    let whole = sym (line_then end names first place t left) ∙ e ∙ line_then end' names first place u left' in
    let fields = append_cancel_left (decimal (place + first)) _ _ whole in
    let both = numbers_same (length names) (named names first) told (numbers t) (numbers u) (end place ++ left) (end' place ++ left') refl
    (All-head (HasNames names) t ts on) (All-head (HasNames names) u us on') (ends.stops place left) (ends.stops' place left') fields in
    let same : t ≡ u = same_row t u both.0 in
    let others : ts ≡ us = rows_same end end' ends names first told (place + 1) ts us (All-tail (HasNames names) t ts on) (All-tail (HasNames names) u us on')
    (ends.cuts place left left' both.1) in
    cc

-- ---- attributes

-- no line feed
abbrev InLine : ℕ → Type 0
InLine c = c ≢ 10

in_line : (text : List ℕ) → ¬ Contains text 10 → All InLine text
in_line text none = All-weaker (Contains text) InLine (λ c has. λ e. none (subst (Contains text) e has)) text (All-contains_itself text)

attribute_in_line : (regions : List Region) → AreInOneLine regions → (mark : Option ℕ) → All InLine (attribute_of regions mark)
attribute_in_line regions lines None = All-cons InLine 48 [] (λ e. omega arith) (All-nil InLine)
attribute_in_line regions lines (Some k) =
    let texts = map (λ (r : Region). r.attribute) regions in
    let each : All (λ text. All InLine text) texts =
    All-map (λ text. All InLine text) (λ (r : Region). r.attribute) regions
    (All-weaker (λ (r : Region). ¬ Contains r.attribute 10) (λ r. All InLine r.attribute) (λ r. in_line r.attribute) regions lines) in
    elim (cases_lt k (length texts)) [
      | inl lt ↦ each k [] lt
      | inr past ↦ rw (get_or_past texts k [] past) (All-nil InLine)
    ]

-- what ends a line without a mark, and one with the mark of its place
abbrev bare_end : ℕ → List ℕ
bare_end place = 10 ∷ []

abbrev marked_end : List Region → List (Option ℕ) → ℕ → List ℕ
marked_end regions marks place = 32 ∷ attribute_of regions (slice_index_or marks place None) ++ (10 ∷ [])

bare_ends : AreEnds bare_end bare_end
bare_ends = record {
  stops = λ place s h. absurd (omega arith);
  stops' = λ place s h. absurd (omega arith);
  cuts = λ place s t e. append_cancel_left (10 ∷ []) s t e;
}

marked_cut : (regions regions' : List Region) (mark mark' : Option ℕ) (s t : List ℕ) → AreInOneLine regions → AreInOneLine regions'
    → (32 ∷ attribute_of regions mark ++ (10 ∷ [])) ++ s ≡ (32 ∷ attribute_of regions' mark' ++ (10 ∷ [])) ++ t → s ≡ t
marked_cut regions regions' mark mark' s t lines lines' e =
    let a = attribute_of regions mark in
    let b = attribute_of regions' mark' in
    let after : (a ++ (10 ∷ [])) ++ s ≡ (b ++ (10 ∷ [])) ++ t = append_cancel_left (32 ∷ []) _ _ e in
    let whole = sym (append_assoc a (10 ∷ []) s) ∙ after ∙ append_assoc b (10 ∷ []) t in
    let both = cut InLine a b (10 ∷ s) (10 ∷ t) (attribute_in_line regions lines mark) (attribute_in_line regions' lines' mark') (λ h. h refl) (λ h. h refl) whole in
    append_cancel_left (10 ∷ []) s t both.1

marked_ends : (regions regions' : List Region) (marks marks' : List (Option ℕ)) → AreInOneLine regions → AreInOneLine regions'
    → AreEnds (marked_end regions marks) (marked_end regions' marks')
marked_ends regions regions' marks marks' lines lines' = record {
  stops = λ place s h. absurd (omega arith);
  stops' = λ place s h. absurd (omega arith);
  cuts = λ place s t e.
      marked_cut regions regions' (slice_index_or marks place None) (slice_index_or marks' place None) s t lines lines' e;
}

-- ---- the first line

-- the number of rows, four corners, and how many attributes
header_same : (n n' k k' : ℕ) (s t : List ℕ) → k < 10 → k' < 10
    → text_line n (pos 4 ∷ pos k ∷ []) ++ s ≡ text_line n' (pos 4 ∷ pos k' ∷ []) ++ t → (k ≡ k') × (s ≡ t)
header_same n n' k k' s t lt lt' e =
    let front = λ (j : ℕ). flat_map (λ z. 32 ∷ signed_decimal z) (pos 4 ∷ pos j ∷ []) in
    let itself = λ (j : ℕ). j in
    let apart = λ (m j : ℕ) (r : List ℕ). append_assoc (decimal m ++ front j) (10 ∷ []) r ∙ append_assoc (decimal m) (front j) (10 ∷ r)
    ∙ ap (λ (s : List ℕ). decimal m ++ s) (fields_are itself (4 ∷ j ∷ []) (10 ∷ r)) in
    let whole = sym (apart n k s) ∙ e ∙ apart n' k' t in
    let both = cut IsGlyph (decimal n) (decimal n') _ _ (glyphs n) (glyphs n') (stops_then itself (4 ∷ k ∷ []) (10 ∷ s) (λ h. absurd (omega arith)))
    (stops_then itself (4 ∷ k' ∷ []) (10 ∷ t) (λ h. absurd (omega arith))) whole in
    let below = λ (j : ℕ). j < 10 in
    let small = λ (j : ℕ) (l : j < 10). All-cons below 4 (j ∷ []) (omega arith) (All-cons below j [] l (All-nil below)) in
    let are : AreTold 10 itself = record { fits = λ n l. omega arith; one = λ n m l k e. e } in
    let counts = numbers_same 10 itself are (4 ∷ k ∷ []) (4 ∷ k' ∷ []) (10 ∷ s) (10 ∷ t) refl (small k lt) (small k' lt')
    (λ h. absurd (omega arith)) (λ h. absurd (omega arith)) both.1 in
    let same : 4 ∷ k ∷ [] ≡ 4 ∷ k' ∷ [] = counts.0 in
    (cc, append_cancel_left (10 ∷ []) s t counts.1)

pub law_ele_text : EleTextLaw
law_ele_text names first None None regions regions' rows rows' apart fits on on' lines lines' e =
    rows_same bare_end bare_end bare_ends names first (names_told names first apart fits) 0 rows rows' on on' (header_same (length rows) (length rows') 0 0 _ _ (omega arith) (omega arith) e).1
law_ele_text names first None (Some marks') regions regions' rows rows' apart fits on on' lines lines' e =
    let flags = (header_same (length rows) (length rows') 0 1 _ _ (omega arith) (omega arith) e).0 in absurd (omega arith)
law_ele_text names first (Some marks) None regions regions' rows rows' apart fits on on' lines lines' e =
    let flags = (header_same (length rows) (length rows') 1 0 _ _ (omega arith) (omega arith) e).0 in absurd (omega arith)
law_ele_text names first (Some marks) (Some marks') regions regions' rows rows' apart fits on on' lines lines' e =
    rows_same (marked_end regions marks) (marked_end regions' marks') (marked_ends regions regions' marks marks' lines lines') names first (names_told names first apart fits) 0 rows rows' on on'
    (header_same (length rows) (length rows') 1 1 _ _ (omega arith) (omega arith) e).1
