-- Texts of rows, faces and neighbors, read back.
use Rattle.std.proofs.Common.{◌≡◌, ℕ, zero, suc, ◌+◌, ◌^◌, ◌<◌, ◌≤◌, ℤ, pos, unsigned_abs, true, false, List, [], ◌∷◌, ◌++◌, length, map, Option, Some, None, Result, Ok, refl, ap, sym, subst, ◌∙◌, arith, append_assoc}
use Rattle.std.specs.Prelude.{All, IfSome, slice_index, slice_index_or, flat_map}
use Rattle.std.proofs.lemmas.List.{append-nil}
use Rattle.std.proofs.lemmas.List.Elements.{All-head, All-tail}
use Rattle.std.specs.Fmt.{decimal, signed_decimal}
use Rattle.tet_text.specs.declared.fault.TextFault.{TextFault}
use Rattle.tet_text.specs.Lines.{ContentLine, lines_of, content_lines, content_lines_from}
use Rattle.tet_text.specs.Reading.{◌>>=◌, Fields, end_at}
use Rattle.node_files.specs.Header.{count_within}
use Rattle.tet_text.proofs.ContentLines.{no_line}
use Rattle.geo_laws.specs.declared.tetrahedra.Tet.{Tet}
use Rattle.incidence.specs.declared.pairs.Across.{Across}
use Rattle.geo_laws.specs.declared.complex.Region.{Region}
use Rattle.mesh_files.specs.Texts.{fields_then, text_line, ele_line, ele_lines, ele_text, attribute_of, attributed_lines, attributed_text, face_line, face_lines, neigh_line, neigh_lines, neighbor}
use Rattle.mesh_files.specs.declared.markers.FaceRow.{FaceRow}
use Rattle.mesh_files.specs.ReadFields.{four_head, flag_head, flag_at, passed_over}
use Rattle.mesh_files.specs.Repeated.{next_row}
use Rattle.mesh_files.specs.ReadRows.{tet_row, tets_of, ele_of, face_row, face_rows_of, across_row, neighbors_of}
use Rattle.run_laws.specs.Renamed.{renamed_row, renamed_face}
use Rattle.run_laws.specs.Reread.{IsShortNumber, IsPlainField, AreLegibleMarks, HasNames, HasFaceNames, AreBelow, EleReadLaw, FaceReadLaw, NeighReadLaw}
use Rattle.run_laws.proofs.Words.{IsWord, AreWords, joined, line_read}
use Rattle.run_laws.proofs.PlainFields.{plain_word, words_append, zero_plain}
use Rattle.run_laws.proofs.Decimals.{decimal_word, signed_word}
use Rattle.run_laws.proofs.Fields.{count_read, within_read, or_read, numbered_read, corner_read, marker_read, neighbor_read}
use Rattle.tet_text.specs.Repeated.{so_many}

-- ---- lines

-- the numbers can be read
abbrev pub AreShort : List ℤ → Type 0
AreShort [] = Unit {0}
AreShort (z ∷ zs) = IsShortNumber (unsigned_abs z) × AreShort zs

words : (zs : List ℤ) → AreShort zs → AreWords (map signed_decimal zs)
words [] all = tt
words (z ∷ zs) all = (signed_word z all.0, words zs all.1)

joined_is : (zs : List ℤ) → flat_map (λ z. 32 ∷ signed_decimal z) zs ≡ joined (map signed_decimal zs)
joined_is [] = refl
joined_is (z ∷ zs) = ap (λ (s : List ℕ). 32 ∷ (signed_decimal z ++ s)) (joined_is zs)

-- a printed line is one content line
pub printed_line : (k number : ℕ) (zs : List ℤ) (rest : List ℕ) → IsShortNumber number → AreShort zs
    → content_lines_from k (lines_of (text_line number zs ++ rest)) ≡ record { line = k; fields = decimal number ∷ map signed_decimal zs } ∷ content_lines_from (k + 1) (lines_of rest)
printed_line k number zs rest h all =
    let is : text_line number zs ++ rest ≡ (decimal number ++ joined (map signed_decimal zs)) ++ 10 ∷ rest =
    ap (λ (s : List ℕ). ((decimal number ++ s) ++ 10 ∷ []) ++ rest) (joined_is zs) ∙ append_assoc (decimal number ++ joined (map signed_decimal zs)) (10 ∷ []) rest in
    ap (λ (s : List ℕ). content_lines_from k (lines_of s)) is ∙ line_read k (decimal number) (map signed_decimal zs) rest (decimal_word number h) (words zs all)

-- ---- many rows

-- so many rows, each read from its line, with nothing behind them
pub record ReadsEach {X Y : Type 0} (row : ℕ → ContentLine → Result Y TextFault) (line : ℕ → X → List ℕ) (view : X → Y) (P : X → Type 0) (most : ℕ) : Type 0 where
  pub number : ℕ → X → List ℤ
  pub line_is : (n : ℕ) (x : X) → line n x ≡ text_line n (number n x)
  pub short : (n : ℕ) (x : X) → P x → AreShort (number n x)
  pub row_is : (k n : ℕ) (x : X) → n < most → P x → row n (record { line = k; fields = decimal n ∷ map signed_decimal (number n x) }) ≡ Ok (view x)

abbrev lines_from : {X : Type 0} → (ℕ → X → List ℕ) → ℕ → List X → List ℕ
lines_from line n [] = []
lines_from line n (x ∷ xs) = line n x ++ lines_from line (n + 1) xs

rows_read : {X Y : Type 0} (row : ℕ → ContentLine → Result Y TextFault) (line : ℕ → X → List ℕ) (view : X → Y) (P : X → Type 0) (most : ℕ) → most ≤ 10 ^ 18 → ReadsEach row line view P most
    → (total k n : ℕ) (xs : List X) → n + length xs ≤ most → All P xs
    → so_many (next_row row total) (length xs) (n, content_lines_from k (lines_of (lines_from line n xs))) ≡ Ok (map view xs, (n + length xs, []))
unfolding so_many next_row
rows_read row line view P most limit reads total k n [] few all =
    (λ j. Ok ([], (sum j, no_line k [] refl j)))
  where
    sum : n ≡ n + 0
    sum = omega arith
rows_read {X} {Y} row line view P most limit reads total k n (x ∷ xs) few all =
    let others = rows_read row line view P most limit reads total (k + 1) (n + 1) xs (omega arith) (λ i d l. all (suc i) d (omega arith)) in
    ap (λ (ls : List ContentLine). so_many (next_row row total) (suc (length xs)) (n, ls)) lines
    ∙ ap (λ (r : Result Y TextFault). go (put r)) (reads.row_is k n x lt p)
    ∙ ap (λ (r : Result (List Y × (ℕ × List ContentLine)) TextFault). add r) others
    ∙ ap (λ (m : ℕ). let r : Result (List Y × (ℕ × List ContentLine)) TextFault = Ok (view x ∷ map view xs, (m, [])) in r) (let e : n + 1 + length xs ≡ n + suc (length xs) = omega arith in e)
  where
    lt : n < most
    lt = omega arith

    p : P x
    p = all 0 x (omega arith)

    rest : List ℕ
    rest = lines_from line (n + 1) xs

    short : IsShortNumber n
    short = omega arith

    lines : content_lines_from k (lines_of (lines_from line n (x ∷ xs))) ≡ record { line = k; fields = decimal n ∷ map signed_decimal (reads.number n x) } ∷ content_lines_from (k + 1) (lines_of rest)
    lines = ap (λ (s : List ℕ). content_lines_from k (lines_of (s ++ rest))) (reads.line_is n x) ∙ printed_line k n (reads.number n x) rest short (reads.short n x p)

    put : Result Y TextFault → Result (Y × (ℕ × List ContentLine)) TextFault
    put r = r >>= λ item. Ok (item, (n + 1, content_lines_from (k + 1) (lines_of rest)))

    go : Result (Y × (ℕ × List ContentLine)) TextFault → Result (List Y × (ℕ × List ContentLine)) TextFault
    go r = r >>= λ one. so_many (next_row row total) (length xs) one.1 >>= λ more. Ok (one.0 ∷ more.0, more.1)

    add : Result (List Y × (ℕ × List ContentLine)) TextFault → Result (List Y × (ℕ × List ContentLine)) TextFault
    add r = r >>= λ more. Ok (view x ∷ more.0, more.1)

-- ---- rows

tet_lines : (names : List ℕ) (first place : ℕ) (rows : List Tet) → ele_lines names first place rows ≡ lines_from (λ n t. text_line n (pos (slice_index names t.a + first) ∷ pos (slice_index names t.b + first) ∷ pos (slice_index names t.c + first) ∷ pos (slice_index names t.d + first) ∷ [])) (place + first) rows
tet_lines names first place [] = refl
tet_lines names first place (t ∷ rows) =
    ap (λ (s : List ℕ). ele_line names first place t ++ s)
    (tet_lines names first (place + 1) rows ∙ ap (λ (n : ℕ). lines_from (λ n t. text_line n (pos (slice_index names t.a + first) ∷ pos (slice_index names t.b + first) ∷ pos (slice_index names t.c + first) ∷ pos (slice_index names t.d + first) ∷ [])) n rows) (let e : place + 1 + first ≡ place + first + 1 = omega arith in e))

one_of_short : (first points n : ℕ) → IsShortNumber (first + points) → n < points → IsShortNumber (n + first)
one_of_short first points n h lt = omega arith

pub reads_tets : (names : List ℕ) (first points : ℕ) → IsShortNumber (first + points)
    → ReadsEach (tet_row (record { first = first; points = points }) false) (λ n t. text_line n (pos (slice_index names t.a + first) ∷ pos (slice_index names t.b + first) ∷ pos (slice_index names t.c + first) ∷ pos (slice_index names t.d + first) ∷ [])) (renamed_row (slice_index names)) (HasNames names points) (10 ^ 18)
unfolding tet_row passed_over
reads_tets names first points h = record {
  number = λ n t. pos (slice_index names t.a + first) ∷ pos (slice_index names t.b + first) ∷ pos (slice_index names t.c + first) ∷ pos (slice_index names t.d + first) ∷ [];
  line_is = λ n t. refl;
  short = λ n t p. (one_of_short first points _ h p.a, (one_of_short first points _ h p.b, (one_of_short first points _ h p.c, (one_of_short first points _ h p.d, tt))));
  row_is = λ k n t lt p. rw (numbered_read n k _ lt, corner_read first points k (slice_index names t.a) _ h p.a, corner_read first points k (slice_index names t.b) _ h p.b, corner_read first points k (slice_index names t.c) _ h p.c, corner_read first points k (slice_index names t.d) _ h p.d) refl;
}

zero_short : IsShortNumber 0
zero_short = omega arith

four_short : IsShortNumber 4
four_short = omega arith

pub head_read : (k count : ℕ) → IsShortNumber count → four_head true (record { line = k; fields = decimal count ∷ decimal 4 ∷ decimal 0 ∷ [] }) ≡ Ok (record { count = count; flag = false })
unfolding four_head flag_at
head_read k count h =
    ap (λ (r : Result (ℕ × Fields) TextFault). r >>= λ count. count_within 4 4 k count.1 >>= λ four. flag_at true k four.1 >>= λ flag. end_at k flag.1 >>= λ u. Ok (record { count = count.0; flag = flag.0 })) (count_read k count _ h)
    ∙ rw (within_read 4 4 k 4 (decimal 0 ∷ []) four_short (omega arith) (omega arith), or_read 0 0 1 k 0 [] zero_short (omega arith) (omega arith)) refl

from_first : {X : Type 0} (line : ℕ → X → List ℕ) (first : ℕ) (xs : List X) → lines_from line (0 + first) xs ≡ lines_from line first xs
from_first line first xs = ap (λ (n : ℕ). lines_from line n xs) (let e : 0 + first ≡ first = omega arith in e)

rows_short : (first m : ℕ) → IsShortNumber (first + m) → first + m ≤ 10 ^ 18
rows_short first m h = omega arith

count_short : (first m : ℕ) → IsShortNumber (first + m) → IsShortNumber m
count_short first m h = omega arith

same_power : 10 ^ 18 ≤ 10 ^ 18
same_power = omega arith

plain_read : (names : List ℕ) (first points total : ℕ) (rows : List Tet) → IsShortNumber (first + points) → IsShortNumber (first + length rows) → All (HasNames names points) rows
    → ele_of first points total (content_lines (ele_text names first rows)) ≡ Ok (map (renamed_row (slice_index names)) rows)
unfolding tets_of
plain_read names first points total rows listed numbers all =
    ap (λ (ls : List ContentLine). tets_of (record { first = first; points = points }) total ls) lines ∙ rw (head_read 1 (length rows) (count_short first (length rows) numbers), body) refl
  where
    lines : content_lines_from 1 (lines_of (text_line (length rows) (pos 4 ∷ pos 0 ∷ []) ++ ele_lines names first 0 rows)) ≡ record { line = 1; fields = decimal (length rows) ∷ decimal 4 ∷ decimal 0 ∷ [] } ∷ content_lines_from 2 (lines_of (ele_lines names first 0 rows))
    lines = printed_line 1 (length rows) (pos 4 ∷ pos 0 ∷ []) (ele_lines names first 0 rows) (count_short first (length rows) numbers) (four_short, (zero_short, tt))

    body : so_many (next_row (tet_row (record { first = first; points = points }) false) total) (length rows) (first, content_lines_from 2 (lines_of (ele_lines names first 0 rows))) ≡ Ok (map (renamed_row (slice_index names)) rows, (first + length rows, []))
    body =
        ap (λ (s : List ℕ). so_many (next_row (tet_row (record { first = first; points = points }) false) total) (length rows) (first, content_lines_from 2 (lines_of s))) (tet_lines names first 0 rows ∙ from_first _ first rows)
        ∙ rows_read (tet_row (record { first = first; points = points }) false) _ (renamed_row (slice_index names)) (HasNames names points) (10 ^ 18) same_power (reads_tets names first points listed) total 2 first rows (rows_short first (length rows) numbers) all

one_short : IsShortNumber 1
one_short = omega arith

-- ---- rows with the attributes of regions

-- the attribute that a mark stands for
attribute_word : (regions : List Region) (mark : Option ℕ) → All (λ r. IsPlainField r.attribute) regions → IfSome mark (λ r. r < length regions) → IsWord (attribute_of regions mark)
attribute_word regions None plain within = plain_word (48 ∷ []) zero_plain
attribute_word regions (Some region) plain within = plain_word _ (at regions region plain within)
  where
    at : (rs : List Region) (k : ℕ) → All (λ r. IsPlainField r.attribute) rs → k < length rs → IsPlainField (slice_index_or (map (λ r. r.attribute) rs) k [])
    at [] k all lt = absurd (omega arith)
    at (r ∷ rs) zero all lt = All-head (λ r. IsPlainField r.attribute) r rs all
    at (r ∷ rs) (suc k) all lt = at rs k (All-tail (λ r. IsPlainField r.attribute) r rs all) (omega arith)

-- numbers and a word behind them
with_word : (zs : List ℤ) (w rest : List ℕ) → (flat_map (λ z. 32 ∷ signed_decimal z) zs ++ (32 ∷ (w ++ (10 ∷ [])))) ++ rest ≡ joined (map signed_decimal zs ++ w ∷ []) ++ 10 ∷ rest
with_word [] w rest = ap (λ (s : List ℕ). 32 ∷ s) (append_assoc w (10 ∷ []) rest ∙ ap (λ (v : List ℕ). v ++ 10 ∷ rest) (sym (append-nil w)))
with_word (z ∷ zs) w rest =
    let front = flat_map (λ z. 32 ∷ signed_decimal z) zs in
    let tail : List ℕ = 32 ∷ (w ++ (10 ∷ [])) in
    ap (λ (s : List ℕ). 32 ∷ s)
    (ap (λ (s : List ℕ). s ++ rest) (append_assoc (signed_decimal z) front tail) ∙ append_assoc (signed_decimal z) (front ++ tail) rest
    ∙ ap (λ (s : List ℕ). signed_decimal z ++ s) (with_word zs w rest) ∙ sym (append_assoc (signed_decimal z) (joined (map signed_decimal zs ++ w ∷ [])) (10 ∷ rest)))

-- a printed line with a word at its end is one content line
worded_line : (k number : ℕ) (zs : List ℤ) (w rest : List ℕ) → IsShortNumber number → AreShort zs → IsWord w
    → content_lines_from k (lines_of (fields_then number zs (32 ∷ (w ++ (10 ∷ []))) ++ rest)) ≡ record { line = k; fields = decimal number ∷ (map signed_decimal zs ++ w ∷ []) } ∷ content_lines_from (k + 1) (lines_of rest)
worded_line k number zs w rest h all word =
    ap (λ (s : List ℕ). content_lines_from k (lines_of s))
    (ap (λ (s : List ℕ). s ++ rest) (append_assoc (decimal number) (flat_map (λ z. 32 ∷ signed_decimal z) zs) (32 ∷ (w ++ (10 ∷ []))))
    ∙ append_assoc (decimal number) (flat_map (λ z. 32 ∷ signed_decimal z) zs ++ (32 ∷ (w ++ (10 ∷ [])))) rest ∙ ap (λ (s : List ℕ). decimal number ++ s) (with_word zs w rest)
    ∙ sym (append_assoc (decimal number) (joined (map signed_decimal zs ++ w ∷ [])) (10 ∷ rest)))
    ∙ line_read k (decimal number) (map signed_decimal zs ++ w ∷ []) rest (decimal_word number h) (words_append (map signed_decimal zs) (w ∷ []) (words zs all) (word, tt))

abbrev corner_numbers : List ℕ → ℕ → Tet → List ℤ
corner_numbers names first t = pos (slice_index names t.a + first) ∷ pos (slice_index names t.b + first) ∷ pos (slice_index names t.c + first) ∷ pos (slice_index names t.d + first) ∷ []

corners_short : (names : List ℕ) (first points : ℕ) (t : Tet) → IsShortNumber (first + points) → HasNames names points t → AreShort (corner_numbers names first t)
corners_short names first points t h p = (one_of_short first points _ h p.a, (one_of_short first points _ h p.b, (one_of_short first points _ h p.c, (one_of_short first points _ h p.d, tt))))

marked_row : (names : List ℕ) (first points k n : ℕ) (t : Tet) (w : List ℕ) → IsShortNumber (first + points) → IsShortNumber n → HasNames names points t
    → tet_row (record { first = first; points = points }) true n (record { line = k; fields = decimal n ∷ (map signed_decimal (corner_numbers names first t) ++ w ∷ []) }) ≡ Ok (renamed_row (slice_index names) t)
unfolding tet_row passed_over
marked_row names first points k n t w h lt p =
    rw (numbered_read n k _ lt, corner_read first points k (slice_index names t.a) _ h p.a, corner_read first points k (slice_index names t.b) _ h p.b, corner_read first points k (slice_index names t.c) _ h p.c, corner_read first points k (slice_index names t.d) _ h p.d) refl

module _ (marks : List (Option ℕ)) (regions : List Region) (names : List ℕ) (first points : ℕ) (listed : IsShortNumber (first + points)) (legible : AreLegibleMarks regions (Some marks)) where
  marked_rows : (total k place : ℕ) (rows : List Tet) → place + first + length rows ≤ 10 ^ 18 → All (HasNames names points) rows
      → so_many (next_row (tet_row (record { first = first; points = points }) true) total) (length rows) (place + first, content_lines_from k (lines_of (attributed_lines marks regions names first place rows))) ≡ Ok (map (renamed_row (slice_index names)) rows, (place + first + length rows, []))
  unfolding so_many next_row
  marked_rows total k place [] few all = (λ j. Ok ([], (sum j, no_line k [] refl j)))
    where
      sum : place + first ≡ place + first + 0
      sum = omega arith
  marked_rows total k place (t ∷ rows) few all =
      let others = subst (λ (m : ℕ). so_many (next_row (tet_row (record { first = first; points = points }) true) total) (length rows) (m, content_lines_from (k + 1) (lines_of (attributed_lines marks regions names first (place + 1) rows))) ≡ Ok (map (renamed_row (slice_index names)) rows, (m + length rows, []))) next
      (marked_rows total (k + 1) (place + 1) rows (omega arith) (λ i d l. all (suc i) d (omega arith))) in
      ap (λ (ls : List ContentLine). so_many (next_row (tet_row (record { first = first; points = points }) true) total) (suc (length rows)) (place + first, ls)) lines
      ∙ ap (λ (r : Result Tet TextFault). go (put r)) (marked_row names first points k (place + first) t word listed short p)
      ∙ ap (λ (r : Result (List Tet × (ℕ × List ContentLine)) TextFault). add r) others
      ∙ ap (λ (m : ℕ). let r : Result (List Tet × (ℕ × List ContentLine)) TextFault = Ok (renamed_row (slice_index names) t ∷ map (renamed_row (slice_index names)) rows, (m, [])) in r) (let e : place + first + 1 + length rows ≡ place + first + suc (length rows) = omega arith in e)
    where
      next : place + 1 + first ≡ place + first + 1
      next = omega arith

      short : IsShortNumber (place + first)
      short = omega arith

      p : HasNames names points t
      p = all 0 t (omega arith)

      word : List ℕ
      word = attribute_of regions (slice_index_or marks place None)

      rest : List ℕ
      rest = attributed_lines marks regions names first (place + 1) rows

      lines : content_lines_from k (lines_of (attributed_lines marks regions names first place (t ∷ rows))) ≡ record { line = k; fields = decimal (place + first) ∷ (map signed_decimal (corner_numbers names first t) ++ word ∷ []) } ∷ content_lines_from (k + 1) (lines_of rest)
      lines = worded_line k (place + first) (corner_numbers names first t) word rest short (corners_short names first points t listed p) (attribute_word regions (slice_index_or marks place None) legible.plain (legible.each place))

      put : Result Tet TextFault → Result (Tet × (ℕ × List ContentLine)) TextFault
      put r = r >>= λ item. Ok (item, (place + first + 1, content_lines_from (k + 1) (lines_of rest)))

      go : Result (Tet × (ℕ × List ContentLine)) TextFault → Result (List Tet × (ℕ × List ContentLine)) TextFault
      go r = r >>= λ one. so_many (next_row (tet_row (record { first = first; points = points }) true) total) (length rows) one.1 >>= λ more. Ok (one.0 ∷ more.0, more.1)

      add : Result (List Tet × (ℕ × List ContentLine)) TextFault → Result (List Tet × (ℕ × List ContentLine)) TextFault
      add r = r >>= λ more. Ok (renamed_row (slice_index names) t ∷ more.0, more.1)

marked_head : (k count : ℕ) → IsShortNumber count → four_head true (record { line = k; fields = decimal count ∷ decimal 4 ∷ decimal 1 ∷ [] }) ≡ Ok (record { count = count; flag = true })
unfolding four_head flag_at
marked_head k count h =
    ap (λ (r : Result (ℕ × Fields) TextFault). r >>= λ count. count_within 4 4 k count.1 >>= λ four. flag_at true k four.1 >>= λ flag. end_at k flag.1 >>= λ u. Ok (record { count = count.0; flag = flag.0 })) (count_read k count _ h)
    ∙ rw (within_read 4 4 k 4 (decimal 1 ∷ []) four_short (omega arith) (omega arith), or_read 0 0 1 k 1 [] one_short (omega arith) (omega arith)) refl

marked_read : (marks : List (Option ℕ)) (regions : List Region) (names : List ℕ) (first points total : ℕ) (rows : List Tet) → AreLegibleMarks regions (Some marks) → IsShortNumber (first + points) → IsShortNumber (first + length rows) → All (HasNames names points) rows
    → ele_of first points total (content_lines (attributed_text marks regions names first rows)) ≡ Ok (map (renamed_row (slice_index names)) rows)
unfolding tets_of
marked_read marks regions names first points total rows legible listed numbers all =
    ap (λ (ls : List ContentLine). tets_of (record { first = first; points = points }) total ls) lines ∙ rw (marked_head 1 (length rows) (count_short first (length rows) numbers), body) refl
  where
    lines : content_lines_from 1 (lines_of (text_line (length rows) (pos 4 ∷ pos 1 ∷ []) ++ attributed_lines marks regions names first 0 rows)) ≡ record { line = 1; fields = decimal (length rows) ∷ decimal 4 ∷ decimal 1 ∷ [] } ∷ content_lines_from 2 (lines_of (attributed_lines marks regions names first 0 rows))
    lines = printed_line 1 (length rows) (pos 4 ∷ pos 1 ∷ []) (attributed_lines marks regions names first 0 rows) (count_short first (length rows) numbers) (four_short, (one_short, tt))

    from : 0 + first ≡ first
    from = omega arith

    body : so_many (next_row (tet_row (record { first = first; points = points }) true) total) (length rows) (first, content_lines_from 2 (lines_of (attributed_lines marks regions names first 0 rows))) ≡ Ok (map (renamed_row (slice_index names)) rows, (first + length rows, []))
    body = subst (λ (m : ℕ). so_many (next_row (tet_row (record { first = first; points = points }) true) total) (length rows) (m, content_lines_from 2 (lines_of (attributed_lines marks regions names first 0 rows))) ≡ Ok (map (renamed_row (slice_index names)) rows, (m + length rows, []))) from
        (marked_rows marks regions names first points listed legible total 2 0 rows (let h = numbers in omega arith) all)

pub ele_read : EleReadLaw
ele_read None regions names first points total rows legible listed numbers all = plain_read names first points total rows listed numbers all
ele_read (Some marks) regions names first points total rows legible listed numbers all = marked_read marks regions names first points total rows legible listed numbers all

-- ---- faces

abbrev face_numbers : List ℕ → ℕ → FaceRow → List ℤ
face_numbers names first f = pos (slice_index names f.a + first) ∷ pos (slice_index names f.b + first) ∷ pos (slice_index names f.c + first) ∷ f.marker ∷ []

faces_lines : (names : List ℕ) (first place : ℕ) (faces : List FaceRow) → face_lines names first place faces ≡ lines_from (λ n f. text_line n (face_numbers names first f)) (place + first) faces
faces_lines names first place [] = refl
faces_lines names first place (f ∷ faces) =
    ap (λ (s : List ℕ). face_line names first place f ++ s)
    (faces_lines names first (place + 1) faces ∙ ap (λ (n : ℕ). lines_from (λ n f. text_line n (face_numbers names first f)) n faces) (let e : place + 1 + first ≡ place + first + 1 = omega arith in e))

reads_faces : (names : List ℕ) (first points : ℕ) → IsShortNumber (first + points)
    → ReadsEach (face_row (record { first = first; points = points }) true) (λ n f. text_line n (face_numbers names first f)) (renamed_face (slice_index names)) (HasFaceNames names points) (10 ^ 18)
unfolding face_row
reads_faces names first points h = record {
  number = λ n f. face_numbers names first f;
  line_is = λ n f. refl;
  short = λ n f p. (one_of_short first points _ h p.a, (one_of_short first points _ h p.b, (one_of_short first points _ h p.c, (p.marker, tt))));
  row_is = λ k n f lt p. rw (numbered_read n k _ lt, corner_read first points k (slice_index names f.a) _ h p.a, corner_read first points k (slice_index names f.b) _ h p.b, corner_read first points k (slice_index names f.c) _ h p.c, marker_read k f.marker p.marker) refl;
}

flag_read : (k count : ℕ) → IsShortNumber count → flag_head (record { line = k; fields = decimal count ∷ decimal 1 ∷ [] }) ≡ Ok (record { count = count; flag = true })
unfolding flag_head flag_at
flag_read k count h =
    ap (λ (r : Result (ℕ × Fields) TextFault). r >>= λ count. flag_at true k count.1 >>= λ flag. end_at k flag.1 >>= λ u. Ok (record { count = count.0; flag = flag.0 })) (count_read k count _ h)
    ∙ rw (or_read 0 0 1 k 1 [] one_short (omega arith) (omega arith)) refl

pub face_read : FaceReadLaw
unfolding face_rows_of
face_read names first points total faces listed numbers all =
    ap (λ (ls : List ContentLine). face_rows_of (record { first = first; points = points }) total ls) lines ∙ rw (flag_read 1 (length faces) (count_short first (length faces) numbers), body) refl
  where
    lines : content_lines_from 1 (lines_of (text_line (length faces) (pos 1 ∷ []) ++ face_lines names first 0 faces)) ≡ record { line = 1; fields = decimal (length faces) ∷ decimal 1 ∷ [] } ∷ content_lines_from 2 (lines_of (face_lines names first 0 faces))
    lines = printed_line 1 (length faces) (pos 1 ∷ []) (face_lines names first 0 faces) (count_short first (length faces) numbers) (one_short, tt)

    body : so_many (next_row (face_row (record { first = first; points = points }) true) total) (length faces) (first, content_lines_from 2 (lines_of (face_lines names first 0 faces))) ≡ Ok (map (renamed_face (slice_index names)) faces, (first + length faces, []))
    body =
        ap (λ (s : List ℕ). so_many (next_row (face_row (record { first = first; points = points }) true) total) (length faces) (first, content_lines_from 2 (lines_of s))) (faces_lines names first 0 faces ∙ from_first _ first faces)
        ∙ rows_read (face_row (record { first = first; points = points }) true) _ (renamed_face (slice_index names)) (HasFaceNames names points) (10 ^ 18) same_power (reads_faces names first points listed) total 2 first faces (rows_short first (length faces) numbers) all

-- ---- neighbors

abbrev neighbor_numbers : ℕ → Across → List ℤ
neighbor_numbers first x = neighbor first x.n0 ∷ neighbor first x.n1 ∷ neighbor first x.n2 ∷ neighbor first x.n3 ∷ []

neighbors_lines : (first place : ℕ) (xs : List Across) → neigh_lines first place xs ≡ lines_from (λ n x. text_line n (neighbor_numbers first x)) (place + first) xs
neighbors_lines first place [] = refl
neighbors_lines first place (x ∷ xs) =
    ap (λ (s : List ℕ). neigh_line first place x ++ s)
    (neighbors_lines first (place + 1) xs ∙ ap (λ (n : ℕ). lines_from (λ n x. text_line n (neighbor_numbers first x)) n xs) (let e : place + 1 + first ≡ place + first + 1 = omega arith in e))

neighbor_short : (first count : ℕ) (o : Option ℕ) → IsShortNumber (first + count) → IfSome o (λ i. i < count) → IsShortNumber (unsigned_abs (neighbor first o))
neighbor_short first count None h lt = one_short
neighbor_short first count (Some i) h lt = one_of_short first count i h lt

reads_neighbors : (first count : ℕ) → IsShortNumber (first + count) → ReadsEach (across_row first) (λ n x. text_line n (neighbor_numbers first x)) (λ x. x) (AreBelow count) (10 ^ 18)
unfolding across_row
reads_neighbors first count h = record {
  number = λ n x. neighbor_numbers first x;
  line_is = λ n x. refl;
  short = λ n x p. (neighbor_short first count x.n0 h p.n0, (neighbor_short first count x.n1 h p.n1, (neighbor_short first count x.n2 h p.n2, (neighbor_short first count x.n3 h p.n3, tt))));
  row_is = λ k n x lt p. rw (numbered_read n k _ lt, neighbor_read first count k x.n0 _ h p.n0, neighbor_read first count k x.n1 _ h p.n1, neighbor_read first count k x.n2 _ h p.n2, neighbor_read first count k x.n3 _ h p.n3) refl;
}

bare_read : (k count : ℕ) → IsShortNumber count → four_head false (record { line = k; fields = decimal count ∷ decimal 4 ∷ [] }) ≡ Ok (record { count = count; flag = false })
unfolding four_head flag_at
bare_read k count h =
    ap (λ (r : Result (ℕ × Fields) TextFault). r >>= λ count. count_within 4 4 k count.1 >>= λ four. flag_at false k four.1 >>= λ flag. end_at k flag.1 >>= λ u. Ok (record { count = count.0; flag = flag.0 })) (count_read k count _ h)
    ∙ rw (within_read 4 4 k 4 [] four_short (omega arith) (omega arith)) refl

map_same : {X : Type 0} (xs : List X) → map (λ x. x) xs ≡ xs
map_same [] = refl
map_same (x ∷ xs) = ap (λ ys. x ∷ ys) (map_same xs)

pub neigh_read : NeighReadLaw
unfolding neighbors_of
neigh_read first total xs numbers all =
    ap (λ (ls : List ContentLine). neighbors_of first total ls) lines ∙ rw (bare_read 1 (length xs) (count_short first (length xs) numbers), body) refl
  where
    lines : content_lines_from 1 (lines_of (text_line (length xs) (pos 4 ∷ []) ++ neigh_lines first 0 xs)) ≡ record { line = 1; fields = decimal (length xs) ∷ decimal 4 ∷ [] } ∷ content_lines_from 2 (lines_of (neigh_lines first 0 xs))
    lines = printed_line 1 (length xs) (pos 4 ∷ []) (neigh_lines first 0 xs) (count_short first (length xs) numbers) (four_short, tt)

    body : so_many (next_row (across_row first) total) (length xs) (first, content_lines_from 2 (lines_of (neigh_lines first 0 xs))) ≡ Ok (xs, (first + length xs, []))
    body =
        ap (λ (s : List ℕ). so_many (next_row (across_row first) total) (length xs) (first, content_lines_from 2 (lines_of s))) (neighbors_lines first 0 xs ∙ from_first _ first xs)
        ∙ rows_read (across_row first) _ (λ x. x) (AreBelow (length xs)) (10 ^ 18) same_power (reads_neighbors first (length xs) numbers) total 2 first xs (rows_short first (length xs) numbers) all
        ∙ ap (λ (ys : List Across). let r : Result (List Across × (ℕ × List ContentLine)) TextFault = Ok (ys, (first + length xs, [])) in r) (map_same xs)
