-- Point lists, read back.
use Rattle.std.proofs.Common.{◌≡◌, ℕ, zero, suc, ◌+◌, ◌*◌, ◌^◌, ◌<◌, ◌≤◌, ℤ, pos, unsigned_abs, Bool, true, false, List, [], ◌∷◌, ◌++◌, length, map, take, drop, Option, Some, None, Result, Ok, Err, refl, ap, sym, subst, ◌∙◌, arith, append_assoc, length-append}
use Rattle.std.specs.Prelude.{All, flat_map, replicate, slice_index_or, ◌==◌, if◌then◌else◌}
use Rattle.std.specs.Option.{ok_or}
use Rattle.std.specs.Fmt.{decimal}
use Rattle.std.proofs.lemmas.Bool.{cond-true, eq-eqb, le-leb}
use Rattle.std.proofs.lemmas.List.{length-take-le, length-drop, length-replicate, take-append-drop, take-append-le, drop-append-le, take_at}
use Rattle.std.proofs.Math.Seq.{drop-append_seam}
use Rattle.std.proofs.Math.Nat.{mul-suc}
use Rattle.std.proofs.lemmas.List.Elements.{All-take, All-drop, All-append}
use Rattle.sign_predicates.specs.Point.{Point}
use Rattle.geo_laws.specs.Delaunay.{point}
use Rattle.tet_text.specs.declared.fault.TextFault.{TextFault}
use Rattle.tet_text.specs.Decimals.{Scaled, decimal_of, decimal_of_parts}
use Rattle.tet_text.specs.Faults.{not_a_number, bad_index}
use Rattle.tet_text.specs.Lines.{ContentLine, lines_of, content_lines_from}
use Rattle.tet_text.specs.Numbers.{are_digits}
use Rattle.tet_text.specs.Reading as reading
use Rattle.tet_text.specs.Reading.{◌>>=◌, Fields, count_at, end_at}
use Rattle.tet_text.proofs.ContentLines.{no_line}
use Rattle.grid_coords.specs.Units.{limit, decimal_of_units, grid_text}
use Rattle.grid_coords.specs.declared.grid.Grid.{Grid}
use Rattle.grid_coords.specs.declared.points.DecimalPoint.{DecimalPoint}
use Rattle.grid_coords.proofs.Printed.{number_at}
use Rattle.node_files.specs.Header.{header_of, count_or}
use Rattle.node_files.specs.Node.{points_of, points_table, node_list_of, node_of, listed_text, first_number}
use Rattle.node_files.specs.Point.{point_of, index_at, place_at, attributes_at, markers_at, is_next}
use Rattle.node_files.specs.Point as read
use Rattle.node_files.specs.Writing.{whole_text, fields_text, line_text, place_fields, point_line, point_lines, like_lines, list_text, node_text, mark_count}
use Rattle.node_files.specs.declared.table.NodeTable.{NodeTable}
use Rattle.run_laws.specs.LeastGrids.{IsPointAt}
use Rattle.run_laws.proofs.RereadMeshes.{reread}
use Rattle.run_laws.specs.Reread.{IsShortNumber, IsPlainField}
use Rattle.run_laws.specs.NodeRead.{IsLegible, IsLegiblePoint, IsPlainTable, NodeReadLaw, attributes_behind, markers_behind}
use Rattle.run_laws.proofs.Words.{IsWord, AreWords, joined, line_read}
use Rattle.run_laws.proofs.PlainFields.{plain_words, words_append, zero_plain}
use Rattle.run_laws.proofs.Decimals.{decimal_word, signed_word}
use Rattle.run_laws.proofs.Fields.{count_read, whole_read, or_read}
use Rattle.run_laws.proofs.GridTexts.{text_word, whole_is_decimal, whole_is_signed}

-- ---- lines

joined_is : (fs : List (List ℕ)) → fields_text fs ≡ joined fs
unfolding fields_text
joined_is [] = refl
joined_is (f ∷ fs) = ap (λ (s : List ℕ). 32 ∷ (f ++ s)) (joined_is fs)

text_line : (k n : ℕ) (fs : List (List ℕ)) (rest : List ℕ) → IsShortNumber n → AreWords fs
    → content_lines_from k (lines_of (line_text (pos n) fs ++ rest)) ≡ record { line = k; fields = decimal n ∷ fs } ∷ content_lines_from (k + 1) (lines_of rest)
unfolding line_text
text_line k n fs rest h all =
    ap (λ (s : List ℕ). content_lines_from k (lines_of s))
    ((λ j. (whole_is_decimal n h j ++ (joined_is fs j ++ 10 ∷ [])) ++ rest)
    ∙ append_assoc (decimal n) (joined fs ++ 10 ∷ []) rest ∙ ap (λ (s : List ℕ). decimal n ++ s) (append_assoc (joined fs) (10 ∷ []) rest) ∙ sym (append_assoc (decimal n) (joined fs) (10 ∷ rest)))
    ∙ line_read k (decimal n) fs rest (decimal_word n h) all

-- ---- coordinates

nothing_read : decimal_of [] ≡ None
unfolding decimal_of_parts are_digits
nothing_read = refl

some_byte : (w : List ℕ) (d : Scaled) → decimal_of w ≡ Some d → 0 < length w
some_byte [] d e = let clash : None ≡ Some d = sym nothing_read ∙ e in absurd (cc)
some_byte (c ∷ w) d e = omega arith

-- a coordinate within a bound is within a greater one
legible_in : {wide : ℕ} {g : Grid} {c : ℤ} → wide ≤ limit → IsLegible wide g c → IsLegible limit g c
legible_in within is = record { small = let h = is.small in omega arith; short = is.short }

legible : {wide : ℕ} {g : Grid} {p : Point} → wide ≤ limit → IsLegiblePoint wide g p → IsLegiblePoint limit g p
legible within is = record { x = legible_in within is.x; y = legible_in within is.y; z = legible_in within is.z }

value_read : (g : Grid) (c : ℤ) → g.halvings ≤ 18 → IsLegible limit g c → decimal_of (grid_text g c) ≡ Some (decimal_of_units g c)
value_read g c few is = (reread g c is.small few is.short).0

coordinate_word : (g : Grid) (c : ℤ) → g.halvings ≤ 18 → IsLegible limit g c → IsWord (grid_text g c)
coordinate_word g c few is = text_word (decimal_of_units g c) (some_byte (grid_text g c) (decimal_of_units g c) (value_read g c few is))

coordinate_read : (line : ℕ) (g : Grid) (c : ℤ) (rest : Fields) → g.halvings ≤ 18 → IsLegible limit g c → reading.decimal_at line (grid_text g c ∷ rest) ≡ Ok (decimal_of_units g c, rest)
coordinate_read line g c rest few is = ap (λ (o : Option Scaled). ok_or o (not_a_number line) >>= λ k. Ok (k, rest)) (value_read g c few is)

-- the point as it is read on a line
placed : Grid → ℕ → Point → DecimalPoint
placed g line p = record { x = decimal_of_units g p.x; y = decimal_of_units g p.y; z = decimal_of_units g p.z; line = line }

place_read : (line : ℕ) (g : Grid) (p : Point) (rest : Fields) → g.halvings ≤ 18 → IsLegiblePoint limit g p → place_at line (place_fields g p ++ rest) ≡ Ok (placed g line p, rest)
unfolding place_at placed
place_read line g p rest few is =
    ap (λ (r : Result (Scaled × Fields) TextFault). r >>= λ x. reading.decimal_at line x.1 >>= λ y. reading.decimal_at line y.1 >>= λ z. ended (record { x = x.0; y = y.0; z = z.0; line = line }) z.1) (coordinate_read line g p.x (grid_text g p.y ∷ grid_text g p.z ∷ rest) few is.x)
    ∙ ap (λ (r : Result (Scaled × Fields) TextFault). r >>= λ y. reading.decimal_at line y.1 >>= λ z. ended (record { x = decimal_of_units g p.x; y = y.0; z = z.0; line = line }) z.1) (coordinate_read line g p.y (grid_text g p.z ∷ rest) few is.y)
    ∙ ap (λ (r : Result (Scaled × Fields) TextFault). r >>= λ z. ended (record { x = decimal_of_units g p.x; y = decimal_of_units g p.y; z = z.0; line = line }) z.1) (coordinate_read line g p.z rest few is.z)
  where
    ended : DecimalPoint → Fields → Result (DecimalPoint × Fields) TextFault
    ended d fields = Ok (d, fields)

-- ---- attributes and markers

abbrev AreShort : List ℤ → Type 0
AreShort ms = All (λ m. IsShortNumber (unsigned_abs m)) ms

all_fields : (line : ℕ) (attributes rest : Fields) → attributes_at (length attributes) line (attributes ++ rest) ≡ Ok (attributes, rest)
unfolding attributes_at
all_fields line [] rest = refl
all_fields line (a ∷ more) rest = ap add (all_fields line more rest)
  where
    add : Result (Fields × Fields) TextFault → Result (Fields × Fields) TextFault
    add r = r >>= λ others. Ok (a ∷ others.0, others.1)

attributes_read : (each line : ℕ) (attributes rest : Fields) → length attributes ≡ each → attributes_at each line (attributes ++ rest) ≡ Ok (attributes, rest)
attributes_read each line attributes rest long = subst (λ (n : ℕ). attributes_at n line (attributes ++ rest) ≡ Ok (attributes, rest)) long (all_fields line attributes rest)

markers_read : (flag : Bool) (line : ℕ) (ms : List ℤ) → length ms ≡ mark_count flag → AreShort ms → markers_at flag line (map whole_text ms) ≡ Ok (ms, [])
unfolding markers_at
markers_read false line [] long short = refl
markers_read false line (m ∷ ms) long short = absurd (omega arith)
markers_read true line [] long short = absurd (omega arith)
markers_read true line (m ∷ []) long short =
    let h : IsShortNumber (unsigned_abs m) = short 0 m (omega arith) in
    ap (λ (w : List ℕ). one (reading.whole_at line (w ∷ []))) (whole_is_signed m h) ∙ ap one (whole_read line m [] h)
  where
    one : Result (ℤ × Fields) TextFault → Result (List ℤ × Fields) TextFault
    one r = r >>= λ marker. Ok (marker.0 ∷ [], marker.1)
markers_read true line (m ∷ n ∷ ms) long short = absurd (omega arith)

marker_words : (ms : List ℤ) → AreShort ms → AreWords (map whole_text ms)
marker_words [] short = tt
marker_words (m ∷ ms) short =
    let h : IsShortNumber (unsigned_abs m) = short 0 m (omega arith) in
    (subst IsWord (sym (whole_is_signed m h)) (signed_word m h), marker_words ms (λ k d lt. short (suc k) d (omega arith)))

-- ---- points

number_read : (before : Option ℕ) (line n : ℕ) (rest : Fields) → IsShortNumber n → is_next before n ≡ true → index_at before line (decimal n ∷ rest) ≡ Ok (n, rest)
unfolding index_at
number_read before line n rest h next =
    ap (λ (r : Result (ℕ × Fields) TextFault). r >>= λ number. if is_next before number.0 then Ok number else Err (bad_index line)) (count_read line n rest h)
    ∙ cond-true (is_next before n) _ _ next

made : Grid → ℕ → ℕ → Point → List (List ℕ) → List ℤ → read.ListedPoint
made g n line p attributes markers = record { number = n; place = placed g line p; attributes = attributes; markers = markers }

-- the fields behind the number of a point
abbrev point_fields : Grid → Point → List (List ℕ) → List ℤ → Fields
point_fields g p attributes markers = place_fields g p ++ (attributes ++ map whole_text markers)

point_read : (before : Option ℕ) (line n : ℕ) (g : Grid) (p : Point) (each : ℕ) (flag : Bool) (attributes : List (List ℕ)) (markers : List ℤ) → IsShortNumber n → is_next before n ≡ true → g.halvings ≤ 18 → IsLegiblePoint limit g p
    → length attributes ≡ each → length markers ≡ mark_count flag → AreShort markers
    → point_of each flag before (record { line = line; fields = decimal n ∷ point_fields g p attributes markers }) ≡ Ok (made g n line p attributes markers)
unfolding point_of made
point_read before line n g p each flag attributes markers h next few is many marked short =
    rw (number_read before line n (point_fields g p attributes markers) h next, place_read line g p (attributes ++ map whole_text markers) few is, attributes_read each line attributes (map whole_text markers) many, markers_read flag line markers marked short) refl

all_made : Grid → ℕ → ℕ → ℕ → ℕ → List Point → List (List ℕ) → List ℤ → List read.ListedPoint
all_made g each marks n k [] fs ms = []
all_made g each marks n k (p ∷ ps) fs ms = made g n k p (take each fs) (take marks ms) ∷ all_made g each marks (n + 1) (k + 1) ps (drop each fs) (drop marks ms)

place_words : (g : Grid) (p : Point) → g.halvings ≤ 18 → IsLegiblePoint limit g p → AreWords (place_fields g p)
place_words g p few is = (coordinate_word g p.x few is.x, (coordinate_word g p.y few is.y, (coordinate_word g p.z few is.z, tt)))

point_words : (g : Grid) (p : Point) (fs : List (List ℕ)) (ms : List ℤ) → g.halvings ≤ 18 → IsLegiblePoint limit g p → All IsPlainField fs → AreShort ms → AreWords (point_fields g p fs ms)
point_words g p fs ms few is plain short = words_append (place_fields g p) (fs ++ map whole_text ms) (place_words g p few is) (words_append fs (map whole_text ms) (plain_words fs plain) (marker_words ms short))

-- the first of many parts is whole, and the others are left
front_whole : {A : Type 0} (each n : ℕ) (xs : List A) → length xs ≡ each * suc n → each ≤ length xs
front_whole each n xs long = let step = mul-suc each n in omega arith

others_left : {A : Type 0} (each n : ℕ) (xs : List A) → length xs ≡ each * suc n → length (drop each xs) ≡ each * n
others_left each n xs long = let step = mul-suc each n in omega (arith, length-drop each xs)

points_read : (g : Grid) → g.halvings ≤ 18 → (each : ℕ) (flag : Bool) (total k n : ℕ) (before : Option ℕ) (ps : List Point) (fs : List (List ℕ)) (ms : List ℤ) → is_next before n ≡ true → n + length ps ≤ 10 ^ 18 → All (IsLegiblePoint limit g) ps
    → length fs ≡ each * length ps → length ms ≡ mark_count flag * length ps → All IsPlainField fs → AreShort ms
    → points_of each flag before (length ps) total (content_lines_from k (lines_of (point_lines None g each (mark_count flag) n ps fs ms))) ≡ Ok (all_made g each (mark_count flag) n k ps fs ms, [])
unfolding points_of point_lines all_made made
points_read g few each flag total k n before [] fs ms next small all many marked plain short = λ j. Ok ([], no_line k [] refl j)
points_read g few each flag total k n before (p ∷ ps) fs ms next small all many marked plain short =
    let marks = mark_count flag in
    let others = points_read g few each flag total (k + 1) (n + 1) (Some n) ps (drop each fs) (drop marks ms) (eq-eqb (n + 1) (n + 1) refl) (omega arith) (λ i d l. all (suc i) d (omega arith))
    (others_left each (length ps) fs many) (others_left marks (length ps) ms marked) (All-drop IsPlainField each fs plain) (All-drop (λ m. IsShortNumber (unsigned_abs m)) marks ms short) in
    ap (λ (ls : List ContentLine). points_of each flag before (suc (length ps)) total ls) lines
    ∙ ap (λ (r : Result read.ListedPoint TextFault). go r) (point_read before k n g p each flag (take each fs) (take marks ms) one next few is (length-take-le each fs (front_whole each (length ps) fs many)) (length-take-le marks ms (front_whole marks (length ps) ms marked)) here)
    ∙ ap (λ (r : Result (List read.ListedPoint × List ContentLine) TextFault). add r) others
  where
    is : IsLegiblePoint limit g p
    is = all 0 p (omega arith)

    one : IsShortNumber n
    one = omega arith

    here : AreShort (take (mark_count flag) ms)
    here = All-take (λ m. IsShortNumber (unsigned_abs m)) (mark_count flag) ms short

    lines : content_lines_from k (lines_of (point_lines None g each (mark_count flag) n (p ∷ ps) fs ms)) ≡ record { line = k; fields = decimal n ∷ point_fields g p (take each fs) (take (mark_count flag) ms) } ∷ content_lines_from (k + 1) (lines_of (point_lines None g each (mark_count flag) (n + 1) ps (drop each fs) (drop (mark_count flag) ms)))
    lines = text_line k n (point_fields g p (take each fs) (take (mark_count flag) ms)) (point_lines None g each (mark_count flag) (n + 1) ps (drop each fs) (drop (mark_count flag) ms)) one (point_words g p (take each fs) (take (mark_count flag) ms) few is (All-take IsPlainField each fs plain) here)

    go : Result read.ListedPoint TextFault → Result (List read.ListedPoint × List ContentLine) TextFault
    go r = r >>= λ point. points_of each flag (Some point.number) (length ps) total (content_lines_from (k + 1) (lines_of (point_lines None g each (mark_count flag) (n + 1) ps (drop each fs) (drop (mark_count flag) ms)))) >>= λ more. Ok (point ∷ more.0, more.1)

    add : Result (List read.ListedPoint × List ContentLine) TextFault → Result (List read.ListedPoint × List ContentLine) TextFault
    add r = r >>= λ more. Ok (made g n k p (take each fs) (take (mark_count flag) ms) ∷ more.0, more.1)

-- ---- the table

-- the lines of points that all have the same attributes and markers are those of points with these, one behind the other
like_is : (g : Grid) (each marks n : ℕ) (ps : List Point) (fs : List (List ℕ)) (ms : List ℤ) → length fs ≡ each → length ms ≡ marks
    → like_lines None g n ps fs ms ≡ point_lines None g each marks n ps (flat_map (λ p. fs) ps) (flat_map (λ p. ms) ps)
unfolding like_lines point_lines
like_is g each marks n [] fs ms many marked = refl
like_is g each marks n (p ∷ ps) fs ms many marked =
    (λ j. point_line None g n p (sym (take_at fs (flat_map (λ q. fs) ps) each many) j) (sym (take_at ms (flat_map (λ q. ms) ps) marks marked) j) ++ like_is g each marks (n + 1) ps fs ms many marked j)
    ∙ (λ j. point_line None g n p (take each (fs ++ flat_map (λ q. fs) ps)) (take marks (ms ++ flat_map (λ q. ms) ps)) ++ point_lines None g each marks (n + 1) ps (sym (drop_at fs (flat_map (λ q. fs) ps) each many) j) (sym (drop_at ms (flat_map (λ q. ms) ps) marks marked) j))
  where
    drop_at : {A : Type 0} (xs ys : List A) (k : ℕ) → length xs ≡ k → drop k (xs ++ ys) ≡ ys
    drop_at xs ys k long = subst (λ (i : ℕ). drop i (xs ++ ys) ≡ ys) long (drop-append_seam xs ys)

none_left : {A : Type 0} (each : ℕ) (xs : List A) → length xs ≡ each * 0 → xs ≡ []
none_left each [] long = refl
none_left each (x ∷ xs) long = absurd (omega arith)

both_lines : (g : Grid) (each marks n : ℕ) (ps qs : List Point) (fs bs : List (List ℕ)) (ms ns : List ℤ) → length fs ≡ each * length ps → length ms ≡ marks * length ps
    → point_lines None g each marks n ps fs ms ++ point_lines None g each marks (n + length ps) qs bs ns ≡ point_lines None g each marks n (ps ++ qs) (fs ++ bs) (ms ++ ns)
unfolding point_lines
both_lines g each marks n [] qs fs bs ms ns many marked =
    (λ j. point_lines None g each marks (same j) qs bs ns) ∙ (λ j. point_lines None g each marks n qs (sym (none_left each fs many) j ++ bs) (sym (none_left marks ms marked) j ++ ns))
  where
    same : n + 0 ≡ n
    same = omega arith
both_lines g each marks n (p ∷ ps) qs fs bs ms ns many marked =
    append_assoc (point_line None g n p (take each fs) (take marks ms)) (point_lines None g each marks (n + 1) ps (drop each fs) (drop marks ms)) (point_lines None g each marks (n + suc (length ps)) qs bs ns)
    ∙ ap (λ (s : List ℕ). point_line None g n p (take each fs) (take marks ms) ++ s)
    (ap (λ (m : ℕ). point_lines None g each marks (n + 1) ps (drop each fs) (drop marks ms) ++ point_lines None g each marks m qs bs ns) (let e : n + suc (length ps) ≡ n + 1 + length ps = omega arith in e)
    ∙ both_lines g each marks (n + 1) ps qs (drop each fs) bs (drop marks ms) ns (others_left each (length ps) fs many) (others_left marks (length ps) ms marked))
    ∙ (λ j. point_line None g n p (sym (take-append-le each fs bs (front_whole each (length ps) fs many)) j) (sym (take-append-le marks ms ns (front_whole marks (length ps) ms marked)) j)
    ++ point_lines None g each marks (n + 1) (ps ++ qs) (sym (drop-append-le each fs bs (front_whole each (length ps) fs many)) j) (sym (drop-append-le marks ms ns (front_whole marks (length ps) ms marked)) j))

-- the first line of a text with *n* points
abbrev first_line : ℕ → ℕ → Bool → List ℕ
first_line count each flag = line_text (pos count) (whole_text (pos 3) ∷ whole_text (pos each) ∷ whole_text (pos (mark_count flag)) ∷ [])

text_is : (table : NodeTable) (added : List Point) (first : ℕ) → IsPlainTable table
    → node_text table added first ≡ first_line (length (table.listed ++ added)) table.attribute_count table.flag
    ++ point_lines None table.grid table.attribute_count (mark_count table.flag) first (table.listed ++ added) (attributes_behind table added) (markers_behind table added)
unfolding list_text
text_is table added first plain =
    let each = table.attribute_count in
    let marks = mark_count table.flag in
    let zeros : List (List ℕ) = replicate each (48 ∷ []) in
    let blanks : List ℤ = replicate marks (pos 0) in
    (λ j. first_line (sym (length-append table.listed added) j) each table.flag
    ++ (point_lines None table.grid each marks first table.listed table.attributes table.markers ++ like_is table.grid each marks (first + length table.listed) added zeros blanks (length-replicate each (48 ∷ [])) (length-replicate marks (pos 0)) j))
    ∙ ap (λ (s : List ℕ). first_line (length (table.listed ++ added)) each table.flag ++ s)
    (both_lines table.grid each marks first table.listed added table.attributes (flat_map (λ p. zeros) added) table.markers (flat_map (λ p. blanks) added) plain.attributes plain.markers)

three_short : IsShortNumber 3
three_short = omega arith

heading_read : (k count each : ℕ) (flag : Bool) → IsShortNumber count → each ≤ 100
    → header_of (record { line = k; fields = decimal count ∷ decimal 3 ∷ decimal each ∷ decimal (mark_count flag) ∷ [] }) ≡ Ok (record { count = count; attribute_count = each; flag = flag })
unfolding header_of
heading_read k count each flag h few =
    ap (λ (r : Result (ℕ × Fields) TextFault). r >>= λ count. count_or 3 3 3 k count.1 >>= λ dimension. count_or 0 0 100 k dimension.1 >>= λ attributes. count_or 0 0 1 k attributes.1 >>= λ flag. end_at k flag.1 >>= λ u. Ok (record { count = count.0; attribute_count = attributes.0; flag = flag.0 == 1 })) (count_read k count _ h)
    ∙ rw (or_read 3 3 3 k 3 (decimal each ∷ decimal (mark_count flag) ∷ []) three_short (omega arith) (omega arith), or_read 0 0 100 k each (decimal (mark_count flag) ∷ []) (small each few) (omega arith) few, or_read 0 0 1 k (mark_count flag) [] (mark_small flag) (omega arith) (mark_few flag), marked flag) refl
  where
    small : (n : ℕ) → n ≤ 100 → IsShortNumber n
    small n le = omega arith

    mark_few : (b : Bool) → mark_count b ≤ 1
    mark_few true = omega arith
    mark_few false = omega arith

    mark_small : (b : Bool) → IsShortNumber (mark_count b)
    mark_small b = let le = mark_few b in omega arith

    marked : (b : Bool) → (mark_count b == 1) ≡ b
    marked true = refl
    marked false = refl

-- the decimals that are read are those of the points
at_made : (wide : ℕ) (g : Grid) (each marks n k : ℕ) (ps : List Point) (fs : List (List ℕ)) (ms : List ℤ) → All (IsLegiblePoint wide g) ps → (i : ℕ) (d : DecimalPoint) → i < length ps
    → IsPointAt wide g (point ps i) (slice_index_or (map (λ p. p.place) (all_made g each marks n k ps fs ms)) i d)
unfolding all_made made placed
at_made wide g each marks n k [] fs ms all i d lt = absurd (omega arith)
at_made wide g each marks n k (p ∷ ps) fs ms all zero d lt =
    let is = all 0 p (omega arith) in
    record { x_is = number_at g p.x; y_is = number_at g p.y; z_is = number_at g p.z; x_small = is.x.small; y_small = is.y.small; z_small = is.z.small }
at_made wide g each marks n k (p ∷ ps) fs ms all (suc i) d lt = at_made wide g each marks (n + 1) (k + 1) ps (drop each fs) (drop marks ms) (λ j e l. all (suc j) e (omega arith)) i d (omega arith)

made_long : (g : Grid) (each marks n k : ℕ) (ps : List Point) (fs : List (List ℕ)) (ms : List ℤ) → length (map (λ p. p.place) (all_made g each marks n k ps fs ms)) ≡ length ps
unfolding all_made
made_long g each marks n k [] fs ms = refl
made_long g each marks n k (p ∷ ps) fs ms = ap suc (made_long g each marks (n + 1) (k + 1) ps (drop each fs) (drop marks ms))

made_attributes : (g : Grid) (each marks n k : ℕ) (ps : List Point) (fs : List (List ℕ)) (ms : List ℤ) → length fs ≡ each * length ps → flat_map (λ p. p.attributes) (all_made g each marks n k ps fs ms) ≡ fs
unfolding all_made made
made_attributes g each marks n k [] fs ms many = sym (none_left each fs many)
made_attributes g each marks n k (p ∷ ps) fs ms many =
    ap (λ (rest : List (List ℕ)). take each fs ++ rest) (made_attributes g each marks (n + 1) (k + 1) ps (drop each fs) (drop marks ms) (others_left each (length ps) fs many)) ∙ take-append-drop each fs

made_markers : (g : Grid) (each marks n k : ℕ) (ps : List Point) (fs : List (List ℕ)) (ms : List ℤ) → length ms ≡ marks * length ps → flat_map (λ p. p.markers) (all_made g each marks n k ps fs ms) ≡ ms
unfolding all_made made
made_markers g each marks n k [] fs ms marked = sym (none_left marks ms marked)
made_markers g each marks n k (p ∷ ps) fs ms marked =
    ap (λ (rest : List ℤ). take marks ms ++ rest) (made_markers g each marks (n + 1) (k + 1) ps (drop each fs) (drop marks ms) (others_left marks (length ps) ms marked)) ∙ take-append-drop marks ms

made_number : (g : Grid) (each marks n k : ℕ) (ps : List Point) (fs : List (List ℕ)) (ms : List ℤ) → 0 < length ps → first_number (all_made g each marks n k ps fs ms) ≡ n
unfolding all_made made
made_number g each marks n k [] fs ms some = absurd (omega arith)
made_number g each marks n k (p ∷ ps) fs ms some = refl

-- the same attributes for each point
many_like : {A B : Type 0} (each : ℕ) (x : A) (ps : List B) → length (flat_map (λ p. replicate each x) ps) ≡ each * length ps
many_like each x [] = omega arith
many_like each x (p ∷ ps) =
    let step = mul-suc each (length ps) in
    omega (arith, length-append (replicate each x) (flat_map (λ q. replicate each x) ps), length-replicate each x, many_like each x ps)

all_like : {A B : Type 0} (P : A → Type 0) (each : ℕ) (x : A) (ps : List B) → P x → All P (flat_map (λ p. replicate each x) ps)
all_like P each x [] h = λ k d lt. absurd (omega arith)
all_like P each x (p ∷ ps) h = All-append P (replicate each x) (flat_map (λ q. replicate each x) ps) (each_is each) (all_like P each x ps h)
  where
    each_is : (n : ℕ) → All P (replicate n x)
    each_is zero k d lt = absurd (omega arith)
    each_is (suc n) zero d lt = h
    each_is (suc n) (suc k) d lt = each_is n k d (omega arith)

together : {A : Type 0} (each a b c : ℕ) (xs ys : List A) → length xs ≡ each * a → length ys ≡ each * b → c ≡ a + b → length (xs ++ ys) ≡ each * c
together each a b c xs ys one two sum =
    length-append xs ys ∙ (λ j. one j + two j) ∙ (let e : each * a + each * b ≡ each * (a + b) = grind arith in e) ∙ ap (λ (n : ℕ). each * n) (sym sum)

pub node_read : NodeReadLaw
unfolding node_of node_list_of points_table
node_read wide within table added first plain one short all =
    let g = table.grid in
    let ps = table.listed ++ added in
    let each = table.attribute_count in
    let marks = mark_count table.flag in
    let fs = attributes_behind table added in
    let ms = markers_behind table added in
    let long = made_long g each marks first 2 ps fs ms in (
      listed_text (record { count = length ps; attribute_count = each; flag = table.flag }) (all_made g each marks first 2 ps fs ms),
      λ total. ap (λ (s : List ℕ). node_of total (content_lines_from 1 (lines_of s))) (text_is table added first plain) ∙ ap (λ (ls : List ContentLine). node_of total ls) lines
          ∙ rw (heading_read 1 (length ps) each table.flag few plain.few, body total) refl,
      record {
        numbered = made_number g each marks first 2 ps fs ms;
        decimals = record { long = long; at = λ i d lt. at_made wide g each marks first 2 ps fs ms all i d (omega arith) };
        attributes = made_attributes g each marks first 2 ps fs ms many;
        markers = made_markers g each marks first 2 ps fs ms marked;
      },
    )
  where
    many : length (attributes_behind table added) ≡ table.attribute_count * length (table.listed ++ added)
    many = together table.attribute_count (length table.listed) (length added) (length (table.listed ++ added)) table.attributes _ plain.attributes (many_like table.attribute_count (48 ∷ []) added) (length-append table.listed added)

    marked : length (markers_behind table added) ≡ mark_count table.flag * length (table.listed ++ added)
    marked = together (mark_count table.flag) (length table.listed) (length added) (length (table.listed ++ added)) table.markers _ plain.markers (many_like (mark_count table.flag) (pos 0) added) (length-append table.listed added)

    few : IsShortNumber (length (table.listed ++ added))
    few = let h = short in omega arith

    small : (n : ℕ) → n ≤ 100 → IsShortNumber n
    small n le = omega arith

    flag_small : (b : Bool) → IsShortNumber (mark_count b)
    flag_small true = omega arith
    flag_small false = omega arith

    lines : content_lines_from 1 (lines_of (first_line (length (table.listed ++ added)) table.attribute_count table.flag ++ point_lines None table.grid table.attribute_count (mark_count table.flag) first (table.listed ++ added) (attributes_behind table added) (markers_behind table added)))
        ≡ record { line = 1; fields = decimal (length (table.listed ++ added)) ∷ decimal 3 ∷ decimal table.attribute_count ∷ decimal (mark_count table.flag) ∷ [] } ∷ content_lines_from 2 (lines_of (point_lines None table.grid table.attribute_count (mark_count table.flag) first (table.listed ++ added) (attributes_behind table added) (markers_behind table added)))
    lines =
        let rest = point_lines None table.grid table.attribute_count (mark_count table.flag) first (table.listed ++ added) (attributes_behind table added) (markers_behind table added) in
        ap (λ (ws : List (List ℕ)). content_lines_from 1 (lines_of (line_text (pos (length (table.listed ++ added))) ws ++ rest))) (λ j. whole_is_decimal 3 three_short j ∷ whole_is_decimal table.attribute_count (small table.attribute_count plain.few) j ∷ whole_is_decimal (mark_count table.flag) (flag_small table.flag) j ∷ [])
        ∙ text_line 1 (length (table.listed ++ added)) (decimal 3 ∷ decimal table.attribute_count ∷ decimal (mark_count table.flag) ∷ []) rest few
        (decimal_word 3 three_short, (decimal_word table.attribute_count (small table.attribute_count plain.few), (decimal_word (mark_count table.flag) (flag_small table.flag), tt)))

    body : (total : ℕ) → points_of table.attribute_count table.flag None (length (table.listed ++ added)) total (content_lines_from 2 (lines_of (point_lines None table.grid table.attribute_count (mark_count table.flag) first (table.listed ++ added) (attributes_behind table added) (markers_behind table added))))
        ≡ Ok (all_made table.grid table.attribute_count (mark_count table.flag) first 2 (table.listed ++ added) (attributes_behind table added) (markers_behind table added), [])
    body total =
        points_read table.grid plain.halvings table.attribute_count table.flag total 2 first None (table.listed ++ added) (attributes_behind table added) (markers_behind table added) (le-leb first 1 one) (let h = short in omega arith) (λ i d lt. legible within (all i d lt))
        many marked
        (All-append IsPlainField table.attributes _ plain.plain (all_like IsPlainField table.attribute_count (48 ∷ []) added zero_plain))
        (All-append (λ m. IsShortNumber (unsigned_abs m)) table.markers _ plain.short (all_like (λ m. IsShortNumber (unsigned_abs m)) (mark_count table.flag) (pos 0) added (omega arith)))
