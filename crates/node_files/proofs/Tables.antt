-- What a table that was read is like.
use Rattle.std.proofs.Common.{◌≡◌, ℕ, zero, suc, ◌+◌, ◌-◌, ◌*◌, ◌^◌, ◌<◌, ◌≤◌, Bool, true, false, cond, List, [], ◌∷◌, length, Option, Some, None, Ok, Err, refl, sym, ap, ◌∙◌, subst, arith, length-append}
use Rattle.std.specs.Prelude.{map, ℤ, ◌==◌}
use Rattle.std.specs.List.{flat_map}
use Rattle.std.proofs.lemmas.Bool.{and_parts, leb-true}
use Rattle.std.proofs.lemmas.List.{length-map}
use Rattle.tet_text.specs.declared.fault.TextFault.{TextFault}
use Rattle.tet_text.specs.Lines.{ContentLine}
use Rattle.tet_text.specs.Faults.{bad_count, bad_index}
use Rattle.tet_text.specs.Reading.{◌>>=◌, Fields, field_at, count_at, whole_at, end_at, line_at}
use Rattle.node_files.specs.declared.header.Header.{Header}
use Rattle.node_files.specs.declared.node_text.NodeText.{NodeText}
use Rattle.node_files.specs.Header.{is_count_in_range, count_within, count_or, header_of}
use Rattle.node_files.specs.Point.{ListedPoint, is_next, index_at, place_at, attributes_at, markers_at, point_of}
use Rattle.node_files.specs.Node.{points_of, points_table, node_list_of, listed_text, first_number, IsNodeText}
use Rattle.std.proofs.Math.Nat.{mul-suc}
use Rattle.node_files.proofs.Points.{bind_ok, ok_is}

attributes_count : (n line : ℕ) (fields : Fields) (x : Fields × Fields) → attributes_at n line fields ≡ Ok x → length x.0 ≡ n
unfolding attributes_at
attributes_count zero line fields x is = sym (ap (λ (p : Fields × Fields). length p.0) (ok_is ([], fields) x is))
attributes_count (suc n) line fields x is =
    let first = bind_ok (field_at line fields) (λ f. attributes_at n line f.1 >>= λ others. Ok (f.0 ∷ others.0, others.1)) x is in
    let others = bind_ok (attributes_at n line first.0.1) (λ others. Ok (first.0.0 ∷ others.0, others.1)) x first.2 in
    sym (ap (λ (p : Fields × Fields). length p.0) (ok_is (first.0.0 ∷ others.0.0, others.0.1) x others.2)) ∙ ap suc (attributes_count n line first.0.1 others.0 others.1)

abbrev Marked : Type 0
Marked = List ℤ × Fields

markers_count : (flag : Bool) (line : ℕ) (fields : Fields) (x : Marked) → markers_at flag line fields ≡ Ok x → length x.0 ≡ cond flag 1 0
unfolding markers_at
markers_count false line fields x is = sym (ap (λ (p : Marked). length p.0) (ok_is ([], fields) x is))
markers_count true line fields x is =
    let marker = bind_ok (whole_at line fields) (λ m. Ok (m.0 ∷ [], m.1)) x is in
    sym (ap (λ (p : Marked). length p.0) (ok_is (marker.0.0 ∷ [], marker.0.1) x marker.2))

if_ok : {A : Type 0} (b : Bool) (x y : A) (fault : TextFault) → cond b (Ok x) (Err fault) ≡ Ok y → (b ≡ true) × (x ≡ y)
if_ok true x y fault is = (refl, ok_is x y is)
if_ok false x y fault is = absurd cc

index_is_next : (before : Option ℕ) (line : ℕ) (fields : Fields) (x : ℕ × Fields) → index_at before line fields ≡ Ok x → is_next before x.0 ≡ true
unfolding index_at
index_is_next before line fields x is =
    let number = bind_ok (count_at line fields) (λ n. cond (is_next before n.0) (Ok n) (Err (bad_index line))) x is in
    let both = if_ok (is_next before number.0.0) number.0 x (bad_index line) number.2 in
    ap (λ (p : ℕ × Fields). is_next before p.0) (sym both.1) ∙ both.0

-- a point that was read
record IsPoint (attribute_count : ℕ) (flag : Bool) (before : Option ℕ) (point : ListedPoint) : Type 0 where
  number : is_next before point.number ≡ true
  attributes : length point.attributes ≡ attribute_count
  markers : length point.markers ≡ cond flag 1 0

point_is : (attribute_count : ℕ) (flag : Bool) (before : Option ℕ) (line : ContentLine) (point : ListedPoint) → point_of attribute_count flag before line ≡ Ok point → IsPoint attribute_count flag before point
unfolding point_of
point_is attribute_count flag before line point is =
    let number = bind_ok (index_at before line.line line.fields) (λ number. place_at line.line number.1 >>= λ place. attributes_at attribute_count line.line place.1 >>= λ attributes. markers_at flag line.line attributes.1 >>= λ markers. end_at line.line markers.1 >>= λ _. Ok (record { number = number.0; place = place.0; attributes = attributes.0; markers = markers.0 })) point is in
    let place = bind_ok (place_at line.line number.0.1) (λ place. attributes_at attribute_count line.line place.1 >>= λ attributes. markers_at flag line.line attributes.1 >>= λ markers. end_at line.line markers.1 >>= λ _. Ok (record { number = number.0.0; place = place.0; attributes = attributes.0; markers = markers.0 })) point number.2 in
    let attributes = bind_ok (attributes_at attribute_count line.line place.0.1) (λ attributes. markers_at flag line.line attributes.1 >>= λ markers. end_at line.line markers.1 >>= λ _. Ok (record { number = number.0.0; place = place.0.0; attributes = attributes.0; markers = markers.0 })) point place.2 in
    let markers = bind_ok (markers_at flag line.line attributes.0.1) (λ markers. end_at line.line markers.1 >>= λ _. Ok (record { number = number.0.0; place = place.0.0; attributes = attributes.0.0; markers = markers.0 })) point attributes.2 in
    let ended = bind_ok (end_at line.line markers.0.1) (λ _. Ok (record { number = number.0.0; place = place.0.0; attributes = attributes.0.0; markers = markers.0.0 })) point markers.2 in
    let made : ListedPoint = record { number = number.0.0; place = place.0.0; attributes = attributes.0.0; markers = markers.0.0 } in
    let fits : IsPoint attribute_count flag before made = record { number = index_is_next before line.line line.fields number.0 number.1; attributes = attributes_count attribute_count line.line place.0.1 attributes.0 attributes.1; markers = markers_count flag line.line attributes.0.1 markers.0 markers.1 } in
    subst (λ (p : ListedPoint). IsPoint attribute_count flag before p) {x = made} (ok_is made point ended.2) fits

-- points that were read, of so many lines
record ArePoints (attribute_count : ℕ) (flag : Bool) (lines : List ContentLine) (points : List ListedPoint) : Type 0 where
  attributes : length (flat_map (λ p. p.attributes) points) ≡ attribute_count * length points
  markers : length (flat_map (λ p. p.markers) points) ≡ cond flag (length points) 0
  few : length points ≤ length lines

abbrev Listed : Type 0
Listed = List ListedPoint × List ContentLine

line_is : (total : ℕ) (lines : List ContentLine) (x : ContentLine × List ContentLine) → line_at total lines ≡ Ok x → length lines ≡ suc (length x.1)
line_is total [] x is = absurd cc
line_is total (line ∷ lines) x is = ap (λ (p : ContentLine × List ContentLine). suc (length p.1)) (ok_is (line, lines) x is)

one_more_times : (c n m k : ℕ) → n ≡ c → m ≡ c * k → n + m ≡ c * suc k
one_more_times c n m k e f = let step = mul-suc c k in omega arith

one_more_marked : (flag : Bool) (n m k : ℕ) → n ≡ cond flag 1 0 → m ≡ cond flag k 0 → n + m ≡ cond flag (suc k) 0
one_more_marked true n m k e f = omega arith
one_more_marked false n m k e f = omega arith

none_marked : (flag : Bool) (n : ℕ) → n ≡ 0 → n ≡ cond flag n 0
none_marked true n none = refl
none_marked false n none = none

one_more_point : (attribute_count : ℕ) (flag : Bool) (before : Option ℕ) (lines rest : List ContentLine) (point : ListedPoint) (points : List ListedPoint) → IsPoint attribute_count flag before point → ArePoints attribute_count flag rest points → length lines ≡ suc (length rest)
    → ArePoints attribute_count flag lines (point ∷ points)
one_more_point attribute_count flag before lines rest point points first are more = record {
  attributes = length-append point.attributes (flat_map (λ p. p.attributes) points) ∙ one_more_times attribute_count (length point.attributes) (length (flat_map (λ p. p.attributes) points)) (length points) first.attributes are.attributes;
  markers = length-append point.markers (flat_map (λ p. p.markers) points) ∙ one_more_marked flag (length point.markers) (length (flat_map (λ p. p.markers) points)) (length points) first.markers are.markers;
  few = omega (arith, are.few);
}

points_are : (attribute_count : ℕ) (flag : Bool) (before : Option ℕ) (n total : ℕ) (lines : List ContentLine) (x : Listed) → points_of attribute_count flag before n total lines ≡ Ok x → ArePoints attribute_count flag lines x.0
unfolding points_of
points_are attribute_count flag before zero total lines x is =
    let nothing : ArePoints attribute_count flag lines [] = record { attributes = omega arith; markers = none_marked flag 0 refl; few = omega arith } in
    subst (λ (p : Listed). ArePoints attribute_count flag lines p.0) (ok_is ([], lines) x is) nothing
points_are attribute_count flag before (suc n) total lines x is =
    let line = bind_ok (line_at total lines) (λ line. point_of attribute_count flag before line.0 >>= λ point. points_of attribute_count flag (Some point.number) n total line.1 >>= λ others. Ok (point ∷ others.0, others.1)) x is in
    let point = bind_ok (point_of attribute_count flag before line.0.0) (λ point. points_of attribute_count flag (Some point.number) n total line.0.1 >>= λ others. Ok (point ∷ others.0, others.1)) x line.2 in
    let others = bind_ok (points_of attribute_count flag (Some point.0.number) n total line.0.1) (λ others. Ok (point.0 ∷ others.0, others.1)) x point.2 in
    let rest = points_are attribute_count flag (Some point.0.number) n total line.0.1 others.0 others.1 in
    let first = point_is attribute_count flag before line.0.0 point.0 point.1 in
    let whole : ArePoints attribute_count flag lines (point.0 ∷ others.0.0) = one_more_point attribute_count flag before lines line.0.1 point.0 others.0.0 first rest (line_is total lines line.0 line.1) in
    let made : Listed = (point.0 ∷ others.0.0, others.0.1) in
    subst (λ (p : Listed). ArePoints attribute_count flag lines p.0) {x = made} (ok_is made x others.2) whole

first_low : (attribute_count : ℕ) (flag : Bool) (n total : ℕ) (lines : List ContentLine) (x : Listed) → points_of attribute_count flag None n total lines ≡ Ok x → first_number x.0 ≤ 1
unfolding points_of
first_low attribute_count flag zero total lines x is = subst (λ (p : Listed). first_number p.0 ≤ 1) (ok_is ([], lines) x is) (omega arith)
first_low attribute_count flag (suc n) total lines x is =
    let line = bind_ok (line_at total lines) (λ line. point_of attribute_count flag None line.0 >>= λ point. points_of attribute_count flag (Some point.number) n total line.1 >>= λ others. Ok (point ∷ others.0, others.1)) x is in
    let point = bind_ok (point_of attribute_count flag None line.0.0) (λ point. points_of attribute_count flag (Some point.number) n total line.0.1 >>= λ others. Ok (point ∷ others.0, others.1)) x line.2 in
    let others = bind_ok (points_of attribute_count flag (Some point.0.number) n total line.0.1) (λ others. Ok (point.0 ∷ others.0, others.1)) x point.2 in
    let first = point_is attribute_count flag None line.0.0 point.0 point.1 in
    let made : Listed = (point.0 ∷ others.0.0, others.0.1) in
    subst (λ (p : Listed). first_number p.0 ≤ 1) {x = made} (ok_is made x others.2) (leb-true point.0.number 1 first.number)

-- a count that was read, or that is not there, is in its range
within_most : (least most line : ℕ) (fields : Fields) (x : ℕ × Fields) → count_within least most line fields ≡ Ok x → x.0 ≤ most
unfolding count_within
within_most least most line fields x is =
    let count = bind_ok (count_at line fields) (λ n. cond (is_count_in_range least most n.0) (Ok n) (Err (bad_count line))) x is in
    let both = if_ok (is_count_in_range least most count.0.0) count.0 x (bad_count line) count.2 in
    ap_le (leb-true count.0.0 most (and_parts _ _ both.0).1) (ap (λ (p : ℕ × Fields). p.0) both.1)
  where
    ap_le : {a b m : ℕ} → a ≤ m → a ≡ b → b ≤ m
    ap_le le e = omega arith

or_most : (absent least most line : ℕ) (fields : Fields) (x : ℕ × Fields) → absent ≤ most → count_or absent least most line fields ≡ Ok x → x.0 ≤ most
unfolding count_or
or_most absent least most line [] x small is = subst (λ (p : ℕ × Fields). p.0 ≤ most) (ok_is (absent, []) x is) small
or_most absent least most line (field ∷ fields) x small is = within_most least most line (field ∷ fields) x is

header_small : (line : ContentLine) (header : Header) → header_of line ≡ Ok header → header.attribute_count ≤ 100
unfolding header_of
header_small line header is =
    let count = bind_ok (count_at line.line line.fields) (λ count. count_or 3 3 3 line.line count.1 >>= λ dimension. count_or 0 0 100 line.line dimension.1 >>= λ attributes. count_or 0 0 1 line.line attributes.1 >>= λ flag. end_at line.line flag.1 >>= λ _. Ok (record { count = count.0; attribute_count = attributes.0; flag = flag.0 == 1 })) header is in
    let dimension = bind_ok (count_or 3 3 3 line.line count.0.1) (λ dimension. count_or 0 0 100 line.line dimension.1 >>= λ attributes. count_or 0 0 1 line.line attributes.1 >>= λ flag. end_at line.line flag.1 >>= λ _. Ok (record { count = count.0.0; attribute_count = attributes.0; flag = flag.0 == 1 })) header count.2 in
    let attributes = bind_ok (count_or 0 0 100 line.line dimension.0.1) (λ attributes. count_or 0 0 1 line.line attributes.1 >>= λ flag. end_at line.line flag.1 >>= λ _. Ok (record { count = count.0.0; attribute_count = attributes.0; flag = flag.0 == 1 })) header dimension.2 in
    let flag = bind_ok (count_or 0 0 1 line.line attributes.0.1) (λ flag. end_at line.line flag.1 >>= λ _. Ok (record { count = count.0.0; attribute_count = attributes.0.0; flag = flag.0 == 1 })) header attributes.2 in
    let ended = bind_ok (end_at line.line flag.0.1) (λ _. Ok (record { count = count.0.0; attribute_count = attributes.0.0; flag = flag.0.0 == 1 })) header flag.2 in
    let made : Header = record { count = count.0.0; attribute_count = attributes.0.0; flag = flag.0.0 == 1 } in
    subst (λ (h : Header). h.attribute_count ≤ 100) {x = made} (ok_is made header ended.2) (or_most 0 0 100 line.line dimension.0.1 attributes.0 (omega arith) attributes.1)

table_is : (header : Header) (total : ℕ) (lines : List ContentLine) (x : NodeText × List ContentLine) → points_table header total lines ≡ Ok x → header.attribute_count ≤ 100 → length lines < 2 ^ 32 - 1 → IsNodeText x.0
unfolding points_table
table_is header total lines x is small few =
    let points = bind_ok (points_of header.attribute_count header.flag None header.count total lines) (λ points. Ok (listed_text header points.0, points.1)) x is in
    let are = points_are header.attribute_count header.flag None header.count total lines points.0 points.1 in
    let low = first_low header.attribute_count header.flag header.count total lines points.0 points.1 in
    let many : length (map (λ p. p.place) points.0.0) ≡ length points.0.0 = length-map points.0.0 (λ p. p.place) in
    let table : IsNodeText (listed_text header points.0.0) = record {
      first = low;
      few_attributes = small;
      attributes = are.attributes ∙ ap (λ (k : ℕ). header.attribute_count * k) (sym many);
      markers = are.markers ∙ ap (λ (k : ℕ). cond header.flag k 0) (sym many);
      few = omega (arith, are.few, many);
    } in
    subst (λ (p : NodeText × List ContentLine). IsNodeText p.0) (ok_is (listed_text header points.0.0, points.0.1) x points.2) table

pub node_list_is : (total : ℕ) (lines : List ContentLine) (x : NodeText × List ContentLine) → node_list_of total lines ≡ Ok x → length lines < 2 ^ 32 - 1 → IsNodeText x.0
unfolding node_list_of
node_list_is total lines x is few =
    let line = bind_ok (line_at total lines) (λ line. header_of line.0 >>= λ header. points_table header total line.1) x is in
    let header = bind_ok (header_of line.0.0) (λ header. points_table header total line.0.1) x line.2 in
    table_is header.0 total line.0.1 x header.2 (header_small line.0.0 header.0 header.1) (omega (arith, line_is total lines line.0 line.1))
