-- The attributes of the points and regions that are read are plain fields.
use Rattle.std.proofs.Common.{◌≡◌, ℕ, zero, suc, Bool, true, false, cond, List, [], ◌∷◌, length, Option, Some, None, Result, Ok, Err, subst}
use Rattle.std.specs.Prelude.{All, IfSome, ◌==◌}
use Rattle.std.specs.Option.{ok_or}
use Rattle.std.specs.List.{flat_map}
use Rattle.std.proofs.lemmas.List.Elements.{All-nil, All-cons, All-head, All-tail, All-append}
use Rattle.tet_text.specs.declared.fault.TextFault.{TextFault}
use Rattle.tet_text.specs.Decimals.{decimal_of}
use Rattle.tet_text.specs.Faults.{not_a_number, bad_index}
use Rattle.tet_text.specs.Lines.{ContentLine}
use Rattle.tet_text.specs.Numbers.{count_of, whole_of}
use Rattle.tet_text.specs.Reading.{◌>>=◌, Fields, field_at, number_at, count_at, whole_at, decimal_at, end_at, line_at, text_end_at}
use Rattle.tet_text.specs.Repeated.{so_many}
use Rattle.grid_coords.specs.declared.points.DecimalPoint.{DecimalPoint}
use Rattle.node_files.specs.Header.{header_of}
use Rattle.node_files.specs.Node.{points_of, points_table, node_list_of, listed_text}
use Rattle.node_files.specs.Point.{ListedPoint, is_next, index_at, place_at, attributes_at, markers_at, point_of}
use Rattle.node_files.specs.declared.node_text.NodeText.{NodeText}
use Rattle.node_files.proofs.Points.{bind_ok, ok_is}
use Rattle.plc_files.specs.declared.form.Form.{Form}
use Rattle.plc_files.specs.declared.form.Form.TheVariants.{Poly, Smesh}
use Rattle.plc_files.specs.declared.parts.CornerText.{CornerText}
use Rattle.plc_files.specs.declared.parts.PolygonText.{PolygonText}
use Rattle.plc_files.specs.declared.parts.RegionText.{RegionText}
use Rattle.plc_files.specs.Facet.{Lines, limit_or_none, hole_of, hole_line, region_of, region_line, polygon_lines, facet_head_of, poly_facet_of, smesh_facet_of, facet_of, marker_of}
use Rattle.plc_files.specs.Fields.{some_count_at, whole_or_none}
use Rattle.plc_files.specs.Plc.{plc_of, nodes_of, facets_of, list_head_of, list_count, count_line, listed}
use Rattle.plc_files.specs.Polygon.{TextPlace, rest_of, field_ahead, corner_of, polygon_of}
use Rattle.plc_files.specs.Text.{ReadFacet, Plc}
use Rattle.run_laws.specs.Reread.{IsPlainField}
use Rattle.run_laws.proofs.PlainFields.{HasPlainFields}

abbrev ArePlain : Fields → Type 0
ArePlain fields = All IsPlainField fields

abbrev ArePlainLines : List ContentLine → Type 0
ArePlainLines lines = All HasPlainFields lines

-- ---- fields

field_is : (line : ℕ) (fields : Fields) (x : List ℕ × Fields) → field_at line fields ≡ Ok x → ArePlain fields → IsPlainField x.0 × ArePlain x.1
field_is line [] x is h = absurd cc
field_is line (field ∷ fields) x is h =
    let made : List ℕ × Fields = (field, fields) in
    subst (λ (p : List ℕ × Fields). IsPlainField p.0 × ArePlain p.1) {x = made} (ok_is made x is) (All-head IsPlainField field fields h, All-tail IsPlainField field fields h)

number_leaves : {N : Type 0} (number : List ℕ → Option N) (line : ℕ) (fields : Fields) (x : N × Fields) → number_at number line fields ≡ Ok x → ArePlain fields → ArePlain x.1
number_leaves {N} number line fields x is h =
    let field = bind_ok (field_at line fields) (λ field. ok_or (number field.0) (not_a_number line) >>= λ n. Ok (n, field.1)) x is in
    let n = bind_ok (ok_or (number field.0.0) (not_a_number line)) (λ n. Ok (n, field.0.1)) x field.2 in
    let made : N × Fields = (n.0, field.0.1) in
    subst (λ (p : N × Fields). ArePlain p.1) {x = made} (ok_is made x n.2) (field_is line fields field.0 field.1 h).1

place_leaves : (line : ℕ) (fields : Fields) (p : DecimalPoint × Fields) → place_at line fields ≡ Ok p → ArePlain fields → ArePlain p.1
unfolding place_at
place_leaves line fields p is h =
    let x = bind_ok (decimal_at line fields) (λ x. decimal_at line x.1 >>= λ y. decimal_at line y.1 >>= λ z. Ok (record { x = x.0; y = y.0; z = z.0; line = line }, z.1)) p is in
    let y = bind_ok (decimal_at line x.0.1) (λ y. decimal_at line y.1 >>= λ z. Ok (record { x = x.0.0; y = y.0; z = z.0; line = line }, z.1)) p x.2 in
    let z = bind_ok (decimal_at line y.0.1) (λ z. Ok (record { x = x.0.0; y = y.0.0; z = z.0; line = line }, z.1)) p y.2 in
    let made : DecimalPoint × Fields = (record { x = x.0.0; y = y.0.0; z = z.0.0; line = line }, z.0.1) in
    let left = number_leaves decimal_of line y.0.1 z.0 z.1 (number_leaves decimal_of line x.0.1 y.0 y.1 (number_leaves decimal_of line fields x.0 x.1 h)) in
    subst (λ (q : DecimalPoint × Fields). ArePlain q.1) {x = made} (ok_is made p z.2) left

line_is : (n : ℕ) (lines : Lines) (x : ContentLine × Lines) → line_at n lines ≡ Ok x → ArePlainLines lines → HasPlainFields x.0 × ArePlainLines x.1
line_is n [] x is h = absurd cc
line_is n (line ∷ lines) x is h =
    let made : ContentLine × Lines = (line, lines) in
    subst (λ (p : ContentLine × Lines). HasPlainFields p.0 × ArePlainLines p.1) {x = made} (ok_is made x is) (All-head HasPlainFields line lines h, All-tail HasPlainFields line lines h)

-- ---- points

attributes_are : (n line : ℕ) (fields : Fields) (x : Fields × Fields) → attributes_at n line fields ≡ Ok x → ArePlain fields → ArePlain x.0
unfolding attributes_at
attributes_are zero line fields x is h =
    let made : Fields × Fields = ([], fields) in
    subst (λ (p : Fields × Fields). ArePlain p.0) {x = made} (ok_is made x is) (All-nil IsPlainField)
attributes_are (suc n) line fields x is h =
    let first = bind_ok (field_at line fields) (λ f. attributes_at n line f.1 >>= λ others. Ok (f.0 ∷ others.0, others.1)) x is in
    let others = bind_ok (attributes_at n line first.0.1) (λ others. Ok (first.0.0 ∷ others.0, others.1)) x first.2 in
    let made : Fields × Fields = (first.0.0 ∷ others.0.0, others.0.1) in
    let here = field_is line fields first.0 first.1 h in
    subst (λ (p : Fields × Fields). ArePlain p.0) {x = made} (ok_is made x others.2) (All-cons IsPlainField first.0.0 others.0.0 here.0 (attributes_are n line first.0.1 others.0 others.1 here.1))

index_leaves : (before : Option ℕ) (line : ℕ) (fields : Fields) (x : ℕ × Fields) → index_at before line fields ≡ Ok x → ArePlain fields → ArePlain x.1
unfolding index_at
index_leaves before line fields x is h =
    let number = bind_ok (count_at line fields) (λ n. cond (is_next before n.0) (Ok n) (Err (bad_index line))) x is in
    subst (λ (p : ℕ × Fields). ArePlain p.1) (kept (is_next before number.0.0) number.0 x (bad_index line) number.2) (number_leaves count_of line fields number.0 number.1 h)
  where
    kept : (b : Bool) (x y : ℕ × Fields) (fault : TextFault) → cond b (Ok x) (Err fault) ≡ Ok y → x ≡ y
    kept true x y fault is = ok_is x y is
    kept false x y fault is = absurd cc

point_is : (each : ℕ) (flag : Bool) (before : Option ℕ) (line : ContentLine) (point : ListedPoint) → point_of each flag before line ≡ Ok point → HasPlainFields line → ArePlain point.attributes
unfolding point_of
point_is each flag before line point is h =
    let number = bind_ok (index_at before line.line line.fields) (λ number. place_at line.line number.1 >>= λ place. attributes_at each line.line place.1 >>= λ attributes. markers_at flag line.line attributes.1 >>= λ markers. end_at line.line markers.1 >>= λ _. Ok (record { number = number.0; place = place.0; attributes = attributes.0; markers = markers.0 })) point is in
    let place = bind_ok (place_at line.line number.0.1) (λ place. attributes_at each line.line place.1 >>= λ attributes. markers_at flag line.line attributes.1 >>= λ markers. end_at line.line markers.1 >>= λ _. Ok (record { number = number.0.0; place = place.0; attributes = attributes.0; markers = markers.0 })) point number.2 in
    let attributes = bind_ok (attributes_at each line.line place.0.1) (λ attributes. markers_at flag line.line attributes.1 >>= λ markers. end_at line.line markers.1 >>= λ _. Ok (record { number = number.0.0; place = place.0.0; attributes = attributes.0; markers = markers.0 })) point place.2 in
    let markers = bind_ok (markers_at flag line.line attributes.0.1) (λ markers. end_at line.line markers.1 >>= λ _. Ok (record { number = number.0.0; place = place.0.0; attributes = attributes.0.0; markers = markers.0 })) point attributes.2 in
    let ended = bind_ok (end_at line.line markers.0.1) (λ _. Ok (record { number = number.0.0; place = place.0.0; attributes = attributes.0.0; markers = markers.0.0 })) point markers.2 in
    let made : ListedPoint = record { number = number.0.0; place = place.0.0; attributes = attributes.0.0; markers = markers.0.0 } in
    subst (λ (p : ListedPoint). ArePlain p.attributes) {x = made} (ok_is made point ended.2)
    (attributes_are each line.line place.0.1 attributes.0 attributes.1 (place_leaves line.line number.0.1 place.0 place.1 (index_leaves before line.line line.fields number.0 number.1 h)))

abbrev Listed : Type 0
Listed = List ListedPoint × List ContentLine

-- what is read of points, and the lines behind them
abbrev ArePlainPoints : Listed → Type 0
ArePlainPoints x = ArePlain (flat_map (λ p. p.attributes) x.0) × ArePlainLines x.1

points_are : (each : ℕ) (flag : Bool) (before : Option ℕ) (n total : ℕ) (lines : List ContentLine) (x : Listed) → points_of each flag before n total lines ≡ Ok x → ArePlainLines lines → ArePlainPoints x
unfolding points_of
points_are each flag before zero total lines x is h =
    let made : Listed = ([], lines) in
    subst ArePlainPoints {x = made} (ok_is made x is) (All-nil IsPlainField, h)
points_are each flag before (suc n) total lines x is h =
    let line = bind_ok (line_at total lines) (λ line. point_of each flag before line.0 >>= λ point. points_of each flag (Some point.number) n total line.1 >>= λ others. Ok (point ∷ others.0, others.1)) x is in
    let point = bind_ok (point_of each flag before line.0.0) (λ point. points_of each flag (Some point.number) n total line.0.1 >>= λ others. Ok (point ∷ others.0, others.1)) x line.2 in
    let others = bind_ok (points_of each flag (Some point.0.number) n total line.0.1) (λ others. Ok (point.0 ∷ others.0, others.1)) x point.2 in
    let made : Listed = (point.0 ∷ others.0.0, others.0.1) in
    let here = line_is total lines line.0 line.1 h in
    let more = points_are each flag (Some point.0.number) n total line.0.1 others.0 others.1 here.1 in
    subst ArePlainPoints {x = made} (ok_is made x others.2)
    (All-append IsPlainField point.0.attributes (flat_map (λ p. p.attributes) others.0.0) (point_is each flag before line.0.0 point.0 point.1 here.0) more.0, more.1)

-- the attributes of a point list, and the lines behind it
abbrev pub ArePlainNodes : NodeText × List ContentLine → Type 0
ArePlainNodes x = ArePlain x.0.attributes × ArePlainLines x.1

pub nodes_plain : (total : ℕ) (lines : List ContentLine) (x : NodeText × List ContentLine) → node_list_of total lines ≡ Ok x → ArePlainLines lines → ArePlainNodes x
unfolding node_list_of points_table
nodes_plain total lines x is h =
    let line = bind_ok (line_at total lines) (λ line. header_of line.0 >>= λ header. points_table header total line.1) x is in
    let header = bind_ok (header_of line.0.0) (λ header. points_table header total line.0.1) x line.2 in
    let points = bind_ok (points_of header.0.attribute_count header.0.flag None header.0.count total line.0.1) (λ points. Ok (listed_text header.0 points.0, points.1)) x header.2 in
    let made : NodeText × List ContentLine = (listed_text header.0 points.0.0, points.0.1) in
    subst ArePlainNodes {x = made} (ok_is made x points.2)
    (points_are header.0.attribute_count header.0.flag None header.0.count total line.0.1 points.0 points.1 (line_is total lines line.0 line.1 h).1)

-- ---- lines that are left

-- a reading leaves plain lines
abbrev Keeps : {X R : Type 0} → (R → Type 0) → (R → Result (X × R) TextFault) → Type 0
Keeps {X} {R} H one = (r : R) (x : X × R) → one r ≡ Ok x → H r → H x.1

many_keep : {X R : Type 0} (H : R → Type 0) (one : R → Result (X × R) TextFault) → Keeps H one → (n : ℕ) → Keeps H (so_many one n)
unfolding so_many
many_keep {X} {R} H one keeps zero r x is h =
    let made : List X × R = ([], r) in
    subst (λ (p : List X × R). H p.1) {x = made} (ok_is made x is) h
many_keep {X} {R} H one keeps (suc n) r x is h =
    let first = bind_ok (one r) (λ first. so_many one n first.1 >>= λ others. Ok (first.0 ∷ others.0, others.1)) x is in
    let others = bind_ok (so_many one n first.0.1) (λ others. Ok (first.0.0 ∷ others.0, others.1)) x first.2 in
    let made : List X × R = (first.0.0 ∷ others.0.0, others.0.1) in
    subst (λ (p : List X × R). H p.1) {x = made} (ok_is made x others.2) (many_keep H one keeps n first.0.1 others.0 others.1 (keeps r first.0 first.1 h))

abbrev IsPlainBehind : TextPlace → Type 0
IsPlainBehind place = ArePlainLines place.1

ahead_keeps : (n line : ℕ) (fields : Fields) (lines : Lines) (x : TextPlace) → field_ahead n line fields lines ≡ Ok x → ArePlainLines lines → IsPlainBehind x
ahead_keeps n line [] lines x is h = (line_is n lines x is h).1
ahead_keeps n line (field ∷ fields) lines x is h =
    let made : TextPlace = (rest_of line (field ∷ fields), lines) in
    subst IsPlainBehind {x = made} (ok_is made x is) h

corner_keeps : (n : ℕ) → Keeps IsPlainBehind (corner_of n)
unfolding corner_of
corner_keeps n place x is h =
    let ahead = bind_ok (field_ahead n place.0.line place.0.fields place.1) (λ ahead. count_at ahead.0.line ahead.0.fields >>= λ number. Ok (record { number = number.0; line = ahead.0.line }, (rest_of ahead.0.line number.1, ahead.1))) x is in
    let number = bind_ok (count_at ahead.0.0.line ahead.0.0.fields) (λ number. Ok (record { number = number.0; line = ahead.0.0.line }, (rest_of ahead.0.0.line number.1, ahead.0.1))) x ahead.2 in
    let made : CornerText × TextPlace = (record { number = number.0.0; line = ahead.0.0.line }, (rest_of ahead.0.0.line number.0.1, ahead.0.1)) in
    subst (λ (p : CornerText × TextPlace). IsPlainBehind p.1) {x = made} (ok_is made x number.2) (ahead_keeps n place.0.line place.0.fields place.1 ahead.0 ahead.1 h)

polygon_keeps : (n : ℕ) → Keeps IsPlainBehind (polygon_of n)
unfolding polygon_of
polygon_keeps n place x is h =
    let count = bind_ok (some_count_at place.0.line place.0.fields) (λ count. so_many (corner_of n) count.0 (rest_of place.0.line count.1, place.1) >>= λ corners. Ok (record { line = place.0.line; corners = corners.0 }, corners.1)) x is in
    let start : TextPlace = (rest_of place.0.line count.0.1, place.1) in
    let corners = bind_ok (so_many (corner_of n) count.0.0 start) (λ corners. Ok (record { line = place.0.line; corners = corners.0 }, corners.1)) x count.2 in
    let made : PolygonText × TextPlace = (record { line = place.0.line; corners = corners.0.0 }, corners.0.1) in
    subst (λ (p : PolygonText × TextPlace). IsPlainBehind p.1) {x = made} (ok_is made x corners.2) (many_keep IsPlainBehind (corner_of n) (corner_keeps n) count.0.0 start corners.0 corners.1 h)

polygon_lines_keep : (n : ℕ) → Keeps ArePlainLines (polygon_lines n)
unfolding polygon_lines
polygon_lines_keep n lines x is h =
    let line = bind_ok (line_at n lines) (λ line. polygon_of n line >>= λ polygon. end_at polygon.1.0.line polygon.1.0.fields >>= λ _. Ok (polygon.0, polygon.1.1)) x is in
    let polygon = bind_ok (polygon_of n line.0) (λ polygon. end_at polygon.1.0.line polygon.1.0.fields >>= λ _. Ok (polygon.0, polygon.1.1)) x line.2 in
    let ended = bind_ok (end_at polygon.0.1.0.line polygon.0.1.0.fields) (λ _. Ok (polygon.0.0, polygon.0.1.1)) x polygon.2 in
    let made : PolygonText × Lines = (polygon.0.0, polygon.0.1.1) in
    subst (λ (p : PolygonText × Lines). ArePlainLines p.1) {x = made} (ok_is made x ended.2) (polygon_keeps n line.0 polygon.0 polygon.1 (line_is n lines line.0 line.1 h).1)

hole_keeps : (n : ℕ) → Keeps ArePlainLines (hole_line n)
unfolding hole_line
hole_keeps n lines x is h =
    let line = bind_ok (line_at n lines) (λ line. hole_of line.0 >>= λ hole. Ok (hole, line.1)) x is in
    let hole = bind_ok (hole_of line.0.0) (λ hole. Ok (hole, line.0.1)) x line.2 in
    let made : DecimalPoint × Lines = (hole.0, line.0.1) in
    subst (λ (p : DecimalPoint × Lines). ArePlainLines p.1) {x = made} (ok_is made x hole.2) (line_is n lines line.0 line.1 h).1

facet_keeps : (form : Form) (flag : Bool) (n : ℕ) → Keeps ArePlainLines (facet_of form flag n)
unfolding poly_facet_of smesh_facet_of
facet_keeps Poly flag n lines x is h =
    let line = bind_ok (line_at n lines) (λ line. facet_head_of line.0 >>= λ head. so_many (polygon_lines n) head.polygons line.1 >>= λ polygons. so_many (hole_line n) head.holes polygons.1 >>= λ holes. Ok (record { polygons = polygons.0; holes = holes.0; marker = marker_of flag head.marker }, holes.1)) x is in
    let head = bind_ok (facet_head_of line.0.0) (λ head. so_many (polygon_lines n) head.polygons line.0.1 >>= λ polygons. so_many (hole_line n) head.holes polygons.1 >>= λ holes. Ok (record { polygons = polygons.0; holes = holes.0; marker = marker_of flag head.marker }, holes.1)) x line.2 in
    let polygons = bind_ok (so_many (polygon_lines n) head.0.polygons line.0.1) (λ polygons. so_many (hole_line n) head.0.holes polygons.1 >>= λ holes. Ok (record { polygons = polygons.0; holes = holes.0; marker = marker_of flag head.0.marker }, holes.1)) x head.2 in
    let holes = bind_ok (so_many (hole_line n) head.0.holes polygons.0.1) (λ holes. Ok (record { polygons = polygons.0.0; holes = holes.0; marker = marker_of flag head.0.marker }, holes.1)) x polygons.2 in
    let made : ReadFacet × Lines = (record { polygons = polygons.0.0; holes = holes.0.0; marker = marker_of flag head.0.marker }, holes.0.1) in
    let here = (line_is n lines line.0 line.1 h).1 in
    subst (λ (p : ReadFacet × Lines). ArePlainLines p.1) {x = made} (ok_is made x holes.2)
    (many_keep ArePlainLines (hole_line n) (hole_keeps n) head.0.holes polygons.0.1 holes.0 holes.1 (many_keep ArePlainLines (polygon_lines n) (polygon_lines_keep n) head.0.polygons line.0.1 polygons.0 polygons.1 here))
facet_keeps Smesh flag n lines x is h =
    let line = bind_ok (line_at n lines) (λ line. polygon_of n line >>= λ polygon. whole_or_none polygon.1.0.line polygon.1.0.fields >>= λ marker. end_at polygon.1.0.line marker.1 >>= λ _. Ok (record { polygons = polygon.0 ∷ []; holes = []; marker = marker_of flag marker.0 }, polygon.1.1)) x is in
    let polygon = bind_ok (polygon_of n line.0) (λ polygon. whole_or_none polygon.1.0.line polygon.1.0.fields >>= λ marker. end_at polygon.1.0.line marker.1 >>= λ _. Ok (record { polygons = polygon.0 ∷ []; holes = []; marker = marker_of flag marker.0 }, polygon.1.1)) x line.2 in
    let marker = bind_ok (whole_or_none polygon.0.1.0.line polygon.0.1.0.fields) (λ marker. end_at polygon.0.1.0.line marker.1 >>= λ _. Ok (record { polygons = polygon.0.0 ∷ []; holes = []; marker = marker_of flag marker.0 }, polygon.0.1.1)) x polygon.2 in
    let ended = bind_ok (end_at polygon.0.1.0.line marker.0.1) (λ _. Ok (record { polygons = polygon.0.0 ∷ []; holes = []; marker = marker_of flag marker.0.0 }, polygon.0.1.1)) x marker.2 in
    let made : ReadFacet × Lines = (record { polygons = polygon.0.0 ∷ []; holes = []; marker = marker_of flag marker.0.0 }, polygon.0.1.1) in
    subst (λ (p : ReadFacet × Lines). ArePlainLines p.1) {x = made} (ok_is made x ended.2) (polygon_keeps n line.0 polygon.0 polygon.1 (line_is n lines line.0 line.1 h).1)

facets_keep : (form : Form) (total : ℕ) → Keeps ArePlainLines (facets_of form total)
unfolding facets_of
facets_keep form total lines x is h =
    let line = bind_ok (line_at total lines) (λ line. list_head_of line.0 >>= λ head. so_many (facet_of form head.1 total) head.0 line.1) x is in
    let head = bind_ok (list_head_of line.0.0) (λ head. so_many (facet_of form head.1 total) head.0 line.0.1) x line.2 in
    many_keep ArePlainLines (facet_of form head.0.1 total) (facet_keeps form head.0.1 total) head.0.0 line.0.1 x head.2 (line_is total lines line.0 line.1 h).1

count_keeps : Keeps ArePlainLines list_count
unfolding list_count
count_keeps [] x is h =
    let made : ℕ × Lines = (0, []) in
    subst (λ (p : ℕ × Lines). ArePlainLines p.1) {x = made} (ok_is made x is) h
count_keeps (line ∷ lines) x is h =
    let count = bind_ok (count_line line) (λ count. Ok (count, lines)) x is in
    let made : ℕ × Lines = (count.0, lines) in
    subst (λ (p : ℕ × Lines). ArePlainLines p.1) {x = made} (ok_is made x count.2) (All-tail HasPlainFields line lines h)

holes_keep : (total : ℕ) → Keeps ArePlainLines (listed (hole_line total))
unfolding listed
holes_keep total lines x is h =
    let count = bind_ok (list_count lines) (λ count. so_many (hole_line total) count.0 count.1) x is in
    many_keep ArePlainLines (hole_line total) (hole_keeps total) count.0.0 count.0.1 x count.2 (count_keeps lines count.0 count.1 h)

-- ---- regions

abbrev IsPlainRegion : RegionText → Type 0
IsPlainRegion r = IsPlainField r.attribute

region_is : (line : ContentLine) (r : RegionText) → region_of line ≡ Ok r → HasPlainFields line → IsPlainRegion r
unfolding region_of
region_is line r is h =
    let number = bind_ok (whole_at line.line line.fields) (λ number. place_at line.line number.1 >>= λ place. field_at line.line place.1 >>= λ attribute. limit_or_none line.line attribute.1 >>= λ limit. Ok (record { at = place.0; attribute = attribute.0; limit = limit })) r is in
    let place = bind_ok (place_at line.line number.0.1) (λ place. field_at line.line place.1 >>= λ attribute. limit_or_none line.line attribute.1 >>= λ limit. Ok (record { at = place.0; attribute = attribute.0; limit = limit })) r number.2 in
    let attribute = bind_ok (field_at line.line place.0.1) (λ attribute. limit_or_none line.line attribute.1 >>= λ limit. Ok (record { at = place.0.0; attribute = attribute.0; limit = limit })) r place.2 in
    let ended = bind_ok (limit_or_none line.line attribute.0.1) (λ limit. Ok (record { at = place.0.0; attribute = attribute.0.0; limit = limit })) r attribute.2 in
    let made : RegionText = record { at = place.0.0; attribute = attribute.0.0; limit = ended.0 } in
    let left = place_leaves line.line number.0.1 place.0 place.1 (number_leaves whole_of line.line line.fields number.0 number.1 h) in
    subst IsPlainRegion {x = made} (ok_is made r ended.2) (field_is line.line place.0.1 attribute.0 attribute.1 left).0

region_line_is : (n : ℕ) (lines : Lines) (x : RegionText × Lines) → region_line n lines ≡ Ok x → ArePlainLines lines → IsPlainRegion x.0 × ArePlainLines x.1
unfolding region_line
region_line_is n lines x is h =
    let line = bind_ok (line_at n lines) (λ line. region_of line.0 >>= λ region. Ok (region, line.1)) x is in
    let region = bind_ok (region_of line.0.0) (λ region. Ok (region, line.0.1)) x line.2 in
    let made : RegionText × Lines = (region.0, line.0.1) in
    let here = line_is n lines line.0 line.1 h in
    subst (λ (p : RegionText × Lines). IsPlainRegion p.0 × ArePlainLines p.1) {x = made} (ok_is made x region.2) (region_is line.0.0 region.0 region.1 here.0, here.1)

regions_are : (total count : ℕ) (lines : Lines) (x : List RegionText × Lines) → so_many (region_line total) count lines ≡ Ok x → ArePlainLines lines → All IsPlainRegion x.0
unfolding so_many
regions_are total zero lines x is h =
    let made : List RegionText × Lines = ([], lines) in
    subst (λ (p : List RegionText × Lines). All IsPlainRegion p.0) {x = made} (ok_is made x is) (All-nil IsPlainRegion)
regions_are total (suc count) lines x is h =
    let first = bind_ok (region_line total lines) (λ first. so_many (region_line total) count first.1 >>= λ others. Ok (first.0 ∷ others.0, others.1)) x is in
    let others = bind_ok (so_many (region_line total) count first.0.1) (λ others. Ok (first.0.0 ∷ others.0, others.1)) x first.2 in
    let made : List RegionText × Lines = (first.0.0 ∷ others.0.0, others.0.1) in
    let here = region_line_is total lines first.0 first.1 h in
    subst (λ (p : List RegionText × Lines). All IsPlainRegion p.0) {x = made} (ok_is made x others.2) (All-cons IsPlainRegion first.0.0 others.0.0 here.0 (regions_are total count first.0.1 others.0 others.1 here.1))

listed_regions : (total : ℕ) (lines : Lines) (x : List RegionText × Lines) → listed (region_line total) lines ≡ Ok x → ArePlainLines lines → All IsPlainRegion x.0
unfolding listed
listed_regions total lines x is h =
    let count = bind_ok (list_count lines) (λ count. so_many (region_line total) count.0 count.1) x is in
    regions_are total count.0.0 count.0.1 x count.2 (count_keeps lines count.0 count.1 h)

-- ---- complexes

-- what a complex has of its point list is that list
own_nodes : (P : NodeText → Type 0) (text : NodeText) → P text → IfSome (nodes_of text) P
own_nodes P text h = go (length text.decimals == 0)
  where
    go : (b : Bool) → IfSome (cond b None (Some text)) P
    go true = tt
    go false = h

-- a fact of the point list that is read, and the regions
pub plc_plain : (P : NodeText → Type 0) (form : Form) (total : ℕ) (lines : Lines) (text : Plc) → ((x : NodeText × Lines) → node_list_of total lines ≡ Ok x → P x.0) → plc_of form total lines ≡ Ok text → ArePlainLines lines
    → IfSome text.nodes P × All (λ r. IsPlainField r.attribute) text.regions
unfolding plc_of
plc_plain P form total lines text read is h =
    let nodes = bind_ok (node_list_of total lines) (λ nodes. facets_of form total nodes.1 >>= λ facets. listed (hole_line total) facets.1 >>= λ holes. listed (region_line total) holes.1 >>= λ regions. text_end_at regions.1 >>= λ _. Ok (record { nodes = nodes_of nodes.0; facets = facets.0; holes = holes.0; regions = regions.0 })) text is in
    let facets = bind_ok (facets_of form total nodes.0.1) (λ facets. listed (hole_line total) facets.1 >>= λ holes. listed (region_line total) holes.1 >>= λ regions. text_end_at regions.1 >>= λ _. Ok (record { nodes = nodes_of nodes.0.0; facets = facets.0; holes = holes.0; regions = regions.0 })) text nodes.2 in
    let holes = bind_ok (listed (hole_line total) facets.0.1) (λ holes. listed (region_line total) holes.1 >>= λ regions. text_end_at regions.1 >>= λ _. Ok (record { nodes = nodes_of nodes.0.0; facets = facets.0.0; holes = holes.0; regions = regions.0 })) text facets.2 in
    let regions = bind_ok (listed (region_line total) holes.0.1) (λ regions. text_end_at regions.1 >>= λ _. Ok (record { nodes = nodes_of nodes.0.0; facets = facets.0.0; holes = holes.0.0; regions = regions.0 })) text holes.2 in
    let ended = bind_ok (text_end_at regions.0.1) (λ _. Ok (record { nodes = nodes_of nodes.0.0; facets = facets.0.0; holes = holes.0.0; regions = regions.0.0 })) text regions.2 in
    let made : Plc = record { nodes = nodes_of nodes.0.0; facets = facets.0.0; holes = holes.0.0; regions = regions.0.0 } in
    let first = (nodes_plain total lines nodes.0 nodes.1 h).1 in
    let second = facets_keep form total nodes.0.1 facets.0 facets.1 first in
    let third = holes_keep total facets.0.1 holes.0 holes.1 second in
    subst (λ (t : Plc). IfSome t.nodes P × All (λ r. IsPlainField r.attribute) t.regions) {x = made} (ok_is made text ended.2)
    (own_nodes P nodes.0.0 (read nodes.0 nodes.1), listed_regions total holes.0.1 regions.0 regions.1 third)
