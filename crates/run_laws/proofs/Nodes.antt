-- The numbers in point lists.
use Rattle.std.proofs.Common.{◌≡◌, ℕ, zero, suc, ◌≤◌, ℤ, Bool, true, false, cond, List, [], ◌∷◌, Option, Some, None, Ok, Err, refl, ap, subst, arith}
use Rattle.std.specs.Prelude.{All, flat_map, nat_le, if◌then◌else◌}
use Rattle.std.proofs.lemmas.Bool.{leb-true}
use Rattle.std.proofs.lemmas.List.Elements.{All-append}
use Rattle.tet_text.specs.Faults.{bad_index}
use Rattle.tet_text.specs.Lines.{ContentLine}
use Rattle.tet_text.specs.Reading.{◌>>=◌, Fields, count_at, whole_at, end_at, line_at}
use Rattle.node_files.specs.Header.{header_of}
use Rattle.node_files.specs.Node.{points_of, points_table, node_list_of, listed_text, first_number}
use Rattle.node_files.specs.Point.{ListedPoint, point_of, index_at, place_at, attributes_at, markers_at, is_next}
use Rattle.node_files.specs.declared.node_text.NodeText.{NodeText}
use Rattle.node_files.proofs.Points.{bind_ok}
use Rattle.grid_coords.specs.declared.points.DecimalPoint.{DecimalPoint}
use Rattle.run_laws.specs.Numbers.{HasShortNumbers, NodesReadLaw}
use Rattle.run_laws.proofs.Numbers.{IsShortWhole, ok, same_ok, err_ok, whole_at_short}

-- a first point has the number 0 or 1
first_read : (line : ℕ) (fields : Fields) (n : ℕ) (rest : Fields) → index_at None line fields ≡ Ok (n, rest) → n ≤ 1
unfolding index_at
first_read line fields n rest e =
    let a = bind_ok (count_at line fields) (λ number. if is_next None number.0 then Ok number else Err (bad_index line)) (n, rest) e in
    go (nat_le a.0.0 1) a.0 refl a.2
  where
    go : (b : Bool) (c : ℕ × Fields) → nat_le c.0 1 ≡ b → cond b (ok c) (Err (bad_index line)) ≡ Ok (n, rest) → n ≤ 1
    go true c is e = subst (λ (m : ℕ). m ≤ 1) (ap (λ (x : ℕ × Fields). x.0) (same_ok c (n, rest) e)) (leb-true c.0 1 is)
    go false c is e = absurd (err_ok (bad_index line) (n, rest) e)

markers_read : (flag : Bool) (line : ℕ) (fields : Fields) (ms : List ℤ) (rest : Fields) → markers_at flag line fields ≡ Ok (ms, rest) → All IsShortWhole ms
unfolding markers_at
markers_read false line fields ms rest e =
    subst (All IsShortWhole) (ap (λ (x : List ℤ × Fields). x.0) (same_ok ([], fields) (ms, rest) e)) (λ k d lt. absurd (omega arith))
markers_read true line fields ms rest e =
    let a = bind_ok (whole_at line fields) (λ marker. ok (marker.0 ∷ [], marker.1)) (ms, rest) e in
    let short = whole_at_short line fields a.0.0 a.0.1 a.1 in
    subst (All IsShortWhole) (ap (λ (x : List ℤ × Fields). x.0) (same_ok (a.0.0 ∷ [], a.0.1) (ms, rest) a.2)) (one a.0.0 short)
  where
    one : (z : ℤ) → IsShortWhole z → All IsShortWhole (z ∷ [])
    one z h zero d lt = h
    one z h (suc k) d lt = absurd (omega arith)

-- a point has short markers, and where it is the first one a number up to 1
abbrev IsShortPoint : Option ℕ → ListedPoint → Type 0
IsShortPoint before p = (before ≡ None → p.number ≤ 1) × All IsShortWhole p.markers

point_read : (each : ℕ) (flag : Bool) (before : Option ℕ) (line : ContentLine) (p : ListedPoint) → point_of each flag before line ≡ Ok p → IsShortPoint before p
unfolding point_of
point_read each flag before line p e =
    let a = bind_ok (index_at before line.line line.fields) (λ number. place_at line.line number.1 >>= λ place. attributes_at each line.line place.1 >>= λ attributes. markers_at flag line.line attributes.1 >>= λ markers. end_at line.line markers.1 >>= λ u. ok (made number.0 place.0 attributes.0 markers.0)) p e in
    let b = bind_ok (place_at line.line a.0.1) (λ place. attributes_at each line.line place.1 >>= λ attributes. markers_at flag line.line attributes.1 >>= λ markers. end_at line.line markers.1 >>= λ u. ok (made a.0.0 place.0 attributes.0 markers.0)) p a.2 in
    let c = bind_ok (attributes_at each line.line b.0.1) (λ attributes. markers_at flag line.line attributes.1 >>= λ markers. end_at line.line markers.1 >>= λ u. ok (made a.0.0 b.0.0 attributes.0 markers.0)) p b.2 in
    let d = bind_ok (markers_at flag line.line c.0.1) (λ markers. end_at line.line markers.1 >>= λ u. ok (made a.0.0 b.0.0 c.0.0 markers.0)) p c.2 in
    let f = bind_ok (end_at line.line d.0.1) (λ u. ok (made a.0.0 b.0.0 c.0.0 d.0.0)) p d.2 in
    subst (IsShortPoint before) (same_ok (made a.0.0 b.0.0 c.0.0 d.0.0) p f.2)
    (λ first. first_read line.line line.fields a.0.0 a.0.1 (subst (λ o. index_at o line.line line.fields ≡ Ok a.0) first a.1), markers_read flag line.line c.0.1 d.0.0 d.0.1 d.1)
  where
    made : ℕ → DecimalPoint → List (List ℕ) → List ℤ → ListedPoint
    made number place attributes markers = record { number = number; place = place; attributes = attributes; markers = markers }

-- ---- points

abbrev AreShortPoints : Option ℕ → List ListedPoint → Type 0
AreShortPoints before ps = (before ≡ None → first_number ps ≤ 1) × All IsShortWhole (flat_map (λ p. p.markers) ps)

points_read : (each : ℕ) (flag : Bool) (before : Option ℕ) (count total : ℕ) (lines : List ContentLine) (ps : List ListedPoint) (rest : List ContentLine)
    → points_of each flag before count total lines ≡ Ok (ps, rest) → AreShortPoints before ps
unfolding points_of
points_read each flag before zero total lines ps rest e =
    subst (AreShortPoints before) (ap (λ (x : List ListedPoint × List ContentLine). x.0) (same_ok ([], lines) (ps, rest) e)) (λ first. omega arith, λ k d lt. absurd (omega arith))
points_read each flag before (suc count) total lines ps rest e =
    let a = bind_ok (line_at total lines) (λ line. point_of each flag before line.0 >>= λ point. points_of each flag (Some point.number) count total line.1 >>= λ others. ok (point ∷ others.0, others.1)) (ps, rest) e in
    let b = bind_ok (point_of each flag before a.0.0) (λ point. points_of each flag (Some point.number) count total a.0.1 >>= λ others. ok (point ∷ others.0, others.1)) (ps, rest) a.2 in
    let c = bind_ok (points_of each flag (Some b.0.number) count total a.0.1) (λ others. ok (b.0 ∷ others.0, others.1)) (ps, rest) b.2 in
    let one = point_read each flag before a.0.0 b.0 b.1 in
    let more = points_read each flag (Some b.0.number) count total a.0.1 c.0.0 c.0.1 c.1 in
    subst (AreShortPoints before) (ap (λ (x : List ListedPoint × List ContentLine). x.0) (same_ok (b.0 ∷ c.0.0, c.0.1) (ps, rest) c.2))
    (one.0, All-append IsShortWhole b.0.markers (flat_map (λ p. p.markers) c.0.0) one.1 more.1)

pub nodes_read : NodesReadLaw
unfolding node_list_of points_table
nodes_read total lines rest text e =
    let a = bind_ok (line_at total lines) (λ line. header_of line.0 >>= λ header. points_of header.attribute_count header.flag None header.count total line.1 >>= λ points. ok (listed_text header points.0, points.1)) (text, rest) e in
    let b = bind_ok (header_of a.0.0) (λ header. points_of header.attribute_count header.flag None header.count total a.0.1 >>= λ points. ok (listed_text header points.0, points.1)) (text, rest) a.2 in
    let c = bind_ok (points_of b.0.attribute_count b.0.flag None b.0.count total a.0.1) (λ points. ok (listed_text b.0 points.0, points.1)) (text, rest) b.2 in
    let short = points_read b.0.attribute_count b.0.flag None b.0.count total a.0.1 c.0.0 c.0.1 c.1 in
    subst HasShortNumbers (ap (λ (x : NodeText × List ContentLine). x.0) (same_ok (listed_text b.0 c.0.0, c.0.1) (text, rest) c.2))
    (record { first = short.0 refl; markers = short.1 })
