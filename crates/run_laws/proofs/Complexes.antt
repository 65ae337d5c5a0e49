-- The numbers in complexes.
use Rattle.std.proofs.Common.{◌≡◌, ◌⊎◌, inl, inr, ℕ, zero, suc, ℤ, Bool, true, false, cond, List, [], ◌∷◌, length, map, Option, Some, None, Result, Ok, Err, refl, ap, subst, arith}
use Rattle.std.specs.Prelude.{All, IfSome, MatchResult, ◌==◌}
use Rattle.tet_text.specs.declared.fault.TextFault.{TextFault}
use Rattle.tet_text.specs.Lines.{ContentLine}
use Rattle.tet_text.specs.Reading.{◌>>=◌, Fields, whole_at, end_at, line_at, text_end_at}
use Rattle.grid_coords.specs.declared.points.DecimalPoint.{DecimalPoint}
use Rattle.node_files.specs.Node.{node_list_of}
use Rattle.node_files.specs.declared.node_text.NodeText.{NodeText}
use Rattle.node_files.proofs.Points.{bind_ok}
use Rattle.plc_files.specs.declared.form.Form.{Form}
use Rattle.plc_files.specs.declared.form.Form.TheVariants.{Poly, Smesh}
use Rattle.plc_files.specs.declared.parts.PolygonText.{PolygonText}
use Rattle.plc_files.specs.Facet.{Lines, facet_of, facet_head_of, poly_facet_of, smesh_facet_of, polygon_lines, hole_line, region_line, marker_of}
use Rattle.plc_files.specs.Fields.{some_count_at, count_or_zero, whole_or_none}
use Rattle.plc_files.specs.Plc.{plc_of, nodes_of, facets_of, list_head_of, listed}
use Rattle.plc_files.specs.Polygon.{polygon_of}
use Rattle.plc_files.specs.Text.{ReadFacet, Plc}
use Rattle.soup_files.specs.Off as off
use Rattle.soup_files.specs.Off.{off_by, off_of, head_of}
use Rattle.soup_files.specs.Stl as stl
use Rattle.soup_files.specs.Stl.{stl_of, solid_line, triangle_in, vertices_of, triangles_of}
use Rattle.soup_files.specs.Surface.{surface_of, facet_of_one}
use Rattle.soup_files.specs.Vertices.{distinct_vertices}
use Rattle.run_laws.specs.Numbers.{HasShortNumbers, AreMarkedShort, IsNumberedShort, PlcReadLaw, SurfaceReadLaw}
use Rattle.run_laws.proofs.Numbers.{IsShortWhole, ok, same_ok, whole_at_short}
use Rattle.run_laws.proofs.Nodes.{nodes_read}
use Rattle.tet_text.specs.Repeated.{so_many}

-- ---- facets

abbrev IsMarkedShort : ReadFacet → Type 0
IsMarkedShort f = IfSome f.marker IsShortWhole

-- what each reading gives holds of all that are read
all_read : {X R : Type 0} (one : R → Result (X × R) TextFault) (P : X → Type 0) → ((r : R) (x : X) (s : R) → one r ≡ Ok (x, s) → P x)
    → (count : ℕ) (r : R) (xs : List X) (s : R) → so_many one count r ≡ Ok (xs, s) → All P xs
unfolding so_many
all_read {X} {R} one P each zero r xs s e = subst (All P) (ap (λ (x : List X × R). x.0) (same_ok ([], r) (xs, s) e)) (λ k d lt. absurd (omega arith))
all_read {X} {R} one P each (suc count) r xs s e =
    let a = bind_ok (one r) (λ first. so_many one count first.1 >>= λ others. ok (first.0 ∷ others.0, others.1)) (xs, s) e in
    let b = bind_ok (so_many one count a.0.1) (λ others. ok (a.0.0 ∷ others.0, others.1)) (xs, s) a.2 in
    let more = all_read one P each count a.0.1 b.0.0 b.0.1 b.1 in
    subst (All P) (ap (λ (x : List X × R). x.0) (same_ok (a.0.0 ∷ b.0.0, b.0.1) (xs, s) b.2)) (put a.0.0 b.0.0 (each r a.0.0 a.0.1 a.1) more)
  where
    put : (x : X) (ys : List X) → P x → All P ys → All P (x ∷ ys)
    put x ys h all zero d lt = h
    put x ys h all (suc k) d lt = all k d (omega arith)

whole_or_short : (line : ℕ) (fields : Fields) (o : Option ℤ) (rest : Fields) → whole_or_none line fields ≡ Ok (o, rest) → IfSome o IsShortWhole
unfolding whole_or_none
whole_or_short line [] o rest e = subst (λ m. IfSome m IsShortWhole) (ap (λ (x : Option ℤ × Fields). x.0) (same_ok (None, []) (o, rest) e)) tt
whole_or_short line (w ∷ ws) o rest e =
    let a = bind_ok (whole_at line (w ∷ ws)) (λ whole. ok (Some whole.0, whole.1)) (o, rest) e in
    subst (λ m. IfSome m IsShortWhole) (ap (λ (x : Option ℤ × Fields). x.0) (same_ok (Some a.0.0, a.0.1) (o, rest) a.2)) (whole_at_short line (w ∷ ws) a.0.0 a.0.1 a.1)

used_short : (flag : Bool) (o : Option ℤ) → IfSome o IsShortWhole → IfSome (marker_of flag o) IsShortWhole
used_short true o h = h
used_short false o h = tt

-- what holds of what is read, where something is read
each_ok : {A : Type 0} (r : Result A TextFault) (P : A → Type 0) → ((x : A) → r ≡ Ok x → P x) → MatchResult r P (λ fault. Unit {0})
each_ok (Ok x) P h = h x refl
each_ok (Err fault) P h = tt

head_short : (line : ContentLine) → MatchResult (facet_head_of line) (λ head. IfSome head.marker IsShortWhole) (λ fault. Unit {0})
unfolding facet_head_of
head_short line = each_ok (facet_head_of line) (λ head. IfSome head.marker IsShortWhole) (λ head e.
    let a = bind_ok (some_count_at line.line line.fields) _ head e in
    let b = bind_ok (count_or_zero line.line a.0.1) _ head a.2 in
    let c = bind_ok (whole_or_none line.line b.0.1) _ head b.2 in
    let d = bind_ok (end_at line.line c.0.1) _ head c.2 in
    subst (λ h. IfSome h.marker IsShortWhole) (same_ok _ head d.2) (whole_or_short line.line b.0.1 c.0.0 c.0.1 c.1))

abbrev facet_with : List PolygonText → List DecimalPoint → Option ℤ → ReadFacet
facet_with polygons holes marker = record { polygons = polygons; holes = holes; marker = marker }

facet_short : (form : Form) (flag : Bool) (total : ℕ) (lines : Lines) (f : ReadFacet) (rest : Lines) → facet_of form flag total lines ≡ Ok (f, rest) → IsMarkedShort f
unfolding poly_facet_of smesh_facet_of
facet_short Poly flag total lines f rest e =
    let a = bind_ok (line_at total lines) (λ line. facet_head_of line.0 >>= λ head. so_many (polygon_lines total) head.polygons line.1 >>= λ polygons. so_many (hole_line total) head.holes polygons.1 >>= λ holes. ok (facet_with polygons.0 holes.0 (marker_of flag head.marker), holes.1)) (f, rest) e in
    let b = bind_ok (facet_head_of a.0.0) (λ head. so_many (polygon_lines total) head.polygons a.0.1 >>= λ polygons. so_many (hole_line total) head.holes polygons.1 >>= λ holes. ok (facet_with polygons.0 holes.0 (marker_of flag head.marker), holes.1)) (f, rest) a.2 in
    let c = bind_ok (so_many (polygon_lines total) b.0.polygons a.0.1) (λ polygons. so_many (hole_line total) b.0.holes polygons.1 >>= λ holes. ok (facet_with polygons.0 holes.0 (marker_of flag b.0.marker), holes.1)) (f, rest) b.2 in
    let d = bind_ok (so_many (hole_line total) b.0.holes c.0.1) (λ holes. ok (facet_with c.0.0 holes.0 (marker_of flag b.0.marker), holes.1)) (f, rest) c.2 in
    subst IsMarkedShort (ap (λ (x : ReadFacet × Lines). x.0) (same_ok (facet_with c.0.0 d.0.0 (marker_of flag b.0.marker), d.0.1) (f, rest) d.2)) (used_short flag b.0.marker (subst (λ r. MatchResult r (λ head. IfSome head.marker IsShortWhole) (λ fault. Unit {0})) b.1 (head_short a.0.0)))
facet_short Smesh flag total lines f rest e =
    let a = bind_ok (line_at total lines) (λ line. polygon_of total line >>= λ polygon. whole_or_none polygon.1.0.line polygon.1.0.fields >>= λ marker. end_at polygon.1.0.line marker.1 >>= λ u. ok (facet_with (polygon.0 ∷ []) [] (marker_of flag marker.0), polygon.1.1)) (f, rest) e in
    let b = bind_ok (polygon_of total a.0) (λ polygon. whole_or_none polygon.1.0.line polygon.1.0.fields >>= λ marker. end_at polygon.1.0.line marker.1 >>= λ u. ok (facet_with (polygon.0 ∷ []) [] (marker_of flag marker.0), polygon.1.1)) (f, rest) a.2 in
    let c = bind_ok (whole_or_none b.0.1.0.line b.0.1.0.fields) (λ marker. end_at b.0.1.0.line marker.1 >>= λ u. ok (facet_with (b.0.0 ∷ []) [] (marker_of flag marker.0), b.0.1.1)) (f, rest) b.2 in
    let d = bind_ok (end_at b.0.1.0.line c.0.1) (λ u. ok (facet_with (b.0.0 ∷ []) [] (marker_of flag c.0.0), b.0.1.1)) (f, rest) c.2 in
    subst IsMarkedShort (ap (λ (x : ReadFacet × Lines). x.0) (same_ok (facet_with (b.0.0 ∷ []) [] (marker_of flag c.0.0), b.0.1.1) (f, rest) d.2)) (used_short flag c.0.0 (whole_or_short b.0.1.0.line b.0.1.0.fields c.0.0 c.0.1 c.1))

facets_short : (form : Form) (total : ℕ) (lines : Lines) (fs : List ReadFacet) (rest : Lines) → facets_of form total lines ≡ Ok (fs, rest) → All IsMarkedShort fs
unfolding facets_of
facets_short form total lines fs rest e =
    let a = bind_ok (line_at total lines) (λ line. list_head_of line.0 >>= λ head. so_many (facet_of form head.1 total) head.0 line.1) (fs, rest) e in
    let b = bind_ok (list_head_of a.0.0) (λ head. so_many (facet_of form head.1 total) head.0 a.0.1) (fs, rest) a.2 in
    all_read (facet_of form b.0.1 total) IsMarkedShort (λ r x s e. facet_short form b.0.1 total r x s e) b.0.0 a.0.1 fs rest b.2

-- ---- complexes

own_points : (text : NodeText) → HasShortNumbers text → IfSome (nodes_of text) HasShortNumbers
own_points text h = go (length text.decimals == 0)
  where
    go : (b : Bool) → IfSome (cond b None (Some text)) HasShortNumbers
    go true = tt
    go false = h

pub plc_read : PlcReadLaw
unfolding plc_of
plc_read form total lines text e =
    let a = bind_ok (node_list_of total lines) (λ nodes. facets_of form total nodes.1 >>= λ facets. listed (hole_line total) facets.1 >>= λ holes. listed (region_line total) holes.1 >>= λ regions. text_end_at regions.1 >>= λ u. ok (record { nodes = nodes_of nodes.0; facets = facets.0; holes = holes.0; regions = regions.0 })) text e in
    let b = bind_ok (facets_of form total a.0.1) (λ facets. listed (hole_line total) facets.1 >>= λ holes. listed (region_line total) holes.1 >>= λ regions. text_end_at regions.1 >>= λ u. ok (record { nodes = nodes_of a.0.0; facets = facets.0; holes = holes.0; regions = regions.0 })) text a.2 in
    let c = bind_ok (listed (hole_line total) b.0.1) (λ holes. listed (region_line total) holes.1 >>= λ regions. text_end_at regions.1 >>= λ u. ok (record { nodes = nodes_of a.0.0; facets = b.0.0; holes = holes.0; regions = regions.0 })) text b.2 in
    let d = bind_ok (listed (region_line total) c.0.1) (λ regions. text_end_at regions.1 >>= λ u. ok (record { nodes = nodes_of a.0.0; facets = b.0.0; holes = c.0.0; regions = regions.0 })) text c.2 in
    let f = bind_ok (text_end_at d.0.1) (λ u. ok (record { nodes = nodes_of a.0.0; facets = b.0.0; holes = c.0.0; regions = d.0.0 })) text d.2 in
    subst IsNumberedShort (same_ok (record { nodes = nodes_of a.0.0; facets = b.0.0; holes = c.0.0; regions = d.0.0 }) text f.2)
    (own_points a.0.0 (nodes_read total lines a.0.1 a.0.0 a.1), facets_short form total a.0.1 b.0.0 b.0.1 b.1)

-- ---- surfaces

faces_short : (faces : List PolygonText) → AreMarkedShort (map facet_of_one faces)
faces_short [] k d lt = absurd (omega arith)
faces_short (f ∷ faces) zero d lt = tt
faces_short (f ∷ faces) (suc k) d lt = faces_short faces k d (omega arith)

of_surface : (points : List DecimalPoint) (faces : List PolygonText) → IsNumberedShort (surface_of points faces)
of_surface points faces = (record { first = omega arith; markers = λ k d lt. absurd (omega arith) }, faces_short faces)

-- the text is that of a surface
abbrev pub IsSurface : Plc → Type 0
IsSurface text = (points : List DecimalPoint) × (faces : List PolygonText) × (surface_of points faces ≡ text)

off_is : (total : ℕ) (lines : List ContentLine) (text : Plc) → off_of total lines ≡ Ok text → IsSurface text
unfolding off_by
off_is total lines text e =
    let a = bind_ok (head_of _ total lines) (λ head. so_many (off.vertex_line _ total) head.0.0 head.1 >>= λ points. so_many (off.off_polygon total) head.0.1 points.1 >>= λ faces. text_end_at faces.1 >>= λ u. ok (surface_of points.0 faces.0)) text e in
    let b = bind_ok (so_many (off.vertex_line _ total) a.0.0.0 a.0.1) (λ points. so_many (off.off_polygon total) a.0.0.1 points.1 >>= λ faces. text_end_at faces.1 >>= λ u. ok (surface_of points.0 faces.0)) text a.2 in
    let c = bind_ok (so_many (off.off_polygon total) a.0.0.1 b.0.1) (λ faces. text_end_at faces.1 >>= λ u. ok (surface_of b.0.0 faces.0)) text b.2 in
    let d = bind_ok (text_end_at c.0.1) (λ u. ok (surface_of b.0.0 c.0.0)) text c.2 in
    (b.0.0, c.0.0, same_ok (surface_of b.0.0 c.0.0) text d.2)

stl_is : (total : ℕ) (lines : List ContentLine) (text : Plc) → stl_of total lines ≡ Ok text → IsSurface text
unfolding stl_of
stl_is total lines text e =
    let a = bind_ok (solid_line _ total lines) (λ solid. stl.ascii_facets_of (length solid.1) total solid.1 >>= λ facets. text_end_at facets.1 >>= λ u. ok (triangles_of facets.0)) text e in
    let b = bind_ok (stl.ascii_facets_of (length a.0.1) total a.0.1) (λ facets. text_end_at facets.1 >>= λ u. ok (triangles_of facets.0)) text a.2 in
    let c = bind_ok (text_end_at b.0.1) (λ u. ok (triangles_of b.0.0)) text b.2 in
    (distinct_vertices (vertices_of b.0.0), map (triangle_in (distinct_vertices (vertices_of b.0.0))) b.0.0, same_ok (triangles_of b.0.0) text c.2)

pub surface_is : (total : ℕ) (lines : List ContentLine) (text : Plc) → (off_of total lines ≡ Ok text) ⊎ (stl_of total lines ≡ Ok text) → IsSurface text
surface_is total lines text (inl e) = off_is total lines text e
surface_is total lines text (inr e) = stl_is total lines text e

pub surface_read : SurfaceReadLaw
surface_read total lines text e =
    let surface = surface_is total lines text e in
    subst IsNumberedShort surface.2 (of_surface surface.0 surface.1)
