-- What a whole text gives: few enough points and faces to be named by 32 bits, and no regions.
use Rattle.std.proofs.Common.{◌≡◌, ℕ, ◌*◌, ◌-◌, ◌^◌, ◌<◌, ◌≤◌, List, [], ◌∷◌, length, Result, Ok, Err, refl, subst, arith}
use Rattle.std.specs.Prelude.{map, IfOk}
use Rattle.std.proofs.lemmas.List.{length-map}
use Rattle.std.proofs.lemmas.List.Elements.{All-nil}
use Rattle.tet_text.specs.Lines.{ContentLine}
use Rattle.tet_text.specs.Reading.{◌>>=◌, text_end_at}
use Rattle.grid_coords.specs.declared.points.DecimalPoint.{DecimalPoint}
use Rattle.plc_files.specs.declared.parts.PolygonText.{PolygonText}
use Rattle.plc_files.specs.declared.fault.PlcFault.{PlcFault}
use Rattle.plc_files.specs.Outcome.{PlcGives}
use Rattle.plc_files.specs.Checks.{all_polygons, HasFewParts}
use Rattle.plc_files.specs.Text.{Plc, AreWritten}
use Rattle.plc_files.proofs.Counts.{step_ok, ok_is}
use Rattle.soup_files.specs.declared.fields.Grammar.{Grammar}
use Rattle.soup_files.specs.declared.fields.Grammar.TheVariants.{Strict}
use Rattle.soup_files.specs.declared.stl_facet.StlFacet.{StlFacet}
use Rattle.soup_files.specs.Surface.{facet_of_one, surface_of}
use Rattle.soup_files.specs.Off.{head_of, vertex_line, off_polygon, off_by}
use Rattle.soup_files.specs.Stl.{solid_line, ascii_facets_of, triangle_in, vertices_of, triangles_of, stl_of}
use Rattle.soup_files.specs.Triangles.{placed_facets}
use Rattle.soup_files.specs.Vertices.{distinct_vertices}
use Rattle.soup_files.proofs.Spent.{many_few, head_takes, off_vertex_takes, face_takes, solid_takes, facets_few}
use Rattle.soup_files.proofs.FoundVertices.{distinct_few}
use Rattle.tet_text.specs.Repeated.{so_many}

polygon_each : (faces : List PolygonText) → length (all_polygons (map facet_of_one faces)) ≡ length faces
polygon_each [] = refl
polygon_each (f ∷ faces) = let h = polygon_each faces in omega arith

-- few parts, and attributes of regions that are fields
pub record IsSmall (t : Plc) : Type 0 where
  pub few : HasFewParts t
  pub attributes : AreWritten t.regions

pub surface_small : (points : List DecimalPoint) (faces : List PolygonText) → length faces < 2 ^ 32 - 1 → IsSmall (surface_of points faces)
surface_small points faces few = record {
  few = record { polygons = omega (arith, few, polygon_each faces); regions = omega arith };
  attributes = All-nil _;
}

off_small : (grammar : Grammar) (n : ℕ) (lines : List ContentLine) (t : Plc) → off_by grammar n lines ≡ Ok t → length lines < 2 ^ 32 - 1 → IsSmall t
unfolding off_by
off_small grammar n lines t is few =
    let head = step_ok (head_of grammar n lines) (λ head. so_many (vertex_line grammar n) head.0.0 head.1 >>= λ points. so_many (off_polygon n) head.0.1 points.1 >>= λ faces. text_end_at faces.1 >>= λ _. Ok (surface_of points.0 faces.0)) t is in
    let points = step_ok (so_many (vertex_line grammar n) head.0.0.0 head.0.1) (λ points. so_many (off_polygon n) head.0.0.1 points.1 >>= λ faces. text_end_at faces.1 >>= λ _. Ok (surface_of points.0 faces.0)) t head.2 in
    let faces = step_ok (so_many (off_polygon n) head.0.0.1 points.0.1) (λ faces. text_end_at faces.1 >>= λ _. Ok (surface_of points.0.0 faces.0)) t points.2 in
    let ended = step_ok (text_end_at faces.0.1) (λ _. Ok (surface_of points.0.0 faces.0.0)) t faces.2 in
    let l1 = head_takes grammar n lines head.0 head.1 in
    let l2 = many_few (vertex_line grammar n) (off_vertex_takes grammar n) head.0.0.0 head.0.1 points.0 points.1 in
    let l3 = many_few (off_polygon n) (face_takes n) head.0.0.1 points.0.1 faces.0 faces.1 in
    subst IsSmall {x = surface_of points.0.0 faces.0.0} (ok_is (surface_of points.0.0 faces.0.0) t ended.2) (surface_small points.0.0 faces.0.0 (omega (arith, few, l1, l2, l3)))

pub off_read : (grammar : Grammar) (n : ℕ) (lines : List ContentLine) (r : Result Plc PlcFault) → PlcGives (λ t. t) r (off_by grammar n lines) → length lines < 2 ^ 32 - 1 → IfOk r IsSmall
off_read grammar n lines (Ok t) gives few = off_small grammar n lines t gives few
off_read grammar n lines (Err fault) gives few = tt

stl_small : (n : ℕ) (lines : List ContentLine) (t : Plc) → stl_of n lines ≡ Ok t → length lines < 2 ^ 32 - 1 → IsSmall t
unfolding stl_of
stl_small n lines t is few =
    let solid = step_ok (solid_line Strict n lines) (λ solid. ascii_facets_of (length solid.1) n solid.1 >>= λ facets. text_end_at facets.1 >>= λ _. Ok (triangles_of facets.0)) t is in
    let facets = step_ok (ascii_facets_of (length solid.0.1) n solid.0.1) (λ facets. text_end_at facets.1 >>= λ _. Ok (triangles_of facets.0)) t solid.2 in
    let ended = step_ok (text_end_at facets.0.1) (λ _. Ok (triangles_of facets.0.0)) t facets.2 in
    let points = distinct_vertices (vertices_of facets.0.0) in
    let faces = map (triangle_in points) facets.0.0 in
    let l1 = solid_takes Strict n lines solid.0 solid.1 in
    let l2 = facets_few (length solid.0.1) n solid.0.1 facets.0 facets.1 in
    subst IsSmall {x = triangles_of facets.0.0} (ok_is (triangles_of facets.0.0) t ended.2) (surface_small points faces (omega (arith, few, l1, l2, length-map facets.0.0 (triangle_in points))))

pub stl_read : (n : ℕ) (lines : List ContentLine) (r : Result Plc PlcFault) → PlcGives (λ t. t) r (stl_of n lines) → length lines < 2 ^ 32 - 1 → IfOk r IsSmall
stl_read n lines (Ok t) gives few = stl_small n lines t gives few
stl_read n lines (Err fault) gives few = tt

pub vertices_length : (fs : List StlFacet) → length (vertices_of fs) ≡ 3 * length fs
vertices_length [] = refl
vertices_length (f ∷ fs) = let h = vertices_length fs in omega arith

abbrev Placed : Type 0
Placed = (List DecimalPoint × List PolygonText) × List ContentLine

-- the points of facets that were read
pub few_points : (most n : ℕ) (lines : List ContentLine) (x : Placed) → placed_facets (ascii_facets_of most n lines) ≡ Ok x → length x.0.0 ≤ length lines
few_points most n lines x is =
    let read = step_ok (ascii_facets_of most n lines) (λ r. Ok ((distinct_vertices (vertices_of r.0), map (triangle_in (distinct_vertices (vertices_of r.0))) r.0), r.1)) x is in
    let fs = read.0.0 in
    let made : Placed = ((distinct_vertices (vertices_of fs), map (triangle_in (distinct_vertices (vertices_of fs))) fs), read.0.1) in
    let few = facets_few most n lines read.0 read.1 in
    subst (λ (p : Placed). length p.0.0 ≤ length lines) {x = made} (ok_is made x read.2) (omega (arith, few, distinct_few (vertices_of fs), vertices_length fs))
