-- What a whole binary file gives: few enough points and faces to be named by 32 bits, and no regions.
use Rattle.std.proofs.Common.{◌≡◌, ℕ, ◌-◌, ◌^◌, ◌<◌, ◌≤◌, List, length, map, drop, Result, Ok, Err, subst, arith, length-drop}
use Rattle.std.specs.Prelude.{IfOk}
use Rattle.std.proofs.lemmas.List.{length-map}
use Rattle.tet_text.specs.Reading.{◌>>=◌}
use Rattle.grid_coords.specs.declared.points.DecimalPoint.{DecimalPoint}
use Rattle.plc_files.specs.declared.parts.PolygonText.{PolygonText}
use Rattle.plc_files.specs.declared.fault.PlcFault.{PlcFault}
use Rattle.plc_files.specs.Outcome.{PlcGives}
use Rattle.plc_files.specs.Text.{Plc}
use Rattle.plc_files.proofs.Counts.{step_ok, ok_is}
use Rattle.soup_files.specs.BinaryStl.{facets_to_end, count_in, binary_stl_of, settled}
use Rattle.soup_files.specs.Stl.{vertices_of, triangle_in, triangles_of}
use Rattle.soup_files.specs.Vertices.{distinct_vertices}
use Rattle.soup_files.proofs.BinaryFacets.{facets_spend}
use Rattle.soup_files.proofs.FoundVertices.{distinct_few}
use Rattle.soup_files.proofs.Whole.{IsSmall, surface_small, vertices_length}

abbrev Settled : Type 0
Settled = List DecimalPoint × List PolygonText

-- the points of facets that were read
pub few_settled : (count place : ℕ) (bytes : List ℕ) (x : Settled) → settled (facets_to_end count place bytes) ≡ Ok x → length x.0 ≤ length bytes
few_settled count place bytes x is =
    let read = step_ok (facets_to_end count place bytes) (λ fs. Ok (distinct_vertices (vertices_of fs), map (triangle_in (distinct_vertices (vertices_of fs))) fs)) x is in
    let fs = read.0 in
    let made : Settled = (distinct_vertices (vertices_of fs), map (triangle_in (distinct_vertices (vertices_of fs))) fs) in
    let few = facets_spend count place bytes fs read.1 in
    subst (λ (p : Settled). length p.0 ≤ length bytes) {x = made} (ok_is made x read.2) (omega (arith, few, distinct_few (vertices_of fs), vertices_length fs))

binary_small : (bytes : List ℕ) (t : Plc) → binary_stl_of bytes ≡ Ok t → length bytes < 2 ^ 32 - 1 → IsSmall t
unfolding binary_stl_of
binary_small bytes t is less =
    let count = step_ok (count_in bytes) (λ count. facets_to_end count 1 (drop 84 bytes) >>= λ facets. Ok (triangles_of facets)) t is in
    let facets = step_ok (facets_to_end count.0 1 (drop 84 bytes)) (λ facets. Ok (triangles_of facets)) t count.2 in
    let points = distinct_vertices (vertices_of facets.0) in
    let faces = map (triangle_in points) facets.0 in
    let few = facets_spend count.0 1 (drop 84 bytes) facets.0 facets.1 in
    subst IsSmall {x = triangles_of facets.0} (ok_is (triangles_of facets.0) t facets.2)
    (surface_small points faces (omega (arith, few, less, length-drop 84 bytes, length-map facets.0 (triangle_in points))))

pub binary_read : (bytes : List ℕ) (r : Result Plc PlcFault) → PlcGives (λ t. t) r (binary_stl_of bytes) → length bytes < 2 ^ 32 - 1 → IfOk r IsSmall
binary_read bytes (Ok t) gives few = binary_small bytes t gives few
binary_read bytes (Err fault) gives few = tt
