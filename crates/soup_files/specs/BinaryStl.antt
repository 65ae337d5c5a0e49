-- The binary `.stl` files: 80 bytes of any kind, the number of facets, and 50 bytes for each facet.
use Rattle.std.specs.Prelude.{ℕ, zero, suc, ◌+◌, ◌*◌, Bool, false, ◌==◌, List, [], ◌∷◌, ◌++◌, length, map, drop, Result, Ok, Err, nat_lt, slice_index, if◌then◌else◌}
use Rattle.std.specs.Int.{from_le_bytes, w32}
use Rattle.std.specs.Option.{ok_or}
use Rattle.tet_text.specs.declared.fault.TextFault.{TextFault}
use Rattle.tet_text.specs.Decimals.{Scaled}
use Rattle.tet_text.specs.Faults.{ended, extra, not_a_number}
use Rattle.tet_text.specs.Reading.{◌>>=◌}
use Rattle.grid_coords.specs.declared.points.DecimalPoint.{DecimalPoint}
use Rattle.binary_floats.specs.Shortest.{float_decimal}
use Rattle.plc_files.specs.declared.parts.PolygonText.{PolygonText}
use Rattle.plc_files.specs.Text.{Plc}
use Rattle.soup_files.specs.declared.stl_facet.StlFacet.{StlFacet}
use Rattle.soup_files.specs.Vertices.{distinct_vertices}
use Rattle.soup_files.specs.Stl.{vertices_of, triangle_in, triangles_of}

-- the number of 32 bits that stands at this place, its lowest byte first
abbrev pub word_at : List ℕ → ℕ → ℕ
word_at bytes i =
    from_le_bytes w32
    (slice_index bytes i ∷ slice_index bytes (i + 1) ∷ slice_index bytes (i + 2) ∷ slice_index bytes (i + 3) ∷ [])

-- the bytes are as many as the number of facets asks for
abbrev pub is_binary_stl : List ℕ → Bool
is_binary_stl bytes = if nat_lt (length bytes) 84 then false else length bytes == 84 + 50 * word_at bytes 80

-- ---- the grammar: facets are counted from 1, and their numbers stand where a text has lines

-- a float of 32 bits
abbrev pub coordinate_at : ℕ → List ℕ → ℕ → Result Scaled TextFault
coordinate_at facet bytes i = ok_or (float_decimal (word_at bytes i)) (not_a_number facet)

unfoldable pub vertex_at : ℕ → List ℕ → ℕ → Result DecimalPoint TextFault
vertex_at facet bytes i = do
  x ← coordinate_at facet bytes i
  y ← coordinate_at facet bytes (i + 4)
  z ← coordinate_at facet bytes (i + 8)
  Ok (record { x = x; y = y; z = z; line = facet })

-- a normal of 12 bytes, which is not read, three corners, and two bytes of any kind
unfoldable pub binary_facet_at : ℕ → List ℕ → Result StlFacet TextFault
binary_facet_at facet bytes = if nat_lt (length bytes) 50 then Err (ended facet) else (do
  a ← vertex_at facet bytes 12
  b ← vertex_at facet bytes 24
  c ← vertex_at facet bytes 36
  Ok (record { line = facet; a = a; b = b; c = c }))

-- *n* facets, of which the first has the number `facet`, and then the end of the bytes
unfoldable pub facets_to_end : ℕ → ℕ → List ℕ → Result (List StlFacet) TextFault
facets_to_end zero facet bytes = if length bytes == 0 then Ok [] else Err (extra facet)
facets_to_end (suc more) facet bytes = do
  first ← binary_facet_at facet bytes
  others ← facets_to_end more (facet + 1) (drop 50 bytes)
  Ok (first ∷ others)

-- the number of facets
abbrev pub count_in : List ℕ → Result ℕ TextFault
count_in bytes = if nat_lt (length bytes) 84 then Err (ended 1) else Ok (word_at bytes 80)

-- ---- what is read

-- a whole file
unfoldable pub binary_stl_of : List ℕ → Result Plc TextFault
binary_stl_of bytes = do
  count ← count_in bytes
  facets ← facets_to_end count 1 (drop 84 bytes)
  Ok (triangles_of facets)

-- the distinct corners of the facets that are read, and the facets by these
abbrev pub settled : Result (List StlFacet) TextFault → Result (List DecimalPoint × List PolygonText) TextFault
settled read =
    read
    >>= λ facets. Ok (distinct_vertices (vertices_of facets), map (triangle_in (distinct_vertices (vertices_of facets))) facets)

-- facets before, and those that are read
abbrev pub facets_behind : List StlFacet → Result (List StlFacet) TextFault → Result (List StlFacet) TextFault
facets_behind front read = read >>= λ facets. Ok (front ++ facets)
