use Rattle.std.proofs.Common.{◌≡◌, ◌-◌, ◌+◌, List, map}
use Rattle.soup_files.specs.declared.stl_facet.StlFacet.{StlFacet}
use Rattle.soup_files.specs.BinaryStl.{facets_to_end, facets_behind}
use Rattle.soup_files.specs.Triangles.{triangle_polygon}
use Rattle.soup_files.proofs.FoundVertices.{Seen}
use Rattle.soup_files.proofs.binary_stl.read_facets.Given as goal

abbrev pub invariant-loop-i : goal.invariant-loop-i
invariant-loop-i l =
    (facets : List StlFacet)
    × Seen facets l.points (map triangle_polygon l.triangles)
    × (facets_behind facets (facets_to_end (l.count - l.i) (l.i + 1) l.left) ≡ facets_to_end l.count 1 l.bytes)
