use Rattle.std.proofs.Common.{◌≡◌, ◌-◌, ◌+◌, ◌≤◌, List, length, map}
use Rattle.tet_text.specs.Views.{content_left, line_total}
use Rattle.soup_files.specs.declared.stl_facet.StlFacet.{StlFacet}
use Rattle.soup_files.specs.Stl.{ascii_facets_of}
use Rattle.soup_files.specs.Triangles.{triangle_polygon}
use Rattle.soup_files.proofs.FoundVertices.{Seen}
use Rattle.soup_files.proofs.stl.read_facets.Given as goal
use Rattle.tet_text.specs.Repeated.{onto}

abbrev pub invariant-loop-triangles : goal.invariant-loop-triangles
invariant-loop-triangles l =
    let whole = content_left l.fn.lines in
    (facets : List StlFacet)
    × Seen facets l.points (map triangle_polygon l.triangles)
    × (onto facets (ascii_facets_of (length whole - length facets) (line_total l.fn.lines) (content_left l.lines)) ≡ ascii_facets_of (length whole) (line_total l.fn.lines) whole)
    × (length facets + length (content_left l.lines) ≤ length whole)
    × (line_total l.lines ≡ line_total l.fn.lines)

abbrev pub decreases-loop-triangles : goal.decreases-loop-triangles
decreases-loop-triangles l = length (content_left l.lines)
