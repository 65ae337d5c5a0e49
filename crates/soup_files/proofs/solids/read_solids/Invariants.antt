use Rattle.std.proofs.Common.{◌≡◌, ℕ, ◌+◌, ◌≤◌, List, length, map}
use Rattle.tet_text.specs.Repeated.{onto}
use Rattle.tet_text.specs.Views.{content_left, line_total}
use Rattle.soup_files.specs.Solids.{SolidFacet, solid_polygon, solids_of}
use Rattle.soup_files.proofs.ManySolids.{SolidsSeen}
use Rattle.soup_files.proofs.solids.read_solids.Given as goal

abbrev pub invariant-loop-triangles : goal.invariant-loop-triangles
invariant-loop-triangles l =
    let whole = content_left l.fn.lines in
    (facets : List SolidFacet)
    × (most : ℕ)
    × SolidsSeen facets l.points (map solid_polygon l.triangles)
    × (onto facets (solids_of most l.solid (line_total l.fn.lines) (content_left l.lines)) ≡ solids_of (length whole) 1 (line_total l.fn.lines) whole)
    × (length (content_left l.lines) ≤ most)
    × (l.solid + length (content_left l.lines) ≤ 1 + length whole)
    × (line_total l.lines ≡ line_total l.fn.lines)

abbrev pub decreases-loop-triangles : goal.decreases-loop-triangles
decreases-loop-triangles l = length (content_left l.lines)
