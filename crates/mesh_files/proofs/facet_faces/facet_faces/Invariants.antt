use Rattle.std.proofs.Common.{◌≡◌}
use Rattle.std.specs.Prelude.{map, take}
use Rattle.mesh_files.proofs.FacetFaces.{as_facet_face}
use Rattle.mesh_files.proofs.facet_faces.facet_faces.Given as goal

-- the faces so far are the triangles so far
abbrev pub invariant-loop-triangle : goal.invariant-loop-triangle
invariant-loop-triangle l = l.faces ≡ map as_facet_face (take l.triangle-index l.triangles)
