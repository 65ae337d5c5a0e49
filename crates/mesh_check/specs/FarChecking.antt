-- The check of the files of a mesh whose points are measured from the middle of their box.
use Rattle.std.specs.Prelude.{ℕ, List, Result}
use Rattle.tet_ports.specs.Seen.{FolderSeen}
use Rattle.mesh_check.specs.Checking.{VerdictAnswer}
use Rattle.mesh_check.specs.Reading.{MeshAnswer}
use Rattle.mesh_check.specs.Steps.{AndThen}
use Rattle.mesh_check.specs.declared.fault.CheckFault.{CheckFault}
use Rattle.mesh_check.specs.declared.reading.MeshText.{MeshText}
use Rattle.mesh_check.specs.Centering.{CenteredAnswer, PlacedAnswer}

-- the check of what the files spell: that of the mesh on the centered points, on their least grid
abbrev pub FarTextAnswer : MeshText → Result ℕ CheckFault → Type 0
FarTextAnswer text = AndThen (AndThen (CenteredAnswer text.nodes.decimals) PlacedAnswer) (VerdictAnswer text)

-- The check of the files with this base: the number of tetrahedra of the mesh, where it is sound, or the first refusal in this order: of
-- each file in turn its fetch and its text, then a coordinate of over 36 digits, too many points, a point off the grid, and the first
-- defect
abbrev pub FarCheckAnswer : FolderSeen → List ℕ → Result ℕ CheckFault → Type 0
FarCheckAnswer seen base = AndThen (MeshAnswer seen base) FarTextAnswer
