-- The check of the files of a mesh.
use Rattle.std.specs.Prelude.{◌≡◌, ℕ, List, length, Option, Result, Ok, Err}
use Rattle.sign_predicates.specs.Point.{Point}
use Rattle.mesh_check.specs.Defects.{ReadMesh, IsVerdict, neighbors_or}
use Rattle.mesh_check.specs.declared.defect.Verdict.TheVariants.{Sound, Fault}
use Rattle.node_files.specs.SettlingLeast.{AreTooMany, IsOffLeastGrid, IsOnLeastGrid}
use Rattle.mesh_check.specs.Reading.{MeshAnswer}
use Rattle.tet_ports.specs.Seen.{FolderSeen}
use Rattle.mesh_check.specs.Steps.{AndThen}
use Rattle.mesh_check.specs.declared.fault.CheckFault.{CheckFault}
use Rattle.mesh_check.specs.declared.fault.CheckFault.TheVariants.{TooMany, OffGrid, Unsound, NoMemory}
use Rattle.mesh_check.specs.declared.reading.MeshText.{MeshText}
use Rattle.grid_coords.specs.declared.points.DecimalPoint.{DecimalPoint}

-- the most points of a mesh that is read
abbrev pub most_points : ℕ
most_points = 120000

-- the greatest size of a coordinate of a mesh that is checked, in units of the points' least grid
abbrev pub checked_grid : ℕ
checked_grid = 8388608

-- why the points are on no grid on which a coordinate is at most `wide` units in size
abbrev pub IsUnsettled : ℕ → Option ℕ → List DecimalPoint → CheckFault → Type 0
IsUnsettled wide decimals ps (TooMany count) = AreTooMany ps most_points count
IsUnsettled wide decimals ps (OffGrid line) = IsOffLeastGrid wide ps decimals most_points line
IsUnsettled wide decimals ps NoMemory = Unit {0}
IsUnsettled wide decimals ps fault = ⊥

-- the points on their least grid
abbrev pub LeastGridAnswer : Option ℕ → MeshText → Result (List Point) CheckFault → Type 0
LeastGridAnswer decimals text (Ok points) = IsOnLeastGrid checked_grid text.nodes.decimals decimals most_points points
LeastGridAnswer decimals text (Err fault) = IsUnsettled checked_grid decimals text.nodes.decimals fault

-- the mesh that the files spell, on these points
abbrev pub mesh_of : MeshText → List Point → ReadMesh
mesh_of text points = record { points = points; rows = text.rows; faces = text.faces; neighbors = neighbors_or text.rows text.neighbors }

-- why the mesh is not sound
abbrev pub IsUnsound : MeshText → List Point → CheckFault → Type 0
IsUnsound text points (Unsound defect first) = (first ≡ text.nodes.first) × IsVerdict (mesh_of text points) (Fault defect)
IsUnsound text points NoMemory = Unit {0}
IsUnsound text points fault = ⊥

-- the number of tetrahedra of the mesh, where it is sound
abbrev pub VerdictAnswer : MeshText → List Point → Result ℕ CheckFault → Type 0
VerdictAnswer text points (Ok count) = (count ≡ length text.rows) × IsVerdict (mesh_of text points) Sound
VerdictAnswer text points (Err fault) = IsUnsound text points fault

-- the check of what the files spell
abbrev pub TextChecked : Option ℕ → MeshText → Result ℕ CheckFault → Type 0
TextChecked decimals text = AndThen (LeastGridAnswer decimals text) (VerdictAnswer text)

-- The check of the files with this base: the number of tetrahedra of the mesh, where it is sound, or the first refusal
-- in this order: of each file in turn its fetch and its text, then too many points, a point off the grid, and the first
-- defect
abbrev pub CheckAnswer : FolderSeen → List ℕ → Option ℕ → Result ℕ CheckFault → Type 0
CheckAnswer seen base decimals = AndThen (MeshAnswer seen base) (TextChecked decimals)
