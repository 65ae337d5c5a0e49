-- The regular mesh of the weighted points of a list.
use Rattle.std.specs.Prelude.{◌≡◌, ℤ, List, length, map, Result, Ok, Err}
use Rattle.cavity_insert.specs.declared.meshing.BuildFault.{BuildFault}
use Rattle.cavity_insert.specs.declared.meshing.BuildFault.TheVariants as build
use Rattle.geo_laws.specs.Delaunay.{AreCoplanar}
use Rattle.node_files.specs.declared.table.NodeTable.{NodeTable}
use Rattle.weighted_mesh.specs.Weights.{weights_of}
use Rattle.weighted_mesh.specs.declared.weight_fault.WeightFault.{WeightFault}
use Rattle.weighted_mesh.specs.declared.weight_fault.WeightFault.TheVariants as read
use Rattle.weighted_mesh.specs.Regular.{weight, IsRegularList}
use Rattle.weighted_mesh.specs.Hidden.{hidden_count}
use Rattle.weighted_mesh.specs.declared.regular_fault.RegularFault.{RegularFault}
use Rattle.weighted_mesh.specs.declared.regular_fault.RegularFault.TheVariants as faults
use Rattle.weighted_mesh.specs.declared.of_table.RegularMesh.{RegularMesh}

abbrev pub fault_of_weights : WeightFault → RegularFault
fault_of_weights (read.Text fault) = faults.Text fault
fault_of_weights (read.TooHeavy line) = faults.TooHeavy line
fault_of_weights read.NoMemory = faults.NoMemory

abbrev pub fault_of_build : BuildFault → RegularFault
fault_of_build build.Flat = faults.Flat
fault_of_build build.NoMemory = faults.NoMemory

-- the weights of the kept points, where these are those of all listed points
abbrev pub kept_weights : NodeTable → List ℤ → List ℤ
kept_weights table ws = map (weight ws) table.names

-- the mesh is the regular list of the kept points, with the weights that their lines state, and the number of kept
-- points that are corners of no tetrahedron
pub record IsRegularMeshOf (table : NodeTable) (mesh : RegularMesh) : Type 0 where
  pub weights : List ℤ
  pub weights_are : weights_of table ≡ Ok weights
  pub solid : ¬ AreCoplanar table.points
  pub list : IsRegularList table.points (kept_weights table weights) mesh.rows
  pub hidden : mesh.hidden ≡ hidden_count (length table.points) mesh.rows

-- Why there is no mesh: the first weight that is refused, or else kept points that all lie in one plane
abbrev pub HasNoRegularMesh : NodeTable → RegularFault → Type 0
HasNoRegularMesh table (faults.Text fault) = weights_of table ≡ Err (read.Text fault)
HasNoRegularMesh table (faults.TooHeavy line) = weights_of table ≡ Err (read.TooHeavy line)
HasNoRegularMesh table faults.Flat = (weights : List ℤ) × (weights_of table ≡ Ok weights) × AreCoplanar table.points
HasNoRegularMesh table faults.NoMemory = Unit {0}

abbrev pub RegularAnswer : NodeTable → Result RegularMesh RegularFault → Type 0
RegularAnswer table (Ok mesh) = IsRegularMeshOf table mesh
RegularAnswer table (Err fault) = HasNoRegularMesh table fault
