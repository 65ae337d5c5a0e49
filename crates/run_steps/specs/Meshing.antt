-- The mesh and the outputs of an input.
use Rattle.std.specs.Prelude.{◌≡◌, ◌-◌, ◌^◌, ◌≤◌, ℕ, Bool, true, false, List, [], length, drop, Option, None, Some, Result, Ok, Err}
use Rattle.command_words.specs.Names.{file_name}
use Rattle.command_words.specs.declared.options.Extension.TheVariants.{Node}
use Rattle.command_words.specs.declared.options.Options.{Options}
use Rattle.complex_mesh.specs.Meshing.{IsComplexMesh, IsMeshFault}
use Rattle.complex_mesh.specs.Protection.{IsMeshable}
use Rattle.complex_mesh.specs.declared.fault.MeshFault.{MeshFault}
use Rattle.complex_mesh.specs.declared.mesh.ComplexMesh.{ComplexMesh}
use Rattle.complex_mesh.specs.declared.mesh.MeshOptions.{MeshOptions}
use Rattle.geo_laws.specs.Complex.{Complex, empty_complex}
use Rattle.geo_laws.specs.Delaunay.{AreCoplanar, delaunay_rows}
use Rattle.geo_laws.specs.declared.tetrahedra.Tet.{Tet}
use Rattle.node_files.specs.Folding.{names_with}
use Rattle.node_files.specs.Settling.{IsSettled, IsTooMany, IsOffGrid}
use Rattle.node_files.specs.Writing.{IsNearGrid, IsNodeTable}
use Rattle.node_files.specs.declared.limits.Limits.{Limits}
use Rattle.node_files.specs.declared.table.GridOptions.{GridOptions}
use Rattle.node_files.specs.declared.table.NodeTable.{NodeTable}
use Rattle.plc_files.specs.Binding.{complex_of, HasManyFacets, HasLongPolygon}
use Rattle.plc_files.specs.Checks.{sizes_check}
use Rattle.plc_files.specs.Folding.{folded_complex}
use Rattle.plc_files.specs.Text.{Plc}
use Rattle.run_steps.specs.Faults.{status_of_fault, status_of_weights}
use Rattle.run_steps.specs.Outputs.{AreOutputsOf}
use Rattle.run_steps.specs.Reading.{WordsAnswer, InputAnswer}
use Rattle.tet_ports.specs.Seen.{FolderSeen}
use Rattle.run_steps.specs.Steps.{AndThen}
use Rattle.run_steps.specs.declared.input.Input.{Input}
use Rattle.run_steps.specs.declared.mesh.Bound.{Bound}
use Rattle.run_steps.specs.declared.meshed.HulledMesh.{HulledMesh}
use Rattle.run_steps.specs.declared.meshed.Meshed.{Meshed}
use Rattle.run_steps.specs.declared.outputs.Outputs.{Outputs}
use Rattle.run_steps.specs.declared.status.LimitKind.TheVariants.{Points, Facets, Corners, Grid as OnGrid}
use Rattle.run_steps.specs.declared.status.Status.{Status}
use Rattle.run_steps.specs.declared.status.Status.TheVariants.{Limit, Flat, NoMemory}
use Rattle.weighted_mesh.specs.Meshing.{RegularAnswer}
use Rattle.weighted_mesh.specs.declared.regular_fault.RegularFault.{RegularFault}
use Rattle.weighted_mesh.specs.declared.of_table.RegularMesh.{RegularMesh}

-- ---- the grid

-- how the options put points on a grid
abbrev pub grid_options : Options → GridOptions
grid_options options = record { decimals = options.decimals; halvings = options.halvings }

-- neither too many facets nor too many corners of a polygon
pub record IsSmall (limits : Limits) (text : Plc) : Type 0 where
  pub few : length text.facets ≤ limits.facets
  pub short : sizes_check limits text ≡ Ok tt

-- Why an input is on no grid. Each limit comes before those behind it
abbrev pub IsUnbound : Limits → Options → Input → Status → Type 0
IsUnbound limits options input (Limit (Points count most)) = IsTooMany limits input.nodes count most
IsUnbound limits options input (Limit (Facets count most)) =
    (length input.nodes.decimals ≤ limits.points) × HasManyFacets limits input.complex count most
IsUnbound limits options input (Limit (Corners line count most)) =
    (length input.nodes.decimals ≤ limits.points) × HasLongPolygon limits input.complex line count most
IsUnbound limits options input (Limit (OnGrid line)) =
    IsSmall limits input.complex × IsOffGrid limits input.nodes (grid_options options) line
IsUnbound limits options input NoMemory = Unit {0}
IsUnbound limits options input status = ⊥

-- a complex that is over no limit, on the points of a table, where its corners name the points that are kept
pub record IsBoundOn (limits : Limits) (text : Plc) (first : ℕ) (table : NodeTable) (complex : Complex) : Type 0 where
  pub small : IsSmall limits text
  pub is : complex ≡ folded_complex table.folded (complex_of first table.grid text)

-- the points on their grid, where equal ones are folded, and the complex on them
abbrev pub BoundAnswer : Limits → Options → Input → Result Bound Status → Type 0
BoundAnswer limits options input (Ok bound) =
    IsSettled limits input.nodes (grid_options options) bound.table
    × IsBoundOn limits input.complex input.nodes.first bound.table bound.complex
BoundAnswer limits options input (Err status) = IsUnbound limits options input status

-- ---- the mesh

-- the point list without the decimals of its points, which are read no more once the points are on their grid
abbrev pub without_decimals : NodeTable → NodeTable
without_decimals table = record table { decimals = [] }

-- the mesh of points alone with these tetrahedra, and with the number of hidden points, where there is one
abbrev pub mesh_on : NodeTable → List Tet → Option ℕ → Meshed
mesh_on table rows hidden = record {
  table = without_decimals table;
  added = [];
  points = table.points;
  names = names_with table 0;
  complex = empty_complex;
  triangles = [];
  tetrahedra = rows;
  marks = None;
  hidden = hidden;
}

-- the mesh of points alone: their Delaunay list
abbrev pub mesh_of_points : NodeTable → Meshed
mesh_of_points table = mesh_on table (delaunay_rows table.points) None

-- the mesh of weighted points: their regular list
abbrev pub mesh_of_weights : NodeTable → RegularMesh → Meshed
mesh_of_weights table made = mesh_on table made.rows (Some made.hidden)

-- how the options make the mesh of a complex
abbrev pub mesh_options : Options → NodeTable → MeshOptions
mesh_options options table = record {
  halvings = table.grid.halvings;
  budget = options.budget;
  keep_hull = options.keep_hull;
  keep_facets = options.keep_facets;
  regions = options.regions;
}

-- the mesh of a complex on its table of points
abbrev pub mesh_of_complex : Bound → ComplexMesh → Meshed
mesh_of_complex bound made = record {
  table = without_decimals bound.table;
  added = drop (length bound.table.points) made.points;
  points = made.points;
  names = names_with bound.table (length made.points - length bound.table.points);
  complex = bound.complex;
  triangles = made.triangles;
  tetrahedra = made.tetrahedra;
  marks = made.marks;
  hidden = None;
}

-- why points alone have no mesh
abbrev pub IsFlatRefusal : Bound → Status → Type 0
IsFlatRefusal bound Flat = AreCoplanar bound.table.points
IsFlatRefusal bound NoMemory = Unit {0}
IsFlatRefusal bound status = ⊥

-- why a complex has no mesh
abbrev pub IsUnmeshed : Options → Bound → Status → Type 0
IsUnmeshed options bound status =
    (fault : MeshFault) × (status ≡ status_of_fault fault)
    × IsMeshFault (mesh_options options bound.table) bound.table.points bound.complex fault

-- the mesh of points alone, or of weighted points
abbrev pub PointsMeshOf : Bool → Options → Bound → Result Meshed Status → Type 0
PointsMeshOf false options bound (Ok mesh) = ¬ AreCoplanar bound.table.points × (mesh ≡ mesh_of_points bound.table)
PointsMeshOf false options bound (Err status) = IsFlatRefusal bound status
PointsMeshOf true options bound (Ok mesh) = (made : RegularMesh) × RegularAnswer bound.table (Ok made)
    × (mesh ≡ mesh_of_weights bound.table made)
PointsMeshOf true options bound (Err status) =
    (fault : RegularFault) × (status ≡ status_of_weights (file_name options.base Node) fault) × RegularAnswer bound.table (Err fault)

-- the mesh of points alone, or of a complex
abbrev pub MeshOf : Bool → Options → Bound → Result Meshed Status → Type 0
MeshOf false options bound answer = PointsMeshOf options.weighted options bound answer
MeshOf true options bound (Ok mesh) =
    (made : ComplexMesh) × IsComplexMesh (mesh_options options bound.table) bound.table.points bound.complex made
    × (mesh ≡ mesh_of_complex bound made)
MeshOf true options bound (Err status) = IsUnmeshed options bound status

abbrev pub MeshAnswer : Options → Bound → Result Meshed Status → Type 0
MeshAnswer options bound = MeshOf options.piecewise options bound

-- the mesh without its hull
abbrev pub mesh_in : Result HulledMesh Status → Result Meshed Status
mesh_in (Ok made) = Ok made.mesh
mesh_in (Err status) = Err status

-- ---- the outputs

-- the files and the summary of a mesh
abbrev pub OutputsAnswer : Options → Meshed → Result Outputs Status → Type 0
OutputsAnswer options mesh (Ok outputs) = AreOutputsOf options mesh outputs
OutputsAnswer options mesh (Err status) = status ≡ NoMemory

-- the outputs of an input
abbrev pub MeshedAnswer : Limits → Options → Input → Result Outputs Status → Type 0
MeshedAnswer limits options input =
    AndThen (BoundAnswer limits options input) (λ bound. AndThen (MeshAnswer options bound) (OutputsAnswer options))

-- The steps of a run up to its first store: the words are read, then the input that they name, and the outputs of its mesh are made.
-- Each refusal is one of the first step that refuses
abbrev pub OutputsOfRun : Limits → List (List ℕ) → FolderSeen → Result Outputs Status → Type 0
OutputsOfRun limits words seen =
    AndThen (WordsAnswer words) (λ options. AndThen (InputAnswer limits seen options) (MeshedAnswer limits options))

-- ---- the parts of the way

-- the complex is over a limit
abbrev pub IsOverLimit : Limits → Plc → Status → Type 0
IsOverLimit limits text (Limit (Facets count most)) = HasManyFacets limits text count most
IsOverLimit limits text (Limit (Corners line count most)) = HasLongPolygon limits text line count most
IsOverLimit limits text NoMemory = Unit {0}
IsOverLimit limits text status = ⊥

-- the points and the complex can be meshed
pub record IsMeshableBound (options : Options) (bound : Bound) : Type 0 where
  pub table : IsNodeTable bound.table
  pub decimals : length bound.table.decimals ≡ length bound.table.listed
  pub few : length bound.table.listed ≤ 2 ^ 31
  pub budget : options.budget ≤ 100000
  pub near : IsNearGrid options.origin bound.table.grid
  pub meshable : IsMeshable bound.table.grid.halvings options.budget bound.table.points bound.complex
