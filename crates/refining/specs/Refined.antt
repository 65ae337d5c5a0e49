-- The mesh of a complex with points behind its own, and the refusals.
use Rattle.std.specs.Prelude.{◌≡◌, ◌≤◌, ◌^◌, ℕ, true, List, [], ◌++◌, length, Ok}
use Rattle.sign_predicates.specs.Point.{Point}
use Rattle.refining.specs.Addable.{AreAddable, IsAddFault}
use Rattle.command_words.specs.declared.options.Options.{Options}
use Rattle.complex_mesh.specs.Meshing.{IsComplexMesh, IsMeshFault}
use Rattle.complex_mesh.specs.declared.mesh.ComplexMesh.{ComplexMesh}
use Rattle.complex_mesh.specs.declared.mesh.MeshOptions.{MeshOptions}
use Rattle.run_steps.specs.Meshing.{mesh_of_complex, MeshOf}
use Rattle.run_steps.specs.declared.mesh.Bound.{Bound}
use Rattle.run_steps.specs.declared.meshed.Meshed.{Meshed}
use Rattle.refining.specs.declared.refine_fault.RefineFault.{RefineFault}
use Rattle.refining.specs.declared.refine_fault.RefineFault.TheVariants as refused

-- the options of the mesh of a complex whose subsegments may be halved `halvings` times
abbrev pub options_with : ℕ → Options → MeshOptions
options_with halvings options = record {
  halvings = halvings;
  budget = options.budget;
  keep_hull = options.keep_hull;
  keep_facets = options.keep_facets;
  regions = options.regions;
}

-- A mesh of a complex with points behind its own: no subsegment is halved more often than the coordinates of all points
-- allow, and any two points differ
pub record IsMeshWith (options : Options) (bound : Bound) (more : List Point) (halvings : ℕ) (made : ComplexMesh) : Type 0 where
  pub on_grid : halvings ≤ bound.table.grid.halvings
  pub addable : AreAddable halvings bound.table.points more
  pub mesh : IsComplexMesh (options_with halvings options) (bound.table.points ++ more) bound.complex made

-- a mesh of a complex with few points behind its own
pub record IsFewWith (options : Options) (bound : Bound) (more : List Point) (halvings : ℕ) (made : ComplexMesh) : Type 0 where
  pub with_them : IsMeshWith options bound more halvings made
  pub few : length more ≤ 2 ^ 30

-- why there is no mesh with these points
abbrev pub IsRefineFault : Options → Bound → List Point → ℕ → ℕ → RefineFault → Type 0
IsRefineFault options bound more halvings most (refused.Points fault) = IsAddFault halvings most bound.table.points more fault
IsRefineFault options bound more halvings most (refused.Mesh fault) =
    IsMeshFault (options_with halvings options) (bound.table.points ++ more) bound.complex fault

-- a mesh of a complex with points behind its own, with its point list and the added points: these points first, and
-- behind them those of protection
abbrev pub MeshAnswerWith : List Point → ℕ → Options → Bound → Meshed → Type 0
MeshAnswerWith more halvings options bound mesh =
    (made : ComplexMesh) × IsMeshWith options bound more halvings made × (mesh ≡ mesh_of_complex bound made)

-- with no further points, and as many halvings as the grid allows, the mesh is that of a run
abbrev pub PlainLaw : Type 0
PlainLaw =
    (options : Options) (bound : Bound) (mesh : Meshed) → MeshAnswerWith [] bound.table.grid.halvings options bound mesh
    → MeshOf true options bound (Ok mesh)
