-- What the files of a refined mesh spell.
use Rattle.std.proofs.Common.{◌≤◌, ℕ, List, ◌++◌, length, Ok, sym, subst, arith}
use Rattle.std.proofs.lemmas.List.{length-append}
use Rattle.sign_predicates.specs.Point.{Point}
use Rattle.command_words.specs.declared.options.Options.{Options}
use Rattle.complex_mesh.proofs.Added.{added}
use Rattle.complex_mesh.specs.declared.mesh.ComplexMesh.{ComplexMesh}
use Rattle.geo_laws.specs.Mesh.{IsMesh}
use Rattle.geo_laws.specs.Segment.{pieces}
use Rattle.path_laws.specs.Flood.{carving_of}
use Rattle.refining.specs.Refined.{IsMeshWith, options_with}
use Rattle.plc_files.specs.Text.{limits_of}
use Rattle.refining.specs.Goals.{shape_bounds}
use Rattle.refining.specs.Outputs.{ConformingMeshed, RefinedAnswer, RefinedMeshed}
use Rattle.run_steps.specs.Meshing.{BoundAnswer}
use Rattle.refining.specs.declared.goal.Goal.{Goal}
use Rattle.run_steps.proofs.Determined.{outputs_same}
use Rattle.run_steps.specs.declared.mesh.Bound.{Bound}
use Rattle.run_steps.specs.declared.meshed.Meshed.{Meshed}
use Rattle.tetgen_run.proofs.Determined.{complex_determined_on}
use Rattle.tetgen_run.specs.Run.{IsDetermined}
use Rattle.run_steps.specs.declared.input.Input.{Input}
use Rattle.run_steps.specs.declared.outputs.Outputs.{Outputs}
use Rattle.node_files.specs.declared.limits.Limits.{Limits}
use Rattle.tetfit_run.specs.Refined.{HasBareMesh, IsRefinedMeshBy}

-- no point of the table is taken away
begins_with : (options : Options) (bound : Bound) (more : List Point) (halvings : ℕ) (made : ComplexMesh) → IsMeshWith options bound more halvings made → length bound.table.points ≤ length made.points
begins_with options bound more halvings made h =
    let all = bound.table.points ++ more in
    let grows = added halvings made.points h.mesh.rest options.budget all (pieces all h.mesh.segs) h.mesh.protected.ends in
    let low = grows.0 in
    omega (arith, low, length-append bound.table.points more)

-- the outputs of a mesh with points behind those of a complex are those of one mesh
answered_by : (goal : Goal) (limits : Limits) (options : Options) (Understood : Type 0) (Read : Input → Type 0) (Bare : Bound → Type 0) (input : Input) (bound : Bound) (outputs : Outputs) → Understood → Read input
    → BoundAnswer limits options input (Ok bound) → Bare bound → RefinedAnswer (shape_bounds bound goal (limits_of input.complex)) options bound (Ok outputs)
    → IsRefinedMeshBy goal limits options Understood Read Bare outputs
answered_by goal limits options Understood Read Bare input bound outputs understood read on_grid bare refined =
    let mesh = refined.2 in
    let made = refined.3.0 in
    let with_them = refined.3.1 in
    let is = refined.3.2 in record {
      understood = understood;
      input = input;
      read = read;
      bound = bound;
      on_grid = on_grid;
      bare = bare;
      more = refined.0;
      halvings = refined.1;
      mesh = mesh;
      made = refined.3;
      corners = refined.4;
      whole = subst (λ (m : Meshed). IsMesh (carving_of options.keep_hull) m.points m.triangles m.complex.holes m.tetrahedra) (sym is) with_them.mesh.mesh;
      written = refined.5.0;
      outputs_are = refined.5.1;
      only = λ other on. outputs_same options mesh other refined.5.0 on refined.5.1;
      counts = refined.5.2;
      determined = subst (IsDetermined options) (sym is)
          (complex_determined_on (options_with refined.1 options) (bound.table.points ++ refined.0) options bound made on_grid.0.folded (begins_with options bound refined.0 refined.1 made with_them) with_them.mesh);
    }

-- the outputs of a refined input are those of one mesh
pub refined_mesh_by : (goal : Goal) (limits : Limits) (options : Options) (Understood : Type 0) (Read : Input → Type 0) (input : Input) (outputs : Outputs) → Understood → Read input
    → RefinedMeshed goal limits options input (Ok outputs) → IsRefinedMeshBy goal limits options Understood Read (HasBareMesh options) outputs
refined_mesh_by goal limits options Understood Read input outputs understood read h =
    answered_by goal limits options Understood Read (HasBareMesh options) input h.0 outputs understood read h.1 (h.2.0, h.2.1) h.2.2

-- and those of one that has no mesh without points
pub conforming_mesh_by : (goal : Goal) (limits : Limits) (options : Options) (Understood : Type 0) (Read : Input → Type 0) (input : Input) (outputs : Outputs) → Understood → Read input
    → ConformingMeshed goal limits options input outputs → IsRefinedMeshBy goal limits options Understood Read (λ bound. Unit {0}) outputs
conforming_mesh_by goal limits options Understood Read input outputs understood read h =
    answered_by goal limits options Understood Read (λ bound. Unit {0}) input h.0 outputs understood read h.1 tt h.2
