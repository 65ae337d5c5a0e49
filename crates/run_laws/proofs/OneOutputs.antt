-- An input has one mesh and one set of outputs, within any limits.
use Rattle.std.proofs.Common.{◌≡◌, ◌≤◌, ◌^◌, Bool, true, false, length, Result, Ok, Err, refl, ap, sym, subst, ◌∙◌, arith}
use Rattle.std.specs.Prelude.{◌≢◌}
use Rattle.command_words.specs.declared.options.Options.{Options}
use Rattle.complex_mesh.specs.Protection.{IsMeshable}
use Rattle.geo_laws.specs.Complex.{Complex}
use Rattle.node_files.specs.declared.limits.Limits.{Limits}
use Rattle.plc_files.proofs.Bound.{has_weights}
use Rattle.plc_files.proofs.Folded.{corners_folded}
use Rattle.plc_files.proofs.Ranges.{corners_below}
use Rattle.plc_files.specs.Binding.{complex_of, HasWeights}
use Rattle.plc_files.specs.Checks.{corners_check}
use Rattle.plc_files.specs.Folding.{HasCornersBelow}
use Rattle.weighted_mesh.proofs.Answering.{one_answer_law}
use Rattle.weighted_mesh.specs.declared.of_table.RegularMesh.{RegularMesh}
use Rattle.weighted_mesh.specs.declared.regular_fault.RegularFault.{RegularFault}
use Rattle.weighted_mesh.specs.declared.regular_fault.RegularFault.TheVariants.{NoMemory as Wanting}
use Rattle.run_steps.specs.Meshing.{BoundAnswer, MeshAnswer, MeshOf, MeshedAnswer, PointsMeshOf, grid_options, mesh_of_complex, mesh_of_weights, mesh_options}
use Rattle.run_steps.specs.Outputs.{AreOutputsOf}
use Rattle.run_steps.specs.declared.input.Input.{Input}
use Rattle.run_steps.specs.declared.mesh.Bound.{Bound}
use Rattle.run_steps.specs.declared.meshed.Meshed.{Meshed}
use Rattle.run_steps.specs.declared.outputs.Outputs.{Outputs}
use Rattle.run_steps.specs.declared.status.Status.{Status}
use Rattle.run_steps.proofs.Determined.{outputs_same}
use Rattle.run_steps.proofs.Meshables.{as_many, meshable, weights_folded}
use Rattle.run_steps.proofs.Once.{bound_once}
use Rattle.run_laws.specs.OneMesh.{OneMeshedLaw, OneOutputsLaw}
use Rattle.run_laws.proofs.OneMesh.{one_mesh}

-- ---- the mesh

abbrev made_of : RegularMesh → Result RegularMesh RegularFault
made_of mesh = Ok mesh

regular_same : (a b : RegularMesh) → made_of a ≡ made_of b → a ≡ b
regular_same a b e = cc

none_wanting : (a : RegularMesh) → made_of a ≢ Err Wanting
none_wanting a e = cc

-- the mesh of points, or of weighted points
points_once : (weighted : Bool) (options : Options) (bound : Bound) (mesh other : Meshed) → PointsMeshOf weighted options bound (Ok mesh) → PointsMeshOf weighted options bound (Ok other) → mesh ≡ other
points_once false options bound mesh other h k = h.1 ∙ sym k.1
points_once true options bound mesh other h k =
    let same = regular_same h.0 k.0 (one_answer_law bound.table (Ok h.0) (Ok k.0) h.1 k.1 (none_wanting h.0) (none_wanting k.0)) in
    h.2 ∙ ap (mesh_of_weights bound.table) same ∙ sym k.2

-- what is on its grid has one mesh, where a complex can be meshed
mesh_once : (options : Options) (bound : Bound) (mesh other : Meshed) → (options.piecewise ≡ true → IsMeshable bound.table.grid.halvings options.budget bound.table.points bound.complex)
    → MeshAnswer options bound (Ok mesh) → MeshAnswer options bound (Ok other) → mesh ≡ other
mesh_once options bound mesh other can h k = by options.piecewise refl h k
  where
    by : (piecewise : Bool) → options.piecewise ≡ piecewise → MeshOf piecewise options bound (Ok mesh) → MeshOf piecewise options bound (Ok other) → mesh ≡ other
    by false e h k = points_once options.weighted options bound mesh other h k
    by true e h k = h.2 ∙ ap (mesh_of_complex bound) (one_mesh (mesh_options options bound.table) bound.table.points bound.complex h.0 k.0 (can e) h.1 k.1) ∙ sym k.2

pub one_meshed : OneMeshedLaw
one_meshed options bound mesh other can h k = mesh_once options bound mesh other (λ e. can.meshable) h k

-- ---- the outputs

abbrev bound_of : Bound → Result Bound Status
bound_of bound = Ok bound

bound_same : (a b : Bound) → bound_of a ≡ bound_of b → a ≡ b
bound_same a b e = cc

-- a complex on its grid whose corners are points of its list can be meshed
can_mesh : (limits : Limits) (options : Options) (input : Input) (bound : Bound) → limits.points ≤ 2 ^ 31 → options.budget ≤ 100000 → corners_check input.nodes.first (length input.nodes.decimals) input.complex ≡ Ok tt
    → BoundAnswer limits options input (Ok bound) → IsMeshable bound.table.grid.halvings options.budget bound.table.points bound.complex
can_mesh limits options input bound points budget checked on =
    let settled = on.0 in
    let many = as_many limits input.nodes (grid_options options) bound.table settled in
    let few = settled.on.few in
    let raw : Complex = complex_of input.nodes.first bound.table.grid input.complex in
    let long : length input.nodes.decimals ≡ length bound.table.folded = sym many ∙ sym settled.folded.as_many in
    let below : HasCornersBelow (length bound.table.folded) raw = subst (λ n. HasCornersBelow n raw) long (corners_below input.nodes.first (length input.nodes.decimals) input.complex checked) in
    let corners : HasCornersBelow (length bound.table.points) bound.complex = subst (HasCornersBelow (length bound.table.points)) (sym on.1.is)
    (corners_folded bound.table.folded (length bound.table.points) raw below (λ i l. (settled.folded.equal i (omega (arith, l, settled.folded.as_many))).0)) in
    let weighed : HasWeights raw = has_weights limits input.nodes.first bound.table.grid input.complex (Ok raw) (record { few = on.1.small.few; short = on.1.small.short; is = refl }) in
    meshable limits input.nodes (grid_options options) bound.table settled options.budget bound.complex budget (omega (arith, many, few, points)) corners
    (weights_folded bound.table.folded raw bound.complex on.1.is weighed)

pub outputs_once : (limits : Limits) (options : Options) (input : Input) → limits.points ≤ 2 ^ 31 → options.budget ≤ 100000
    → (options.piecewise ≡ true → corners_check input.nodes.first (length input.nodes.decimals) input.complex ≡ Ok tt) → (p q : Outputs)
    → MeshedAnswer limits options input (Ok p) → MeshedAnswer limits options input (Ok q) → p ≡ q
outputs_once limits options input points budget checked p q (bound, on, (mesh, made, are)) (bound', on', (mesh', made', are')) =
    let bounds = bound_same bound bound' (bound_once limits options input (Ok bound) (Ok bound') tt tt on on') in
    let meshes = mesh_once options bound mesh mesh' (λ e. can_mesh limits options input bound points budget (checked e) on) made (subst (λ b. MeshAnswer options b (Ok mesh')) (sym bounds) made') in
    outputs_same options mesh p q are (subst (λ m. AreOutputsOf options m q) (sym meshes) are')

pub one_outputs : OneOutputsLaw
one_outputs limits options input p q indexable budget sound h k = outputs_once limits options input indexable.points budget (λ e. sound.corners) p q h k
