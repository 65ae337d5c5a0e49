-- A model whose parts cross once points are added on its segments has one bound input, and protection of it ends with points.
use Rattle.std.proofs.Common.{◌≡◌, ◌≢◌, ℕ, Bool, true, false, List, Result, Ok, Err, Some, inl, inr, refl, sym, ap, subst, ◌∙◌}
use Rattle.std.proofs.lemmas.Bool.{true≢false}
use Rattle.command_words.specs.Names.{file_name}
use Rattle.command_words.specs.declared.options.Extension.TheVariants.{Node}
use Rattle.command_words.specs.declared.options.Options.{Options}
use Rattle.complex_mesh.proofs.Causes.{protection_cause}
use Rattle.complex_mesh.proofs.OneAnswer.{law_one_fault}
use Rattle.complex_mesh.specs.Meshing.{IsMeshFault, IsProtectionFault}
use Rattle.complex_mesh.specs.declared.fault.MeshFault.{MeshFault}
use Rattle.complex_mesh.specs.declared.fault.MeshFault.TheVariants as faults
use Rattle.complex_mesh.specs.declared.mesh.MeshOptions.{MeshOptions}
use Rattle.geo_laws.specs.Complex.{Complex}
use Rattle.node_files.specs.declared.limits.Limits.{Limits}
use Rattle.run_steps.proofs.Once.{bound_once}
use Rattle.run_steps.specs.Faults.{status_of_fault, status_of_weights}
use Rattle.run_steps.specs.Meshing.{mesh_options, MeshOf, PointsMeshOf}
use Rattle.run_steps.specs.declared.input.Input.{Input}
use Rattle.run_steps.specs.declared.mesh.Bound.{Bound}
use Rattle.run_steps.specs.declared.numbering.Numbering.{Numbering}
use Rattle.run_steps.specs.declared.status.Status.{Status}
use Rattle.run_steps.specs.declared.status.Status.TheVariants.{Crossing, NoMemory}
use Rattle.sign_predicates.specs.Point.{Point}
use Rattle.simplex_meets.specs.declared.complex_parts.Part.{Part}
use Rattle.tetfit_run.specs.Measured.{BoundTried, tried}
use Rattle.tetfit_run.specs.Placed.{HasCrossing, HasCrossingOn}
use Rattle.tetfit_run.specs.Trying.{IsNumbered, MadeAnswer}
use Rattle.tetfit_run.proofs.Missing.{never_unbound}
use Rattle.weighted_mesh.specs.declared.regular_fault.RegularFault.{RegularFault}
use Rattle.weighted_mesh.specs.declared.regular_fault.RegularFault.TheVariants as weights

abbrev is_crossing : Status → Bool
is_crossing (Crossing one two) = true
is_crossing status = false

-- two parts of the complex cross, once points are added on its segments
abbrev HasCross : MeshOptions → List Point → Complex → Type 0
HasCross o ps c = (one : Part) × (two : Part) × IsMeshFault o ps c (faults.Crossing one two)

abbrev wants_memory : MeshFault → Bool
wants_memory faults.NoMemory = true
wants_memory fault = false

decided : (fault : MeshFault) → wants_memory fault ≡ false → fault ≢ faults.NoMemory
decided fault e is = true≢false (sym (ap wants_memory is) ∙ e)

-- beside crossing parts no cause but lack of memory keeps protection from its end
never : (o : MeshOptions) (ps : List Point) (c : Complex) (fault : MeshFault) → wants_memory fault ≡ false → HasCross o ps c → IsProtectionFault o ps c fault → ⊥
never o ps c fault e crossing h =
    let same = law_one_fault o ps c (faults.Crossing crossing.0 crossing.1) fault tt (decided fault e) crossing.2 (protection_cause o ps c fault h) in
    subst (IsProtectionFault o ps c) (sym same) h

pub memory_alone : (o : MeshOptions) (ps : List Point) (c : Complex) (fault : MeshFault) → HasCross o ps c → IsProtectionFault o ps c fault → fault ≡ faults.NoMemory
memory_alone o ps c faults.NoMemory crossing h = refl
memory_alone o ps c fault crossing h = absurd (never o ps c fault refl crossing h)

fault_crosses : (o : MeshOptions) (ps : List Point) (c : Complex) (fault : MeshFault) (s : Status) → is_crossing s ≡ true → s ≡ status_of_fault fault → IsMeshFault o ps c fault → HasCross o ps c
fault_crosses o ps c (faults.Crossing one two) s e is h = (one, two, h)
fault_crosses o ps c fault s e is h = absurd (true≢false (sym e ∙ ap is_crossing is))

weights_cross : (name : List ℕ) (fault : RegularFault) → is_crossing (status_of_weights name fault) ≡ false
weights_cross name (weights.Text fault) = refl
weights_cross name (weights.TooHeavy line) = refl
weights_cross name weights.Flat = refl
weights_cross name weights.NoMemory = refl

points_cross : (weighted : Bool) (options : Options) (bound : Bound) (one two : Part) → PointsMeshOf weighted options bound (Err (Crossing one two)) → ⊥
points_cross false options bound one two h = h
points_cross true options bound one two h = true≢false (ap is_crossing h.1 ∙ weights_cross (file_name options.base Node) h.0)

mesh_crosses : (piecewise : Bool) (options : Options) (bound : Bound) (one two : Part) → MeshOf piecewise options bound (Err (Crossing one two)) → HasCrossingOn options bound
mesh_crosses false options bound one two h = absurd (points_cross options.weighted options bound one two h)
mesh_crosses true options bound one two h = fault_crosses (mesh_options options bound.table) bound.table.points bound.complex h.0 (Crossing one two) refl h.1 h.2

made_crosses : (options : Options) (bound : Bound) (one two : Part) → MadeAnswer options bound (Err (Crossing one two)) → HasCrossingOn options bound
made_crosses options bound one two (inl h) = mesh_crosses options.piecewise options bound one two h
made_crosses options bound one two (inr h) = absurd (true≢false (ap is_crossing h.2))

bound_same : (a b : Bound) (r : Result Bound Status) → Ok a ≡ r → r ≡ Ok b → a ≡ b
bound_same a b r e f = cc

module _ (limits : Limits) (options : Options) (input : Input) where
  -- the parts of a try that is refused for them cross
  pub numbered_crossing : (s : Status) (by : Numbering) (one two : Part) → s ≡ Crossing one two → IsNumbered limits options input s (Some by) → HasCrossing limits options input
  numbered_crossing s by one two is h = (h.0, h.1, made_crosses options h.0 one two (subst (λ s. MadeAnswer options h.0 (Err s)) is h.2))

  -- they cross on any grid on which the input is put
  pub crossing_again : (bound : Bound) → HasCrossing limits options input → BoundTried limits options input (Ok bound) → HasCrossingOn options bound
  crossing_again bound h on =
      let same = bound_same h.0 bound (Ok h.0) refl (bound_once limits options (tried options input) (Ok h.0) (Ok bound) tt tt h.1 on) in
      subst (HasCrossingOn options) same h.2

  -- and it is put on one
  pub never_off : (s : Status) → HasCrossing limits options input → s ≢ NoMemory → BoundTried limits options input (Err s) → ⊥
  never_off s h decided off = never_unbound limits options input _ (record { bound = h.0; on_grid = h.1; counted = refl }) s decided off
