-- Points that are rounded before they are put on their grid.
use Rattle.std.proofs.Common.{◌≡◌, ℕ, ◌<◌, ◌≤◌, map, length, Option, Some, None, Result, Ok, Err, sym, subst, ap, arith}
use Rattle.std.specs.Prelude.{IfOk, IfSome}
use Rattle.std.proofs.lemmas.List.{length-map}
use Rattle.command_words.specs.Meaning.{AreInRange}
use Rattle.command_words.specs.declared.options.Options.{Options}
use Rattle.grid_coords.specs.Origins.{IsNearBy}
use Rattle.grid_coords.specs.declared.origin.WholePoint.{WholePoint}
use Rattle.node_files.specs.Settling.{rounded_point}
use Rattle.node_files.specs.declared.limits.Limits.{Limits}
use Rattle.node_files.specs.declared.node_text.NodeText.{NodeText}
use Rattle.plc_files.specs.Text.{Plc}
use Rattle.run_steps.specs.Meshing.{BoundAnswer, IsMeshableBound, IsUnbound}
use Rattle.run_steps.specs.Reading.{IsSound}
use Rattle.run_steps.specs.declared.input.Input.{Input}
use Rattle.run_steps.specs.declared.mesh.Bound.{Bound}
use Rattle.run_steps.specs.declared.status.LimitKind.TheVariants.{Points, Facets, Corners, Grid as OnGrid}
use Rattle.run_steps.specs.declared.status.Status.{Status}
use Rattle.run_steps.specs.declared.status.Status.TheVariants.{Limit}
use Rattle.tetfit_run.specs.Trial.{rounded_nodes, AreInTriedRange}
use Rattle.tetfit_run.specs.Trying.{at_decimals, without_decimals}
use Rattle.tetfit_run.proofs.Measured.{sound_with}

module _ (limits : Limits) (options : Options) (m : ℕ) (nodes : NodeText) (complex : Plc) where
  abbrev given : Input
  given = record { nodes = nodes; complex = complex }

  abbrev rounded : Input
  rounded = record { nodes = rounded_nodes m nodes; complex = complex }

  long : length (map (rounded_point m) nodes.decimals) ≡ length nodes.decimals
  long = length-map nodes.decimals (rounded_point m)

  -- the refusals of the grid are the same
  rounded_unbound : (s : Status) → IsUnbound limits (without_decimals options) rounded s → IsUnbound limits (at_decimals m options) given s
  rounded_unbound (Limit (Points count most)) h = record {
    many = subst (λ n. limits.points < n) long h.many;
    counted = subst (λ n. count ≡ n) long h.counted;
    told = h.told;
  }
  rounded_unbound (Limit (Facets count most)) h = (subst (λ n. n ≤ limits.points) long h.0, h.1)
  rounded_unbound (Limit (Corners line count most)) h = (subst (λ n. n ≤ limits.points) long h.0, h.1)
  rounded_unbound (Limit (OnGrid line)) h = (h.0, record { few = subst (λ n. n ≤ limits.points) long h.1.few; off = h.1.off })
  rounded_unbound s h = h

  -- and so is the grid
  rounded_at : (r : Result Bound Status) → BoundAnswer limits (without_decimals options) rounded r → BoundAnswer limits (at_decimals m options) given r
  rounded_at (Ok bound) h = (record { on = record { few = subst (λ n. n ≤ limits.points) long h.0.on.few; on = h.0.on.on }; is = h.0.is; folded = h.0.folded }, h.1)
  rounded_at (Err s) h = rounded_unbound s h

  stated : options.decimals ≡ Some m → at_decimals m options ≡ options
  stated e = ap (λ (d : Option ℕ). record options { decimals = d }) (sym e)

  pub rounded_answer : (r : Result Bound Status) → options.decimals ≡ Some m → BoundAnswer limits (without_decimals options) rounded r → BoundAnswer limits options given r
  rounded_answer r e h = subst (λ (o : Options). BoundAnswer limits o given r) (stated e) (rounded_at r h)

  pub rounded_sound : IsSound given → IsSound rounded
  rounded_sound s = sound_with given (map (rounded_point m) nodes.decimals) long s

-- a mesh does not depend on the decimals that are asked for
pub rounded_meshable : (options : Options) (r : Result Bound Status) → IfOk r (IsMeshableBound (without_decimals options)) → IfOk r (IsMeshableBound options)
rounded_meshable options (Ok bound) h = record { table = h.table; decimals = h.decimals; few = h.few; budget = h.budget; near = h.near; meshable = h.meshable }
rounded_meshable options (Err s) h = tt

-- with more decimals than words may ask for there is no origin
pub ranges_without : (options : Options) (m : ℕ) → AreInTriedRange options → options.decimals ≡ Some m → 20 < m → AreInRange (without_decimals options)
ranges_without options m ranges e over = record {
  budget = ranges.budget;
  halvings = ranges.halvings;
  decimals = tt;
  unit = ranges.unit;
  sample = ranges.sample;
  near = far options.origin (subst (λ (d : Option ℕ). IfSome options.origin (IsNearBy d)) e ranges.near);
}
  where
    far : (o : Option WholePoint) → IfSome o (IsNearBy (Some m)) → IfSome o (IsNearBy None)
    far None near = tt
    far (Some w) near = let fine = near.fine in absurd (omega arith)

pub ranges_within : (options : Options) → AreInTriedRange options → IfSome options.decimals (λ n. n ≤ 20) → AreInRange options
ranges_within options ranges few = record { budget = ranges.budget; halvings = ranges.halvings; decimals = few; unit = ranges.unit; sample = ranges.sample; near = ranges.near }
