-- A refusal by the grid at one number of decimals, and at those behind it.
use Rattle.std.proofs.Common.{◌≡◌, ℕ, ◌<◌, ◌≤◌, true, List, [], ◌∷◌, length, map, sym, ap, ◌∙◌, Option, Some, None, Result, Ok, Err, refl, subst, arith, inl, inr}
use Rattle.std.specs.Prelude.{◌⊎◌, IfErr}
use Rattle.std.proofs.lemmas.Bool.{cases_lt}
use Rattle.command_words.specs.declared.options.Options.{Options}
use Rattle.grid_coords.specs.Choice.{grid_of}
use Rattle.grid_coords.specs.declared.origin.WholePoint.{WholePoint}
use Rattle.grid_coords.specs.declared.points.DecimalPoint.{DecimalPoint}
use Rattle.node_files.specs.declared.limits.Limits.{Limits}
use Rattle.node_files.specs.Settling.{IsOffGrid}
use Rattle.run_steps.specs.Meshing.{grid_options, IsSmall, IsUnbound, MeshedAnswer}
use Rattle.run_steps.specs.Numbering.{numbering_of}
use Rattle.run_steps.specs.declared.input.Input.{Input}
use Rattle.run_steps.specs.declared.mesh.Bound.{Bound}
use Rattle.run_steps.specs.declared.numbering.Numbering.{Numbering}
use Rattle.run_steps.specs.declared.outputs.Outputs.{Outputs}
use Rattle.run_steps.specs.declared.status.LimitKind.TheVariants.{Grid}
use Rattle.run_steps.specs.declared.status.Status.{Status}
use Rattle.run_steps.specs.declared.status.Status.TheVariants.{Limit, GridEnd}
use Rattle.tetfit_run.specs.Grids.{ArePassedBetween, IsOffRounded, IsPassed}
use Rattle.tetfit_run.specs.Measured.{tried, BoundTried}
use Rattle.tetfit_run.proofs.Alike.{alike_refused, points_rounded}
use Rattle.tetfit_run.proofs.Measured.{points_long}
use Rattle.tetfit_run.specs.Trying.{answer_in, at_decimals, is_of_grid, AnswerAt, IsNumbered, IsRefusedByGrid, MadeAnswer}
use Rattle.tetfit_run.specs.declared.trying.Unfitted.{Unfitted}

-- the input is over no limit but that of the grid
pub record IsWithinLimits (limits : Limits) (input : Input) : Type 0 where
  pub few : length input.nodes.decimals ≤ limits.points
  pub small : IsSmall limits input.complex

module _ (limits : Limits) (options : Options) (input : Input) where
  -- so where the grid refuses it
  unbound_within : (status : Status) → is_of_grid status ≡ true → IsUnbound limits options input status → IsWithinLimits limits input
  unbound_within (Limit (Grid line)) e h = record { few = h.1.few; small = h.0 }
  unbound_within (GridEnd piece) e h = absurd h
  unbound_within status e h = absurd (cc)

  within_limits : (status : Status) → is_of_grid status ≡ true → MeshedAnswer limits options input (Err status) → IsWithinLimits limits input
  within_limits status e (inl h) = unbound_within status e h
  within_limits status e (inr h) = record { few = h.1.0.on.few; small = h.1.1.small }

-- where the tried input is over no limit, the input is over none
tried_within : (limits : Limits) (options : Options) (input : Input) → IsWithinLimits limits (tried options input) → IsWithinLimits limits input
tried_within limits options input within = record {
  few = subst (λ (n : ℕ). n ≤ limits.points) (points_long options.origin options.decimals input.nodes.decimals) within.few;
  small = within.small;
}

-- where a point is off the grid, the grid refuses
off_refused : (limits : Limits) (options : Options) (input : Input) (m : ℕ) → IsWithinLimits limits input → IsOffRounded limits.grid options.origin input.nodes.decimals m
    → IsRefusedByGrid limits options input m
off_refused limits options input m within off =
    let at = tried (at_decimals m options) input in
    let few : length at.nodes.decimals ≤ limits.points = subst (λ (n : ℕ). n ≤ limits.points) (sym (points_long options.origin (Some m) input.nodes.decimals)) within.few in
    let off_grid : IsOffGrid limits at.nodes (grid_options (at_decimals m options)) off.line =
    record { few = few; off = ap (grid_of limits.grid options.halvings) (points_rounded options.origin m input.nodes.decimals) ∙ off.off options.halvings } in
    record { status = Limit (Grid off.line); of_grid = refl; answer = inl (within.small, off_grid) }

-- each of the numbers of decimals is below this one, is it, or is above it
by_order : (P : ℕ → Type 0) (m n : ℕ) → (n < m → P n) → P m → (m < n → P n) → P n
by_order P m n below here above = at (cases_lt n m) (cases_lt m n)
  where
    at : (n < m) ⊎ (m ≤ n) → (m < n) ⊎ (n ≤ m) → P n
    at (inl lt) more = below lt
    at (inr ge) (inl lt) = above lt
    at (inr ge) (inr le) = let same : m ≡ n = omega arith in subst P same here

-- after a refusal at m the numbers of decimals behind the next one are refused
pub refused_behind : (limits : Limits) (options : Options) (input : Input) (most m next : ℕ) (status : Status) → is_of_grid status ≡ true
    → AnswerAt limits options input m (Err status) → ArePassedBetween limits.grid options.origin input.nodes.decimals next m
    → ((n : ℕ) → m < n → n ≤ most → IsRefusedByGrid limits options input n)
    → (n : ℕ) → next < n → n ≤ most → IsRefusedByGrid limits options input n
refused_behind limits options input most m next status e refused passed finer n less le =
    let within = tried_within limits (at_decimals m options) input (within_limits limits (at_decimals m options) (tried (at_decimals m options) input) status e refused) in
    let here : IsRefusedByGrid limits options input m = record { status = status; of_grid = e; answer = refused } in
    by_order (IsRefusedByGrid limits options input) m n (λ lt. passed_refused within (passed n less lt)) here (λ lt. finer n lt le)
  where
    passed_refused : IsWithinLimits limits input → IsPassed limits.grid options.origin input.nodes.decimals m n → IsRefusedByGrid limits options input n
    passed_refused within (inl off) = off_refused limits options input n within off
    passed_refused within (inr alike) = record { status = status; of_grid = e; answer = alike_refused limits options input m n alike status refused }

-- the numbers of the points of a refused try
numbered : (limits : Limits) (options : Options) (input : Input) (bound : Bound) (status : Status) (by : Option Numbering) (numbers : Numbering)
    → BoundTried limits options input (Ok bound) → MadeAnswer options bound (Err status) → by ≡ Some numbers → numbers ≡ numbering_of bound.table
    → IsNumbered limits options input status by
numbered limits options input bound status None numbers b made told is = absurd (cc)
numbered limits options input bound status (Some by) numbers b made told is = (bound, b, made, cc)

pub numbered_in : (limits : Limits) (options : Options) (input : Input) (bound : Bound) (r : Result Outputs Unfitted) (numbers : Numbering)
    → BoundTried limits options input (Ok bound) → MadeAnswer options bound (answer_in r) → IfErr r (λ end. end.numbering ≡ Some numbers)
    → numbers ≡ numbering_of bound.table → IfErr r (λ end. IsNumbered limits options input end.status end.numbering)
numbered_in limits options input bound (Ok outputs) numbers b made told is = tt
numbered_in limits options input bound (Err end) numbers b made told is = numbered limits options input bound end.status end.numbering numbers b made told is
