-- A trial: an input with options and limits.
use Rattle.std.specs.Prelude.{ℕ, ◌≤◌, map, IfSome}
use Rattle.command_words.specs.Meaning.{IsUnit}
use Rattle.command_words.specs.declared.options.Options.{Options}
use Rattle.grid_coords.specs.Origins.{IsNearBy}
use Rattle.node_files.specs.Limits.{AreIndexable}
use Rattle.node_files.specs.Settling.{rounded_point}
use Rattle.node_files.specs.declared.limits.Limits.{Limits}
use Rattle.node_files.specs.declared.node_text.NodeText.{NodeText}
use Rattle.run_steps.specs.Reading.{IsSound}
use Rattle.run_steps.specs.declared.input.Input.{Input}

-- the value of a trial in contracts
pub record TrialValue : Type 0 where
  pub limits : Limits
  pub options : Options
  pub input : Input

abbrev pub trial_of : Limits → Options → Input → TrialValue
trial_of limits options input = record { limits = limits; options = options; input = input }

-- the point list with its coordinates rounded to m decimals
abbrev pub rounded_nodes : ℕ → NodeText → NodeText
rounded_nodes m nodes = record nodes { decimals = map (rounded_point m) nodes.decimals }

-- The numbers of options are in the ranges of words, but for the decimals, which may be more, and the origin is near with
-- the decimals
pub record AreInTriedRange (options : Options) : Type 0 where
  pub budget : options.budget ≤ 100000
  pub halvings : options.halvings ≤ 18
  pub unit : IfSome options.unit IsUnit
  pub sample : IfSome options.sample (λ n. n ≤ 10000)
  pub near : IfSome options.origin (IsNearBy options.decimals)

-- the requirements of the steps after reading
pub record MayBeTried (limits : Limits) (options : Options) (input : Input) : Type 0 where
  pub indexable : AreIndexable limits
  pub ranges : AreInTriedRange options
  pub sound : IsSound input
