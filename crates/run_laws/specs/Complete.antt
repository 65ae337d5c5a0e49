-- Which runs on points are done.
use Rattle.std.specs.Prelude.{◌≡◌, ◌⊎◌, ℕ, ℤ, ◌≤◌, true, false, List, length, None, Some, Ok}
use Rattle.std.specs.FinMap as map
use Rattle.tet_ports.specs.Files.{Files}
use Rattle.geo_laws.specs.Delaunay.{AreCoplanar}
use Rattle.grid_coords.specs.Choice.{grid_of}
use Rattle.grid_coords.specs.declared.grid.Grid.{Grid}
use Rattle.node_files.specs.Settling.{IsSettled, rounded_points}
use Rattle.node_files.specs.declared.limits.Limits.{Limits}
use Rattle.node_files.specs.declared.node_text.NodeText.{NodeText}
use Rattle.node_files.specs.declared.table.NodeTable.{NodeTable}
use Rattle.command_words.specs.Grammar.{words_fault}
use Rattle.command_words.specs.Meaning.{options_of}
use Rattle.command_words.specs.Names.{file_name}
use Rattle.command_words.specs.declared.options.Extension.TheVariants.{Node}
use Rattle.command_words.specs.declared.options.Options.{Options}
use Rattle.run_steps.specs.Meshing.{grid_options}
use Rattle.run_steps.specs.Reading.{node_text_of}
use Rattle.tet_ports.specs.Seen.{FolderSeen, SinkSeen}
use Rattle.weighted_mesh.specs.Weights.{weights_of}
use Rattle.run_steps.specs.declared.status.Status.{Status}
use Rattle.run_steps.specs.declared.status.Status.TheVariants.{Done, NoMemory}
use Rattle.tetgen_run.specs.Ends.{HasNoFault}
use Rattle.tetgen_run.specs.Run.{IsAnswerWithin}

-- the options ask for a mesh of points alone, without weights
pub record AskForPoints (options : Options) : Type 0 where
  pub no_check : options.check ≡ false
  pub no_complex : options.piecewise ≡ false
  pub no_weights : options.weighted ≡ false

-- the options ask for the regular list of weighted points
pub record AskForWeights (options : Options) : Type 0 where
  pub no_check : options.check ≡ false
  pub no_complex : options.piecewise ≡ false
  pub weights : options.weighted ≡ true

-- the file of points is there, in its grammar and within these limits, and its points are on a grid and not all in one plane
pub record IsGoodFile (limits : Limits) (options : Options) (told : Files) : Type 0 where
  pub bytes : List ℕ
  pub there : map.get told (file_name options.base Node) ≡ Some bytes
  pub few_bytes : length bytes ≤ limits.bytes
  pub nodes : NodeText
  pub read : node_text_of bytes ≡ Ok nodes
  pub few_points : length nodes.decimals ≤ limits.points
  pub grid : Grid
  pub on_grid : grid_of limits.grid (grid_options options).halvings (rounded_points options.decimals nodes.decimals) ≡ Ok grid
  pub in_space : (table : NodeTable) → IsSettled limits nodes (grid_options options) table → ¬ AreCoplanar table.points

-- Words in the grammar that ask for points alone, a good file in a folder that tells, and no fault of the folder or of the sink: the answer
-- within any limits is Done, or memory was wanting
abbrev pub PointsCompleteLaw : Type 0
PointsCompleteLaw = (limits : Limits) (words : List (List ℕ)) (folder : FolderSeen) (out : SinkSeen) (told : Files)
    → words_fault words ≡ None → AskForPoints (options_of words) → folder.files_before ≡ Some told
    → IsGoodFile limits (options_of words) told → HasNoFault folder out
    → (status : Status) → IsAnswerWithin limits words folder out status → (status ≡ Done) ⊎ (status ≡ NoMemory)

-- each point has a weight: the first attributes are decimals, and none is too heavy on the points' grid; or points have no attributes
abbrev pub AreWeighed : Limits → Options → NodeText → Type 0
AreWeighed limits options nodes =
    (table : NodeTable) → IsSettled limits nodes (grid_options options) table → (weights : List ℤ) × (weights_of table ≡ Ok weights)

-- A run on weighted points, each with a weight, ends well or for want of memory, where nothing outside fails
abbrev pub WeightsCompleteLaw : Type 0
WeightsCompleteLaw = (limits : Limits) (words : List (List ℕ)) (folder : FolderSeen) (out : SinkSeen) (told : Files)
    → words_fault words ≡ None → AskForWeights (options_of words) → folder.files_before ≡ Some told
    → (good : IsGoodFile limits (options_of words) told) → AreWeighed limits (options_of words) good.nodes → HasNoFault folder out
    → (status : Status) → IsAnswerWithin limits words folder out status → (status ≡ Done) ⊎ (status ≡ NoMemory)
