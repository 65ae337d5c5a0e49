-- The check of the files that a run leaves.
use Rattle.std.specs.Prelude.{◌≡◌, ◌⊎◌, ℕ, ◌+◌, ◌≤◌, true, false, List, ◌++◌, length, All, None, Some, Ok, codes}
use Rattle.std.specs.FinMap as map
use Rattle.sign_predicates.specs.Point.{Point}
use Rattle.tet_ports.specs.Files.{Files}
use Rattle.grid_coords.specs.Units.{decimal_of_units}
use Rattle.grid_coords.specs.declared.grid.Grid.{Grid}
use Rattle.command_words.specs.Grammar.{words_fault}
use Rattle.command_words.specs.Meaning.{options_of}
use Rattle.command_words.specs.declared.options.Options.{Options}
use Rattle.mesh_check.specs.Checking.{CheckAnswer}
use Rattle.mesh_check.specs.Reading.{most_bytes}
use Rattle.tet_ports.specs.Seen.{FolderSeen, SinkSeen}
use Rattle.run_steps.specs.Stores.{in_order, with_files}
use Rattle.run_steps.specs.declared.meshed.Meshed.{Meshed}
use Rattle.run_steps.specs.declared.outputs.Outputs.{Outputs}
use Rattle.run_steps.specs.declared.status.Status.TheVariants.{Done}
use Rattle.tetgen_run.specs.Run.{IsAnswer, IsMeshOfRun, asks_check}

-- each coordinate has at most 35 decimals, as many as can be read back
pub record HasFewDecimals (g : Grid) (p : Point) : Type 0 where
  pub x : (decimal_of_units g p.x).scale ≤ 35
  pub y : (decimal_of_units g p.y).scale ≤ 35
  pub z : (decimal_of_units g p.z).scale ≤ 35

-- A coordinate has at most 35 decimals on a grid whose decimals and halvings are at most 35 together
abbrev pub FewDecimalsLaw : Type 0
FewDecimalsLaw = (g : Grid) (p : Point) → g.decimals + g.halvings ≤ 35 → HasFewDecimals g p

-- Outputs of a mesh that can be checked: its points, tetrahedra and faces are among them, each text has at most 2^26 bytes, and coordinates
-- have at most 35 decimals
pub record AreCheckable (options : Options) (mesh : Meshed) (outputs : Outputs) : Type 0 where
  pub nodes_there : options.no_node ≡ false
  pub rows_there : options.no_ele ≡ false
  pub faces_there : options.no_face ≡ false
  pub few_bytes : All (λ text. length text.content ≤ most_bytes) (in_order outputs.texts)
  pub decimals : All (HasFewDecimals mesh.table.grid) (mesh.table.listed ++ mesh.added)

-- The outputs of a run without weights are left in some files, among which there is no other file of neighbors. Then the check of them,
-- under the base that the outputs have, answers that the mesh is sound, and how many tetrahedra it has
abbrev pub CheckedRunLaw : Type 0
CheckedRunLaw = (words : List (List ℕ)) (folder : FolderSeen) (outputs : Outputs) (run : IsMeshOfRun words folder outputs)
    → (options_of words).weighted ≡ false → AreCheckable (options_of words) run.mesh outputs
    → (before : Files)
    → ((options_of words).neighbors ≡ true) ⊎ (map.get before ((options_of words).base ++ codes ".1.neigh") ≡ None)
    → (seen : FolderSeen) → seen.files_before ≡ with_files (Some before) (in_order outputs.texts)
    → CheckAnswer seen ((options_of words).base ++ codes ".1") None (Ok (length run.mesh.tetrahedra))

-- A later run on the files that a run left, by words that ask for a check of the base of the outputs and for no
-- rounding, has the answer Done
abbrev pub CheckedAfterLaw : Type 0
CheckedAfterLaw = (words : List (List ℕ)) (folder : FolderSeen) (outputs : Outputs) (run : IsMeshOfRun words folder outputs)
    → (options_of words).weighted ≡ false → AreCheckable (options_of words) run.mesh outputs
    → (before : Files) → folder.files_before ≡ Some before
    → ((options_of words).neighbors ≡ true) ⊎ (map.get before ((options_of words).base ++ codes ".1.neigh") ≡ None)
    → folder.files_now ≡ with_files folder.files_before (in_order outputs.texts)
    → (later : List (List ℕ)) (after : FolderSeen) (out : SinkSeen) → words_fault later ≡ None → asks_check later ≡ true
    → (options_of later).base ≡ (options_of words).base ++ codes ".1" → (options_of later).decimals ≡ None
    → after.files_before ≡ folder.files_now → IsAnswer later after out Done
