-- What `tetfit` makes without bounds on tetrahedra is what `tetgen` makes of the rounded model, on a grid that is halved as often.
use Rattle.std.specs.Prelude.{◌≡◌, ℕ, false, List, None, Some, Ok}
use Rattle.command_words.specs.Grammar.{words_fault}
use Rattle.command_words.specs.Meaning.{options_of}
use Rattle.command_words.specs.Names.{file_name}
use Rattle.command_words.specs.declared.options.Extension.{Extension}
use Rattle.command_words.specs.declared.options.Extension.TheVariants.{Stl}
use Rattle.command_words.specs.declared.options.Options.{Options}
use Rattle.grid_coords.specs.declared.points.DecimalPoint.{DecimalPoint}
use Rattle.node_files.specs.Limits.{tetgen_limits}
use Rattle.soup_files.specs.BinaryStl.{is_binary_stl}
use Rattle.tet_ports.specs.Files.{Files, Holds}
use Rattle.tet_ports.specs.Seen.{FolderSeen}
use Rattle.run_steps.specs.Meshing.{BoundAnswer, OutputsOfRun}
use Rattle.run_steps.specs.Reading.{InputAnswer}
use Rattle.run_steps.specs.declared.input.Input.{Input}
use Rattle.run_steps.specs.declared.mesh.Bound.{Bound}
use Rattle.run_steps.specs.declared.outputs.Outputs.{Outputs}
use Rattle.tetfit_run.specs.Hints.{decimals_moved}
use Rattle.tetfit_run.specs.Models.{named_surface}
use Rattle.tetfit_run.specs.Outputs.{outputs_at}
use Rattle.tetfit_run.specs.Run.{IsMeshOfModel, options_from}
use Rattle.tetfit_run.specs.Trying.{at_decimals}
use Rattle.tetfit_run.specs.Words.{fit_goal, fit_name, fit_options}

-- the options, with another bound on the halvings of the grid
abbrev pub with_halvings : ℕ → Options → Options
with_halvings halvings options = record options { halvings = halvings }

-- The words of `tetgen` ask for what the words of `tetfit` ask for, with the decimals of a run of it, and `tetgen` reads the model within
-- its limits: no bounds on tetrahedra are given, and the coordinates are measured from no origin; but for the bound on halvings the
-- options are the same; the extension of a surface is in small letters; a `.stl` file is a text; and the points are on a grid that is
-- halved as often as that of the run
pub record IsAskedAlike (words of_tetgen : List (List ℕ)) (folder : FolderSeen) (outputs : Outputs)
    (run : IsMeshOfModel words folder outputs) : Type 0 where
  pub unbounded : fit_goal words ≡ None
  pub unmeasured : run.origin ≡ None
  pub understood : words_fault of_tetgen ≡ None
  pub options : at_decimals run.decimals (options_from None words) ≡ with_halvings (fit_options words).halvings (options_of of_tetgen)
  pub named : (form : Extension) → named_surface (fit_options words) ≡ Some form → fit_name words ≡ file_name (fit_options words).base form
  pub text : (bytes : List ℕ) → (fit_options words).extension ≡ Some Stl
      → Holds folder.files_before (file_name (fit_options words).base Stl) bytes → is_binary_stl bytes ≡ false
  pub input : Input
  pub read : InputAnswer tetgen_limits folder (options_of of_tetgen) (Ok input)
  pub bound : Bound
  pub on_grid : BoundAnswer tetgen_limits (options_of of_tetgen) input (Ok bound)
  pub halved : bound.table.grid.halvings ≡ run.mesh.bound.table.grid.halvings

-- the outputs are those of one run of `tetgen`, but for the decimals in the summary and a line behind it, which says by how much the
-- coordinates of these points moved at most, where they were rounded
pub record AreOfTetgen (of_tetgen : List (List ℕ)) (folder : FolderSeen) (decimals : ℕ) (points : List DecimalPoint) (outputs : Outputs)
    : Type 0 where
  pub made : Outputs
  pub answer : OutputsOfRun tetgen_limits of_tetgen folder (Ok made)
  pub outputs_are : outputs ≡ outputs_at decimals (decimals_moved decimals points) made
  pub only : (other : Outputs) → OutputsOfRun tetgen_limits of_tetgen folder (Ok other) → other ≡ made

-- The outputs of a run of `tetfit` over told files are those of `tetgen` by words that ask for the same
abbrev pub FitAsTetgenLaw : Type 0
FitAsTetgenLaw = (words of_tetgen : List (List ℕ)) (told : Files) (folder : FolderSeen) (outputs : Outputs)
    (run : IsMeshOfModel words folder outputs) → folder.files_before ≡ Some told
    → (alike : IsAskedAlike words of_tetgen folder outputs run)
    → AreOfTetgen of_tetgen folder run.decimals alike.input.nodes.decimals outputs
