-- A run by its steps: each gives one value, and so does the run.
use Rattle.std.proofs.Common.{◌≡◌, ◌⊎◌, inl, inr, false, Some, None, Ok, Err, refl, sym, ap, subst, ◌∙◌}
use Rattle.std.specs.Prelude.{◌≢◌}
use Rattle.command_words.specs.Grammar.{words_fault}
use Rattle.command_words.specs.Meaning.{options_of}
use Rattle.command_words.specs.declared.options.Options.{Options}
use Rattle.tet_ports.specs.Counts.{Rose}
use Rattle.node_files.specs.Limits.{tetgen_limits}
use Rattle.run_steps.specs.Meshing.{BoundAnswer, MeshAnswer, MeshedAnswer, OutputsAnswer, OutputsOfRun}
use Rattle.run_steps.specs.Outputs.{AreOutputsOf}
use Rattle.run_steps.specs.Reading.{InputAnswer, WordsAnswer}
use Rattle.tet_ports.specs.Seen.{FolderSeen, SinkSeen}
use Rattle.run_steps.specs.Steps.{AndThen}
use Rattle.run_steps.specs.Reports.{text_in}
use Rattle.run_steps.specs.Stores.{in_order, with_files}
use Rattle.run_steps.specs.declared.input.Input.{Input}
use Rattle.run_steps.specs.declared.mesh.Bound.{Bound}
use Rattle.run_steps.specs.declared.meshed.Meshed.{Meshed}
use Rattle.run_steps.specs.declared.outputs.Outputs.{Outputs}
use Rattle.run_steps.specs.declared.status.Status.{Status}
use Rattle.run_steps.specs.declared.status.Status.TheVariants.{Done, NoMemory, WriteFault}
use Rattle.run_steps.proofs.Determined.{outputs_same}
use Rattle.run_steps.proofs.Once.{bound_once, input_once, words_once}
use Rattle.tetgen_run.specs.Ends.{HasNoFault, with_summary}
use Rattle.tetgen_run.specs.Run.{AnswerBy, IsLeftByMesh, IsMeshAnswer, IsMeshOfRun, LeftBy, asks_check}
use Rattle.run_laws.specs.Runs.{EndsDone, HasFile, HasNoOthers, HasOutputs, Leaves, Start}
use Rattle.run_laws.proofs.Steps.{IsOnly, given, is_want, not_want, ok_err, ok_same, once_only, refused, then_only}

-- all that is told of such a run
pub record IsRun (start : Start) (outputs : Outputs) : Type 0 where
  pub has : HasOutputs start outputs
  pub only : HasNoOthers start outputs
  pub done : EndsDone start
  pub left : Leaves start outputs

module _ (start : Start) (options : Options) (input : Input) (bound : Bound) (mesh : Meshed) (outputs : Outputs)
    (understood : words_fault start.words ≡ None) (asked : options_of start.words ≡ options) (makes : options.check ≡ false)
    (read : (folder : FolderSeen) → HasFile start folder → InputAnswer tetgen_limits folder options (Ok input)) (on_grid : BoundAnswer tetgen_limits options input (Ok bound))
    (made : MeshAnswer options bound (Ok mesh)) (mesh_only : IsOnly (MeshAnswer options bound) mesh) (are : AreOutputsOf options mesh outputs) where
  words_are : WordsAnswer start.words (Ok options)
  words_are = (understood, sym asked)

  no_check : asks_check start.words ≡ false
  no_check = ap (λ (o : Options). o.check) asked ∙ makes

  has_outputs : HasOutputs start outputs
  has_outputs folder has = (options, words_are, (input, read folder has, (bound, on_grid, (mesh, made, are))))

  outputs_only : IsOnly (OutputsAnswer options mesh) outputs
  outputs_only (Ok other) n h = ap (λ o. Ok o) (outputs_same options mesh other outputs h are)
  outputs_only (Err s) n h = absurd (n h)

  run_only : (folder : FolderSeen) → HasFile start folder → ¬ Rose folder.read_faults_before folder.read_faults_now → IsOnly (OutputsOfRun tetgen_limits start.words folder) outputs
  run_only folder has no_fault =
      then_only (WordsAnswer start.words) (λ o. AndThen (InputAnswer tetgen_limits folder o) (MeshedAnswer tetgen_limits o)) options outputs
      (once_only (WordsAnswer start.words) options (words_once start.words) words_are)
      (then_only (InputAnswer tetgen_limits folder options) (MeshedAnswer tetgen_limits options) input outputs
      (once_only (InputAnswer tetgen_limits folder options) input (input_once tetgen_limits has.told folder options (record { files = has.files; no_fault = no_fault })) (read folder has))
      (then_only (BoundAnswer tetgen_limits options input) (λ b. AndThen (MeshAnswer options b) (OutputsAnswer options)) bound outputs
      (once_only (BoundAnswer tetgen_limits options input) bound (bound_once tetgen_limits options input) on_grid)
      (then_only (MeshAnswer options bound) (OutputsAnswer options) mesh outputs mesh_only outputs_only)))

  refused_only : (s : Status) → ((s ≢ NoMemory) → Err s ≡ given outputs) → (s ≡ NoMemory) ⊎ (s ≢ NoMemory) → (Err s ≡ given outputs) ⊎ (Err s ≡ refused Outputs NoMemory)
  refused_only s only (inl e) = inr (ap (λ t. Err t) e)
  refused_only s only (inr n) = inl (only n)

  has_no_others : HasNoOthers start outputs
  has_no_others folder has no_fault (Ok other) h = inl (run_only folder has no_fault (Ok other) tt h)
  has_no_others folder has no_fault (Err s) h = refused_only s (λ n. run_only folder has no_fault (Err s) n h) (is_want s)

  ends_done : EndsDone start
  ends_done folder out status has no_fault n complete =
      complete has.told has.files no_fault n Done not_want (subst (λ b. AnswerBy tetgen_limits b start.words folder out Done) (sym no_check) (outputs, has_outputs folder has))

  -- each cause of another status is excluded
  done_of : (folder : FolderSeen) (out : SinkSeen) (s : Status) → HasFile start folder → HasNoFault folder out → s ≢ NoMemory → IsMeshAnswer tetgen_limits start.words folder out s → s ≡ Done
  done_of folder out Done has no_fault n h = refl
  done_of folder out (WriteFault None) has no_fault n h = absurd (no_fault.2 h.2)
  done_of folder out (WriteFault (Some name)) has no_fault n h = absurd (no_fault.1 h.2)
  done_of folder out NoMemory has no_fault n h = absurd (n refl)
  done_of folder out s has no_fault n h = absurd (ok_err outputs s (run_only folder has no_fault.0 (Err s) n h))

  -- the outputs of the mesh of this run are these
  outputs_of_mesh : (folder : FolderSeen) (other : Outputs) → HasFile start folder → ¬ Rose folder.read_faults_before folder.read_faults_now → IsMeshOfRun start.words folder other → other ≡ outputs
  outputs_of_mesh folder other has no_fault run =
      let ran : OutputsOfRun tetgen_limits start.words folder (Ok other) = (options_of start.words, (understood, refl), (run.input, run.read, (run.bound, run.on_grid, (run.mesh, run.made, run.outputs_are)))) in
      ok_same other outputs (run_only folder has no_fault (Ok other) tt ran)

  leaves : Leaves start outputs
  leaves folder out status has no_fault n answer left =
      let done = done_of folder out status has no_fault n (subst (λ b. AnswerBy tetgen_limits b start.words folder out status) no_check answer) in
      let l : IsLeftByMesh tetgen_limits start.words folder out Done = subst (λ s. IsLeftByMesh tetgen_limits start.words folder out s) done (subst (λ b. LeftBy tetgen_limits b start.words folder out status) no_check left) in
      let same = outputs_of_mesh folder l.0 has no_fault.0 l.1 in
      record {
        done = done;
        files = l.2 ∙ ap (λ (o : Outputs). with_files folder.files_before (in_order o.texts)) same;
        written = l.3 ∙ ap (λ (o : Outputs). with_summary out.written_before (text_in o)) same;
      }

  pub is_run : IsRun start outputs
  is_run = record { has = has_outputs; only = has_no_others; done = ends_done; left = leaves }
