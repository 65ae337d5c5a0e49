-- Runs by the same words over folders that hold the same files have the same outputs, and leave the same files.
use Rattle.std.proofs.Common.{◌≡◌, ℕ, Bool, List, Option, Some, Ok, refl, ap, sym, subst, ◌∙◌, arith}
use Rattle.command_words.specs.Meaning.{options_of}
use Rattle.command_words.specs.declared.options.Options.{Options}
use Rattle.node_files.specs.Limits.{tetgen_limits}
use Rattle.tet_ports.specs.Files.{Files}
use Rattle.tet_ports.specs.Seen.{FolderSeen, SinkSeen}
use Rattle.run_steps.specs.Meshing.{MeshedAnswer, OutputsOfRun}
use Rattle.run_steps.specs.Reading.{InputAnswer}
use Rattle.run_steps.specs.Reports.{text_in}
use Rattle.run_steps.specs.Stores.{in_order, with_files}
use Rattle.run_steps.specs.declared.input.Input.{Input}
use Rattle.run_steps.specs.declared.outputs.Outputs.{Outputs}
use Rattle.run_steps.specs.declared.status.Status.TheVariants.{Done}
use Rattle.tetgen_run.specs.Ends.{with_summary}
use Rattle.tetgen_run.specs.Run.{IsLeftByMesh, IsMeshOfRun, LeftBy}
use Rattle.run_laws.specs.OneMesh.{OneLeftLaw, OneRunLaw}
use Rattle.run_laws.proofs.OneOutputs.{outputs_once}
use Rattle.run_laws.proofs.ReadInputs.{budget_small}
use Rattle.run_laws.proofs.SameInputs.{checked_of, input_give}

-- a run with outputs, by what its words ask for
record HasMade (words : List (List ℕ)) (folder : FolderSeen) (outputs : Outputs) : Type 0 where
  input : Input
  read : InputAnswer tetgen_limits folder (options_of words) (Ok input)
  made : MeshedAnswer tetgen_limits (options_of words) input (Ok outputs)

made_of : (words : List (List ℕ)) (folder : FolderSeen) (outputs : Outputs) → OutputsOfRun tetgen_limits words folder (Ok outputs) → HasMade words folder outputs
made_of words folder outputs (options, asked, (input, read, made)) = record {
  input = input;
  read = subst (λ (o : Options). InputAnswer tetgen_limits folder o (Ok input)) asked.1 read;
  made = subst (λ (o : Options). MeshedAnswer tetgen_limits o input (Ok outputs)) asked.1 made;
}

pub one_run : OneRunLaw
one_run words told one two p q e f h k =
    let first = made_of words one p h in
    let second = made_of words two q k in
    let inputs = input_give tetgen_limits tetgen_limits told one two e f (options_of words) first.input second.input first.read second.read in
    outputs_once tetgen_limits (options_of words) first.input (omega arith) (budget_small words) (checked_of tetgen_limits one (options_of words) first.input first.read) p q first.made
    (subst (λ (i : Input). MeshedAnswer tetgen_limits (options_of words) i (Ok q)) (sym inputs) second.made)

-- the outputs of the mesh of a run are those of the run
pub run_of : (words : List (List ℕ)) (folder : FolderSeen) (outputs : Outputs) → IsMeshOfRun words folder outputs → OutputsOfRun tetgen_limits words folder (Ok outputs)
run_of words folder outputs r = (options_of words, (r.understood, refl), (r.input, r.read, (r.bound, r.on_grid, (r.mesh, r.made, r.outputs_are))))

-- what is left by runs over the same files
left_same : (words : List (List ℕ)) (told : Files) (one two : FolderSeen) (first second : SinkSeen) → one.files_before ≡ Some told → two.files_before ≡ Some told → first.written_before ≡ second.written_before
    → IsLeftByMesh tetgen_limits words one first Done → IsLeftByMesh tetgen_limits words two second Done → (one.files_now ≡ two.files_now) × (first.written_now ≡ second.written_now)
left_same words told one two first second e f same (p, made, files, summary) (q, made', files', summary') =
    let outputs = one_run words told one two p q e f (run_of words one p made) (run_of words two q made') in (
      files ∙ ap (λ (before : Option Files). with_files before (in_order p.texts)) (e ∙ sym f) ∙ ap (λ (o : Outputs). with_files two.files_before (in_order o.texts)) outputs ∙ sym files',
      summary ∙ ap (λ (before : Option (List ℕ)). with_summary before (text_in p)) same ∙ ap (λ (o : Outputs). with_summary second.written_before (text_in o)) outputs ∙ sym summary',
    )

pub one_left : OneLeftLaw
one_left words told one two first second plain e f same h k =
    left_same words told one two first second e f same (subst (λ (check : Bool). LeftBy tetgen_limits check words one first Done) plain h)
    (subst (λ (check : Bool). LeftBy tetgen_limits check words two second Done) plain k)
