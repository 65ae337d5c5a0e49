-- Runs of `tetfit` by the same words over the same files read one model, fit it at one number of decimals, and have the same outputs.
use Rattle.std.proofs.Common.{◌≡◌, ◌⊎◌, inl, inr, ℕ, ◌+◌, ◌<◌, true, List, length, Option, None, Some, Ok, Err, refl, ap, sym, subst, ◌∙◌, arith}
use Rattle.std.specs.Prelude.{◌≢◌}
use Rattle.std.proofs.lemmas.Bool.{cases_order, true≢false}
use Rattle.std.proofs.lemmas.List.{length-map}
use Rattle.command_words.specs.declared.options.Extension.{Extension}
use Rattle.command_words.specs.declared.options.Options.{Options}
use Rattle.grid_coords.specs.declared.origin.WholePoint.{WholePoint}
use Rattle.grid_coords.specs.declared.points.DecimalPoint.{DecimalPoint}
use Rattle.node_files.specs.Settling.{measured_from}
use Rattle.plc_files.proofs.Measured.{same_corners}
use Rattle.plc_files.specs.Checks.{corners_check}
use Rattle.plc_files.specs.Text.{Plc}
use Rattle.tet_ports.specs.Files.{Files}
use Rattle.tet_ports.specs.Seen.{FolderSeen}
use Rattle.run_steps.specs.Reading.{BoundedAnswer, NodesAnswer}
use Rattle.run_steps.specs.Steps.{AndThen, forced_answer}
use Rattle.run_steps.specs.declared.input.ComplexFile.{ComplexFile}
use Rattle.run_steps.specs.declared.input.Input.{Input}
use Rattle.run_steps.specs.declared.outputs.Outputs.{Outputs}
use Rattle.run_steps.specs.declared.status.Status.{Status}
use Rattle.run_steps.specs.declared.status.Status.TheVariants.{Done, NoFill, NoMemory}
use Rattle.run_steps.proofs.Once.{meshed_same}
use Rattle.tet_text.specs.Decimals.{Scaled}
use Rattle.tetfit_run.specs.Measured.{complex_from, most_tried, moved_model, origin_in, points_by, tried, MovedAnswer}
use Rattle.tetfit_run.specs.Models.{named_surface, surface_text_of, ModelAnswer, ModelBy, ReadAnswer, SurfaceAnswer}
use Rattle.tetfit_run.specs.Hints.{moved_text}
use Rattle.tetfit_run.specs.Outputs.{fit_limits, outputs_at}
use Rattle.tetfit_run.specs.Run.{options_from, IsFinalMesh, IsMeshOfModel}
use Rattle.tetfit_run.specs.Trying.{at_decimals, is_of_grid, IsFitted}
use Rattle.tetfit_run.specs.Words.{fit_goal, fit_name, fit_options, grammar_words}
use Rattle.tetfit_run.specs.Units.{input_by, point_by, points_in}
use Rattle.run_laws.specs.OneFit.{OneFitLaw}
use Rattle.run_laws.proofs.OneOutputs.{outputs_once}
use Rattle.run_laws.proofs.ReadInputs.{budget_small}
use Rattle.run_laws.proofs.SameInputs.{and_then_give, checked_behind, checked_of, input_give, named_file_give, whole_give, GiveSame}

-- ---- the model

module _ (told : Files) (one two : FolderSeen) (e : one.files_before ≡ Some told) (f : two.files_before ≡ Some told) where
  read_by : (named : Option Extension) (name : List ℕ) (options : Options) → GiveSame (ModelBy named fit_limits one name options) (ModelBy named fit_limits two name options)
  read_by None name options = input_give fit_limits fit_limits told one two e f options
  read_by (Some form) name options =
      let base = options.base in
      and_then_give (SurfaceAnswer fit_limits one name form) (SurfaceAnswer fit_limits two name form) (λ (file : ComplexFile). AndThen (NodesAnswer fit_limits one base file.text.nodes) (BoundedAnswer file))
      (λ (file : ComplexFile). AndThen (NodesAnswer fit_limits two base file.text.nodes) (BoundedAnswer file)) (named_file_give fit_limits fit_limits told one two e f name (surface_text_of form))
      (λ file read. whole_give fit_limits fit_limits told one two e f base file)

  model_give : (name : List ℕ) (options : Options) → GiveSame (ModelAnswer fit_limits one name options) (ModelAnswer fit_limits two name options)
  model_give name options =
      and_then_give (ReadAnswer fit_limits one name options) (ReadAnswer fit_limits two name options) (MovedAnswer options.unit) (MovedAnswer options.unit) (read_by (named_surface options) name options) (λ input read a b h k. h ∙ sym k)

-- ---- its corners

-- the corners of a complex are points of its list
abbrev IsChecked : Input → Type 0
IsChecked input = corners_check input.nodes.first (length input.nodes.decimals) input.complex ≡ Ok tt

read_checked : (named : Option Extension) (folder : FolderSeen) (name : List ℕ) (options : Options) (input : Input) → options.piecewise ≡ true → ModelBy named fit_limits folder name options (Ok input) → IsChecked input
read_checked None folder name options input e h = checked_of fit_limits folder options input h e
read_checked (Some form) folder name options input e (file, source, behind) = checked_behind fit_limits folder options.base file input behind

-- measuring moves no corner
still_corners : (origin : Option WholePoint) (most first count : ℕ) (complex : Plc) → corners_check first count (complex_from origin most complex) ≡ corners_check first count complex
still_corners None most first count complex = refl
still_corners (Some w) most first count complex = same_corners w (most + 6) complex first count

moved_checked : (input : Input) → IsChecked input → IsChecked (moved_model input)
moved_checked input h = still_corners (origin_in input) (most_tried input) input.nodes.first (length input.nodes.decimals) input.complex ∙ h

-- as many points are in units
as_many_in : (unit : Option Scaled) (points : List DecimalPoint) → length (points_in unit points) ≡ length points
as_many_in None points = refl
as_many_in (Some u) points = length-map points (point_by u)

model_checked : (folder : FolderSeen) (name : List ℕ) (options : Options) (input : Input) → options.piecewise ≡ true → ModelAnswer fit_limits folder name options (Ok input) → IsChecked input
model_checked folder name options input e (read, named, moved) =
    subst IsChecked (sym moved) (moved_checked (input_by options.unit read)
    (subst (λ n. corners_check read.nodes.first n read.complex ≡ Ok tt) (sym (as_many_in options.unit read.nodes.decimals))
    (read_checked (named_surface options) folder name options read e named)))

-- as many points are tried
as_many_tried : (origin : Option WholePoint) (decimals : Option ℕ) (points : List DecimalPoint) → length (points_by origin decimals points) ≡ length points
as_many_tried (Some w) (Some m) points = length-map points (measured_from w m)
as_many_tried (Some w) None points = refl
as_many_tried None decimals points = refl

tried_checked : (options : Options) (input : Input) → IsChecked input → IsChecked (tried options input)
tried_checked options input h =
    subst (λ n. corners_check input.nodes.first n input.complex ≡ Ok tt) (sym (as_many_tried options.origin options.decimals input.nodes.decimals)) h

-- ---- the decimals

grid_forced : (s : Status) → is_of_grid (forced_answer s) ≡ is_of_grid s
grid_forced (NoFill anomaly) = refl
grid_forced s = refl

-- a refusal of the grid is not want of memory
of_grid : (s : Status) → is_of_grid s ≡ true → s ≢ NoMemory
of_grid s e n = true≢false (sym e ∙ ap is_of_grid n)

-- at more decimals than those of a mesh the grid refuses
none_finer : (options : Options) (input : Input) (m n : ℕ) (a b : Outputs) → m < n → IsFitted fit_limits options input m (Ok a) → IsFitted fit_limits options input n (Ok b) → ⊥
none_finer options input m n a b l h k =
    let r = h.finer n l k.within.most in
    let same : Done ≡ forced_answer r.status = meshed_same fit_limits (at_decimals n options) (tried (at_decimals n options) input) (Ok b) (Err r.status) tt (of_grid r.status r.of_grid) k.answer r.answer in
    true≢false (sym (ap is_of_grid same ∙ grid_forced r.status ∙ r.of_grid))

decimals_once : (options : Options) (input : Input) (m n : ℕ) (a b : Outputs) → IsFitted fit_limits options input m (Ok a) → IsFitted fit_limits options input n (Ok b) → m ≡ n
decimals_once options input m n a b h k = by (cases_order m n)
  where
    by : (m ≡ n) ⊎ ((m < n) ⊎ (n < m)) → m ≡ n
    by (inl e) = e
    by (inr (inl l)) = absurd (none_finer options input m n a b l h k)
    by (inr (inr l)) = absurd (none_finer options input n m b a l k h)

-- ---- the outputs

-- a run without bounds, by the model that it reads
record IsPlainFit (words : List (List ℕ)) (folder : FolderSeen) (outputs : Outputs) : Type 0 where
  input : Input
  read : ModelAnswer fit_limits folder (fit_name words) (fit_options words) (Ok input)
  decimals : ℕ
  made : Outputs
  fitted : IsFitted fit_limits (options_from (origin_in input) words) input decimals (Ok made)
  is : outputs ≡ outputs_at decimals (moved_text (fit_options words) decimals input.nodes.decimals) made

plain_fit : (words : List (List ℕ)) (folder : FolderSeen) (outputs : Outputs) → fit_goal words ≡ None → IsMeshOfModel words folder outputs → IsPlainFit words folder outputs
plain_fit words folder outputs plain run =
    let read = run.mesh.read in
    let end = subst (λ goal. IsFinalMesh goal (options_from run.origin words) words folder run.decimals run.made run.final_decimals run.final) plain run.refined in record {
      input = read.0;
      read = read.1.0;
      decimals = run.decimals;
      made = run.made;
      fitted = subst (λ (o : Option WholePoint). IsFitted fit_limits (options_from o words) read.0 run.decimals (Ok run.made)) read.1.1 read.2;
      is =
          run.outputs_are ∙ ap (λ (n : ℕ). outputs_at n run.more run.final) end.0 ∙ ap (λ (o : Outputs). outputs_at run.decimals run.more o) end.1
          ∙ ap (λ (more : List ℕ). outputs_at run.decimals more run.made) (read.3 ∙ ap (λ (n : ℕ). moved_text (fit_options words) n read.0.nodes.decimals) end.0);
    }

pub one_fit : OneFitLaw
one_fit words told one two p q plain e f h k =
    let a = plain_fit words one p plain h in
    let b = plain_fit words two q plain k in
    let options = options_from (origin_in a.input) words in
    let inputs = model_give told one two e f (fit_name words) (fit_options words) a.input b.input a.read b.read in
    let moved = subst (λ (i : Input). IsFitted fit_limits (options_from (origin_in i) words) i b.decimals (Ok b.made)) (sym inputs) b.fitted in
    let decimals = decimals_once options a.input a.decimals b.decimals a.made b.made a.fitted moved in
    let again = subst (λ (n : ℕ). IsFitted fit_limits options a.input n (Ok b.made)) (sym decimals) moved in
    let at = at_decimals a.decimals options in
    let made = outputs_once fit_limits at (tried at a.input) (omega arith) (budget_small (grammar_words words)) (λ piecewise. tried_checked at a.input (model_checked one (fit_name words) (fit_options words) a.input piecewise a.read)) a.made b.made
    a.fitted.answer again.answer in
    a.is ∙ ap (λ (n : ℕ). outputs_at n (moved_text options n a.input.nodes.decimals) a.made) decimals ∙ ap (λ (i : Input). outputs_at b.decimals (moved_text options b.decimals i.nodes.decimals) a.made) inputs
    ∙ ap (λ (o : Outputs). outputs_at b.decimals (moved_text options b.decimals b.input.nodes.decimals) o) made ∙ sym b.is
