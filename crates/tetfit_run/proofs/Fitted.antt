-- What a run makes of its words: its refusals, its mesh, and that it holds over all of a run.
use Rattle.std.proofs.Common.{◌≡◌, inl, inr, ℕ, true, false, List, Option, Some, None, Result, Ok, Err, refl, sym, ◌∙◌, subst, ap}
use Rattle.std.specs.Prelude.{Bool, IsTrue, IfOk, IfErr}
use Rattle.command_words.specs.declared.fault.WordsFault.{WordsFault}
use Rattle.command_words.specs.declared.fault.WordsFault.TheVariants.{Usage as Misunderstood, NoMemory as WordsWanting}
use Rattle.command_words.specs.declared.options.Options.{Options}
use Rattle.tetfit_run.proofs.Keywords.{made_told}
use Rattle.tetfit_run.proofs.Models.{model_has, model_wider}
use Rattle.tetfit_run.specs.Keyword.{TellsBadText}
use Rattle.tetgen_run.proofs.OnGrid.{made_on_grid}
use Rattle.tetfit_run.specs.Hints.{IsHint, IsHintBy, moved_text}
use Rattle.tetfit_run.specs.Models.{IsStatedBy, ModelAnswer, named_surface}
use Rattle.tetfit_run.specs.declared.model.Model.{Model}
use Rattle.tetfit_run.specs.Opening.{is_empty}
use Rattle.tetfit_run.specs.Trying.{IsFitted, IsNumbered, IsRefused, at_decimals, is_of_grid}
use Rattle.tetfit_run.specs.declared.fitting.Refused.{Refused as Unfit}
use Rattle.node_files.specs.declared.limits.Limits.{Limits}
use Rattle.refining.specs.declared.goal.Goal.{Goal}
use Rattle.tetfit_run.proofs.CheckedRuns.{check_refuses, check_wider}
use Rattle.tetfit_run.proofs.RefinedRuns.{conforming_mesh_by, refined_mesh_by}
use Rattle.tetfit_run.specs.Words.{fit_fault, fit_goal, fit_name, fit_options, fit_wanted, others, request_of}
use Rattle.tetfit_run.specs.declared.wanted.Wanted.{Wanted}
use Rattle.tetfit_run.specs.declared.request.Request.{Request}
use Rattle.tetfit_run.specs.declared.request.Request.TheVariants.{Page, Version, Check, Mesh}
use Rattle.run_steps.proofs.Steps.{and_then_refuses, and_then_wider}
use Rattle.tet_ports.proofs.Windows.{IsWithin}
use Rattle.tet_ports.specs.Seen.{FolderSeen, SinkSeen}
use Rattle.run_steps.specs.declared.input.Input.{Input}
use Rattle.run_steps.specs.declared.numbering.Numbering.{Numbering}
use Rattle.run_steps.specs.declared.outputs.Outputs.{Outputs}
use Rattle.run_steps.specs.declared.status.LimitKind.TheVariants.{Grid}
use Rattle.run_steps.specs.declared.status.Status.{Status}
use Rattle.run_steps.specs.declared.status.Status.TheVariants.{Usage, BadText, Empty, Limit, Flat, NoMemory, WriteFault}
use Rattle.tetgen_run.proofs.Endings.{NumbersPoints, Refuses}
use Rattle.tetgen_run.proofs.Refusals.{IsRefusal, IsSilent, not_true, step_refuses}
use Rattle.tetgen_run.proofs.Runs.{bound_silent, mesh_by, meshed_refuses}
use Rattle.tetgen_run.specs.Ends.{EndsWith, IsToldAs, StopsSo, answer_of}
use Rattle.tetgen_run.specs.Stops.{stop_of_words}
use Rattle.tetgen_run.specs.declared.stop.Stop.{Stop}
use Rattle.tetgen_run.specs.declared.stop.Stop.TheVariants.{Refused, Unwritten, Unsummed, NoMemory as Wanting}
use Rattle.tetfit_run.specs.Checks.{OutputsOfCheck}
use Rattle.tetfit_run.specs.Outputs.{FitWordsAnswer, IsConformedAt, IsConformedBy, IsFinalBy, IsFitUsage, IsFittedTo, IsMeshedTo, IsOffSomeGrid, MadeBy, OutputsOfFit, OutputsOfModel, OutputsOfWanted, fit_limits, outputs_at, wanted_from}
use Rattle.tetfit_run.specs.Measured.{origin_in, tried, with_origin}
use Rattle.tetfit_run.specs.Run.{IsAskedBy, IsConformedModel, IsFinalMesh, IsModelMesh, IsKnown, IsKnownBy, IsKnownOf, IsMeshOfModel, IsFitNumbering, IsNumberingOf, IsTriedOf, IsUnfitted, TellsBehind, TellsEmpty, TellsUnnamed, options_from}

-- ---- answers

pub ok_to : {T E : Type 0} (r : Result T E) (P Q : T → Type 0) → ((t : T) → P t → Q t) → IfOk r P → IfOk r Q
ok_to (Ok t) P Q f h = f t h
ok_to (Err e) P Q f h = h

pub err_to : {T E : Type 0} (r : Result T E) (P Q : E → Type 0) → ((e : E) → P e → Q e) → IfErr r P → IfErr r Q
err_to (Ok t) P Q f h = h
err_to (Err e) P Q f h = f e h

-- ---- refusals

usage_refuses : (words : List (List ℕ)) (s : Status) → IsFitUsage words s → IsRefusal s
usage_refuses words (Usage word place) h = tt
usage_refuses words NoMemory h = tt
usage_refuses words s h = absurd h

model_refuses : (folder : FolderSeen) (name : List ℕ) (options : Options) (s : Status) → ModelAnswer fit_limits folder name options (Err s) → IsRefusal s
model_refuses = model_has IsRefusal (λ name. tt) (λ name. tt) (λ name fault. tt) (λ name most. tt) tt fit_limits

model_silent : (folder : FolderSeen) (name : List ℕ) (options : Options) (s : Status) → ModelAnswer fit_limits folder name options (Err s) → IsSilent s
model_silent = model_has IsSilent (λ name. refl) (λ name. refl) (λ name fault. refl) (λ name most. refl) refl fit_limits

fitted_refuses : (wanted : Wanted) (input : Input) (s : Status) → IsFittedTo wanted input (Err s) → IsRefusal s
fitted_refuses wanted input Empty h = tt
fitted_refuses wanted input s h = step_refuses s (meshed_refuses fit_limits (at_decimals h.0 wanted.options) (tried (at_decimals h.0 wanted.options) input) s h.1.answer)

outputs_refuse : (words : List (List ℕ)) (folder : FolderSeen) (s : Status) → OutputsOfModel words folder (Err s) → IsRefusal s
outputs_refuse words folder =
    and_then_refuses IsRefusal (FitWordsAnswer words) (λ wanted. OutputsOfWanted wanted folder) (usage_refuses words)
    (λ wanted. and_then_refuses IsRefusal (ModelAnswer fit_limits folder wanted.name wanted.options) (λ input. IsFittedTo (wanted_from input wanted) input) (model_refuses folder wanted.name wanted.options)
    (λ input. fitted_refuses (wanted_from input wanted) input))

made_refuses : (request : Request) (words : List (List ℕ)) (folder : FolderSeen) (s : Status) → MadeBy request words folder (Err s) → IsRefusal s
made_refuses Page words folder s h = subst IsRefusal (sym h) tt
made_refuses Version words folder s h = subst IsRefusal (sym h) tt
made_refuses Check words folder s h = check_refuses (others words) folder s h
made_refuses Mesh words folder s h = outputs_refuse (others words) folder s h

pub fit_refuses : (words : List (List ℕ)) (folder : FolderSeen) → Refuses (OutputsOfFit words folder)
fit_refuses words folder = made_refuses (request_of words) words folder

-- ---- numbers of points

-- a status whose message prints no points has every numbering
numbers_of : (name : List ℕ) (options : Options) (folder : FolderSeen) (hint : List ℕ) → NumbersPoints (IsNumberingOf name options folder hint)
numbers_of name options folder hint s by e = λ t. absurd (not_true (subst IsTrue e t))

pub numbers_points : (words : List (List ℕ)) (folder : FolderSeen) (hint : List ℕ) → NumbersPoints (IsFitNumbering words folder hint)
numbers_points words = numbers_of (fit_name words) (fit_options words)

numbered : (folder : FolderSeen) (name : List ℕ) (options : Options) (model : Model) (hint : List ℕ) (m : ℕ) (s : Status) (by : Option Numbering) → ModelAnswer fit_limits folder name options (Ok model.input)
    → IsFitted fit_limits (with_origin model.input options) model.input m (Err s) → IsNumbered fit_limits (at_decimals m (with_origin model.input options)) model.input s by
    → IsHint fit_limits model.stated (at_decimals m (with_origin model.input options)) model.input by s hint → IsNumberingOf name options folder hint s by
numbered folder name options model hint m s None r f n h =
    let at = at_decimals m (with_origin model.input options) in
    numbers_of name options folder hint s None (bound_silent fit_limits at (tried at model.input) s n)
numbered folder name options model hint m s (Some by) r f n h =
    λ t. (model.input, r, m, f, n.0, n.1, ap Some n.3, subst (λ q. IsHintBy fit_limits (at_decimals m (with_origin model.input options)) model.input q s hint) n.3 h)

-- ---- a keyword, a point off the grid, and points in one plane

-- the status is none of these
abbrev HasNoLine : Status → Type 0
HasNoLine (BadText name fault) = ⊥
HasNoLine (Limit (Grid line)) = ⊥
HasNoLine Flat = ⊥
HasNoLine Empty = ⊥
HasNoLine status = Unit {0}

-- of the refusals of a model that is not read, that of its text alone has one
model_told : (folder : FolderSeen) (name : List ℕ) (options : Options) (hint : List ℕ) (s : Status) → ModelAnswer fit_limits folder name options (Err s) → TellsBadText (named_surface options) folder name hint s → TellsUnnamed name options folder hint s
model_told folder name options hint =
    model_has (λ s. TellsBadText (named_surface options) folder name hint s → TellsUnnamed name options folder hint s) (λ file t. tt) (λ file t. tt) (λ file fault t. t) (λ file most t. tt) (λ t. tt) fit_limits folder name options

-- of another status nothing is told
no_line : (folder : FolderSeen) (name : List ℕ) (options : Options) (hint : List ℕ) (s : Status) → HasNoLine s → TellsUnnamed name options folder hint s
no_line folder name options hint (BadText file fault) h = absurd h
no_line folder name options hint (Limit (Grid line)) h = absurd h
no_line folder name options hint Flat h = absurd h
no_line folder name options hint Empty h = absurd h
no_line folder name options hint s h = tt

unnamed : (folder : FolderSeen) (name : List ℕ) (options : Options) (model : Model) (hint : List ℕ) (m : ℕ) (s : Status) (by : Option Numbering) → ModelAnswer fit_limits folder name options (Ok model.input) → IsStatedBy folder name options model.stated
    → IsFitted fit_limits (with_origin model.input options) model.input m (Err s) → IsNumbered fit_limits (at_decimals m (with_origin model.input options)) model.input s by
    → IsHint fit_limits model.stated (at_decimals m (with_origin model.input options)) model.input by s hint → TellsUnnamed name options folder hint s
unnamed folder name options model hint m (BadText file fault) None r w f n h = absurd n
unnamed folder name options model hint m (BadText file fault) (Some by) r w f n h = made_told folder name hint (at_decimals m (with_origin model.input options)) n.0 (BadText file fault) h n.2
unnamed folder name options model hint m (Limit (Grid line)) None r w f n h = (model.input, r, model.stated, w, m, f, h)
unnamed folder name options model hint m (Limit (Grid line)) (Some by) r w f n h = absurd (made_on_grid (at_decimals m (with_origin model.input options)) n.0 (Limit (Grid line)) n.2)
unnamed folder name options model hint m Flat None r w f n h = absurd n
unnamed folder name options model hint m Flat (Some by) r w f n h = (model.input, r, m, f, h)
unnamed folder name options model hint m Empty by r w f n h = absurd (meshed_refuses fit_limits (at_decimals m (with_origin model.input options)) (tried (at_decimals m (with_origin model.input options)) model.input) Empty f.answer)
unnamed folder name options model hint m s by r w f n h = tt

-- behind the message of a check no line follows
pub no_behind : (request : Request) (folder : FolderSeen) (name : List ℕ) (options : Options) (hint : List ℕ) (s : Status) → HasNoLine s → TellsBehind request name options folder hint s
no_behind Page folder name options hint s h = no_line folder name options hint s h
no_behind Version folder name options hint s h = no_line folder name options hint s h
no_behind Check folder name options hint s h = tt
no_behind Mesh folder name options hint s h = no_line folder name options hint s h

-- the refusal of what is fitted, with what more is told of it
unfitted_by : (options : Options) (model : Model) (m : ℕ) (s : Status) (by : Option Numbering) (hint : List ℕ) → IsFitted fit_limits options model.input m (Err s) → IsNumbered fit_limits (at_decimals m options) model.input s by
    → IsHint fit_limits model.stated (at_decimals m options) model.input by s hint → IsUnfitted options model hint (Refused s by)
unfitted_by options model m Empty by hint f n h = absurd (meshed_refuses fit_limits (at_decimals m options) (tried (at_decimals m options) model.input) Empty f.answer)
unfitted_by options model m s by hint f n h = (m, f, n, h)

pub unfitted_is : (options : Options) (model : Model) (limits other : Limits) (refused : Unfit) (hint : List ℕ) → limits ≡ fit_limits → other ≡ fit_limits → IsRefused limits options model.input refused
    → IsHint other model.stated (at_decimals refused.decimals options) model.input refused.end.numbering refused.end.status hint → IsUnfitted options model hint (Refused refused.end.status refused.end.numbering)
unfitted_is options model limits other refused hint e f r h =
    let k = subst (λ l. IsRefused l options model.input refused) e r in
    unfitted_by options model refused.decimals refused.end.status refused.end.numbering hint k.0 k.1
    (subst (λ l. IsHint l model.stated (at_decimals refused.decimals options) model.input refused.end.numbering refused.end.status hint) f h)

-- the refusal of a mesh without a tetrahedron
pub emptied : (options : Options) (model : Model) (limits : Limits) (m : ℕ) (made : Outputs) (hint : List ℕ) (test : Bool) (stop : Stop) → limits ≡ fit_limits → IsFitted limits options model.input m (Ok made)
    → test ≡ is_empty made → test ≡ true → TellsEmpty options model.input m hint stop → IsUnfitted options model hint stop
emptied options model limits m made hint test (Refused Empty by) l f e t h =
    (m, record { made = made; fitted = subst (λ q. IsFitted q options model.input m (Ok made)) l f; empty = sym e ∙ t }, h)
emptied options model limits m made hint test (Refused s by) l f e t h = absurd h
emptied options model limits m made hint test (Unwritten text) l f e t h = absurd h
emptied options model limits m made hint test Unsummed l f e t h = absurd h
emptied options model limits m made hint test Wanting l f e t h = tt

-- where there is no model
pub model_stops : (folder : FolderSeen) (wanted : Wanted) (hint : List ℕ) (s : Status) → ModelAnswer fit_limits folder wanted.name wanted.options (Err s) → TellsBadText (named_surface wanted.options) folder wanted.name hint s
    → StopsSo (OutputsOfWanted wanted folder) (IsKnownOf wanted.name wanted.options folder hint) (Refused s None)
model_stops folder wanted hint s r t =
    let name = wanted.name in
    let options = wanted.options in
    (inl r, (numbers_of name options folder hint s None (model_silent folder name options s r), model_told folder name options hint s r t))

-- where it has no mesh
pub unfitted_stops : (folder : FolderSeen) (wanted : Wanted) (model : Model) (hint : List ℕ) (stop : Stop) → ModelAnswer fit_limits folder wanted.name wanted.options (Ok model.input) → IsStatedBy folder wanted.name wanted.options model.stated
    → IsUnfitted (with_origin model.input wanted.options) model hint stop → StopsSo (OutputsOfWanted wanted folder) (IsKnownOf wanted.name wanted.options folder hint) stop
unfitted_stops folder wanted model hint (Refused Empty by) r w h =
    (inr (model.input, r, (h.0, h.1)), (numbers_of wanted.name wanted.options folder hint Empty by refl, (model.input, r, h.0, h.1, h.2)))
unfitted_stops folder wanted model hint (Refused s by) r w h =
    let name = wanted.name in
    let options = wanted.options in
    (inr (model.input, r, (h.0, h.1)), (numbered folder name options model hint h.0 s by r h.1 h.2 h.3, unnamed folder name options model hint h.0 s by r w h.1 h.2 h.3))
unfitted_stops folder wanted model hint (Unwritten text) r w h = absurd h
unfitted_stops folder wanted model hint Unsummed r w h = absurd h
unfitted_stops folder wanted model hint Wanting r w h = tt

-- a check names no point and has no line behind its message
pub check_known : (words : List (List ℕ)) (folder : FolderSeen) (hint : List ℕ) (stop : Stop) → request_of words ≡ Check
    → StopsSo (OutputsOfCheck (others words) folder) (λ status by. IsSilent status) stop → StopsSo (OutputsOfFit words folder) (IsKnown words folder hint) stop
check_known words folder hint stop asked h =
    subst (λ request. StopsSo (MadeBy request words folder) (IsKnownBy request (fit_name (others words)) (fit_options (others words)) folder hint) stop) (sym asked) (known stop h)
  where
    known : (stop : Stop) → StopsSo (OutputsOfCheck (others words) folder) (λ status by. IsSilent status) stop
        → StopsSo (MadeBy Check words folder) (IsKnownBy Check (fit_name (others words)) (fit_options (others words)) folder hint) stop
    known (Refused s by) h = (h.0, (numbers_of (fit_name (others words)) (fit_options (others words)) folder hint s by h.1, tt))
    known (Unwritten text) h = absurd h
    known Unsummed h = absurd h
    known Wanting h = tt

-- where the words are not understood
pub usage_stops : (words : List (List ℕ)) (folder : FolderSeen) (hint : List ℕ) (answer : Result Wanted WordsFault) (f : WordsFault) → answer ≡ Err f
    → ((word place : ℕ) → answer ≡ Err (Misunderstood word place) → fit_fault words ≡ Some (word, place)) → StopsSo (OutputsOfModel words folder) (IsKnownOf (fit_name words) (fit_options words) folder hint) (stop_of_words f)
usage_stops words folder hint answer (Misunderstood word place) e usage = (inl (usage word place e), (numbers_points words folder hint (Usage word place) None refl, tt))
usage_stops words folder hint answer WordsWanting e usage = tt

-- where they are
pub wanted_stop : (words : List (List ℕ)) (folder : FolderSeen) (hint : List ℕ) (wanted : Wanted) (stop : Stop) → FitWordsAnswer words (Ok wanted)
    → StopsSo (OutputsOfWanted wanted folder) (IsKnownOf wanted.name wanted.options folder hint) stop → StopsSo (OutputsOfModel words folder) (IsKnownOf (fit_name words) (fit_options words) folder hint) stop
wanted_stop words folder hint wanted (Refused s by) w h = (inr (wanted, w, h.0), subst (λ (q : Wanted). IsKnownOf q.name q.options folder hint s by) w.1 h.1)
wanted_stop words folder hint wanted (Unwritten text) w h = absurd h
wanted_stop words folder hint wanted Unsummed w h = absurd h
wanted_stop words folder hint wanted Wanting w h = tt

-- ---- what is told

-- what is known of the numbers
pub ends_numbered : (Made : Result Outputs Status → Type 0) (request : Request) (name : List ℕ) (options : Options) (folder : FolderSeen) (hint : List ℕ) (out : SinkSeen) (stop : Stop)
    → EndsWith Made (IsKnownBy request name options folder hint) folder out (Err stop) → EndsWith Made (IsNumberingOf name options folder hint) folder out (Err stop)
ends_numbered Made request name options folder hint out (Refused s by) h = (h.0, h.1, h.2.0)
ends_numbered Made request name options folder hint out (Unwritten text) h = h
ends_numbered Made request name options folder hint out Unsummed h = h
ends_numbered Made request name options folder hint out Wanting h = h

stop_behind : (Made : Result Outputs Status → Type 0) (request : Request) (name : List ℕ) (options : Options) (folder : FolderSeen) (hint : List ℕ) (out : SinkSeen) (stop : Stop)
    → EndsWith Made (IsKnownBy request name options folder hint) folder out (Err stop) → TellsBehind request name options folder hint (answer_of (Err stop))
stop_behind Made request name options folder hint out (Refused s by) h = h.2.1
stop_behind Made request name options folder hint out (Unwritten text) h = no_behind request folder name options hint (WriteFault (Some text.name)) tt
stop_behind Made request name options folder hint out Unsummed h = no_behind request folder name options hint (WriteFault None) tt
stop_behind Made request name options folder hint out Wanting h = no_behind request folder name options hint NoMemory tt

-- and of the lines behind a message that prints no points
pub told_behind : (Made : Result Outputs Status → Type 0) (message : Option Numbering → Status → List ℕ) (request : Request) (name : List ℕ) (options : Options) (folder : FolderSeen) (hint : List ℕ) (out err : SinkSeen) (stop : Stop) (s : Status)
    → EndsWith Made (IsKnownBy request name options folder hint) folder out (Err stop) → IsToldAs message stop err s → TellsBehind request name options folder hint s
told_behind Made message request name options folder hint out err stop s h (inl told) = subst (TellsBehind request name options folder hint) (sym told.0) (stop_behind Made request name options folder hint out stop h)
told_behind Made message request name options folder hint out err stop s h (inr told) = subst (TellsBehind request name options folder hint) (sym told.0) (no_behind request folder name options hint NoMemory tt)

pub wanted_made : (words : List (List ℕ)) (folder : FolderSeen) (wanted : Wanted) (outputs : Outputs) → FitWordsAnswer words (Ok wanted) → OutputsOfWanted wanted folder (Ok outputs)
    → OutputsOfModel words folder (Ok outputs)
wanted_made words folder wanted outputs w h = (wanted, w, h)

-- ---- what is fitted

pub fitted_told : (wanted : Wanted) (input : Input) (m n : ℕ) (made final : Outputs) (more : List ℕ) → IsFitted fit_limits wanted.options input m (Ok made) → is_empty made ≡ false
    → IsFinalBy wanted.goal wanted.options input m made n final → more ≡ moved_text wanted.options n input.nodes.decimals → IsFittedTo wanted input (Ok (outputs_at n more final))
fitted_told wanted input m n made final more h some f k =
    inl (record { decimals = m; made = made; fitted = h; some = some; n = n; final = final; final_by = f; is = ap (λ t. outputs_at n t final) k })

-- with points on the segments
pub conformed_told : (wanted : Wanted) (input : Input) (n : ℕ) (final : Outputs) (more : List ℕ) → IsConformedBy wanted.goal wanted.options input n final
    → more ≡ moved_text wanted.options n input.nodes.decimals → IsFittedTo wanted input (Ok (outputs_at n more final))
conformed_told wanted input n final more h k = inr (n, final, h, ap (λ t. outputs_at n t final) k)

-- the grid refuses an input where it is refused
pub off_last_grid : (limits : Limits) (options : Options) (input : Input) (refused : Unfit) → limits ≡ fit_limits → IsRefused limits options input refused → is_of_grid refused.end.status ≡ true
    → IsOffSomeGrid options input
off_last_grid limits options input refused l r e =
    let k = subst (λ q. IsRefused q options input refused) l r in
    record { decimals = refused.decimals; within = k.0.within; refused = record { status = refused.end.status; of_grid = e; answer = k.0.answer } }

-- ---- the mesh

-- the mesh in the end
final_mesh : (goal : Option Goal) (words : List (List ℕ)) (folder : FolderSeen) (input : Input) (m n : ℕ) (made final : Outputs) → fit_fault words ≡ None
    → ModelAnswer fit_limits folder (fit_name words) (fit_options words) (Ok input) → IsFinalBy goal (options_from (origin_in input) words) input m made n final
    → IsFinalMesh goal (options_from (origin_in input) words) words folder m made n final
final_mesh None words folder input m n made final none read h = h
final_mesh (Some goal) words folder input m n made final none read h =
    let at = at_decimals n (options_from (origin_in input) words) in
    (h.0, refined_mesh_by goal fit_limits at (fit_fault words ≡ None) (λ placed. (i : Input) × IsTriedOf at words folder i placed) (tried at input) final none (input, (read, refl, refl)) h.1)

module _ (words : List (List ℕ)) (folder : FolderSeen) (outputs : Outputs) (wanted : Wanted) (understood : FitWordsAnswer words (Ok wanted)) (input : Input) (read_so : ModelAnswer fit_limits folder wanted.name wanted.options (Ok input)) where
  abbrev o : Options
  o = fit_options words

  e : wanted ≡ fit_wanted words
  e = understood.1

  read : ModelAnswer fit_limits folder (fit_name words) (fit_options words) (Ok input)
  read = subst (λ (q : Wanted). ModelAnswer fit_limits folder q.name q.options (Ok input)) e read_so

  -- the outputs, by the options of the words
  told_by : (n : ℕ) (final : Outputs) → outputs ≡ outputs_at n (moved_text (with_origin input wanted.options) n input.nodes.decimals) final
      → outputs ≡ outputs_at n (moved_text (with_origin input o) n input.nodes.decimals) final
  told_by n final = subst (λ (q : Wanted). outputs ≡ outputs_at n (moved_text (with_origin input q.options) n input.nodes.decimals) final) e

  model_mesh : IsMeshedTo (wanted_from input wanted) input outputs → IsMeshOfModel words folder outputs
  model_mesh h =
      let m = h.decimals in
      let made = h.made in
      let n = h.n in
      let fitted = subst (λ (q : Wanted). IsFitted fit_limits (with_origin input q.options) input m (Ok made)) e h.fitted in
      let last = subst (λ (q : Wanted). IsFinalBy q.goal (with_origin input q.options) input m made n h.final) e h.final_by in
      let more = moved_text (with_origin input o) n input.nodes.decimals in
      let at = at_decimals m (with_origin input o) in record {
        origin = origin_in input;
        decimals = m;
        made = made;
        final_decimals = n;
        final = h.final;
        more = more;
        some = h.some;
        mesh = mesh_by fit_limits at (fit_fault words ≡ None) (λ placed. (i : Input) × IsTriedOf at words folder i placed
            × IsFitted fit_limits (with_origin input o) i m (Ok made) × (more ≡ moved_text (with_origin input o) n i.nodes.decimals))
            (tried at input) made understood.0 (input, (read, refl, refl), fitted, refl) fitted.answer;
        refined = final_mesh (fit_goal words) words folder input m n made h.final understood.0 read last;
        outputs_are = told_by n h.final h.is;
      }

  -- with points on its segments
  conformed_at : (goal : Goal) (n : ℕ) (final : Outputs) → IsConformedAt goal (with_origin input o) input n final → outputs ≡ outputs_at n (moved_text (with_origin input o) n input.nodes.decimals) final
      → IsConformedModel goal words folder outputs
  conformed_at goal n final h is =
      let at = at_decimals n (with_origin input o) in record {
        origin = origin_in input;
        input = input;
        read = read;
        origin_is = refl;
        final_decimals = n;
        final = final;
        conformed = h;
        mesh = conforming_mesh_by goal fit_limits at (fit_fault words ≡ None) (λ placed. placed ≡ tried at input) (tried at input) final understood.0 refl h.made;
        outputs_are = is;
      }

  conformed_by : (goal : Option Goal) (n : ℕ) (final : Outputs) → IsConformedBy goal (with_origin input o) input n final → outputs ≡ outputs_at n (moved_text (with_origin input o) n input.nodes.decimals) final
      → IsModelMesh goal words folder outputs
  conformed_by None n final h is = absurd h
  conformed_by (Some goal) n final h is = inr (conformed_at goal n final h is)

  meshed_by : (goal : Option Goal) → IsMeshOfModel words folder outputs → IsModelMesh goal words folder outputs
  meshed_by None h = h
  meshed_by (Some goal) h = inl h

  fitted_asked : IsFittedTo (wanted_from input wanted) input (Ok outputs) → IsModelMesh (fit_goal words) words folder outputs
  fitted_asked (inl h) = meshed_by (fit_goal words) (model_mesh h)
  fitted_asked (inr h) = conformed_by (fit_goal words) h.0 h.1 (subst (λ (q : Wanted). IsConformedBy q.goal (with_origin input q.options) input h.0 h.1) e h.2) (told_by h.0 h.1 h.3)

model_asked : (words : List (List ℕ)) (folder : FolderSeen) (outputs : Outputs) → OutputsOfModel words folder (Ok outputs) → IsModelMesh (fit_goal words) words folder outputs
model_asked words folder outputs h = fitted_asked words folder outputs h.0 h.1 h.2.0 h.2.1 h.2.2

asked_by : (request : Request) (words : List (List ℕ)) (folder : FolderSeen) (outputs : Outputs) → MadeBy request words folder (Ok outputs) → IsAskedBy request words folder outputs
asked_by Page words folder outputs h = h
asked_by Version words folder outputs h = h
asked_by Check words folder outputs h = h
asked_by Mesh words folder outputs h = model_asked (others words) folder outputs h

pub fit_asked : (words : List (List ℕ)) (folder : FolderSeen) (outputs : Outputs) → OutputsOfFit words folder (Ok outputs) → IsAskedBy (request_of words) words folder outputs
fit_asked words folder = asked_by (request_of words) words folder

-- ---- over all of a run

made_wider : (request : Request) (words : List (List ℕ)) (part wide : FolderSeen) → IsWithin part wide → (r : Result Outputs Status) → MadeBy request words part r → MadeBy request words wide r
made_wider Page words part wide w r h = h
made_wider Version words part wide w r h = h
made_wider Check words part wide w r h = check_wider (others words) part wide w r h
made_wider Mesh words part wide w r h =
    and_then_wider (FitWordsAnswer (others words)) (FitWordsAnswer (others words)) (λ wanted. OutputsOfWanted wanted part) (λ wanted. OutputsOfWanted wanted wide) (λ r h. h)
    (λ wanted. and_then_wider (ModelAnswer fit_limits part wanted.name wanted.options) (ModelAnswer fit_limits wide wanted.name wanted.options) (λ input. IsFittedTo (wanted_from input wanted) input)
    (λ input. IsFittedTo (wanted_from input wanted) input) (model_wider fit_limits part wide w wanted.name wanted.options) (λ input r h. h)) r h

pub fit_wider : (words : List (List ℕ)) (part wide : FolderSeen) → IsWithin part wide → (r : Result Outputs Status) → OutputsOfFit words part r → OutputsOfFit words wide r
fit_wider words = made_wider (request_of words) words
