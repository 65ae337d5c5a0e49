-- What is read of a model, in a wider view, and by which statuses it is refused.
use Rattle.std.proofs.Common.{◌≡◌, ℕ, List, Option, Some, None, Result, Ok, Err, sym, subst, ◌∙◌, inl}
use Rattle.std.specs.Prelude.{IfOk}
use Rattle.command_words.specs.declared.options.Extension.{Extension}
use Rattle.command_words.specs.declared.options.Options.{Options}
use Rattle.node_files.specs.declared.limits.Limits.{Limits}
use Rattle.run_steps.specs.Reading.{complex_file, FetchAnswer, InputAnswer, IsRead, TextAnswer, NodesAnswer, BoundedAnswer}
use Rattle.tet_ports.specs.Files.{Holds}
use Rattle.tet_ports.specs.Seen.{FolderSeen}
use Rattle.run_steps.specs.Steps.{AndThen, Gives}
use Rattle.run_steps.specs.declared.input.ComplexFile.{ComplexFile}
use Rattle.run_steps.specs.declared.input.Input.{Input}
use Rattle.run_steps.specs.declared.status.LimitKind.TheVariants.{Bytes as TooLong}
use Rattle.run_steps.specs.declared.status.Status.{Status}
use Rattle.run_steps.specs.declared.status.Status.TheVariants.{Missing, ReadFault, BadText, Limit, NoMemory}
use Rattle.run_steps.proofs.Refusals.{want_has, fetch_has, text_has, nodes_have, bounded_has, input_has}
use Rattle.run_steps.proofs.Steps.{and_then_ok, and_then_refuses, and_then_wider}
use Rattle.tet_ports.proofs.Windows.{IsWithin}
use Rattle.run_steps.proofs.Wider.{fetch_wider, bounded_wider, input_wider}
use Rattle.tet_text.specs.Decimals.{Scaled}
use Rattle.tet_text.specs.declared.fault.TextFault.{TextFault}
use Rattle.tetfit_run.specs.Models.{stated_of, surface_text_of, named_surface, IsStatedBy, IsStatedIf, IsStatedInSurface, SurfaceAnswer, SurfaceInputAnswer, ModelBy, ModelAnswer, MovedFrom, ReadAnswer}
use Rattle.tetfit_run.specs.Measured.{MovedAnswer}
use Rattle.tetfit_run.specs.declared.model.Model.{Model}
use Rattle.tetfit_run.specs.declared.model.Stated.{Stated}

-- the options name a surface, and this is read of it
pub surface_model : (limits : Limits) (seen : FolderSeen) (name : List ℕ) (options : Options) (form : Extension) (r : Result Input Status) → named_surface options ≡ Some form → AndThen (SurfaceInputAnswer limits seen name options.base form) (MovedAnswer options.unit) r
    → ModelAnswer limits seen name options r
surface_model limits seen name options form r named = subst (λ o. AndThen (ModelBy o limits seen name options) (MovedAnswer options.unit) r) (sym named)

-- what the bytes of a file spell that is fetched by its name
pub surface_fetched : (limits : Limits) (seen : FolderSeen) (wanted : List ℕ) (form : Extension) (asked name bytes : List ℕ) (r : Result ComplexFile Status) → asked ≡ wanted → name ≡ asked → IsRead limits seen.files_before asked bytes
    → AndThen (TextAnswer name (surface_text_of form bytes)) (λ text. Gives (complex_file name text)) r → SurfaceAnswer limits seen wanted form r
surface_fetched limits seen wanted form asked name bytes r a n read spelled =
    and_then_ok (FetchAnswer limits seen wanted) (λ bytes. AndThen (TextAnswer wanted (surface_text_of form bytes)) (λ text. Gives (complex_file wanted text))) bytes r
    (subst (λ x. IsRead limits seen.files_before x bytes) a read) (subst (λ x. AndThen (TextAnswer x (surface_text_of form bytes)) (λ text. Gives (complex_file x text)) r) (n ∙ a) spelled)

-- what is read, and moved
pub moved_on : (unit : Option Scaled) (Read : Result Input Status → Type 0) (read moved : Result Input Status) → Read read → MovedFrom unit read moved
    → AndThen Read (MovedAnswer unit) moved
moved_on unit Read (Ok input) moved r m = and_then_ok Read (MovedAnswer unit) input moved r m
moved_on unit Read (Err status) moved r m = subst (AndThen Read (MovedAnswer unit)) (sym m) (inl r)

-- no surface is named, and this is read
pub other_model : (limits : Limits) (seen : FolderSeen) (name : List ℕ) (options : Options) (read r : Result Input Status) → named_surface options ≡ None → InputAnswer limits seen options read → MovedFrom options.unit read r
    → ModelAnswer limits seen name options r
other_model limits seen name options read r named h m = moved_on options.unit (ReadAnswer limits seen name options) read r (subst (λ o. ModelBy o limits seen name options read) (sym named) h) m

-- what the places of points in a file count, by the bytes that were fetched
pub stated_told : (limits : Limits) (seen : FolderSeen) (wanted : List ℕ) (form : Extension) (asked bytes : List ℕ) (stated : Stated) (r : Result Model Status) → asked ≡ wanted → IsRead limits seen.files_before asked bytes
    → stated ≡ stated_of form bytes → IfOk r (λ model. model.stated ≡ stated) → IfOk r (λ model. IsStatedInSurface seen wanted form model.stated)
stated_told limits seen wanted form asked bytes stated (Ok model) a read e same = (bytes, subst (λ x. Holds seen.files_before x bytes) a read.0, same ∙ e)
stated_told limits seen wanted form asked bytes stated (Err status) a read e same = same

-- by the surface that is named
pub stated_if : (named : Option Extension) (seen : FolderSeen) (name : List ℕ) (options : Options) (r : Result Model Status) → named_surface options ≡ named → IfOk r (λ model. IsStatedIf named seen name model.stated)
    → IfOk r (λ model. IsStatedBy seen name options model.stated)
stated_if named seen name options r e = subst (λ o. IfOk r (λ model. IsStatedIf o seen name model.stated)) (sym e)

-- what is read over a part of a run is read over all of it
module _ (limits : Limits) (part wide : FolderSeen) (w : IsWithin part wide) where
  pub surface_wider : (name : List ℕ) (form : Extension) (r : Result ComplexFile Status) → SurfaceAnswer limits part name form r → SurfaceAnswer limits wide name form r
  surface_wider name form =
      and_then_wider (FetchAnswer limits part name) (FetchAnswer limits wide name) (λ bytes. AndThen (TextAnswer name (surface_text_of form bytes)) (λ text. Gives (complex_file name text)))
      (λ bytes. AndThen (TextAnswer name (surface_text_of form bytes)) (λ text. Gives (complex_file name text))) (fetch_wider limits part wide w name) (λ bytes r h. h)

  surface_input_wider : (name base : List ℕ) (form : Extension) (r : Result Input Status) → SurfaceInputAnswer limits part name base form r → SurfaceInputAnswer limits wide name base form r
  surface_input_wider name base form =
      and_then_wider (SurfaceAnswer limits part name form) (SurfaceAnswer limits wide name form) (λ file. AndThen (NodesAnswer limits part base file.text.nodes) (BoundedAnswer file))
      (λ file. AndThen (NodesAnswer limits wide base file.text.nodes) (BoundedAnswer file)) (surface_wider name form) (bounded_wider limits part wide w base)

  model_by_wider : (named : Option Extension) (name : List ℕ) (options : Options) (r : Result Input Status) → ModelBy named limits part name options r → ModelBy named limits wide name options r
  model_by_wider (Some form) name options = surface_input_wider name options.base form
  model_by_wider None name options = input_wider limits part wide w options

  pub model_wider : (name : List ℕ) (options : Options) (r : Result Input Status) → ModelAnswer limits part name options r → ModelAnswer limits wide name options r
  model_wider name options =
      and_then_wider (ReadAnswer limits part name options) (ReadAnswer limits wide name options) (MovedAnswer options.unit) (MovedAnswer options.unit) (model_by_wider (named_surface options) name options) (λ input r h. h)

-- what each refusal of the reading of a model has
module _ (P : Status → Type 0) (missing : (name : List ℕ) → P (Missing name)) (failed : (name : List ℕ) → P (ReadFault name)) (bad : (name : List ℕ) (fault : TextFault) → P (BadText name fault))
    (long : (name : List ℕ) (most : ℕ) → P (Limit (TooLong name most))) (want : P NoMemory) where
  surface_has : (limits : Limits) (seen : FolderSeen) (name : List ℕ) (form : Extension) (s : Status) → SurfaceAnswer limits seen name form (Err s) → P s
  surface_has limits seen name form =
      and_then_refuses P (FetchAnswer limits seen name) (λ bytes. AndThen (TextAnswer name (surface_text_of form bytes)) (λ text. Gives (complex_file name text))) (fetch_has P missing failed bad long want limits seen name)
      (λ bytes. and_then_refuses P (TextAnswer name (surface_text_of form bytes)) (λ text. Gives (complex_file name text)) (text_has P missing failed bad long want name (surface_text_of form bytes))
      (λ text. want_has P missing failed bad long want))

  surface_input_has : (limits : Limits) (seen : FolderSeen) (name base : List ℕ) (form : Extension) (s : Status) → SurfaceInputAnswer limits seen name base form (Err s) → P s
  surface_input_has limits seen name base form =
      and_then_refuses P (SurfaceAnswer limits seen name form) (λ file. AndThen (NodesAnswer limits seen base file.text.nodes) (BoundedAnswer file)) (surface_has limits seen name form)
      (λ file. and_then_refuses P (NodesAnswer limits seen base file.text.nodes) (BoundedAnswer file) (nodes_have P missing failed bad long want limits seen base file.text.nodes)
      (bounded_has P missing failed bad long want file))

  model_by_has : (named : Option Extension) (limits : Limits) (seen : FolderSeen) (name : List ℕ) (options : Options) (s : Status) → ModelBy named limits seen name options (Err s) → P s
  model_by_has (Some form) limits seen name options = surface_input_has limits seen name options.base form
  model_by_has None limits seen name options = input_has P missing failed bad long want limits seen options options.piecewise

  pub model_has : (limits : Limits) (seen : FolderSeen) (name : List ℕ) (options : Options) (s : Status) → ModelAnswer limits seen name options (Err s) → P s
  model_has limits seen name options =
      and_then_refuses P (ReadAnswer limits seen name options) (MovedAnswer options.unit) (model_by_has (named_surface options) limits seen name options) (λ input s h. subst P (sym h) want)
