-- Where the files are told and no fault rose, a run has one answer.
use Rattle.std.proofs.Common.{◌≡◌, ◌<◌, ◌⊎◌, inl, inr, ℕ, true, List, Option, Some, None, Result, Ok, Err, refl, sym, subst, ap, ◌∙◌, arith}
use Rattle.std.specs.Prelude.{◌≢◌}
use Rattle.box_tree.proofs.Lists.{less_or_more}
use Rattle.command_words.specs.declared.options.Extension.{Extension}
use Rattle.command_words.specs.declared.options.Options.{Options}
use Rattle.tet_text.specs.Decimals.{Scaled}
use Rattle.tetfit_run.specs.Measured.{MovedAnswer, last_tried, tried, with_origin}
use Rattle.tetfit_run.specs.Models.{ModelAnswer, ModelBy, ReadAnswer, SurfaceAnswer, named_surface, surface_text_of}
use Rattle.tetfit_run.specs.Trying.{IsFitted, at_decimals, is_of_grid}
use Rattle.tetfit_run.specs.Words.{fit_fault, fit_goal, fit_options, others, request_of}
use Rattle.tetfit_run.specs.declared.request.Request.{Request}
use Rattle.tetfit_run.specs.declared.request.Request.TheVariants.{Page, Version, Check, Mesh}
use Rattle.tetfit_run.specs.declared.wanted.Wanted.{Wanted}
use Rattle.run_steps.proofs.Once.{IsTold, bounded_once, fetch_once, input_once, meshed_same, nodes_once, text_once}
use Rattle.run_steps.proofs.Steps.{IsDecided, IsOnce, IsSameBy, and_then_once, and_then_same_by, gives_once, status_by, status_of}
use Rattle.run_steps.specs.Reading.{BoundedAnswer, FetchAnswer, NodesAnswer, TextAnswer, complex_file}
use Rattle.tet_ports.specs.Seen.{FolderSeen, SinkSeen}
use Rattle.run_steps.specs.Steps.{AndThen, Gives, forced_answer}
use Rattle.run_steps.specs.declared.input.Input.{Input}
use Rattle.run_steps.specs.declared.outputs.Outputs.{Outputs}
use Rattle.run_steps.specs.declared.status.Status.{Status}
use Rattle.run_steps.specs.declared.status.Status.TheVariants.{Done, Usage, Empty, NoFill, NoMemory, WriteFault}
use Rattle.tet_ports.specs.Files.{Files}
use Rattle.refining.specs.declared.goal.Goal.{Goal}
use Rattle.tetgen_run.proofs.Endings.{answers_same_by}
use Rattle.tetgen_run.specs.Ends.{AnswersBy}
use Rattle.tetfit_run.proofs.CheckedRuns.{check_same}
use Rattle.tetfit_run.specs.Outputs.{FitWordsAnswer, IsConformedAt, IsConformedBy, IsFitUsage, IsFittedTo, IsMeshedTo, MadeBy, OutputsOfFit, OutputsOfModel, Says, fit_limits, wanted_from}
use Rattle.tetfit_run.specs.Run.{IsFitAnswer, IsFitComplete, MayConform, meshed_answer}

-- ---- the words

some_same : {A : Type 0} (a b : A) → Some a ≡ Some b → a ≡ b
some_same a b e = cc

usage_is : (words : List (List ℕ)) (s : Status) → s ≢ NoMemory → IsFitUsage words s → (p : ℕ × ℕ) × (fit_fault words ≡ Some p) × (s ≡ Usage p.0 p.1)
usage_is words (Usage word place) n h = ((word, place), h, refl)
usage_is words NoMemory n h = absurd (n refl)
usage_is words s n h = absurd h

words_once : (words : List (List ℕ)) → IsOnce (FitWordsAnswer words)
words_once words (Ok o) (Ok q) n m h k = ap (λ x. Ok x) (h.1 ∙ sym k.1)
words_once words (Ok o) (Err t) n m h k = let u = usage_is words t m k in let e = u.1 in let f = h.0 in absurd (cc)
words_once words (Err s) (Ok q) n m h k = let u = usage_is words s n h in let e = u.1 in let f = k.0 in absurd (cc)
words_once words (Err s) (Err t) n m h k =
    let u = usage_is words s n h in
    let v = usage_is words t m k in
    ap (λ x. Err x) (u.2 ∙ ap (λ p. Usage p.0 p.1) (some_same u.0 v.0 (sym u.1 ∙ v.1)) ∙ sym v.2)

-- ---- the model

surface_once : (told : Files) (seen : FolderSeen) (name : List ℕ) (form : Extension) → IsTold told seen → IsOnce (SurfaceAnswer fit_limits seen name form)
surface_once told seen name form h =
    and_then_once (FetchAnswer fit_limits seen name) (λ bytes. AndThen (TextAnswer name (surface_text_of form bytes)) (λ text. Gives (complex_file name text)))
    (fetch_once fit_limits told seen name h.files h.no_fault)
    (λ bytes. and_then_once (TextAnswer name (surface_text_of form bytes)) (λ text. Gives (complex_file name text)) (text_once name (surface_text_of form bytes)) (λ text. gives_once (complex_file name text)))

model_by_once : (named : Option Extension) (told : Files) (seen : FolderSeen) (name : List ℕ) (options : Options) → IsTold told seen → IsOnce (ModelBy named fit_limits seen name options)
model_by_once None told seen name options h = input_once fit_limits told seen options h
model_by_once (Some form) told seen name options h =
    let base = options.base in
    and_then_once (SurfaceAnswer fit_limits seen name form) (λ file. AndThen (NodesAnswer fit_limits seen base file.text.nodes) (BoundedAnswer file)) (surface_once told seen name form h)
    (λ file. and_then_once (NodesAnswer fit_limits seen base file.text.nodes) (BoundedAnswer file) (nodes_once fit_limits told seen base file.text.nodes h) (bounded_once file))

moved_once : (unit : Option Scaled) (input : Input) → IsOnce (MovedAnswer unit input)
moved_once unit input (Ok a) (Ok b) n m h k = ap (λ x. Ok x) (h ∙ sym k)
moved_once unit input (Err s) r n m h k = absurd (n h)
moved_once unit input (Ok a) (Err t) n m h k = absurd (m k)

model_once : (told : Files) (seen : FolderSeen) (name : List ℕ) (options : Options) → IsTold told seen → IsOnce (ModelAnswer fit_limits seen name options)
model_once told seen name options h =
    and_then_once (ReadAnswer fit_limits seen name options) (MovedAnswer options.unit) (model_by_once (named_surface options) told seen name options h) (moved_once options.unit)

-- ---- the decimals

grid_forced : (s : Status) → is_of_grid (forced_answer s) ≡ is_of_grid s
grid_forced (NoFill anomaly) = refl
grid_forced s = refl

-- an answer that is the same as a refusal of the grid is one
refused_too : (options : Options) (input : Input) (n : ℕ) (b : Result Outputs Status) → IsFitted fit_limits options input n b → is_of_grid (status_of b) ≡ true → n ≡ last_tried options input
refused_too options input n (Ok outputs) k e = absurd (cc)
refused_too options input n (Err s) k e = k.last (sym (grid_forced s) ∙ e)

of_grid_decided : (s : Status) → is_of_grid s ≡ true → s ≢ NoMemory
of_grid_decided NoMemory e = absurd (cc)
of_grid_decided s e = λ n. absurd (wanting (sym (ap is_of_grid n) ∙ e))
  where
    wanting : is_of_grid NoMemory ≡ true → ⊥
    wanting f = cc

-- no input is fitted at two numbers of decimals
none_finer : (options : Options) (input : Input) (m n : ℕ) (a b : Result Outputs Status) → m < n → IsDecided b → IsFitted fit_limits options input m a → IsFitted fit_limits options input n b → ⊥
none_finer options input m n a b l d h k =
    let r = h.finer n l k.within.most in
    let e = meshed_same fit_limits (at_decimals n options) (tried (at_decimals n options) input) b (Err r.status) d (of_grid_decided r.status r.of_grid) k.answer r.answer in
    let z = refused_too options input n b k (ap is_of_grid e ∙ grid_forced r.status ∙ r.of_grid) in
    omega (arith, l, z, h.within.least)

fits_same : (options : Options) (input : Input) (m n : ℕ) (a b : Result Outputs Status) → IsDecided a → IsDecided b → IsFitted fit_limits options input m a → IsFitted fit_limits options input n b
    → (m ≡ n) × (status_of a ≡ status_of b)
fits_same options input m n a b c d h k = go (less_or_more m n)
  where
    go : (m < n) ⊎ ((m ≡ n) ⊎ (n < m)) → (m ≡ n) × (status_of a ≡ status_of b)
    go (inl l) = absurd (none_finer options input m n a b l d h k)
    go (inr (inl e)) = (e, meshed_same fit_limits (at_decimals n options) (tried (at_decimals n options) input) a b c d (subst (λ i. IsFitted fit_limits options input i a) e h).answer k.answer)
    go (inr (inr l)) = absurd (none_finer options input n m b a l c k h)

-- the status of an answer as it is read
abbrev read_status : Status → Status
read_status s = forced_answer (meshed_answer s)

-- what is fitted, before the summary tells its decimals
record Fit (options : Options) (input : Input) (r : Result Outputs Status) : Type 0 where
  m : ℕ
  made : Result Outputs Status
  decided : IsDecided made
  fitted : IsFitted fit_limits options input m made
  is : status_by read_status r ≡ status_of made

-- an answer without points on the segments
abbrev BareFit : Wanted → Input → Result Outputs Status → Type 0
BareFit wanted input (Ok outputs) = IsMeshedTo wanted input outputs
BareFit wanted input (Err s) = IsFittedTo wanted input (Err s)

fit_of : (wanted : Wanted) (input : Input) (r : Result Outputs Status) → IsDecided r → BareFit wanted input r → Fit wanted.options input r
fit_of wanted input (Ok outputs) d h = record { m = h.decimals; made = Ok h.made; decided = tt; fitted = h.fitted; is = refl }
fit_of wanted input (Err Empty) d h = record { m = h.0; made = Ok h.1.made; decided = tt; fitted = h.1.fitted; is = refl }
fit_of wanted input (Err s) d h = record { m = h.0; made = Err s; decided = d; fitted = h.1; is = refl }

fitted_same : (wanted : Wanted) (input : Input) → IsSameBy read_status (BareFit wanted input)
fitted_same wanted input r s c d h k =
    let a = fit_of wanted input r c h in
    let b = fit_of wanted input s d k in
    a.is ∙ (fits_same wanted.options input a.m b.m a.made b.made a.decided b.decided a.fitted b.fitted).1 ∙ sym b.is

-- ---- the run

says_same : (text : List ℕ) → IsSameBy read_status (Says text)
says_same text (Ok a) (Ok b) c d h k = refl
says_same text (Err s) r c d h k = absurd (c h)
says_same text (Ok a) (Err t) c d h k = absurd (d k)

abbrev BareModel : List (List ℕ) → FolderSeen → Result Outputs Status → Type 0
BareModel words seen =
    AndThen (FitWordsAnswer words) (λ wanted. AndThen (ModelAnswer fit_limits seen wanted.name wanted.options) (λ input. BareFit (wanted_from input wanted) input))

abbrev BareMade : Request → List (List ℕ) → FolderSeen → Result Outputs Status → Type 0
BareMade Page words seen r = MadeBy Page words seen r
BareMade Version words seen r = MadeBy Version words seen r
BareMade Check words seen r = MadeBy Check words seen r
BareMade Mesh words seen r = BareModel (others words) seen r

made_same : (request : Request) (told : Files) (words : List (List ℕ)) (seen : FolderSeen) → IsTold told seen → IsSameBy read_status (BareMade request words seen)
made_same Page told words seen h = says_same _
made_same Version told words seen h = says_same _
made_same Check told words seen h = check_same read_status refl told (others words) seen h
made_same Mesh told words seen h =
    and_then_same_by read_status (FitWordsAnswer (others words)) (λ wanted. AndThen (ModelAnswer fit_limits seen wanted.name wanted.options) (λ input. BareFit (wanted_from input wanted) input)) (words_once (others words))
    (λ wanted. and_then_same_by read_status (ModelAnswer fit_limits seen wanted.name wanted.options) (λ input. BareFit (wanted_from input wanted) input) (model_once told seen wanted.name wanted.options h) (λ input. fitted_same (wanted_from input wanted) input))

-- ---- points on the segments

bounds_of : (goal : Option Goal) (options : Options) (input : Input) (n : ℕ) (final : Outputs) → IsConformedBy goal options input n final → (g : Goal) × (goal ≡ Some g) × IsConformedAt g options input n final
bounds_of None options input n final h = absurd h
bounds_of (Some g) options input n final h = (g, refl, h)

module _ (words : List (List ℕ)) (seen : FolderSeen) (asked : request_of words ≡ Mesh) where
  fitted_bare : (wanted : Wanted) (input : Input) (outputs : Outputs) → FitWordsAnswer (others words) (Ok wanted) → ModelAnswer fit_limits seen wanted.name wanted.options (Ok input)
      → IsFittedTo (wanted_from input wanted) input (Ok outputs) → BareModel (others words) seen (Ok outputs) ⊎ MayConform words seen
  fitted_bare wanted input outputs w read (inl h) = inl (wanted, w, (input, read, h))
  fitted_bare wanted input outputs w read (inr h) =
      let by = subst (λ (q : Wanted). IsConformedBy q.goal (with_origin input q.options) input h.0 h.1) w.1 h.2 in
      let g = bounds_of (fit_goal (others words)) (with_origin input (fit_options (others words))) input h.0 h.1 by in
      inr (record {
        asked = asked;
        goal = g.0;
        bounded = g.1;
        input = input;
        read = subst (λ (q : Wanted). ModelAnswer fit_limits seen q.name q.options (Ok input)) w.1 read;
        decimals = g.2.decimals;
        status = g.2.status;
        refused = g.2.fitted;
        off_grid = g.2.off_grid;
      })

  model_bare : (r : Result Outputs Status) → OutputsOfModel (others words) seen r → BareModel (others words) seen r ⊎ MayConform words seen
  model_bare (Ok outputs) h = fitted_bare h.0 h.2.0 outputs h.1 h.2.1 h.2.2
  model_bare (Err s) h = inl h

made_bare : (request : Request) (words : List (List ℕ)) (seen : FolderSeen) → request_of words ≡ request → (r : Result Outputs Status) → MadeBy request words seen r
    → BareMade request words seen r ⊎ MayConform words seen
made_bare Page words seen asked r h = inl h
made_bare Version words seen asked r h = inl h
made_bare Check words seen asked r h = inl h
made_bare Mesh words seen asked r h = model_bare words seen asked r h

left_by : {A B X : Type 0} → (A → B) → A ⊎ X → B ⊎ X
left_by f (inl a) = inl (f a)
left_by f (inr x) = inr x

-- an answer of a run has a cause without points on the segments, or there may be such points
answers_bare : (X : Type 0) (Made Bare : Result Outputs Status → Type 0) → ((r : Result Outputs Status) → Made r → Bare r ⊎ X) → (folder : FolderSeen) (out : SinkSeen) (s : Status)
    → AnswersBy Made folder out s → AnswersBy Bare folder out s ⊎ X
answers_bare X Made Bare split folder out Done h = left_by (λ p. (h.0, p)) (split (Ok h.0) h.1)
answers_bare X Made Bare split folder out (WriteFault None) h = left_by (λ p. (h.0, p, h.2)) (split (Ok h.0) h.1)
answers_bare X Made Bare split folder out (WriteFault (Some name)) h = left_by (λ p. (h.0, p, h.2)) (split (Ok h.0) h.1)
answers_bare X Made Bare split folder out NoMemory h = inl tt
answers_bare X Made Bare split folder out s h = split (Err s) h

pub answer_complete : (words : List (List ℕ)) (folder : FolderSeen) (out : SinkSeen) (s : Status) → IsFitAnswer words folder out s → IsFitComplete words folder out s
answer_complete words folder out s h told e f n other m k = both (bare s h) (bare other k)
  where
    Bare : Result Outputs Status → Type 0
    Bare = BareMade (request_of words) words folder

    bare : (t : Status) → IsFitAnswer words folder out t → AnswersBy Bare folder out t ⊎ MayConform words folder
    bare = answers_bare (MayConform words folder) (OutputsOfFit words folder) Bare (made_bare (request_of words) words folder refl) folder out

    both : AnswersBy Bare folder out s ⊎ MayConform words folder → AnswersBy Bare folder out other ⊎ MayConform words folder
        → MayConform words folder ⊎ (forced_answer (meshed_answer s) ≡ forced_answer (meshed_answer other))
    both (inr may) b = inl may
    both (inl a) (inr may) = inl may
    both (inl a) (inl b) = inr (answers_same_by read_status Bare refl (made_same (request_of words) told words folder (record { files = e; no_fault = f.0 })) folder out f s other n m a b)
