-- What a run leaves, answers and tells, put together.
use Rattle.std.proofs.Common.{◌≡◌, ◌≤◌, inl, inr, ℕ, Bool, true, false, List, [], ◌∷◌, ◌++◌, Option, Some, None, Result, Ok, Err, if◌then◌else◌, refl, sym, subst, ap, ◌∙◌}
use Rattle.std.specs.Prelude.{◌≢◌, IsTrue, not, ◌&&◌}
use Rattle.command_words.specs.Grammar.{words_fault}
use Rattle.command_words.specs.Meaning.{options_of}
use Rattle.command_words.specs.Names.{file_name}
use Rattle.command_words.specs.declared.options.Extension.TheVariants.{Node}
use Rattle.command_words.specs.declared.options.Options.{Options}
use Rattle.complex_laws.proofs.ComplexMesh.{law_hull_mesh}
use Rattle.complex_mesh.specs.declared.fault.MeshFault.{MeshFault}
use Rattle.complex_mesh.specs.declared.fault.MeshFault.TheVariants as fault
use Rattle.geo_laws.specs.Delaunay.{IsDelaunayList, delaunay_rows}
use Rattle.geo_laws.specs.Laws.{IsTriangulation}
use Rattle.geo_laws.specs.Mesh.{IsMesh}
use Rattle.geo_laws.specs.Path.{HullOnly}
use Rattle.geo_laws.proofs.DelaunayList.{triangulation_of_rows, law_delaunay_list}
use Rattle.node_files.specs.declared.limits.Limits.{Limits}
use Rattle.path_laws.specs.Flood.{carving_of}
use Rattle.tet_ports.specs.Files.{Files}
use Rattle.run_steps.specs.Faults.{status_of_fault, status_of_weights}
use Rattle.run_steps.specs.Numbering.{numbering_of}
use Rattle.run_steps.specs.Meshing.{OutputsOfRun, BoundAnswer, IsUnbound, PointsMeshOf, MeshOf, MeshAnswer, IsFlatRefusal, OutputsAnswer, MeshedAnswer}
use Rattle.run_steps.specs.Reading.{WordsAnswer, InputOf, InputAnswer, IsUsage}
use Rattle.tetgen_run.specs.Run.{asks_check, AnswerBy, IsMeshAnswer, IsAnswerWithin, IsCompleteWithin, LeftBy, IsLeftByMesh, IsLeftWithin, IsRegularMesh, IsMeshBy, IsMeshOfRunWithin, IsToldWithin, IsNumbering, tetgen_message}
use Rattle.tetgen_run.specs.Ends.{HasNoFault, IsUnchanged, IsToldAs, IsEarly, FinishesSo, answer_of, numbering_in}
use Rattle.tetgen_run.specs.Steps.{ChecksSo, EndsByMesh, EndsBy, EndsSo}
use Rattle.tet_ports.specs.Seen.{IsMessagePut, FolderSeen, SinkSeen}
use Rattle.tetgen_run.specs.Stops.{stop_of_words}
use Rattle.command_words.specs.declared.fault.WordsFault.{WordsFault}
use Rattle.command_words.specs.declared.fault.WordsFault.TheVariants.{Usage as Misunderstood, NoMemory as WordsWanting}
use Rattle.run_steps.specs.Steps.{AndThen, forced_answer}
use Rattle.run_steps.specs.declared.input.Input.{Input}
use Rattle.run_steps.specs.declared.mesh.Bound.{Bound}
use Rattle.run_steps.specs.declared.meshed.Meshed.{Meshed}
use Rattle.run_steps.specs.declared.outputs.Outputs.{Outputs}
use Rattle.run_steps.specs.declared.status.Status.{Status}
use Rattle.run_steps.specs.declared.status.Status.TheVariants.{Usage, Limit, Flat, NoMemory}
use Rattle.tetgen_run.specs.declared.stop.Stop.{Stop}
use Rattle.tetgen_run.specs.declared.stop.Stop.TheVariants.{Refused, NoMemory as Wanting}
use Rattle.weighted_mesh.specs.declared.regular_fault.RegularFault.{RegularFault}
use Rattle.weighted_mesh.specs.declared.regular_fault.RegularFault.TheVariants as regular
use Rattle.weighted_mesh.specs.Meshing.{kept_weights}
use Rattle.weighted_mesh.proofs.Answering.{regular_list_law}
use Rattle.run_steps.proofs.Determined.{outputs_same}
use Rattle.run_steps.proofs.Once.{run_same}
use Rattle.run_steps.proofs.Refusals.{input_has}
use Rattle.run_steps.proofs.Steps.{and_then_refuses}
use Rattle.tetgen_run.proofs.Determined.{mesh_determined}
use Rattle.tetgen_run.proofs.Refusals.{IsRefusal, IsSilent, IsStepRefusal, not_true, step_refuses}
use Rattle.tetgen_run.proofs.Endings.{NumbersPoints, answers_same, end_answers, end_leaves, early_leaves, end_tells, finish_ends}
use Rattle.tetgen_run.proofs.Checks.{check_answer, check_same, check_left, early_check, check_told, checked_end}

-- ---- refusals

words_refuse : (words : List (List ℕ)) (s : Status) → IsUsage words s → IsRefusal s
words_refuse words (Usage word place) h = tt
words_refuse words NoMemory h = tt
words_refuse words s h = absurd h

input_refuses : (limits : Limits) (seen : FolderSeen) (options : Options) (piecewise : Bool) (s : Status) → InputOf limits piecewise seen options (Err s) → IsRefusal s
input_refuses = input_has IsRefusal (λ name. tt) (λ name. tt) (λ name fault. tt) (λ name most. tt) tt

-- the message of such a refusal prints no points
input_silent : (limits : Limits) (seen : FolderSeen) (options : Options) (piecewise : Bool) (s : Status) → InputOf limits piecewise seen options (Err s) → IsSilent s
input_silent = input_has IsSilent (λ name. refl) (λ name. refl) (λ name fault. refl) (λ name most. refl) refl

want_refuses : (s : Status) → s ≡ NoMemory → IsStepRefusal s
want_refuses s e = subst IsStepRefusal (sym e) tt

bound_refuses : (limits : Limits) (options : Options) (input : Input) (s : Status) → IsUnbound limits options input s → IsStepRefusal s
bound_refuses limits options input (Limit what) h = tt
bound_refuses limits options input NoMemory h = tt
bound_refuses limits options input s h = absurd h

-- the message of a limit prints no points
pub bound_silent : (limits : Limits) (options : Options) (input : Input) (s : Status) → IsUnbound limits options input s → IsSilent s
bound_silent limits options input (Limit what) h = refl
bound_silent limits options input NoMemory h = refl
bound_silent limits options input s h = absurd h

fault_refuses : (f : MeshFault) → IsStepRefusal (status_of_fault f)
fault_refuses fault.Flat = tt
fault_refuses (fault.NotFlat facet four) = tt
fault_refuses (fault.SegmentsCross one two) = tt
fault_refuses (fault.GridEnd piece) = tt
fault_refuses (fault.BudgetEnd made piece) = tt
fault_refuses (fault.Crossing one two) = tt
fault_refuses (fault.NoFill anomaly) = tt
fault_refuses fault.NoMemory = tt

flat_refuses : (bound : Bound) (s : Status) → IsFlatRefusal bound s → IsStepRefusal s
flat_refuses bound Flat h = tt
flat_refuses bound NoMemory h = tt
flat_refuses bound s h = absurd h

weights_refuse : (name : List ℕ) (f : RegularFault) → IsStepRefusal (status_of_weights name f)
weights_refuse name (regular.Text fault) = tt
weights_refuse name (regular.TooHeavy line) = tt
weights_refuse name regular.Flat = tt
weights_refuse name regular.NoMemory = tt

points_refuse : (options : Options) (bound : Bound) (weighted : Bool) (s : Status) → PointsMeshOf weighted options bound (Err s) → IsStepRefusal s
points_refuse options bound false s h = flat_refuses bound s h
points_refuse options bound true s h = subst IsStepRefusal (sym h.1) (weights_refuse (file_name options.base Node) h.0)

mesh_refuses : (options : Options) (bound : Bound) (piecewise : Bool) (s : Status) → MeshOf piecewise options bound (Err s) → IsStepRefusal s
mesh_refuses options bound false s h = points_refuse options bound options.weighted s h
mesh_refuses options bound true s h = subst IsStepRefusal (sym h.1) (fault_refuses h.0)

pub meshed_refuses : (limits : Limits) (options : Options) (input : Input) (s : Status) → MeshedAnswer limits options input (Err s) → IsStepRefusal s
meshed_refuses limits options input =
    and_then_refuses IsStepRefusal (BoundAnswer limits options input) (λ bound. AndThen (MeshAnswer options bound) (OutputsAnswer options)) (bound_refuses limits options input)
    (λ bound. and_then_refuses IsStepRefusal (MeshAnswer options bound) (OutputsAnswer options) (mesh_refuses options bound options.piecewise) (λ mesh. want_refuses))

pub run_refuses : (limits : Limits) (words : List (List ℕ)) (seen : FolderSeen) (s : Status) → OutputsOfRun limits words seen (Err s) → IsRefusal s
run_refuses limits words seen =
    and_then_refuses IsRefusal (WordsAnswer words) (λ options. AndThen (InputAnswer limits seen options) (MeshedAnswer limits options)) (words_refuse words)
    (λ options. and_then_refuses IsRefusal (InputAnswer limits seen options) (MeshedAnswer limits options) (input_refuses limits seen options options.piecewise)
    (λ input s h. step_refuses s (meshed_refuses limits options input s h)))

-- ---- the answer

-- a status whose message prints no points has every numbering
numbers_points : (limits : Limits) (words : List (List ℕ)) (folder : FolderSeen) → NumbersPoints (IsNumbering limits words folder)
numbers_points limits words folder s by e = λ t. absurd (not_true (subst IsTrue e t))

mesh_answer : (limits : Limits) (words : List (List ℕ)) (folder : FolderSeen) (out : SinkSeen) (result : Result (Unit {0}) Stop) → EndsByMesh limits words folder out result → IsMeshAnswer limits words folder out (answer_of result)
mesh_answer limits words folder = end_answers (OutputsOfRun limits words folder) (IsNumbering limits words folder) (run_refuses limits words folder) folder

end_answer_by : (limits : Limits) (b : Bool) (words : List (List ℕ)) (folder : FolderSeen) (out : SinkSeen) (result : Result (Unit {0}) Stop) → EndsBy limits b words folder out result → AnswerBy limits b words folder out (answer_of result)
end_answer_by limits false = mesh_answer limits
end_answer_by limits true = check_answer

pub end_answer : (limits : Limits) (words : List (List ℕ)) (folder : FolderSeen) (out : SinkSeen) (result : Result (Unit {0}) Stop) → EndsSo limits words folder out result → IsAnswerWithin limits words folder out (answer_of result)
end_answer limits words = end_answer_by limits (asks_check words) words

same_by : (limits : Limits) (b : Bool) (words : List (List ℕ)) (folder : FolderSeen) (out : SinkSeen) (told : Files) → folder.files_before ≡ Some told → HasNoFault folder out → (one two : Status)
    → one ≢ NoMemory → two ≢ NoMemory → AnswerBy limits b words folder out one → AnswerBy limits b words folder out two → forced_answer one ≡ forced_answer two
same_by limits false words folder out told e f one two n m h k =
    answers_same (OutputsOfRun limits words folder) (run_same limits told words folder e f.0) folder out f one two n m h k
same_by limits true words folder out told e f one two n m h k = ap forced_answer (check_same words folder out told e f one two n m h k)

pub answer_complete : (limits : Limits) (words : List (List ℕ)) (folder : FolderSeen) (out : SinkSeen) (s : Status) → IsAnswerWithin limits words folder out s → IsCompleteWithin limits words folder out s
answer_complete limits words folder out s h told e f n other m k = same_by limits (asks_check words) words folder out told e f s other n m h k

-- ---- what is left

points_whole : (options : Options) (bound : Bound) (weighted : Bool) (mesh : Meshed) → PointsMeshOf weighted options bound (Ok mesh) → weighted ≡ false
    → IsMesh HullOnly mesh.points mesh.triangles mesh.complex.holes mesh.tetrahedra
points_whole options bound true mesh h none = absurd (cc)
points_whole options bound false mesh h none =
    let ps = bound.table.points in
    subst (λ (m : Meshed). IsMesh HullOnly m.points m.triangles m.complex.holes m.tetrahedra) (sym h.1) (law_hull_mesh ps (delaunay_rows ps) (law_delaunay_list ps))

mesh_whole : (options : Options) (bound : Bound) (piecewise : Bool) (mesh : Meshed) → MeshOf piecewise options bound (Ok mesh) → (not piecewise && options.weighted) ≡ false
    → IsMesh (if piecewise then carving_of options.keep_hull else HullOnly) mesh.points mesh.triangles mesh.complex.holes mesh.tetrahedra
mesh_whole options bound false mesh h none = points_whole options bound options.weighted mesh h none
mesh_whole options bound true mesh h none =
    subst (λ (m : Meshed). IsMesh (carving_of options.keep_hull) m.points m.triangles m.complex.holes m.tetrahedra) (sym h.2) h.1.mesh

points_delaunay : (options : Options) (bound : Bound) (weighted : Bool) (mesh : Meshed) → PointsMeshOf weighted options bound (Ok mesh) → weighted ≡ false → IsDelaunayList mesh.points mesh.tetrahedra
points_delaunay options bound true mesh h none = absurd (cc)
points_delaunay options bound false mesh h none = subst (λ (m : Meshed). IsDelaunayList m.points m.tetrahedra) (sym h.1) (law_delaunay_list bound.table.points)

mesh_delaunay : (options : Options) (bound : Bound) (piecewise : Bool) (mesh : Meshed) → MeshOf piecewise options bound (Ok mesh) → piecewise ≡ false → options.weighted ≡ false
    → IsDelaunayList mesh.points mesh.tetrahedra
mesh_delaunay options bound true mesh h e none = absurd (cc)
mesh_delaunay options bound false mesh h e none = points_delaunay options bound options.weighted mesh h none

points_regular : (options : Options) (bound : Bound) (weighted : Bool) (mesh : Meshed) → PointsMeshOf weighted options bound (Ok mesh) → weighted ≡ true → IsRegularMesh bound.table mesh
points_regular options bound false mesh h some = absurd (cc)
points_regular options bound true mesh h some =
    subst (IsRegularMesh bound.table) (sym h.2) (record { weights = h.1.weights; weights_are = h.1.weights_are; list = h.1.list; hidden = ap Some h.1.hidden })

mesh_regular : (options : Options) (bound : Bound) (piecewise : Bool) (mesh : Meshed) → MeshOf piecewise options bound (Ok mesh) → (not piecewise && options.weighted) ≡ true → IsRegularMesh bound.table mesh
mesh_regular options bound true mesh h some = absurd (cc)
mesh_regular options bound false mesh h some = points_regular options bound options.weighted mesh h some

points_triangulate : (options : Options) (bound : Bound) (weighted : Bool) (mesh : Meshed) → PointsMeshOf weighted options bound (Ok mesh) → IsTriangulation mesh.points mesh.tetrahedra
points_triangulate options bound false mesh h =
    let ps = bound.table.points in
    subst (λ (m : Meshed). IsTriangulation m.points m.tetrahedra) (sym h.1) (triangulation_of_rows ps (delaunay_rows ps) refl)
points_triangulate options bound true mesh h =
    subst (λ (m : Meshed). IsTriangulation m.points m.tetrahedra) (sym h.2)
    (regular_list_law.triangulation bound.table.points (kept_weights bound.table h.1.weights) h.0.rows h.1.list)

mesh_triangulates : (options : Options) (bound : Bound) (piecewise : Bool) (mesh : Meshed) → MeshOf piecewise options bound (Ok mesh) → piecewise ≡ false → IsTriangulation mesh.points mesh.tetrahedra
mesh_triangulates options bound true mesh h e = absurd (cc)
mesh_triangulates options bound false mesh h e = points_triangulate options bound options.weighted mesh h

-- the outputs of an input are those of one mesh
pub mesh_by : (limits : Limits) (options : Options) (Understood : Type 0) (Read : Input → Type 0) (input : Input) (outputs : Outputs) → Understood → Read input → MeshedAnswer limits options input (Ok outputs)
    → IsMeshBy limits options Understood Read outputs
mesh_by limits o Understood Read input outputs understood read m =
    let made = m.2 in record {
      understood = understood;
      input = input;
      read = read;
      bound = m.0;
      on_grid = m.1;
      mesh = made.0;
      made = made.1;
      whole = mesh_whole o m.0 o.piecewise made.0 made.1;
      delaunay = mesh_delaunay o m.0 o.piecewise made.0 made.1;
      regular = mesh_regular o m.0 o.piecewise made.0 made.1;
      triangulation = mesh_triangulates o m.0 o.piecewise made.0 made.1;
      outputs_are = made.2;
      only = λ other on. outputs_same o made.0 other outputs on made.2;
      determined = mesh_determined limits o input m.0 made.0 m.1 made.1;
    }

pub mesh_of_run : (limits : Limits) (words : List (List ℕ)) (folder : FolderSeen) (outputs : Outputs) → OutputsOfRun limits words folder (Ok outputs) → IsMeshOfRunWithin limits words folder outputs
mesh_of_run limits words folder outputs h =
    let o = options_of words in
    let e = h.1.1 in
    mesh_by limits o (words_fault words ≡ None) (λ input. InputAnswer limits folder o (Ok input)) h.2.0 outputs h.1.0 (subst (λ q. InputAnswer limits folder q (Ok h.2.0)) e h.2.1)
    (subst (λ q. MeshedAnswer limits q h.2.0 (Ok outputs)) e h.2.2)

mesh_left : (limits : Limits) (words : List (List ℕ)) (folder : FolderSeen) (out : SinkSeen) (result : Result (Unit {0}) Stop) → EndsByMesh limits words folder out result → IsLeftByMesh limits words folder out (answer_of result)
mesh_left limits words folder =
    end_leaves (OutputsOfRun limits words folder) (IsNumbering limits words folder) (IsMeshOfRunWithin limits words folder) (run_refuses limits words folder) (mesh_of_run limits words folder) folder

end_left_by : (limits : Limits) (b : Bool) (words : List (List ℕ)) (folder : FolderSeen) (out : SinkSeen) (result : Result (Unit {0}) Stop) → EndsBy limits b words folder out result → LeftBy limits b words folder out (answer_of result)
end_left_by limits false = mesh_left limits
end_left_by limits true = check_left

pub end_left : (limits : Limits) (words : List (List ℕ)) (folder : FolderSeen) (out : SinkSeen) (result : Result (Unit {0}) Stop) → EndsSo limits words folder out result → IsLeftWithin limits words folder out (answer_of result)
end_left limits words = end_left_by limits (asks_check words) words

-- ---- what is told

want_answer : (limits : Limits) (b : Bool) (words : List (List ℕ)) (folder : FolderSeen) (out : SinkSeen) → AnswerBy limits b words folder out NoMemory
want_answer limits false words folder out = tt
want_answer limits true words folder out = tt

-- the answer after a stop has its cause, leaves what it may, and has its message
pub stop_answer : (limits : Limits) (words : List (List ℕ)) (folder : FolderSeen) (out err : SinkSeen) (stop : Stop) (s : Status) → EndsSo limits words folder out (Err stop) → IsToldAs tetgen_message stop err s → IsAnswerWithin limits words folder out s
stop_answer limits words folder out err stop s h (inl t) = subst (IsAnswerWithin limits words folder out) (sym t.0) (end_answer limits words folder out (Err stop) h)
stop_answer limits words folder out err stop s h (inr t) = subst (IsAnswerWithin limits words folder out) (sym t.0) (want_answer limits (asks_check words) words folder out)

early_mesh : (limits : Limits) (words : List (List ℕ)) (folder : FolderSeen) (out : SinkSeen) (stop : Stop) → EndsByMesh limits words folder out (Err stop) → IsEarly stop → IsLeftByMesh limits words folder out NoMemory
early_mesh limits words folder = early_leaves (OutputsOfRun limits words folder) (IsNumbering limits words folder) (IsMeshOfRunWithin limits words folder) folder

early_by : (limits : Limits) (b : Bool) (words : List (List ℕ)) (folder : FolderSeen) (out : SinkSeen) (stop : Stop) → EndsBy limits b words folder out (Err stop) → IsEarly stop → LeftBy limits b words folder out NoMemory
early_by limits false = early_mesh limits
early_by limits true = early_check

early_left : (limits : Limits) (words : List (List ℕ)) (folder : FolderSeen) (out : SinkSeen) (stop : Stop) → EndsSo limits words folder out (Err stop) → IsEarly stop → IsLeftWithin limits words folder out NoMemory
early_left limits words = early_by limits (asks_check words) words

pub stop_left : (limits : Limits) (words : List (List ℕ)) (folder : FolderSeen) (out err : SinkSeen) (stop : Stop) (s : Status) → EndsSo limits words folder out (Err stop) → IsToldAs tetgen_message stop err s → IsLeftWithin limits words folder out s
stop_left limits words folder out err stop s h (inl t) = subst (IsLeftWithin limits words folder out) (sym t.0) (end_left limits words folder out (Err stop) h)
stop_left limits words folder out err stop s h (inr t) = subst (IsLeftWithin limits words folder out) (sym t.0) (early_left limits words folder out stop h t.1)

mesh_told : (limits : Limits) (words : List (List ℕ)) (folder : FolderSeen) (out err : SinkSeen) (stop : Stop) → EndsByMesh limits words folder out (Err stop)
    → IsMessagePut (tetgen_message (numbering_in stop) (answer_of (Err stop))) err → IsToldWithin limits words folder err (answer_of (Err stop))
mesh_told limits words folder = end_tells tetgen_message (OutputsOfRun limits words folder) (IsNumbering limits words folder) (run_refuses limits words folder) (numbers_points limits words folder) folder

first_told_by : (limits : Limits) (b : Bool) (words : List (List ℕ)) (folder : FolderSeen) (out err : SinkSeen) (stop : Stop) → EndsBy limits b words folder out (Err stop)
    → IsMessagePut (tetgen_message (numbering_in stop) (answer_of (Err stop))) err → IsToldWithin limits words folder err (answer_of (Err stop))
first_told_by limits false = mesh_told limits
first_told_by limits true = check_told limits

first_told : (limits : Limits) (words : List (List ℕ)) (folder : FolderSeen) (out err : SinkSeen) (stop : Stop) → EndsSo limits words folder out (Err stop)
    → IsMessagePut (tetgen_message (numbering_in stop) (answer_of (Err stop))) err → IsToldWithin limits words folder err (answer_of (Err stop))
first_told limits words = first_told_by limits (asks_check words) words

pub stop_told : (limits : Limits) (words : List (List ℕ)) (folder : FolderSeen) (out err : SinkSeen) (stop : Stop) (s : Status) → EndsSo limits words folder out (Err stop) → IsToldAs tetgen_message stop err s → IsToldWithin limits words folder err s
stop_told limits words folder out err stop s h (inl t) = subst (IsToldWithin limits words folder err) (sym t.0) (first_told limits words folder out err stop h t.1)
stop_told limits words folder out err stop s h (inr t) = subst (IsToldWithin limits words folder err) (sym t.0) (None, (λ e. absurd (not_true e)), t.2)

-- ---- the steps of the run

words_end_by : (limits : Limits) (b : Bool) (words : List (List ℕ)) (folder : FolderSeen) (out : SinkSeen) (answer : Result Options WordsFault) (f : WordsFault) → answer ≡ Err f
    → ((word place : ℕ) → answer ≡ Err (Misunderstood word place) → words_fault words ≡ Some (word, place)) → IsUnchanged folder out → EndsBy limits b words folder out (Err (stop_of_words f))
words_end_by limits false words folder out answer (Misunderstood word place) e usage h = (h, inl (usage word place e), λ t. absurd (not_true t))
words_end_by limits false words folder out answer WordsWanting e usage h = (h.written, inl h.files)
words_end_by limits true words folder out answer (Misunderstood word place) e usage h = (usage word place e, h)
words_end_by limits true words folder out answer WordsWanting e usage h = h

-- where the words are not understood, or no memory was there for them
pub words_end : (limits : Limits) (words : List (List ℕ)) (folder : FolderSeen) (out : SinkSeen) (answer : Result Options WordsFault) (f : WordsFault) → answer ≡ Err f
    → ((word place : ℕ) → answer ≡ Err (Misunderstood word place) → words_fault words ≡ Some (word, place)) → IsUnchanged folder out → EndsSo limits words folder out (Err (stop_of_words f))
words_end limits words = words_end_by limits (asks_check words) words

want_end_by : (limits : Limits) (b : Bool) (words : List (List ℕ)) (folder : FolderSeen) (out : SinkSeen) → IsUnchanged folder out → EndsBy limits b words folder out (Err Wanting)
want_end_by limits false words folder out h = (h.written, inl h.files)
want_end_by limits true words folder out h = h

-- where memory is wanting before anything is stored
pub want_end : (limits : Limits) (words : List (List ℕ)) (folder : FolderSeen) (out : SinkSeen) → IsUnchanged folder out → EndsSo limits words folder out (Err Wanting)
want_end limits words = want_end_by limits (asks_check words) words

-- the words ask for what the options say
asks_as : (words : List (List ℕ)) (options : Options) (b : Bool) → WordsAnswer words (Ok options) → options.check ≡ b → b ≡ asks_check words
asks_as words options b w e = sym e ∙ ap (λ (o : Options). o.check) w.1

-- where the words do not ask for a check
by_mesh : (limits : Limits) (words : List (List ℕ)) (folder : FolderSeen) (out : SinkSeen) (options : Options) (end : Result (Unit {0}) Stop) → WordsAnswer words (Ok options) → options.check ≡ false
    → EndsByMesh limits words folder out end → EndsSo limits words folder out end
by_mesh limits words folder out options end w e h = subst (λ b. EndsBy limits b words folder out end) (asks_as words options false w e) h

-- where they do
pub by_check : (limits : Limits) (words : List (List ℕ)) (folder : FolderSeen) (out : SinkSeen) (options : Options) (end : Result (Unit {0}) Stop) → WordsAnswer words (Ok options) → options.check ≡ true
    → ChecksSo options folder out end → EndsSo limits words folder out end
by_check limits words folder out options end w e h =
    subst (λ b. EndsBy limits b words folder out end) (asks_as words options true w e) (checked_end words folder out end w.0 (subst (λ o. ChecksSo o folder out end) w.1 h))

-- where there is no input
pub input_end : (limits : Limits) (words : List (List ℕ)) (folder : FolderSeen) (out : SinkSeen) (options : Options) (s : Status) → WordsAnswer words (Ok options) → options.check ≡ false
    → InputAnswer limits folder options (Err s)
    → IsUnchanged folder out → EndsSo limits words folder out (Err (Refused s None))
input_end limits words folder out options s w n r h =
    by_mesh limits words folder out options (Err (Refused s None)) w n (h, inr (options, w, inl r), λ t. absurd (not_true (subst IsTrue (input_silent limits folder options options.piecewise s r) t)))

-- where the input is over a limit
pub bound_end : (limits : Limits) (words : List (List ℕ)) (folder : FolderSeen) (out : SinkSeen) (options : Options) (input : Input) (s : Status) → WordsAnswer words (Ok options) → options.check ≡ false
    → InputAnswer limits folder options (Ok input) → BoundAnswer limits options input (Err s) → IsUnchanged folder out → EndsSo limits words folder out (Err (Refused s None))
bound_end limits words folder out options input s w n r b h =
    by_mesh limits words folder out options (Err (Refused s None)) w n (h, inr (options, w, inr (input, r, inl b)), λ t. absurd (not_true (subst IsTrue (bound_silent limits options input s b) t)))

-- where its points and its complex have no mesh
pub mesh_end : (limits : Limits) (words : List (List ℕ)) (folder : FolderSeen) (out : SinkSeen) (options : Options) (input : Input) (bound : Bound) (s : Status) → WordsAnswer words (Ok options) → options.check ≡ false
    → InputAnswer limits folder options (Ok input) → BoundAnswer limits options input (Ok bound) → AndThen (MeshAnswer options bound) (OutputsAnswer options) (Err s) → IsUnchanged folder out
    → EndsSo limits words folder out (Err (Refused s (Some (numbering_of bound.table))))
mesh_end limits words folder out options input bound s w n r b m h =
    by_mesh limits words folder out options (Err (Refused s (Some (numbering_of bound.table)))) w n (h, inr (options, w, inr (input, r, inr (bound, b, m))), λ t. (input, subst (λ o. InputAnswer limits folder o (Ok input)) w.1 r, bound, subst (λ o. BoundAnswer limits o input (Ok bound)) w.1 b, refl))

-- where there are outputs
pub outputs_run : (limits : Limits) (words : List (List ℕ)) (folder : FolderSeen) (options : Options) (input : Input) (bound : Bound) (outputs : Outputs) → WordsAnswer words (Ok options)
    → InputAnswer limits folder options (Ok input) → BoundAnswer limits options input (Ok bound) → AndThen (MeshAnswer options bound) (OutputsAnswer options) (Ok outputs) → OutputsOfRun limits words folder (Ok outputs)
outputs_run limits words folder options input bound outputs w r b m = (options, w, (input, r, (bound, b, m)))

-- the end of the stores and of the summary is that of the run
pub finish_end : (limits : Limits) (words : List (List ℕ)) (part folder : FolderSeen) (out : SinkSeen) (options : Options) (outputs : Outputs) (result : Result (Unit {0}) Stop) → WordsAnswer words (Ok options)
    → options.check ≡ false → OutputsOfRun limits words folder (Ok outputs) → part.files_before ≡ folder.files_before → part.files_now ≡ folder.files_now → folder.write_faults_before ≤ part.write_faults_before
    → part.write_faults_now ≡ folder.write_faults_now → FinishesSo outputs part out result → EndsSo limits words folder out result
finish_end limits words part folder out options outputs result w n ran b now e f h =
    by_mesh limits words folder out options result w n
    (finish_ends (OutputsOfRun limits words folder) (IsNumbering limits words folder) outputs part folder out result ran b now e f h)
