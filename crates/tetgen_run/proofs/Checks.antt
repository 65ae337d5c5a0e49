-- What a run that checks a mesh leaves, answers and tells, put together.
use Rattle.std.proofs.Common.{◌≡◌, ℕ, true, false, List, Option, Some, None, Result, Ok, Err, refl, sym, subst, ap, ◌∙◌}
use Rattle.std.specs.Prelude.{◌≢◌, IsTrue}
use Rattle.mesh_check.proofs.Once.{check_once, IsDecided}
use Rattle.mesh_check.specs.declared.fault.CheckFault.{CheckFault}
use Rattle.mesh_check.specs.declared.fault.CheckFault.TheVariants as check
use Rattle.mesh_check.specs.Telling.{sound_line}
use Rattle.command_words.specs.Grammar.{words_fault}
use Rattle.command_words.specs.Meaning.{options_of}
use Rattle.command_words.specs.declared.options.Options.{Options}
use Rattle.node_files.specs.declared.limits.Limits.{Limits}
use Rattle.tet_ports.specs.Seen.{IsMessagePut, FolderSeen, SinkSeen}
use Rattle.run_steps.specs.declared.numbering.Numbering.{Numbering}
use Rattle.run_steps.specs.declared.status.Status.{Status}
use Rattle.run_steps.specs.declared.status.Status.TheVariants.{Done, Usage, NoMemory, WriteFault}
use Rattle.tet_ports.specs.Counts.{Rose}
use Rattle.tet_ports.specs.Files.{Files}
use Rattle.tetgen_run.specs.Ends.{HasNoFault, IsEarly, IsSummed, IsUnchanged, answer_of, numbering_in}
use Rattle.tetgen_run.specs.Run.{Checked, IsCheckAnswer, IsLeftByCheck, IsNumbering, IsToldWithin, sound_summary, status_of_check, tetgen_message}
use Rattle.tetgen_run.specs.Steps.{ChecksSo, EndsByCheck}
use Rattle.tetgen_run.specs.Stops.{stop_of_check}
use Rattle.tetgen_run.specs.declared.stop.Stop.{Stop}
use Rattle.tetgen_run.specs.declared.stop.Stop.TheVariants.{Refused, Unwritten, Unsummed, NoMemory as Wanting}
use Rattle.tetgen_run.proofs.Refusals.{IsRefusal, IsSilent, not_true, not_done, refusal_told}

-- ---- the refusals of a check

status_is : (fault : CheckFault) (s : Status) (by : Option Numbering) → stop_of_check fault ≡ Refused s by → status_of_check fault ≡ s
status_is fault s by e = ap (λ stop. answer_of (Err stop)) e

fault_refuses : (fault : CheckFault) → IsRefusal (status_of_check fault)
fault_refuses (check.Missing name) = tt
fault_refuses (check.ReadFault name) = tt
fault_refuses (check.TooLong name) = tt
fault_refuses (check.BadText name fault) = tt
fault_refuses (check.TooMany count) = tt
fault_refuses (check.OffGrid line) = tt
fault_refuses (check.Unsound defect first) = tt
fault_refuses check.NoMemory = tt

fault_silent : (fault : CheckFault) → IsSilent (status_of_check fault)
fault_silent (check.Missing name) = refl
fault_silent (check.ReadFault name) = refl
fault_silent (check.TooLong name) = refl
fault_silent (check.BadText name fault) = refl
fault_silent (check.TooMany count) = refl
fault_silent (check.OffGrid line) = refl
fault_silent (check.Unsound defect first) = refl
fault_silent check.NoMemory = refl

-- none is of the words
not_usage : (fault : CheckFault) (word place : ℕ) → status_of_check fault ≡ Usage word place → ⊥
not_usage (check.Missing name) word place e = cc
not_usage (check.ReadFault name) word place e = cc
not_usage (check.TooLong name) word place e = cc
not_usage (check.BadText name fault) word place e = cc
not_usage (check.TooMany count) word place e = cc
not_usage (check.OffGrid line) word place e = cc
not_usage (check.Unsound defect first) word place e = cc
not_usage check.NoMemory word place e = cc

fault_answer : (words : List (List ℕ)) (folder : FolderSeen) (out : SinkSeen) (fault : CheckFault) → words_fault words ≡ None → Checked (options_of words) folder (Err fault)
    → IsCheckAnswer words folder out (status_of_check fault)
fault_answer words folder out (check.Missing name) w c = (check.Missing name, w, c, refl)
fault_answer words folder out (check.ReadFault name) w c = (check.ReadFault name, w, c, refl)
fault_answer words folder out (check.TooLong name) w c = (check.TooLong name, w, c, refl)
fault_answer words folder out (check.BadText name fault) w c = (check.BadText name fault, w, c, refl)
fault_answer words folder out (check.TooMany count) w c = (check.TooMany count, w, c, refl)
fault_answer words folder out (check.OffGrid line) w c = (check.OffGrid line, w, c, refl)
fault_answer words folder out (check.Unsound defect first) w c = (check.Unsound defect first, w, c, refl)
fault_answer words folder out check.NoMemory w c = tt

refusal_left : (words : List (List ℕ)) (folder : FolderSeen) (out : SinkSeen) (s : Status) → IsRefusal s → IsUnchanged folder out → IsLeftByCheck words folder out s
refusal_left words folder out Done r h = absurd r
refusal_left words folder out (WriteFault name) r h = absurd r
refusal_left words folder out s r h = h

-- ---- how a check ends

-- where the words are in the grammar
pub checked_end : (words : List (List ℕ)) (folder : FolderSeen) (out : SinkSeen) (end : Result (Unit {0}) Stop) → words_fault words ≡ None → ChecksSo (options_of words) folder out end
    → EndsByCheck words folder out end
checked_end words folder out (Err (Refused (Usage word place) by)) w h = absurd (not_usage h.0 word place (status_is h.0 (Usage word place) by h.2))
checked_end words folder out (Err Wanting) w h = h
checked_end words folder out end w h = (w, h)

-- where the check refuses
pub fault_end : (options : Options) (folder : FolderSeen) (out : SinkSeen) (fault : CheckFault) → Checked options folder (Err fault) → IsUnchanged folder out
    → ChecksSo options folder out (Err (stop_of_check fault))
fault_end options folder out (check.Missing name) c h = (check.Missing name, c, refl, h)
fault_end options folder out (check.ReadFault name) c h = (check.ReadFault name, c, refl, h)
fault_end options folder out (check.TooLong name) c h = (check.TooLong name, c, refl, h)
fault_end options folder out (check.BadText name fault) c h = (check.BadText name fault, c, refl, h)
fault_end options folder out (check.TooMany count) c h = (check.TooMany count, c, refl, h)
fault_end options folder out (check.OffGrid line) c h = (check.OffGrid line, c, refl, h)
fault_end options folder out (check.Unsound defect first) c h = (check.Unsound defect first, c, refl, h)
fault_end options folder out check.NoMemory c h = h

-- where the mesh is sound
pub sound_end : (options : Options) (folder : FolderSeen) (out : SinkSeen) (count : ℕ) (result : Result (Unit {0}) Stop) → Checked options folder (Ok count)
    → folder.files_now ≡ folder.files_before → IsSummed (sound_summary options count) out result → ChecksSo options folder out result
sound_end options folder out count (Ok done) c f s = (count, c, f, s)
sound_end options folder out count (Err Unsummed) c f s = (count, c, f, s.0, s.1)
sound_end options folder out count (Err Wanting) c f s = record { files = f; written = s }
sound_end options folder out count (Err (Refused status by)) c f s = absurd s
sound_end options folder out count (Err (Unwritten text)) c f s = absurd s

quiet_summary : (options : Options) (count : ℕ) → options.quiet ≡ true → sound_summary options count ≡ None
quiet_summary options count e = rw e refl

loud_summary : (options : Options) (count : ℕ) → options.quiet ≡ false → sound_summary options count ≡ Some (sound_line count)
loud_summary options count e = rw e refl

-- where nothing is told of it
pub quiet_end : (options : Options) (folder : FolderSeen) (out : SinkSeen) (count : ℕ) → options.quiet ≡ true → Checked options folder (Ok count)
    → IsUnchanged folder out → ChecksSo options folder out (Ok tt)
quiet_end options folder out count e c h =
    sound_end options folder out count (Ok tt) c h.files (subst (λ summary. IsSummed summary out (Ok tt)) (sym (quiet_summary options count e)) h.written)

-- where a line is put
pub loud_end : (options : Options) (folder : FolderSeen) (out : SinkSeen) (count : ℕ) (result : Result (Unit {0}) Stop) → options.quiet ≡ false → Checked options folder (Ok count)
    → folder.files_now ≡ folder.files_before → IsSummed (Some (sound_line count)) out result → ChecksSo options folder out result
loud_end options folder out count result e c f s =
    sound_end options folder out count result c f (subst (λ summary. IsSummed summary out result) (sym (loud_summary options count e)) s)

-- ---- the answer

refused_answer : (words : List (List ℕ)) (folder : FolderSeen) (out : SinkSeen) (s : Status) (by : Option Numbering) → EndsByCheck words folder out (Err (Refused s by)) → IsCheckAnswer words folder out s
refused_answer words folder out (Usage word place) by h = h.0
refused_answer words folder out s by h = subst (IsCheckAnswer words folder out) (status_is h.1.0 s by h.1.2) (fault_answer words folder out h.1.0 h.0 h.1.1)

pub check_answer : (words : List (List ℕ)) (folder : FolderSeen) (out : SinkSeen) (result : Result (Unit {0}) Stop) → EndsByCheck words folder out result
    → IsCheckAnswer words folder out (answer_of result)
check_answer words folder out (Ok done) h = (h.1.0, h.0, h.1.1)
check_answer words folder out (Err (Refused s by)) h = refused_answer words folder out s by h
check_answer words folder out (Err (Unwritten text)) h = absurd h.1
check_answer words folder out (Err Unsummed) h = (h.1.0, h.0, h.1.1, h.1.4)
check_answer words folder out (Err Wanting) h = tt

-- the status of a check that ended so
abbrev status_of : Result ℕ CheckFault → Status
status_of (Ok count) = Done
status_of (Err fault) = status_of_check fault

-- why a check answers so
data Cause (words : List (List ℕ)) (folder : FolderSeen) (s : Status) : Type 0 where
  misunderstood : (at : ℕ × ℕ) → words_fault words ≡ Some at → s ≡ Usage at.0 at.1 → Cause words folder s
  checked : (result : Result ℕ CheckFault) → words_fault words ≡ None → Checked (options_of words) folder result → IsDecided result → s ≡ status_of result → Cause words folder s

cause_of : (words : List (List ℕ)) (folder : FolderSeen) (out : SinkSeen) (s : Status) → HasNoFault folder out → s ≢ NoMemory → IsCheckAnswer words folder out s → Cause words folder s
cause_of words folder out Done f n h = checked (Ok h.0) h.1 h.2 tt refl
cause_of words folder out (Usage word place) f n h = misunderstood (word, place) h refl
cause_of words folder out (WriteFault None) f n h = absurd (f.2 h.3)
cause_of words folder out (WriteFault (Some name)) f n h = absurd h
cause_of words folder out NoMemory f n h = absurd (n refl)
cause_of words folder out s f n h = checked (Err h.0) h.1 h.2 (λ e. n (sym h.3 ∙ ap status_of_check e)) (sym h.3)

some_same : {A : Type 0} (a b : A) → Some a ≡ Some b → a ≡ b
some_same a b e = cc

causes_same : (words : List (List ℕ)) (folder : FolderSeen) (told : Files) → folder.files_before ≡ Some told → ¬ Rose folder.read_faults_before folder.read_faults_now → (one two : Status)
    → Cause words folder one → Cause words folder two → one ≡ two
causes_same words folder told e f one two (misunderstood a w s) (misunderstood b v t) =
    s ∙ ap (λ (at : ℕ × ℕ). Usage at.0 at.1) (some_same a b (sym w ∙ v)) ∙ sym t
causes_same words folder told e f one two (misunderstood a w s) (checked q v c d t) = absurd (cc)
causes_same words folder told e f one two (checked p w c d s) (misunderstood a v t) = absurd (cc)
causes_same words folder told e f one two (checked p w c d s) (checked q v k m t) =
    let o = options_of words in
    s ∙ ap status_of (check_once told folder o.base o.decimals (record { files = e; no_fault = f }) p q d m c k) ∙ sym t

-- where no fault rose, it has one answer beside want of memory
pub check_same : (words : List (List ℕ)) (folder : FolderSeen) (out : SinkSeen) (told : Files) → folder.files_before ≡ Some told → HasNoFault folder out → (one two : Status)
    → one ≢ NoMemory → two ≢ NoMemory → IsCheckAnswer words folder out one → IsCheckAnswer words folder out two → one ≡ two
check_same words folder out told e f one two n m h k = causes_same words folder told e f.0 one two (cause_of words folder out one f n h) (cause_of words folder out two f m k)

-- ---- what is left

refused_left : (words : List (List ℕ)) (folder : FolderSeen) (out : SinkSeen) (s : Status) (by : Option Numbering) → EndsByCheck words folder out (Err (Refused s by)) → IsUnchanged folder out
refused_left words folder out (Usage word place) by h = h.1
refused_left words folder out s by h = h.1.3

refused_refuses : (words : List (List ℕ)) (folder : FolderSeen) (out : SinkSeen) (s : Status) (by : Option Numbering) → EndsByCheck words folder out (Err (Refused s by)) → IsRefusal s
refused_refuses words folder out (Usage word place) by h = tt
refused_refuses words folder out s by h = subst IsRefusal (status_is h.1.0 s by h.1.2) (fault_refuses h.1.0)

refused_silent : (words : List (List ℕ)) (folder : FolderSeen) (out : SinkSeen) (s : Status) (by : Option Numbering) → EndsByCheck words folder out (Err (Refused s by)) → IsSilent s
refused_silent words folder out (Usage word place) by h = refl
refused_silent words folder out s by h = subst IsSilent (status_is h.1.0 s by h.1.2) (fault_silent h.1.0)

pub check_left : (words : List (List ℕ)) (folder : FolderSeen) (out : SinkSeen) (result : Result (Unit {0}) Stop) → EndsByCheck words folder out result
    → IsLeftByCheck words folder out (answer_of result)
check_left words folder out (Ok done) h = h.1
check_left words folder out (Err (Refused s by)) h = refusal_left words folder out s (refused_refuses words folder out s by h) (refused_left words folder out s by h)
check_left words folder out (Err (Unwritten text)) h = absurd h.1
check_left words folder out (Err Unsummed) h = (h.1.0, h.1.1, h.1.2, h.1.3)
check_left words folder out (Err Wanting) h = h

pub early_check : (words : List (List ℕ)) (folder : FolderSeen) (out : SinkSeen) (stop : Stop) → EndsByCheck words folder out (Err stop) → IsEarly stop → IsLeftByCheck words folder out NoMemory
early_check words folder out (Refused s by) h e = refused_left words folder out s by h
early_check words folder out (Unwritten text) h e = absurd e
early_check words folder out Unsummed h e = absurd e
early_check words folder out Wanting h e = absurd e

-- ---- what is told

pub check_told : (limits : Limits) (words : List (List ℕ)) (folder : FolderSeen) (out err : SinkSeen) (stop : Stop) → EndsByCheck words folder out (Err stop)
    → IsMessagePut (tetgen_message (numbering_in stop) (answer_of (Err stop))) err → IsToldWithin limits words folder err (answer_of (Err stop))
check_told limits words folder out err (Refused s by) h p =
    refusal_told tetgen_message (IsNumbering limits words folder) err s by (not_done s (refused_refuses words folder out s by h)) (λ t. absurd (not_true (subst IsTrue (refused_silent words folder out s by h) t))) p
check_told limits words folder out err (Unwritten text) h p = absurd h.1
check_told limits words folder out err Unsummed h p = (None, (λ t. absurd (not_true t)), p)
check_told limits words folder out err Wanting h p = (None, (λ t. absurd (not_true t)), p)
