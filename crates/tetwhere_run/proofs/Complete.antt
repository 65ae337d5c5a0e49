-- The answer that has a cause is given, where the files are told, no fault rose and memory is not wanting.
use Rattle.std.proofs.Common.{◌≡◌, ◌≢◌, ◌∙◌, ℕ, List, Some, None, Result, Ok, Err, refl, sym, ap}
use Rattle.tet_ports.specs.Files.{Files}
use Rattle.tet_ports.specs.Seen.{FolderSeen}
use Rattle.tet_ports.specs.Seen.{SinkSeen}
use Rattle.mesh_check.specs.declared.fault.CheckFault.{CheckFault}
use Rattle.mesh_check.specs.declared.fault.CheckFault.TheVariants.{NoMemory}
use Rattle.mesh_check.proofs.Once.{IsDecided, IsTold}
use Rattle.tetwhere_run.specs.Words.{bad_word}
use Rattle.tetwhere_run.proofs.Once.{locate_once}
use Rattle.tetwhere_run.specs.Run.{mesh_base_of, queries_of, FilesAnswer, HasCause, IsQueryAnswer, IsCompleteQuery, HasNoReadFault}
use Rattle.tetwhere_run.specs.declared.status.WhereStatus.{WhereStatus}
use Rattle.tetwhere_run.specs.declared.status.WhereStatus.TheVariants.{Done, Usage, Refused, WriteFault}

abbrev status_by : Result (List ℕ) CheckFault → WhereStatus
status_by (Ok lines) = Done
status_by (Err fault) = Refused fault

-- what a cause is: words that are not two names, or what the files answer
data Cause (words : List (List ℕ)) (folder : FolderSeen) (s : WhereStatus) : Type 0 where
  misnamed : (word : ℕ) → bad_word words ≡ Some word → s ≡ Usage word 1 → Cause words folder s
  answered : (r : Result (List ℕ) CheckFault) → IsDecided r → FilesAnswer words folder r → s ≡ status_by r → Cause words folder s

cause_of : (words : List (List ℕ)) (folder : FolderSeen) (s : WhereStatus) → HasCause words folder s → Cause words folder s
cause_of words folder Done h = answered (Ok h.0) tt h.1 refl
cause_of words folder WriteFault h = absurd h
cause_of words folder (Refused NoMemory) h = absurd h
cause_of words folder (Usage word place) h = misnamed word h.0 (ap (λ p. Usage word p) h.1)
cause_of words folder (Refused fault) h = answered (Err fault) (λ e. cc) h refl

named_or_not : (words : List (List ℕ)) (word : ℕ) → bad_word words ≡ Some word → bad_word words ≡ None → ⊥
named_or_not words word h k = cc

word_same : (words : List (List ℕ)) (word other : ℕ) → bad_word words ≡ Some word → bad_word words ≡ Some other → word ≡ other
word_same words word other h k = cc

cause_same : (told : Files) (words : List (List ℕ)) (folder : FolderSeen) (s t : WhereStatus) → IsTold told folder → Cause words folder s → Cause words folder t → s ≡ t
cause_same told words folder s t i (misnamed word h e) (misnamed other k f) = e ∙ ap (λ w. Usage w 1) (word_same words word other h k) ∙ sym f
cause_same told words folder s t i (misnamed word h e) (answered r m k f) = absurd (named_or_not words word h k.0)
cause_same told words folder s t i (answered r n h e) (misnamed word k f) = absurd (named_or_not words word k h.0)
cause_same told words folder s t i (answered r n h e) (answered q m k f) =
    e ∙ ap status_by (locate_once told folder (mesh_base_of words) (queries_of words) i r q n m h.1 k.1) ∙ sym f

-- where no fault rose, an answer that memory was not wanting for has its cause
caused : (words : List (List ℕ)) (folder : FolderSeen) (out : SinkSeen) (s : WhereStatus) → HasNoReadFault folder out → s ≢ Refused NoMemory → IsQueryAnswer words folder out s → HasCause words folder s
caused words folder out Done f n h = (h.0, h.1)
caused words folder out WriteFault f n h = f.1 h.3
caused words folder out (Refused NoMemory) f n h = n refl
caused words folder out s f n h = h.1

pub answer_complete : (words : List (List ℕ)) (folder : FolderSeen) (out : SinkSeen) (s : WhereStatus) → IsQueryAnswer words folder out s → IsCompleteQuery words folder out s
answer_complete words folder out s h told e f n other c =
    cause_same told words folder s other (record { files = e; no_fault = f.0 }) (cause_of words folder s (caused words folder out s f n h)) (cause_of words folder other c)
