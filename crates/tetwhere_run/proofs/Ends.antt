-- How a run ends, put together.
use Rattle.std.proofs.Common.{◌≡◌, ◌≢◌, inl, inr, ℕ, List, Some, Result, Ok, Err, refl, sym, subst}
use Rattle.tet_ports.specs.Seen.{FolderSeen}
use Rattle.tet_ports.specs.Seen.{SinkSeen, IsMessagePut}
use Rattle.mesh_check.specs.declared.fault.CheckFault.{CheckFault}
use Rattle.mesh_check.specs.declared.fault.CheckFault.TheVariants.{NoMemory}
use Rattle.tetwhere_run.specs.Words.{bad_word}
use Rattle.tetwhere_run.specs.Messages.{query_message_of}
use Rattle.tetwhere_run.specs.Run.{FilesAnswer, IsAsBefore, IsQueryAnswer, IsQueryTold, QueryEndsSo, IsUnput, IsLinesPut, IsEarlyQuery, IsQueryToldAs}
use Rattle.tetwhere_run.specs.declared.status.WhereStatus.{WhereStatus}
use Rattle.tetwhere_run.specs.declared.status.WhereStatus.TheVariants.{Done, Usage, Refused, WriteFault}

-- where the words are not two names
pub misnamed_end : (words : List (List ℕ)) (folder : FolderSeen) (out : SinkSeen) (word : ℕ) → IsAsBefore out → bad_word words ≡ Some word → QueryEndsSo words folder out (Err (Usage word 1))
misnamed_end words folder out word b h = ((λ e. cc), (b, (h, refl)))

-- where the files are refused
pub refused_end : (words : List (List ℕ)) (folder : FolderSeen) (out : SinkSeen) (f : CheckFault) → IsAsBefore out → FilesAnswer words folder (Err f) → QueryEndsSo words folder out (Err (Refused f))
refused_end words folder out NoMemory b h = ((λ e. cc), b)
refused_end words folder out f b h = ((λ e. cc), (b, h))

unput_end : (words : List (List ℕ)) (folder : FolderSeen) (out : SinkSeen) (lines : List ℕ) (s : WhereStatus) → FilesAnswer words folder (Ok lines) → IsUnput lines out s → QueryEndsSo words folder out (Err s)
unput_end words folder out lines WriteFault h p = ((λ e. cc), (lines, h, p.0, p.1))
unput_end words folder out lines (Refused NoMemory) h p = ((λ e. cc), p)
unput_end words folder out lines s h p = absurd p

-- where there are lines
pub put_end : (words : List (List ℕ)) (folder : FolderSeen) (out : SinkSeen) (lines : List ℕ) (r : Result (Unit {0}) WhereStatus) → FilesAnswer words folder (Ok lines) → IsLinesPut lines out r → QueryEndsSo words folder out r
put_end words folder out lines (Ok done) h p = (lines, h, p)
put_end words folder out lines (Err s) h p = unput_end words folder out lines s h p

early_answer : (words : List (List ℕ)) (folder : FolderSeen) (out : SinkSeen) (s : WhereStatus) → QueryEndsSo words folder out (Err s) → IsEarlyQuery s → IsQueryAnswer words folder out (Refused NoMemory)
early_answer words folder out Done h e = absurd (h.0 refl)
early_answer words folder out WriteFault h e = absurd e
early_answer words folder out (Refused NoMemory) h e = h.1
early_answer words folder out s h e = h.1.0

-- the answer after a refusal has its cause
pub refusal_answer : (words : List (List ℕ)) (folder : FolderSeen) (out err : SinkSeen) (s result : WhereStatus) → QueryEndsSo words folder out (Err s) → IsQueryToldAs s err result → IsQueryAnswer words folder out result
refusal_answer words folder out err s result h (inl t) = subst (IsQueryAnswer words folder out) (sym t.0) h.1
refusal_answer words folder out err s result h (inr t) = subst (IsQueryAnswer words folder out) (sym t.0) (early_answer words folder out s h t.1)

message_told : (err : SinkSeen) (s : WhereStatus) → s ≢ Done → IsMessagePut (query_message_of s) err → IsQueryTold err s
message_told err Done n p = absurd (n refl)
message_told err s n p = p

-- and its message
pub refusal_told : (err : SinkSeen) (s result : WhereStatus) → s ≢ Done → IsQueryToldAs s err result → IsQueryTold err result
refusal_told err s result n (inl t) = subst (IsQueryTold err) (sym t.0) (message_told err s n t.1)
refusal_told err s result n (inr t) = subst (IsQueryTold err) (sym t.0) t.2
