-- What a run answers, leaves and tells whose steps make outputs and store them, put together.
use Rattle.std.proofs.Common.{◌≡◌, ◌≤◌, inl, inr, ℕ, false, List, [], Option, Some, None, Result, Ok, Err, refl, sym, subst, ◌∙◌, arith}
use Rattle.std.specs.Prelude.{◌≢◌}
use Rattle.std.proofs.lemmas.List.{append-nil}
use Rattle.tet_ports.specs.Counts.{Rose}
use Rattle.tet_ports.specs.Seen.{IsMessagePut, FolderSeen, SinkSeen}
use Rattle.run_steps.specs.Reports.{text_in}
use Rattle.run_steps.specs.Stores.{in_order, with_files, AreLeft, IfFailed}
use Rattle.run_steps.specs.declared.numbering.Numbering.{Numbering}
use Rattle.run_steps.specs.declared.outputs.Outputs.{Outputs}
use Rattle.run_steps.specs.declared.status.Status.{Status}
use Rattle.run_steps.specs.declared.status.Status.TheVariants.{Done, NoMemory, WriteFault}
use Rattle.run_steps.specs.declared.store.StoreStop.{StoreStop}
use Rattle.run_steps.specs.declared.store.StoreStop.TheVariants.{Failed, NoMemory as StoreWanting}
use Rattle.run_steps.specs.Steps.{forced_answer}
use Rattle.run_steps.proofs.Steps.{IsDecided, IsSame, IsSameBy, status_by}
use Rattle.tetgen_run.specs.Ends.{AnswersBy, EndsWith, FinishesSo, HasNoFault, IsEarly, IsSummed, IsToldAs, IsUnchanged, LeavesBy, TellsBy, answer_of, numbering_in}
use Rattle.run_steps.specs.Statuses.{names_points}
use Rattle.tetgen_run.specs.Stops.{stop_of_store}
use Rattle.tetgen_run.specs.declared.stop.Stop.{Stop}
use Rattle.tetgen_run.specs.declared.stop.Stop.TheVariants.{Refused, Unwritten, Unsummed, NoMemory as Wanting}
use Rattle.tetgen_run.proofs.Refusals.{IsRefusal, not_done, refusal_told}

-- the refusals of the steps are neither Done nor a fault of a store or of the summary
abbrev pub Refuses : (Result Outputs Status → Type 0) → Type 0
Refuses Made = (s : Status) → Made (Err s) → IsRefusal s

-- silent statuses have every numbering
abbrev pub NumbersPoints : (Status → Option Numbering → Type 0) → Type 0
NumbersPoints Numbered = (s : Status) (by : Option Numbering) → names_points s ≡ false → Numbered s by

-- ---- the answer

refusal_answer : (Made : Result Outputs Status → Type 0) (folder : FolderSeen) (out : SinkSeen) (s : Status) → Made (Err s) → IsRefusal s → AnswersBy Made folder out s
refusal_answer Made folder out Done h r = absurd r
refusal_answer Made folder out (WriteFault name) h r = absurd r
refusal_answer Made folder out NoMemory h r = tt
refusal_answer Made folder out s h r = h

pub end_answers : (Made : Result Outputs Status → Type 0) (Numbered : Status → Option Numbering → Type 0) → Refuses Made → (folder : FolderSeen) (out : SinkSeen) (result : Result (Unit {0}) Stop)
    → EndsWith Made Numbered folder out result → AnswersBy Made folder out (answer_of result)
end_answers Made Numbered refuses folder out (Ok done) h = (h.0, h.1)
end_answers Made Numbered refuses folder out (Err (Refused status by)) h = refusal_answer Made folder out status h.1 (refuses status h.1)
end_answers Made Numbered refuses folder out (Err (Unwritten text)) h = (h.0, h.1, h.4)
end_answers Made Numbered refuses folder out (Err Unsummed) h = (h.0, h.1, h.4)
end_answers Made Numbered refuses folder out (Err Wanting) h = tt

-- what answers so has such outputs, or such a refusal
record Outcome (read : Status → Status) (Made : Result Outputs Status → Type 0) (s : Status) : Type 0 where
  result : Result Outputs Status
  ran : Made result
  decided : IsDecided result
  is : read s ≡ status_by read result

outcome_of : (read : Status → Status) (Made : Result Outputs Status → Type 0) (folder : FolderSeen) (out : SinkSeen) (s : Status) → read Done ≡ Done → HasNoFault folder out → s ≢ NoMemory → AnswersBy Made folder out s
    → Outcome read Made s
outcome_of read Made folder out Done e f n h = record { result = Ok h.0; ran = h.1; decided = tt; is = e }
outcome_of read Made folder out (WriteFault None) e f n h = absurd (f.2 h.2)
outcome_of read Made folder out (WriteFault (Some name)) e f n h = absurd (f.1 h.2)
outcome_of read Made folder out NoMemory e f n h = absurd (n refl)
outcome_of read Made folder out s e f n h = record { result = Err s; ran = h; decided = n; is = refl }

-- where the steps have one status, as it is read, so has the answer
pub answers_same_by : (read : Status → Status) (Made : Result Outputs Status → Type 0) → read Done ≡ Done → IsSameBy read Made → (folder : FolderSeen) (out : SinkSeen) → HasNoFault folder out → (one two : Status)
    → one ≢ NoMemory → two ≢ NoMemory → AnswersBy Made folder out one → AnswersBy Made folder out two → read one ≡ read two
answers_same_by read Made e same folder out f one two n m h k =
    let a = outcome_of read Made folder out one e f n h in
    let b = outcome_of read Made folder out two e f m k in
    a.is ∙ same a.result b.result a.decided b.decided a.ran b.ran ∙ sym b.is

pub answers_same : (Made : Result Outputs Status → Type 0) → IsSame Made → (folder : FolderSeen) (out : SinkSeen) → HasNoFault folder out → (one two : Status)
    → one ≢ NoMemory → two ≢ NoMemory → AnswersBy Made folder out one → AnswersBy Made folder out two → forced_answer one ≡ forced_answer two
answers_same Made = answers_same_by forced_answer Made refl

-- ---- what is left

refusal_leaves : (P : Outputs → Type 0) (folder : FolderSeen) (out : SinkSeen) (s : Status) → IsRefusal s → IsUnchanged folder out → LeavesBy P folder out s
refusal_leaves P folder out Done r h = absurd r
refusal_leaves P folder out (WriteFault name) r h = absurd r
refusal_leaves P folder out NoMemory r h = (h.written, inl h.files)
refusal_leaves P folder out s r h = h

pub end_leaves : (Made : Result Outputs Status → Type 0) (Numbered : Status → Option Numbering → Type 0) (P : Outputs → Type 0) → Refuses Made → ((outputs : Outputs) → Made (Ok outputs) → P outputs)
    → (folder : FolderSeen) (out : SinkSeen) (result : Result (Unit {0}) Stop) → EndsWith Made Numbered folder out result → LeavesBy P folder out (answer_of result)
end_leaves Made Numbered P refuses has folder out (Ok done) h = (h.0, has h.0 h.1, h.2, h.3)
end_leaves Made Numbered P refuses has folder out (Err (Refused status by)) h = refusal_leaves P folder out status (refuses status h.1) h.0
end_leaves Made Numbered P refuses has folder out (Err (Unwritten text)) h = (h.0, has h.0 h.1, h.2, h.3)
end_leaves Made Numbered P refuses has folder out (Err Unsummed) h = (h.0, has h.0 h.1, h.2, h.3)
end_leaves Made Numbered P refuses has folder out (Err Wanting) (w, inl h) = (w, inl h)
end_leaves Made Numbered P refuses has folder out (Err Wanting) (w, inr h) = (w, inr (h.0, has h.0 h.1, h.2))

-- ---- after a stop

-- the answer after a stop has its cause
pub stop_answers : (message : Option Numbering → Status → List ℕ) (Made : Result Outputs Status → Type 0) (Numbered : Status → Option Numbering → Type 0) → Refuses Made → (folder : FolderSeen) (out err : SinkSeen) (stop : Stop) (s : Status)
    → EndsWith Made Numbered folder out (Err stop) → IsToldAs message stop err s → AnswersBy Made folder out s
stop_answers message Made Numbered refuses folder out err stop s h (inl t) = subst (AnswersBy Made folder out) (sym t.0) (end_answers Made Numbered refuses folder out (Err stop) h)
stop_answers message Made Numbered refuses folder out err stop s h (inr t) = subst (AnswersBy Made folder out) (sym t.0) tt

pub early_leaves : (Made : Result Outputs Status → Type 0) (Numbered : Status → Option Numbering → Type 0) (P : Outputs → Type 0) (folder : FolderSeen) (out : SinkSeen) (stop : Stop)
    → EndsWith Made Numbered folder out (Err stop) → IsEarly stop → LeavesBy P folder out NoMemory
early_leaves Made Numbered P folder out (Refused status by) h e = (h.0.written, inl h.0.files)
early_leaves Made Numbered P folder out (Unwritten text) h e = absurd e
early_leaves Made Numbered P folder out Unsummed h e = absurd e
early_leaves Made Numbered P folder out Wanting h e = absurd e

-- it leaves what it may
pub stop_leaves : (message : Option Numbering → Status → List ℕ) (Made : Result Outputs Status → Type 0) (Numbered : Status → Option Numbering → Type 0) (P : Outputs → Type 0) → Refuses Made → ((outputs : Outputs) → Made (Ok outputs) → P outputs)
    → (folder : FolderSeen) (out err : SinkSeen) (stop : Stop) (s : Status) → EndsWith Made Numbered folder out (Err stop) → IsToldAs message stop err s → LeavesBy P folder out s
stop_leaves message Made Numbered P refuses has folder out err stop s h (inl t) = subst (LeavesBy P folder out) (sym t.0) (end_leaves Made Numbered P refuses has folder out (Err stop) h)
stop_leaves message Made Numbered P refuses has folder out err stop s h (inr t) = subst (LeavesBy P folder out) (sym t.0) (early_leaves Made Numbered P folder out stop h t.1)

pub end_tells : (message : Option Numbering → Status → List ℕ) (Made : Result Outputs Status → Type 0) (Numbered : Status → Option Numbering → Type 0) → Refuses Made → NumbersPoints Numbered → (folder : FolderSeen) (out err : SinkSeen) (stop : Stop)
    → EndsWith Made Numbered folder out (Err stop) → IsMessagePut (message (numbering_in stop) (answer_of (Err stop))) err
    → TellsBy message Numbered err (answer_of (Err stop))
end_tells message Made Numbered refuses silent folder out err (Refused status by) h p = refusal_told message Numbered err status by (not_done status (refuses status h.1)) h.2 p
end_tells message Made Numbered refuses silent folder out err (Unwritten text) h p = (None, silent (WriteFault (Some text.name)) None refl, p)
end_tells message Made Numbered refuses silent folder out err Unsummed h p = (None, silent (WriteFault None) None refl, p)
end_tells message Made Numbered refuses silent folder out err Wanting h p = (None, silent NoMemory None refl, p)

-- it has its message
pub stop_tells : (message : Option Numbering → Status → List ℕ) (Made : Result Outputs Status → Type 0) (Numbered : Status → Option Numbering → Type 0) → Refuses Made → NumbersPoints Numbered → (folder : FolderSeen) (out err : SinkSeen) (stop : Stop)
    (s : Status) → EndsWith Made Numbered folder out (Err stop) → IsToldAs message stop err s → TellsBy message Numbered err s
stop_tells message Made Numbered refuses silent folder out err stop s h (inl t) = subst (TellsBy message Numbered err) (sym t.0) (end_tells message Made Numbered refuses silent folder out err stop h t.1)
stop_tells message Made Numbered refuses silent folder out err stop s h (inr t) = subst (TellsBy message Numbered err) (sym t.0) (None, silent NoMemory None refl, t.2)

-- ---- the stores and the summary

-- the count of faults rose from an earlier value too
pub failed_wider : (stop : StoreStop) (earlier before now : ℕ) → earlier ≤ before → IfFailed stop (Rose before now) → IfFailed stop (Rose earlier now)
failed_wider (Failed text) earlier before now h r = omega arith
failed_wider StoreWanting earlier before now h r = tt

-- where a store is refused
pub store_finishes : (outputs : Outputs) (folder : FolderSeen) (out : SinkSeen) (stop : StoreStop) → AreLeft folder.files_before (in_order outputs.texts) folder.files_now stop
    → IfFailed stop (Rose folder.write_faults_before folder.write_faults_now) → out.written_now ≡ out.written_before → FinishesSo outputs folder out (Err (stop_of_store stop))
store_finishes outputs folder out (Failed text) left rose w = (left, w, rose)
store_finishes outputs folder out StoreWanting left rose w = (w, left)

-- where nothing is stored for want of memory
pub unstored_finishes : (outputs : Outputs) (folder : FolderSeen) (out : SinkSeen) → folder.files_now ≡ folder.files_before → out.written_now ≡ out.written_before
    → FinishesSo outputs folder out (Err Wanting)
unstored_finishes outputs folder out f w = (w, record { stored = []; left = in_order outputs.texts; texts_are = refl; now_is = f })

-- where all is stored
pub summed_finishes : (outputs : Outputs) (folder : FolderSeen) (out : SinkSeen) (result : Result (Unit {0}) Stop) → folder.files_now ≡ with_files folder.files_before (in_order outputs.texts)
    → IsSummed (text_in outputs) out result → FinishesSo outputs folder out result
summed_finishes outputs folder out (Ok done) f s = (f, s)
summed_finishes outputs folder out (Err Unsummed) f s = (f, s.0, s.1)
summed_finishes outputs folder out (Err Wanting) f s = (s, record { stored = in_order outputs.texts; left = []; texts_are = sym (append-nil (in_order outputs.texts)); now_is = f })
summed_finishes outputs folder out (Err (Refused status by)) f s = absurd s
summed_finishes outputs folder out (Err (Unwritten text)) f s = absurd s

-- the end of the stores is that of the run, where they began with the files as they were
pub finish_ends : (Made : Result Outputs Status → Type 0) (Numbered : Status → Option Numbering → Type 0) (outputs : Outputs) (part folder : FolderSeen) (out : SinkSeen) (result : Result (Unit {0}) Stop)
    → Made (Ok outputs) → part.files_before ≡ folder.files_before → part.files_now ≡ folder.files_now → folder.write_faults_before ≤ part.write_faults_before
    → part.write_faults_now ≡ folder.write_faults_now → FinishesSo outputs part out result → EndsWith Made Numbered folder out result
finish_ends Made Numbered outputs part folder out (Ok done) ran b n e f h = (outputs, ran, rw (sym b, sym n) h.0, h.1)
finish_ends Made Numbered outputs part folder out (Err Unsummed) ran b n e f h = (outputs, ran, rw (sym b, sym n) h.0, h.1, h.2)
finish_ends Made Numbered outputs part folder out (Err Wanting) ran b n e f h = (h.0, inr (outputs, ran, rw (sym b, sym n) h.1))
finish_ends Made Numbered outputs part folder out (Err (Refused status by)) ran b n e f h = absurd h
finish_ends Made Numbered outputs part folder out (Err (Unwritten text)) ran b n e f h =
    (outputs, ran, rw (sym b, sym n) h.0, h.1, rw (sym f) (omega arith))
