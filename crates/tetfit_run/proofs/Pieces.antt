-- The stages of a run, which are put one after the other, and its message.
use Rattle.std.proofs.Common.{◌≡◌, inl, inr, ℕ, Bool, true, false, List, [], ◌++◌, Option, Result, Ok, Err, refl, sym, ◌∙◌, subst}
use Rattle.std.proofs.lemmas.List.{append-nil}
use Rattle.run_steps.specs.declared.numbering.Numbering.{Numbering}
use Rattle.run_steps.specs.declared.status.Status.{Status}
use Rattle.run_steps.specs.declared.outputs.Outputs.{Outputs}
use Rattle.run_steps.specs.declared.status.Status.TheVariants.{Done, NoMemory, WriteFault}
use Rattle.tet_ports.specs.Seen.{FolderSeen, SinkSeen, SinkState}
use Rattle.tetgen_run.proofs.Refusals.{IsRefusal}
use Rattle.tetgen_run.specs.Ends.{FinishesSo, IsToldAs, StopsSo, answer_of}
use Rattle.tetgen_run.specs.declared.stop.Stop.{Stop}
use Rattle.tetgen_run.specs.declared.stop.Stop.TheVariants.{Refused, Unwritten, Unsummed, NoMemory as Wanting}
use Rattle.refining.specs.declared.watch.Round.{Round}
use Rattle.run_steps.specs.Statuses.{message_of}
use Rattle.tetfit_run.specs.Messages.{fit_message, tetfit_name}
use Rattle.tetfit_run.specs.Said.{said_both}
use Rattle.tetfit_run.specs.declared.request.Request.{Request}
use Rattle.tetfit_run.specs.declared.request.Request.TheVariants.{Page, Version, Check, Mesh}
use Rattle.tetfit_run.specs.Stages.{AreStagesPut, IsMadeAt, IsSaid, rounds_text, stage_text}

-- a line with no hint and no help behind it
pub nothing_behind : (line : List ℕ) → line ++ [] ++ [] ≡ line
nothing_behind line = append-nil (line ++ []) ∙ append-nil line

-- no line follows that of a fault of the summary or of a store, or of want of memory, whatever is asked for
pub unwritten_told : (request : Request) (words : List (List ℕ)) (hint : List ℕ) (by : Option Numbering) (name : Option (List ℕ))
    → fit_message request words hint by (WriteFault name) ≡ message_of tetfit_name by (WriteFault name)
unwritten_told Page words hint by name = nothing_behind (message_of tetfit_name by (WriteFault name))
unwritten_told Version words hint by name = nothing_behind (message_of tetfit_name by (WriteFault name))
unwritten_told Check words hint by name = refl
unwritten_told Mesh words hint by name = nothing_behind (message_of tetfit_name by (WriteFault name))

pub wanting_told : (request : Request) (words : List (List ℕ)) (hint : List ℕ) (by : Option Numbering)
    → fit_message request words hint by NoMemory ≡ message_of tetfit_name by NoMemory
wanting_told Page words hint by = nothing_behind (message_of tetfit_name by NoMemory)
wanting_told Version words hint by = nothing_behind (message_of tetfit_name by NoMemory)
wanting_told Check words hint by = refl
wanting_told Mesh words hint by = nothing_behind (message_of tetfit_name by NoMemory)

-- ---- stages

-- a stage, and the rounds behind it
pub rounds_said : (says s t x y z : Bool) (first : List ℕ) (rounds : List Round) (old start mid now : SinkState) → x ≡ true → s ≡ says → t ≡ s → start ≡ old → IsSaid x y (stage_text s first) start mid
    → IsSaid y z (stage_text t (rounds_text rounds)) mid now → IsSaid true z (stage_text says first ++ stage_text says (rounds_text rounds)) old now
rounds_said says s t x y z first rounds old start mid now on is same from p q =
    let a = subst (λ b. IsSaid b y (stage_text s first) start mid) on p in
    let b = subst (λ k. IsSaid true y (stage_text k first) start mid) is a in
    let c = subst (λ k. IsSaid true y (stage_text says first) k mid) from b in
    let d = subst (λ k. IsSaid y z (stage_text k (rounds_text rounds)) mid now) (same ∙ is) q in
    said_both true y z (stage_text says first) (stage_text says (rounds_text rounds)) old mid now c d

-- and one more stage behind them
pub stage_said : (says t z w : Bool) (front last : List ℕ) (old mid now : SinkState) → t ≡ says → IsSaid true z front old mid → IsSaid z w (stage_text t last) mid now
    → IsSaid true w (front ++ stage_text says last) old now
stage_said says t z w front last old mid now is p q =
    said_both true z w front (stage_text says last) old mid now p (subst (λ k. IsSaid z w (stage_text k last) mid now) is q)

-- where a step refuses, not all texts were made
refused_unmade : (s : Status) → IsRefusal s → IsMadeAt s false
refused_unmade Done r = absurd r
refused_unmade (WriteFault name) r = absurd r
refused_unmade NoMemory r = tt
refused_unmade s r = refl

pub stopped_unmade : (Made : Result Outputs Status → Type 0) (Numbered : Status → Option Numbering → Type 0) (stop : Stop) → ((s : Status) → Made (Err s) → IsRefusal s) → StopsSo Made Numbered stop
    → IsMadeAt (answer_of (Err stop)) false
stopped_unmade Made Numbered (Refused s by) refuses h = refused_unmade s (refuses s h.0)
stopped_unmade Made Numbered (Unwritten text) refuses h = absurd h
stopped_unmade Made Numbered Unsummed refuses h = absurd h
stopped_unmade Made Numbered Wanting refuses h = tt

-- where they are stored, they were
pub finished_made : (outputs : Outputs) (folder : FolderSeen) (out : SinkSeen) (r : Result (Unit {0}) Stop) → FinishesSo outputs folder out r → IsMadeAt (answer_of r) true
finished_made outputs folder out (Ok done) h = refl
finished_made outputs folder out (Err (Refused s by)) h = absurd h
finished_made outputs folder out (Err (Unwritten text)) h = refl
finished_made outputs folder out (Err Unsummed) h = refl
finished_made outputs folder out (Err Wanting) h = tt

-- the stages of a run whose message is put, or not for want of memory
pub stages_told : (message : Option Numbering → Status → List ℕ) (words : List (List ℕ)) (stop : Stop) (first err : SinkSeen) (s : Status) → IsToldAs message stop err s → AreStagesPut words (answer_of (Err stop)) first
    → AreStagesPut words s first
stages_told message words stop first err s (inl told) h = subst (λ q. AreStagesPut words q first) (sym told.0) h
stages_told message words stop first err s (inr told) h = subst (λ q. AreStagesPut words q first) (sym told.0) (h.0, h.1, tt, h.3)
