-- What a check answers: its refusals, that it holds over all of a run, and that it has one answer.
use Rattle.std.proofs.Common.{◌≡◌, ℕ, List, Some, None, Result, Ok, Err, refl, sym, subst, ap, ◌∙◌}
use Rattle.mesh_check.proofs.FarOnce.{far_once}
use Rattle.mesh_check.proofs.Wider.{far_wider}
use Rattle.mesh_check.specs.FarChecking.{FarCheckAnswer}
use Rattle.mesh_check.proofs.Once.{IsDecided as IsCheckDecided}
use Rattle.mesh_check.specs.declared.fault.CheckFault.{CheckFault}
use Rattle.mesh_check.specs.declared.fault.CheckFault.TheVariants as check
use Rattle.run_steps.proofs.Once.{IsTold}
use Rattle.run_steps.proofs.Steps.{IsDecided, IsSameBy, status_by}
use Rattle.run_steps.specs.declared.outputs.Outputs.{Outputs}
use Rattle.run_steps.specs.declared.status.Status.{Status}
use Rattle.run_steps.specs.declared.status.Status.TheVariants.{Done, Usage, NoMemory}
use Rattle.tet_ports.proofs.Windows.{IsWithin}
use Rattle.tet_ports.specs.Files.{Files}
use Rattle.tet_ports.specs.Seen.{FolderSeen}
use Rattle.tetgen_run.proofs.Refusals.{IsRefusal, IsSilent}
use Rattle.tetgen_run.specs.Ends.{StopsSo}
use Rattle.tetgen_run.specs.Run.{status_of_check}
use Rattle.tetgen_run.specs.Stops.{stop_of_check}
use Rattle.tetfit_run.specs.Checks.{OutputsOfCheck, check_base, check_fault}

-- ---- refusals

fault_refuses : (fault : CheckFault) → IsRefusal (status_of_check fault)
fault_refuses (check.Missing name) = tt
fault_refuses (check.ReadFault name) = tt
fault_refuses (check.TooLong name) = tt
fault_refuses (check.BadText name fault) = tt
fault_refuses (check.TooMany count) = tt
fault_refuses (check.OffGrid line) = tt
fault_refuses (check.Unsound defect first) = tt
fault_refuses check.NoMemory = tt

pub check_refuses : (words : List (List ℕ)) (folder : FolderSeen) (s : Status) → OutputsOfCheck words folder (Err s) → IsRefusal s
check_refuses words folder (Usage word place) h = tt
check_refuses words folder NoMemory h = tt
check_refuses words folder s h = subst IsRefusal h.3 (fault_refuses h.0)

-- the stop of a check that refuses
pub fault_stops : (words : List (List ℕ)) (folder : FolderSeen) (fault : CheckFault) → check_fault words ≡ None → FarCheckAnswer folder (check_base words) (Err fault)
    → StopsSo (OutputsOfCheck words folder) (λ status by. IsSilent status) (stop_of_check fault)
fault_stops words folder (check.Missing name) w h = ((check.Missing name, w, h, refl), refl)
fault_stops words folder (check.ReadFault name) w h = ((check.ReadFault name, w, h, refl), refl)
fault_stops words folder (check.TooLong name) w h = ((check.TooLong name, w, h, refl), refl)
fault_stops words folder (check.BadText name fault) w h = ((check.BadText name fault, w, h, refl), refl)
fault_stops words folder (check.TooMany count) w h = ((check.TooMany count, w, h, refl), refl)
fault_stops words folder (check.OffGrid line) w h = ((check.OffGrid line, w, h, refl), refl)
fault_stops words folder (check.Unsound defect first) w h = ((check.Unsound defect first, w, h, refl), refl)
fault_stops words folder check.NoMemory w h = tt

-- ---- over all of a run

pub check_wider : (words : List (List ℕ)) (part wide : FolderSeen) → IsWithin part wide → (r : Result Outputs Status) → OutputsOfCheck words part r → OutputsOfCheck words wide r
check_wider words part wide w (Ok outputs) h = (h.0, h.1, far_wider part wide w (check_base words) (Ok h.0) h.2, h.3)
check_wider words part wide w (Err (Usage word place)) h = h
check_wider words part wide w (Err NoMemory) h = h
check_wider words part wide w (Err s) h = (h.0, h.1, far_wider part wide w (check_base words) (Err h.0) h.2, h.3)

-- ---- one answer

-- the status of a check that answers so
abbrev status_of : Result ℕ CheckFault → Status
status_of (Ok count) = Done
status_of (Err fault) = status_of_check fault

abbrev plain : Status → Status
plain s = s

-- why it has a status
data Cause (words : List (List ℕ)) (seen : FolderSeen) (s : Status) : Type 0 where
  misunderstood : (at : ℕ × ℕ) → check_fault words ≡ Some at → s ≡ Usage at.0 at.1 → Cause words seen s
  checked : (r : Result ℕ CheckFault) → check_fault words ≡ None → FarCheckAnswer seen (check_base words) r → IsCheckDecided r → s ≡ status_of r → Cause words seen s

cause_of : (words : List (List ℕ)) (seen : FolderSeen) (r : Result Outputs Status) → IsDecided r → OutputsOfCheck words seen r → Cause words seen (status_by plain r)
cause_of words seen (Ok outputs) n h = checked (Ok h.0) h.1 h.2 tt refl
cause_of words seen (Err (Usage word place)) n h = misunderstood (word, place) h refl
cause_of words seen (Err NoMemory) n h = absurd (n refl)
cause_of words seen (Err s) n h = checked (Err h.0) h.1 h.2 (λ e. n (sym h.3 ∙ ap status_of_check e)) (sym h.3)

some_same : {A : Type 0} (a b : A) → Some a ≡ Some b → a ≡ b
some_same a b e = cc

causes_same : (told : Files) (words : List (List ℕ)) (seen : FolderSeen) → IsTold told seen → (one two : Status) → Cause words seen one → Cause words seen two → one ≡ two
causes_same told words seen t one two (misunderstood a w s) (misunderstood b v u) = s ∙ ap (λ (at : ℕ × ℕ). Usage at.0 at.1) (some_same a b (sym w ∙ v)) ∙ sym u
causes_same told words seen t one two (misunderstood a w s) (checked q v c d u) = absurd (cc)
causes_same told words seen t one two (checked p w c d s) (misunderstood a v u) = absurd (cc)
causes_same told words seen t one two (checked p w c d s) (checked q v k m u) =
    s ∙ ap status_of (far_once told seen (check_base words) (record { files = t.files; no_fault = t.no_fault }) p q d m c k) ∙ sym u

read_of : (read : Status → Status) → read Done ≡ Done → (r : Result Outputs Status) → status_by read r ≡ read (status_by plain r)
read_of read fixed (Ok outputs) = sym fixed
read_of read fixed (Err s) = refl

-- where the files are told and no fault rose, a check has one status beside want of memory
pub check_same : (read : Status → Status) → read Done ≡ Done → (told : Files) (words : List (List ℕ)) (seen : FolderSeen) → IsTold told seen → IsSameBy read (OutputsOfCheck words seen)
check_same read fixed told words seen t r s n m h k =
    read_of read fixed r ∙ ap read (causes_same told words seen t (status_by plain r) (status_by plain s) (cause_of words seen r n h) (cause_of words seen s m k)) ∙ sym (read_of read fixed s)
