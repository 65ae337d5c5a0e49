-- The statuses of runs over texts.
use Rattle.std.proofs.Common.{◌≡◌, ℕ, ◌<◌, ℤ, pos, Result, Ok, Err, IfOk, IfErr, unsigned_abs, ap, sym, ◌∙◌, subst, arith}
use Rattle.memory_runs.specs.Runs.{IsRunFault, LacksSpace, RunLaw}
use Rattle.memory_runs.specs.declared.handing.HandedOver.{HandedOver}
use Rattle.memory_runs.specs.declared.handing.RunFault.{RunFault}
use Rattle.memory_runs.specs.declared.handing.RunFault.TheVariants.{NoRoom, NoMemory}
use Rattle.memory_runs.specs.declared.texts.Task.{Task}
use Rattle.tetgen_c.specs.Statuses.{IsAnswered}

-- both are the number of one status
same_code : (m n : ℕ) (status : ℤ) → status ≡ pos m → status ≡ pos n → m ≡ n
same_code m n status one other = ap (λ (z : ℤ). unsigned_abs z) (sym one ∙ other)

-- A run of any program has no status 20 of its own, so that status comes for want of room
pub lacks_space : (Run : RunLaw) (task : Task) (lengths room count : ℕ) (status : ℤ) (told : Result HandedOver RunFault)
    → IsAnswered told count status → IfOk told (λ made. (made.code < 20) × ¬ made.code ≡ 10) → IfErr told (IsRunFault Run task lengths room)
    → status ≡ pos 20 → LacksSpace Run task lengths room count
lacks_space Run task lengths room count status (Ok made) answered code fault is =
    absurd (let same = same_code made.code 20 status answered.1 is in omega (arith, same, code.0))
lacks_space Run task lengths room count status (Err NoMemory) answered code fault is =
    absurd (let same = same_code 10 20 status answered.1 is in omega (arith, same))
lacks_space Run task lengths room count status (Err (NoRoom wanted)) answered code fault is =
    subst (λ (n : ℕ). LacksSpace Run task lengths room n) (sym answered.0) fault
