-- The exit codes of the program's answers.
use Rattle.std.specs.Prelude.{ℕ}
use Rattle.mesh_check.specs.declared.fault.CheckFault.{CheckFault}
use Rattle.mesh_check.specs.declared.fault.CheckFault.TheVariants.{Missing, ReadFault, TooLong, BadText, TooMany, OffGrid, Unsound, NoMemory}
use Rattle.tetwhere_run.specs.declared.status.WhereStatus.{WhereStatus}
use Rattle.tetwhere_run.specs.declared.status.WhereStatus.TheVariants.{Done, Usage, Refused, WriteFault}

-- the exit code on a refusal of the files
abbrev pub fault_code_of : CheckFault → ℕ
fault_code_of (Missing name) = 2
fault_code_of (ReadFault name) = 3
fault_code_of (BadText name fault) = 4
fault_code_of (TooLong name) = 5
fault_code_of (TooMany count) = 5
fault_code_of (OffGrid line) = 5
fault_code_of NoMemory = 10
fault_code_of (Unsound defect first) = 13

-- the exit code
abbrev pub query_code_of : WhereStatus → ℕ
query_code_of Done = 0
query_code_of (Usage word place) = 1
query_code_of (Refused fault) = fault_code_of fault
query_code_of WriteFault = 11
