-- The line that each refusal is told in.
use Rattle.std.specs.Prelude.{ℕ, List, [], ◌++◌, codes}
use Rattle.std.specs.Fmt.{decimal}
use Rattle.mesh_check.specs.Checking.{most_points}
use Rattle.mesh_check.specs.Reading.{most_bytes}
use Rattle.mesh_check.specs.Messages.{line, file_message, usage_message, text_message}
use Rattle.mesh_check.specs.Telling.{defect_text}
use Rattle.mesh_check.specs.declared.fault.CheckFault.{CheckFault}
use Rattle.mesh_check.specs.declared.fault.CheckFault.TheVariants.{Missing, ReadFault, TooLong, BadText, TooMany, OffGrid, Unsound, NoMemory}
use Rattle.tetwhere_run.specs.declared.status.WhereStatus.{WhereStatus}
use Rattle.tetwhere_run.specs.declared.status.WhereStatus.TheVariants.{Done, Usage, Refused, WriteFault}

-- the program's name, as a line begins
abbrev pub tetwhere_name : List ℕ
tetwhere_name = codes "tetwhere: "

-- the message of a refusal of the files; rows are numbered from the number of the first point on
abbrev pub query_fault_message : CheckFault → List ℕ
query_fault_message (Missing name) = file_message tetwhere_name name (codes "not found")
query_fault_message (ReadFault name) = file_message tetwhere_name name (codes "read failed")
query_fault_message (TooLong name) = file_message tetwhere_name name (codes "over " ++ decimal most_bytes ++ codes " bytes")
query_fault_message (BadText name fault) = text_message tetwhere_name name fault
query_fault_message (TooMany count) = line tetwhere_name (decimal count ++ codes " points, at most " ++ decimal most_points)
query_fault_message (OffGrid place) = line tetwhere_name (codes "line " ++ decimal place ++ codes ": coordinate off the grid")
query_fault_message (Unsound defect first) = line tetwhere_name (defect_text first defect)
query_fault_message NoMemory = line tetwhere_name (codes "out of memory")

-- the message of a refusal; a run that is done has none
abbrev pub query_message_of : WhereStatus → List ℕ
query_message_of Done = []
query_message_of (Usage word place) = usage_message tetwhere_name word place
query_message_of (Refused fault) = query_fault_message fault
query_message_of WriteFault = line tetwhere_name (codes "answers: write failed")
