-- Why a run stopped before its end, by the step in which it did.
use Rattle.std.specs.Prelude.{None}
use Rattle.mesh_check.specs.Checking.{most_points}
use Rattle.mesh_check.specs.Reading.{most_bytes}
use Rattle.mesh_check.specs.declared.fault.CheckFault.{CheckFault}
use Rattle.mesh_check.specs.declared.fault.CheckFault.TheVariants as check
use Rattle.run_steps.specs.declared.status.LimitKind.TheVariants.{Bytes, Points, Grid}
use Rattle.run_steps.specs.declared.status.Status.TheVariants.{Usage, Missing, ReadFault, BadText, Limit, Unsound}
use Rattle.tetgen_run.specs.declared.stop.Stop.{Stop}
use Rattle.tetgen_run.specs.declared.stop.Stop.TheVariants.{Refused, Unwritten, NoMemory}
use Rattle.run_steps.specs.declared.store.StoreStop.{StoreStop}
use Rattle.run_steps.specs.declared.store.StoreStop.TheVariants.{Failed, NoMemory as StoreWanting}
use Rattle.command_words.specs.declared.fault.WordsFault.{WordsFault}
use Rattle.command_words.specs.declared.fault.WordsFault.TheVariants.{Usage as Misunderstood, NoMemory as WordsWanting}

abbrev pub stop_of_words : WordsFault → Stop
stop_of_words (Misunderstood word place) = Refused (Usage word place) None
stop_of_words WordsWanting = NoMemory

-- no point of the input is told by its name
abbrev pub stop_of_check : CheckFault → Stop
stop_of_check (check.Missing name) = Refused (Missing name) None
stop_of_check (check.ReadFault name) = Refused (ReadFault name) None
stop_of_check (check.BadText name fault) = Refused (BadText name fault) None
stop_of_check (check.TooLong name) = Refused (Limit (Bytes name most_bytes)) None
stop_of_check (check.TooMany count) = Refused (Limit (Points count most_points)) None
stop_of_check (check.OffGrid line) = Refused (Limit (Grid line)) None
stop_of_check (check.Unsound defect first) = Refused (Unsound defect first) None
stop_of_check check.NoMemory = NoMemory

abbrev pub stop_of_store : StoreStop → Stop
stop_of_store (Failed text) = Unwritten text
stop_of_store StoreWanting = NoMemory
