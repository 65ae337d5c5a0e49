use Rattle.command_words.proofs.Switches.{switches_fault-None}
use Rattle.command_words.proofs.laws.law_switches.Goals as goal

pub returns : goal.returns
returns c = switches_fault-None
