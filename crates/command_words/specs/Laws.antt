-- The grammar of switches and their faults.
use Rattle.std.specs.Prelude.{◌≡◌, ◌↔◌, ℕ, false, List, None}
use Rattle.command_words.specs.Grammar.{AreSwitches, switches_fault}

-- no fault is found exactly in bytes that are switches
abbrev pub SwitchesLaw : Type 0
SwitchesLaw = (place : ℕ) (text : List ℕ) → (switches_fault false place text ≡ None) ↔ AreSwitches text
