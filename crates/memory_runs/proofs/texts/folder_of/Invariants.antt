use Rattle.std.proofs.Common.{◌≡◌, take}
use Rattle.memory_runs.specs.Texts.{folder_of}
use Rattle.memory_runs.proofs.texts.folder_of.Given as goal

abbrev pub invariant-loop-file : goal.invariant-loop-file
invariant-loop-file l = l.folder ≡ folder_of (take l.file-index l.files)
