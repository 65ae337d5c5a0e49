-- A run of `tetfit` without bounds on tetrahedra leaves one set of outputs.
use Rattle.std.specs.Prelude.{◌≡◌, ℕ, List, None, Some}
use Rattle.tet_ports.specs.Files.{Files}
use Rattle.tet_ports.specs.Seen.{FolderSeen}
use Rattle.run_steps.specs.declared.outputs.Outputs.{Outputs}
use Rattle.tetfit_run.specs.Run.{IsMeshOfModel}
use Rattle.tetfit_run.specs.Words.{fit_goal}

-- Two runs by the same words over folders that hold the same files have the same outputs, where no bounds on tetrahedra are given
abbrev pub OneFitLaw : Type 0
OneFitLaw = (words : List (List ℕ)) (told : Files) (one two : FolderSeen) (outputs other : Outputs) → fit_goal words ≡ None
    → one.files_before ≡ Some told → two.files_before ≡ Some told
    → IsMeshOfModel words one outputs → IsMeshOfModel words two other → outputs ≡ other
