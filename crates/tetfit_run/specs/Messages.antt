-- The lines that report each refusal.
use Rattle.std.specs.Prelude.{ℕ, List, [], ◌∷◌, ◌++◌, codes, Option, if◌then◌else◌}
use Rattle.mesh_check.specs.Messages.{line}
use Rattle.tetfit_run.specs.Texts.{refused_check_line, refused_line}
use Rattle.tetfit_run.specs.declared.request.Request.{Request}
use Rattle.tetfit_run.specs.declared.request.Request.TheVariants.{Check}
use Rattle.run_steps.specs.Statuses.{has_hint, help_of, message_of}
use Rattle.run_steps.specs.declared.numbering.Numbering.{Numbering}
use Rattle.run_steps.specs.declared.status.LimitKind.TheVariants.{Grid}
use Rattle.run_steps.specs.declared.status.Status.{Status}
use Rattle.run_steps.specs.declared.status.Status.TheVariants.{Usage, Limit, Flat}

-- the beginning of each line
abbrev pub tetfit_name : List ℕ
tetfit_name = codes "tetfit: "

-- the line of a refusal; a point off the grid and points in one plane are reported in the lines that follow
abbrev pub line_of : List (List ℕ) → Option Numbering → Status → List ℕ
line_of words by (Usage word place) = refused_line words word place
line_of words by (Limit (Grid line)) = []
line_of words by Flat = []
line_of words by status = message_of tetfit_name by status

-- the lines on the model, where the status has them
abbrev pub hint_in : List ℕ → Status → List ℕ
hint_in hint status = if has_hint status then hint else []

-- one more line, on what would help, where something does
abbrev pub help_line : List ℕ → List ℕ
help_line [] = []
help_line (c ∷ more) = line tetfit_name (c ∷ more)

-- the line of a refusal of a check, as `tetgen` has it, but for the words
abbrev pub check_message : List (List ℕ) → Option Numbering → Status → List ℕ
check_message words by (Usage word place) = refused_check_line words word place
check_message words by status = message_of tetfit_name by status

-- the message of a refusal of a mesh, with the lines that follow it
abbrev pub mesh_message : List (List ℕ) → List ℕ → Option Numbering → Status → List ℕ
mesh_message words hint by status = line_of words by status ++ hint_in hint status ++ help_line (help_of status)

-- the message of a refusal, by the words without those that ask for the stages
abbrev pub fit_message : Request → List (List ℕ) → List ℕ → Option Numbering → Status → List ℕ
fit_message Check words hint by status = check_message words by status
fit_message request words hint by status = mesh_message words hint by status
