-- A run on a complex with a facet that is not flat: what it reads, what it answers, and what it tells.
use Rattle.std.specs.Prelude.{◌≡◌, ◌≢◌, ℕ, List, [], ◌∷◌, Err, codes}
use Rattle.tet_ports.specs.Counts.{Rose}
use Rattle.node_files.specs.Limits.{tetgen_limits}
use Rattle.run_steps.specs.Meshing.{OutputsOfRun}
use Rattle.tet_ports.specs.Seen.{IsMessagePut, FolderSeen, SinkSeen}
use Rattle.run_steps.specs.declared.status.Status.{Status}
use Rattle.run_steps.specs.declared.status.Status.TheVariants.{NoMemory, NotFlat}
use Rattle.tetgen_run.specs.Ends.{HasNoFault, IsUnchanged}
use Rattle.tetgen_run.specs.Run.{IsComplete, IsLeft, IsTold}
use Rattle.run_laws.specs.Runs.{HasFile, Start}

-- four points that are in no plane, and one facet with all of them as its corners
abbrev pub nonplanar_bytes : List ℕ
nonplanar_bytes = codes "4 3 0 0\n1 0 0 0\n2 1 0 0\n3 0 1 0\n4 0 0 1\n1 0\n1\n4 1 2 3 4\n0\n"

abbrev pub nonplanar_start : Start
nonplanar_start = record { words = codes "nonplanar.poly" ∷ []; name = codes "nonplanar.poly"; bytes = nonplanar_bytes }

-- the first facet has four corners, by their places, that are in no plane
abbrev pub not_flat : Status
not_flat = NotFlat 0 (record { a = 0; b = 1; c = 2; d = 3 })

-- ---- the laws of the run

-- the run over the complex is refused with its one facet, which is not flat
abbrev pub IsNonplanarRefused : Type 0
IsNonplanarRefused = (folder : FolderSeen) → HasFile nonplanar_start folder
    → OutputsOfRun tetgen_limits nonplanar_start.words folder (Err not_flat)

-- without a fault and with enough memory, that refusal is the run's answer
abbrev pub EndsNotFlat : Type 0
EndsNotFlat = (folder : FolderSeen) (out : SinkSeen) (status : Status) → HasFile nonplanar_start folder → HasNoFault folder out
    → status ≢ NoMemory → IsComplete nonplanar_start.words folder out status → status ≡ not_flat

-- it changes nothing
abbrev pub ChangesNothing : Type 0
ChangesNothing = (folder : FolderSeen) (out : SinkSeen) → IsLeft nonplanar_start.words folder out not_flat → IsUnchanged folder out

-- and tells this line, with the numbers of the file
abbrev pub TellsFacet : Type 0
TellsFacet = (folder : FolderSeen) (err : SinkSeen) → HasFile nonplanar_start folder
    → ¬ Rose folder.read_faults_before folder.read_faults_now
    → IsTold nonplanar_start.words folder err not_flat → IsMessagePut (codes "tetgen: facet 1 is not flat: points 1 2 3 4\n") err
