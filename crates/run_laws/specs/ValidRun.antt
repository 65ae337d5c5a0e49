-- A run over a valid complex ends well.
use Rattle.std.specs.Prelude.{◌≡◌, ◌⊎◌, ℕ, true, false, List, None, Ok, Err}
use Rattle.command_words.specs.Grammar.{words_fault}
use Rattle.command_words.specs.Meaning.{options_of}
use Rattle.complex_mesh.specs.Protection.{complex_triangles}
use Rattle.node_files.specs.declared.limits.Limits.{Limits}
use Rattle.run_steps.specs.Meshing.{BoundAnswer, mesh_options}
use Rattle.run_steps.specs.Reading.{InputAnswer}
use Rattle.tet_ports.specs.Seen.{FolderSeen, SinkSeen}
use Rattle.run_steps.specs.declared.input.Input.{Input}
use Rattle.run_steps.specs.declared.mesh.Bound.{Bound}
use Rattle.run_steps.specs.declared.status.Status.{Status}
use Rattle.run_steps.specs.declared.status.Status.TheVariants.{Done, NoMemory}
use Rattle.tetgen_run.specs.Ends.{HasNoFault}
use Rattle.tetgen_run.specs.Run.{asks_check, IsAnswerWithin}
use Rattle.run_laws.specs.Valid.{IsValid, HasNoAnomaly}

-- The words are in the grammar and ask for the mesh of a complex; the files that they name are read, and are within these limits; and the
-- complex on the points of the grid is valid, with no anomaly against its mesh
pub record IsValidRun (limits : Limits) (words : List (List ℕ)) (folder : FolderSeen) : Type 0 where
  pub understood : words_fault words ≡ None
  pub meshes : asks_check words ≡ false
  pub piecewise : (options_of words).piecewise ≡ true
  pub read : (status : Status) → InputAnswer limits folder (options_of words) (Err status) → status ≡ NoMemory
  pub within : (input : Input) → InputAnswer limits folder (options_of words) (Ok input)
      → (status : Status) → BoundAnswer limits (options_of words) input (Err status) → status ≡ NoMemory
  pub valid : (input : Input) → InputAnswer limits folder (options_of words) (Ok input)
      → (bound : Bound) → BoundAnswer limits (options_of words) input (Ok bound)
      → (v : IsValid (mesh_options (options_of words) bound.table) bound.table.points bound.complex)
      × HasNoAnomaly v.qs (complex_triangles v.qs v.fs)

-- Where no fetch, no store and no put failed, such a run is done, or out of memory, within any limits
abbrev pub ValidRunLaw : Type 0
ValidRunLaw = (limits : Limits) (words : List (List ℕ)) (folder : FolderSeen) (out : SinkSeen) (status : Status)
    → IsValidRun limits words folder
    → HasNoFault folder out → IsAnswerWithin limits words folder out status → (status ≡ Done) ⊎ (status ≡ NoMemory)
