-- Which checks of a mesh and which queries are done.
use Rattle.std.specs.Prelude.{◌≡◌, ◌⊎◌, ℕ, ◌≤◌, ◌++◌, true, List, length, map, codes, Option, None, Some, Result, Ok}
use Rattle.std.specs.FinMap as files
use Rattle.sign_predicates.specs.Point.{Point}
use Rattle.tet_ports.specs.Files.{Files}
use Rattle.tet_ports.specs.Seen.{FolderSeen, SinkSeen}
use Rattle.tet_text.specs.declared.fault.TextFault.{TextFault}
use Rattle.geo_laws.specs.declared.tetrahedra.Tet.{Tet}
use Rattle.grid_coords.specs.declared.grid.Grid.{Grid}
use Rattle.incidence.specs.declared.pairs.Across.{Across}
use Rattle.node_files.specs.LeastGrid.{least_grid_of, point_on}
use Rattle.node_files.specs.SettlingLeast.{IsOnLeastGrid}
use Rattle.node_files.specs.declared.limits.Limits.{Limits}
use Rattle.node_files.specs.declared.node_text.NodeText.{NodeText}
use Rattle.mesh_check.specs.Checking.{checked_grid, most_points, mesh_of}
use Rattle.mesh_check.specs.Defects.{IsNotPositive, IsVerdict}
use Rattle.mesh_check.specs.Reading.{most_bytes, nodes_in_text, rows_of, faces_in_text, neighbors_in_text}
use Rattle.mesh_check.specs.declared.defect.Verdict.TheVariants.{Sound}
use Rattle.mesh_check.specs.declared.fault.CheckFault.TheVariants.{NoMemory as WantsMemory}
use Rattle.mesh_check.specs.declared.reading.MeshText.{MeshText}
use Rattle.command_words.specs.Grammar.{words_fault}
use Rattle.command_words.specs.Meaning.{options_of}
use Rattle.run_steps.specs.declared.status.Status.{Status}
use Rattle.run_steps.specs.declared.status.Status.TheVariants.{Done, NoMemory}
use Rattle.tetgen_run.specs.Ends.{HasNoFault}
use Rattle.tetgen_run.specs.Run.{asks_check, IsAnswerWithin}
use Rattle.tetwhere_run.specs.Grid.{where_grid}
use Rattle.tetwhere_run.specs.Run.{mesh_base_of, queries_of, HasNoReadFault, IsQueryAnswer}
use Rattle.tetwhere_run.specs.Words.{bad_word}
use Rattle.tetwhere_run.specs.declared.status.WhereStatus.{WhereStatus}
use Rattle.tetwhere_run.specs.declared.status.WhereStatus.TheVariants.{Done as Answered, Refused}

-- the file with this name is there, with at most 2^26 bytes, and spells this by a grammar
abbrev pub Spells : {A : Type 0} → Files → List ℕ → (List ℕ → Result A TextFault) → A → Type 0
Spells told name reading a = (bytes : List ℕ) × (files.get told name ≡ Some bytes) × (length bytes ≤ most_bytes) × (reading bytes ≡ Ok a)

-- there is no file of neighbors with this name, or it spells these
abbrev pub SpellsNeighbors : Files → List ℕ → NodeText → Option (List Across) → Type 0
SpellsNeighbors told name nodes None = files.get told name ≡ None
SpellsNeighbors told name nodes (Some neighbors) = Spells told name (neighbors_in_text nodes) neighbors

-- The files of a mesh are there under a base, each in its grammar. Its points, rounded where decimals are given, are at most 120,000 and on
-- a grid, and there is no defect
pub record IsSoundMesh (told : Files) (base : List ℕ) (decimals : Option ℕ) : Type 0 where
  pub text : MeshText
  pub node : Spells told (base ++ codes ".node") nodes_in_text text.nodes
  pub ele : Spells told (base ++ codes ".ele") (rows_of text.nodes) text.rows
  pub face : Spells told (base ++ codes ".face") (faces_in_text text.nodes) text.faces
  pub neigh : SpellsNeighbors told (base ++ codes ".neigh") text.nodes text.neighbors
  pub points : List Point
  pub on_grid : IsOnLeastGrid checked_grid text.nodes.decimals decimals most_points points
  pub sound : IsVerdict (mesh_of text points) Sound

-- Words in the grammar that ask for a check, the files of a sound mesh in a folder that tells, and no fault of the folder or of the sink:
-- the answer is Done, or memory was wanting
abbrev pub CheckCompleteLaw : Type 0
CheckCompleteLaw = (limits : Limits) (words : List (List ℕ)) (folder : FolderSeen) (out : SinkSeen) (told : Files)
    → words_fault words ≡ None → asks_check words ≡ true → folder.files_before ≡ Some told
    → IsSoundMesh told (options_of words).base (options_of words).decimals → HasNoFault folder out
    → (status : Status) → IsAnswerWithin limits words folder out status → (status ≡ Done) ⊎ (status ≡ NoMemory)

-- The points and the tetrahedra of a mesh are there under a base, and a file of queries, each in its grammar. The points are at most
-- 120,000 and on a grid, and each tetrahedron is positive
pub record IsGoodQuery (told : Files) (base queries : List ℕ) : Type 0 where
  pub nodes : NodeText
  pub rows : List Tet
  pub list : NodeText
  pub node : Spells told (base ++ codes ".node") nodes_in_text nodes
  pub ele : Spells told (base ++ codes ".ele") (rows_of nodes) rows
  pub listed : Spells told queries nodes_in_text list
  pub few : length nodes.decimals ≤ most_points
  pub grid : Grid
  pub on_grid : least_grid_of where_grid nodes.decimals ≡ Ok grid
  pub positive : (i : ℕ) → ¬ IsNotPositive (map (point_on grid) nodes.decimals) rows i

-- Two names as words, such files in a folder that tells, and no fetch and no put that failed: the queries are answered, or memory was
-- wanting
abbrev pub WhereCompleteLaw : Type 0
WhereCompleteLaw = (words : List (List ℕ)) (folder : FolderSeen) (out : SinkSeen) (told : Files)
    → bad_word words ≡ None → folder.files_before ≡ Some told → IsGoodQuery told (mesh_base_of words) (queries_of words)
    → HasNoReadFault folder out
    → (status : WhereStatus) → IsQueryAnswer words folder out status → (status ≡ Answered) ⊎ (status ≡ Refused WantsMemory)
