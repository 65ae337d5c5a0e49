-- The files of a mesh, in the order in which they are read.
use Rattle.std.specs.Prelude.{◌≡◌, ◌⊎◌, ℕ, ◌<◌, ◌≤◌, ◌++◌, List, length, codes, Option, None, Some, Result, Ok, Err}
use Rattle.tet_ports.specs.Counts.{Rose}
use Rattle.tet_ports.specs.Files.{Files, Holds, IsAbsent}
use Rattle.tet_text.specs.Lines.{content_lines, line_count_of}
use Rattle.tet_text.specs.declared.fault.TextFault.{TextFault}
use Rattle.geo_laws.specs.declared.tetrahedra.Tet.{Tet}
use Rattle.incidence.specs.declared.pairs.Across.{Across}
use Rattle.mesh_files.specs.declared.markers.FaceRow.{FaceRow}
use Rattle.mesh_files.specs.ReadRows.{ele_of, face_list_of, neigh_of}
use Rattle.node_files.specs.Node.{node_of}
use Rattle.node_files.specs.declared.node_text.NodeText.{NodeText}
use Rattle.tet_ports.specs.Seen.{FolderSeen}
use Rattle.mesh_check.specs.Steps.{AndThen, Gives}
use Rattle.mesh_check.specs.declared.fault.CheckFault.{CheckFault}
use Rattle.mesh_check.specs.declared.fault.CheckFault.TheVariants.{Missing, ReadFault, TooLong, BadText, NoMemory}
use Rattle.mesh_check.specs.declared.reading.MeshText.{MeshText}

-- most bytes of a file that are read: 2^26
abbrev pub most_bytes : ℕ
most_bytes = 67108864

-- the name holds these bytes, where the files are told, and they are not too many
abbrev pub IsRead : Option Files → List ℕ → List ℕ → Type 0
IsRead files name bytes = Holds files name bytes × (length bytes ≤ most_bytes)

-- why a fetch gives no bytes
abbrev pub IsUnfetched : FolderSeen → List ℕ → CheckFault → Type 0
IsUnfetched seen name (Missing missing) = (missing ≡ name) × IsAbsent seen.files_before name seen.misses_before seen.misses_now
IsUnfetched seen name (ReadFault failed) = (failed ≡ name) × Rose seen.read_faults_before seen.read_faults_now
IsUnfetched seen name (TooLong long) = (long ≡ name) × ((bytes : List ℕ) × Holds seen.files_before name bytes × (most_bytes < length bytes))
IsUnfetched seen name NoMemory = Unit {0}
IsUnfetched seen name fault = ⊥

-- the bytes of a file
abbrev pub FetchAnswer : FolderSeen → List ℕ → Result (List ℕ) CheckFault → Type 0
FetchAnswer seen name (Ok bytes) = IsRead seen.files_before name bytes
FetchAnswer seen name (Err fault) = IsUnfetched seen name fault

-- why a text is refused, whose reading is given
abbrev pub IsBadText : {A : Type 0} → List ℕ → Result A TextFault → CheckFault → Type 0
IsBadText name reading (BadText bad fault) = (bad ≡ name) × (reading ≡ Err fault)
IsBadText name reading NoMemory = Unit {0}
IsBadText name reading fault = ⊥

-- what a text spells, whose reading is given
abbrev pub TextAnswer : {A : Type 0} → List ℕ → Result A TextFault → Result A CheckFault → Type 0
TextAnswer name reading (Ok text) = reading ≡ Ok text
TextAnswer name reading (Err fault) = IsBadText name reading fault

-- what the file with this name spells, by a grammar on its lines
abbrev pub FileAnswer : {A : Type 0} → FolderSeen → List ℕ → (List ℕ → Result A TextFault) → Result A CheckFault → Type 0
FileAnswer seen name reading = AndThen (FetchAnswer seen name) (λ bytes. TextAnswer name (reading bytes))

abbrev pub nodes_in_text : List ℕ → Result NodeText TextFault
nodes_in_text bytes = node_of (line_count_of bytes) (content_lines bytes)

abbrev pub rows_of : NodeText → List ℕ → Result (List Tet) TextFault
rows_of nodes bytes = ele_of nodes.first (length nodes.decimals) (line_count_of bytes) (content_lines bytes)

abbrev pub faces_in_text : NodeText → List ℕ → Result (List FaceRow) TextFault
faces_in_text nodes bytes = face_list_of nodes.first (length nodes.decimals) (line_count_of bytes) (content_lines bytes)

abbrev pub neighbors_in_text : NodeText → List ℕ → Result (List Across) TextFault
neighbors_in_text nodes bytes = neigh_of nodes.first (line_count_of bytes) (content_lines bytes)

-- the neighbors, where there is a file of them
abbrev pub NeighborsAnswer : FolderSeen → List ℕ → NodeText → Result (Option (List Across)) CheckFault → Type 0
NeighborsAnswer seen base nodes (Ok None) = IsAbsent seen.files_before (base ++ codes ".neigh") seen.misses_before seen.misses_now
NeighborsAnswer seen base nodes (Ok (Some neighbors)) = FileAnswer seen (base ++ codes ".neigh") (neighbors_in_text nodes) (Ok neighbors)
NeighborsAnswer seen base nodes (Err (Missing name)) = ⊥
NeighborsAnswer seen base nodes (Err fault) = FileAnswer seen (base ++ codes ".neigh") (neighbors_in_text nodes) (Err fault)

-- The files of a mesh with this base: its points, its rows, its faces, and its neighbors, where these are there. Each text is read before
-- the next fetch
abbrev pub MeshAnswer : FolderSeen → List ℕ → Result MeshText CheckFault → Type 0
MeshAnswer seen base =
    AndThen (FileAnswer seen (base ++ codes ".node") nodes_in_text)
    (λ nodes. AndThen (FileAnswer seen (base ++ codes ".ele") (rows_of nodes))
    (λ rows. AndThen (FileAnswer seen (base ++ codes ".face") (faces_in_text nodes))
    (λ faces. AndThen (NeighborsAnswer seen base nodes)
    (λ neighbors. Gives (record { nodes = nodes; rows = rows; faces = faces; neighbors = neighbors })))))
