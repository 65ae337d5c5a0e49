-- What a step answers over a part of a run, it answers over all of it: counts never fall, and a fetch changes no file.
use Rattle.std.proofs.Common.{◌≡◌, ◌≤◌, ◌++◌, inl, inr, ℕ, List, Option, Some, None, Result, Ok, Err, subst, arith}
use Rattle.std.specs.Prelude.{◌⊎◌, codes}
use Rattle.tet_ports.specs.Files.{Files, IsAbsent, Holds}
use Rattle.tet_text.specs.declared.fault.TextFault.{TextFault}
use Rattle.incidence.specs.declared.pairs.Across.{Across}
use Rattle.node_files.specs.declared.node_text.NodeText.{NodeText}
use Rattle.mesh_check.specs.Reading.{most_bytes, IsRead, IsUnfetched, FetchAnswer, TextAnswer, FileAnswer, NeighborsAnswer, neighbors_in_text}
use Rattle.tet_ports.proofs.Windows.{IsWithin, absent_within, rose_within}
use Rattle.tet_ports.specs.Seen.{FolderSeen, folder_seen}
use Rattle.mesh_check.specs.Steps.{AndThen}
use Rattle.mesh_check.specs.declared.fault.CheckFault.{CheckFault}
use Rattle.mesh_check.specs.declared.fault.CheckFault.TheVariants.{Missing, ReadFault, TooLong, BadText, TooMany, OffGrid, Unsound, NoMemory}

unfetched_wider : (part wide : FolderSeen) → IsWithin part wide → (name : List ℕ) (f : CheckFault) → IsUnfetched part name f → IsUnfetched wide name f
unfetched_wider part wide w name (Missing missing) h = (h.0, absent_within part wide w name h.1)
unfetched_wider part wide w name (ReadFault failed) h = (h.0, rose_within part wide w h.1)
unfetched_wider part wide w name (TooLong long) h = (h.0, (h.1.0, subst (λ (files : Option Files). Holds files name h.1.0) w.files h.1.1, h.1.2))
unfetched_wider part wide w name (BadText bad fault) h = absurd h
unfetched_wider part wide w name (TooMany count) h = absurd h
unfetched_wider part wide w name (OffGrid line) h = absurd h
unfetched_wider part wide w name (Unsound defect first) h = absurd h
unfetched_wider part wide w name NoMemory h = tt

fetch_wider : (part wide : FolderSeen) → IsWithin part wide → (name : List ℕ) (r : Result (List ℕ) CheckFault) → FetchAnswer part name r → FetchAnswer wide name r
fetch_wider part wide w name (Ok bytes) h = subst (λ (files : Option Files). IsRead files name bytes) w.files h
fetch_wider part wide w name (Err f) h = unfetched_wider part wide w name f h

pub file_wider : {A : Type 0} (part wide : FolderSeen) → IsWithin part wide → (name : List ℕ) (reading : List ℕ → Result A TextFault) (r : Result A CheckFault) → FileAnswer part name reading r → FileAnswer wide name reading r
file_wider part wide w name reading (Ok x) h = (h.0, fetch_wider part wide w name (Ok h.0) h.1, h.2)
file_wider part wide w name reading (Err f) (inl h) = inl (fetch_wider part wide w name (Err f) h)
file_wider part wide w name reading (Err f) (inr h) = inr (h.0, fetch_wider part wide w name (Ok h.0) h.1, h.2)

pub neighbors_wider : (part wide : FolderSeen) → IsWithin part wide → (base : List ℕ) (nodes : NodeText) (r : Result (Option (List Across)) CheckFault) → NeighborsAnswer part base nodes r → NeighborsAnswer wide base nodes r
neighbors_wider part wide w base nodes (Ok None) h = absent_within part wide w (base ++ codes ".neigh") h
neighbors_wider part wide w base nodes (Ok (Some neighbors)) h = file_wider part wide w (base ++ codes ".neigh") (neighbors_in_text nodes) (Ok neighbors) h
neighbors_wider part wide w base nodes (Err (Missing missing)) h = absurd h
neighbors_wider part wide w base nodes (Err (ReadFault failed)) h = file_wider part wide w (base ++ codes ".neigh") (neighbors_in_text nodes) (Err (ReadFault failed)) h
neighbors_wider part wide w base nodes (Err (TooLong long)) h = file_wider part wide w (base ++ codes ".neigh") (neighbors_in_text nodes) (Err (TooLong long)) h
neighbors_wider part wide w base nodes (Err (BadText bad fault)) h = file_wider part wide w (base ++ codes ".neigh") (neighbors_in_text nodes) (Err (BadText bad fault)) h
neighbors_wider part wide w base nodes (Err (TooMany count)) h = file_wider part wide w (base ++ codes ".neigh") (neighbors_in_text nodes) (Err (TooMany count)) h
neighbors_wider part wide w base nodes (Err (OffGrid line)) h = file_wider part wide w (base ++ codes ".neigh") (neighbors_in_text nodes) (Err (OffGrid line)) h
neighbors_wider part wide w base nodes (Err (Unsound defect first)) h = file_wider part wide w (base ++ codes ".neigh") (neighbors_in_text nodes) (Err (Unsound defect first)) h
neighbors_wider part wide w base nodes (Err NoMemory) h = file_wider part wide w (base ++ codes ".neigh") (neighbors_in_text nodes) (Err NoMemory) h
