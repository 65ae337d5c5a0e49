-- What a check answers over a part of a run, it answers over all of it.
use Rattle.std.proofs.Common.{◌++◌, inl, inr, ℕ, List, Result, Ok, Err}
use Rattle.std.specs.Prelude.{codes}
use Rattle.geo_laws.specs.declared.tetrahedra.Tet.{Tet}
use Rattle.mesh_files.specs.declared.markers.FaceRow.{FaceRow}
use Rattle.node_files.specs.declared.node_text.NodeText.{NodeText}
use Rattle.mesh_check.proofs.Windows.{file_wider, neighbors_wider}
use Rattle.mesh_check.specs.Reading.{FileAnswer, NeighborsAnswer, MeshAnswer, nodes_in_text, rows_of, faces_in_text}
use Rattle.mesh_check.specs.Steps.{AndThen, Gives}
use Rattle.mesh_check.specs.declared.fault.CheckFault.{CheckFault}
use Rattle.mesh_check.specs.declared.reading.MeshText.{MeshText}
use Rattle.tet_ports.proofs.Windows.{IsWithin}
use Rattle.tet_ports.specs.Seen.{FolderSeen}
use Rattle.mesh_check.specs.FarChecking.{FarCheckAnswer, FarTextAnswer}

and_then_wider : {A B : Type 0} (first first' : Result A CheckFault → Type 0) (next next' : A → Result B CheckFault → Type 0)
    → ((r : Result A CheckFault) → first r → first' r) → ((a : A) (r : Result B CheckFault) → next a r → next' a r) → (r : Result B CheckFault) → AndThen first next r → AndThen first' next' r
and_then_wider first first' next next' one two (Ok b) h = (h.0, one (Ok h.0) h.1, two h.0 (Ok b) h.2)
and_then_wider first first' next next' one two (Err s) (inl h) = inl (one (Err s) h)
and_then_wider first first' next next' one two (Err s) (inr h) = inr (h.0, one (Ok h.0) h.1, two h.0 (Err s) h.2)

-- the files behind those that are read
abbrev neighbors_step : FolderSeen → List ℕ → NodeText → List Tet → List FaceRow → Result MeshText CheckFault → Type 0
neighbors_step seen base nodes rows faces =
    AndThen (NeighborsAnswer seen base nodes) (λ neighbors. Gives (record { nodes = nodes; rows = rows; faces = faces; neighbors = neighbors }))

abbrev faces_step : FolderSeen → List ℕ → NodeText → List Tet → Result MeshText CheckFault → Type 0
faces_step seen base nodes rows = AndThen (FileAnswer seen (base ++ codes ".face") (faces_in_text nodes)) (neighbors_step seen base nodes rows)

abbrev rows_step : FolderSeen → List ℕ → NodeText → Result MeshText CheckFault → Type 0
rows_step seen base nodes = AndThen (FileAnswer seen (base ++ codes ".ele") (rows_of nodes)) (faces_step seen base nodes)

mesh_wider : (part wide : FolderSeen) → IsWithin part wide → (base : List ℕ) (r : Result MeshText CheckFault) → MeshAnswer part base r → MeshAnswer wide base r
mesh_wider part wide w base =
    and_then_wider (FileAnswer part (base ++ codes ".node") nodes_in_text) (FileAnswer wide (base ++ codes ".node") nodes_in_text) (rows_step part base) (rows_step wide base)
    (file_wider part wide w (base ++ codes ".node") nodes_in_text)
    (λ nodes. and_then_wider (FileAnswer part (base ++ codes ".ele") (rows_of nodes)) (FileAnswer wide (base ++ codes ".ele") (rows_of nodes)) (faces_step part base nodes) (faces_step wide base nodes)
    (file_wider part wide w (base ++ codes ".ele") (rows_of nodes))
    (λ rows. and_then_wider (FileAnswer part (base ++ codes ".face") (faces_in_text nodes)) (FileAnswer wide (base ++ codes ".face") (faces_in_text nodes)) (neighbors_step part base nodes rows) (neighbors_step wide base nodes rows)
    (file_wider part wide w (base ++ codes ".face") (faces_in_text nodes))
    (λ faces. and_then_wider (NeighborsAnswer part base nodes) (NeighborsAnswer wide base nodes) (λ neighbors. Gives (record { nodes = nodes; rows = rows; faces = faces; neighbors = neighbors })) (λ neighbors. Gives (record { nodes = nodes; rows = rows; faces = faces; neighbors = neighbors }))
    (neighbors_wider part wide w base nodes) (λ neighbors r h. h))))

pub far_wider : (part wide : FolderSeen) → IsWithin part wide → (base : List ℕ) (r : Result ℕ CheckFault) → FarCheckAnswer part base r → FarCheckAnswer wide base r
far_wider part wide w base = and_then_wider (MeshAnswer part base) (MeshAnswer wide base) FarTextAnswer FarTextAnswer (mesh_wider part wide w base) (λ text r h. h)
