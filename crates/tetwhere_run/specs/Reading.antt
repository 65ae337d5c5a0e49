-- The files of a mesh and a list of queries, in the order in which they are read.
use Rattle.std.specs.Prelude.{ℕ, ◌++◌, List, codes, Result}
use Rattle.mesh_check.specs.Reading.{FileAnswer, nodes_in_text, rows_of}
use Rattle.tet_ports.specs.Seen.{FolderSeen}
use Rattle.mesh_check.specs.Steps.{AndThen, Gives}
use Rattle.mesh_check.specs.declared.fault.CheckFault.{CheckFault}
use Rattle.tetwhere_run.specs.declared.reading.WhereText.{WhereText}

-- The points and the rows of the mesh with this base, and the file of queries. Each text is read before the next fetch
abbrev pub WhereTextAnswer : FolderSeen → List ℕ → List ℕ → Result WhereText CheckFault → Type 0
WhereTextAnswer seen base queries =
    AndThen (FileAnswer seen (base ++ codes ".node") nodes_in_text)
    (λ nodes. AndThen (FileAnswer seen (base ++ codes ".ele") (rows_of nodes))
    (λ rows. AndThen (FileAnswer seen queries nodes_in_text)
    (λ list. Gives (record { nodes = nodes; rows = rows; queries = list }))))
