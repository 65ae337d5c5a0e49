use Rattle.cavity_insert.proofs.meshing.lowest_mesh.Given as goal

-- a ledger of its own
abbrev pub ghosts-mesh_counted : goal.ghosts-mesh_counted
ghosts-mesh_counted g a = record { name = a.blank.name; parts = a.blank.parts }
