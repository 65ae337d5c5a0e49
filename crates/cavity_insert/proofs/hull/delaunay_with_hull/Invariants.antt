use Rattle.cavity_insert.proofs.hull.delaunay_with_hull.Given as goal

-- a ledger of its own
abbrev pub ghosts-mesh_from : goal.ghosts-mesh_from
ghosts-mesh_from a = record { name = a.blank.name; parts = a.blank.parts }
