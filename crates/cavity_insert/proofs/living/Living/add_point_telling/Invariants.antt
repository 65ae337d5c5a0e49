use Rattle.cavity_insert.proofs.living.Living.add_point_telling.Given as goal

-- a ledger of its own
abbrev pub ghosts-insert_last : goal.ghosts-insert_last
ghosts-insert_last a = record { name = a.blank.name; parts = a.blank.parts }
