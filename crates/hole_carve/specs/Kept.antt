-- The tetrahedra without a mark, in order.
use Rattle.std.specs.Prelude.{Bool, cond, List, [], ◌∷◌}
use Rattle.geo_laws.specs.declared.tetrahedra.Tet.{Tet}

abbrev pub unmarked : List Tet → List Bool → List Tet
unmarked [] marks = []
unmarked (t ∷ rows) [] = t ∷ rows
unmarked (t ∷ rows) (m ∷ marks) = cond m (unmarked rows marks) (t ∷ unmarked rows marks)
