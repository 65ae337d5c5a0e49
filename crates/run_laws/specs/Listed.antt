-- The names of kept and added points, in the list of points that is written.
use Rattle.std.specs.Prelude.{ℕ, ◌<◌, List, ◌++◌, length, All}
use Rattle.std.specs.List.{range_with_len}
use Rattle.sign_predicates.specs.Point.{Point}
use Rattle.node_files.specs.Folding.{IsFolded}
use Rattle.run_laws.specs.Renamed.{AreNamesIn}

-- The names of the points that are kept of a list, and those behind it of added points, are rising places in the list with the added points
-- behind it, where the same points stand
abbrev pub ListedNamesLaw : Type 0
ListedNamesLaw = (listed points added : List Point) (names folded : List ℕ) → IsFolded listed points names folded
    → AreNamesIn (names ++ range_with_len (length listed) (length added)) (points ++ added) (listed ++ added)
    × All (λ n. n < length (listed ++ added)) (names ++ range_with_len (length listed) (length added))
