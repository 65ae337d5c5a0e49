-- Corners of rows that are points of a list.
use Rattle.std.proofs.Common.{◌≡◌, ℕ, zero, suc, ◌<◌, List, length, arith}
use Rattle.std.specs.Prelude.{All}
use Rattle.sign_predicates.specs.Point.{Point}
use Rattle.geo_laws.specs.Delaunay.{IsOn, numbers}
use Rattle.geo_laws.specs.declared.tetrahedra.Tet.{Tet}
use Rattle.mesh_files.specs.ReadRows.{AreCornersBelow}

row_on : (ps : List Point) (n : ℕ) (t : Tet) → length ps ≡ n → AreCornersBelow n t → IsOn ps t
row_on ps n t e h zero d lt = let a = h.a in omega arith
row_on ps n t e h (suc zero) d lt = let b = h.b in omega arith
row_on ps n t e h (suc (suc zero)) d lt = let c = h.c in omega arith
row_on ps n t e h (suc (suc (suc zero))) d lt = let f = h.d in omega arith
row_on ps n t e h (suc (suc (suc (suc k)))) d lt = absurd (omega arith)

pub rows_on : (ps : List Point) (n : ℕ) (rows : List Tet) → length ps ≡ n → All (AreCornersBelow n) rows → All (IsOn ps) rows
rows_on ps n rows e all k d lt = row_on ps n _ e (all k d lt)
