-- The laws of the regular mesh of a list.
use Rattle.std.specs.Prelude.{◌≡◌, ◌≢◌, ◌↔◌, ℕ, ℤ, List, Result, Err, IsTrue}
use Rattle.sign_predicates.specs.Point.{Point}
use Rattle.geo_laws.specs.Laws.{IsTriangulation}
use Rattle.geo_laws.specs.declared.tetrahedra.Tet.{Tet}
use Rattle.node_files.specs.declared.table.NodeTable.{NodeTable}
use Rattle.weighted_mesh.specs.Regular.{IsRegularList, IsHiddenPoint}
use Rattle.weighted_mesh.specs.Hidden.{is_corner_of_none}
use Rattle.weighted_mesh.specs.Meshing.{RegularAnswer}
use Rattle.weighted_mesh.specs.declared.regular_fault.RegularFault.{RegularFault}
use Rattle.weighted_mesh.specs.declared.regular_fault.RegularFault.TheVariants.{NoMemory}
use Rattle.weighted_mesh.specs.declared.of_table.RegularMesh.{RegularMesh}

-- The regular list covers the hull of all its points once, hidden ones included, and its tetrahedra are properly met; there is one such
-- list; and a point counts as hidden exactly where it is a corner of no tetrahedron
pub record RegularListLaw : Type 0 where
  pub triangulation : (ps : List Point) (ws : List ℤ) (rows : List Tet) → IsRegularList ps ws rows → IsTriangulation ps rows
  pub only : (ps : List Point) (ws : List ℤ) (rows others : List Tet) → IsRegularList ps ws rows → IsRegularList ps ws others
      → rows ≡ others
  pub hidden : (rows : List Tet) (i : ℕ) → IsTrue (is_corner_of_none rows i) ↔ IsHiddenPoint rows i

-- two answers of one list are the same, apart from out of memory
abbrev pub OneAnswerLaw : Type 0
OneAnswerLaw = (table : NodeTable) (one two : Result RegularMesh RegularFault) → RegularAnswer table one → RegularAnswer table two
    → one ≢ Err NoMemory → two ≢ Err NoMemory → one ≡ two
