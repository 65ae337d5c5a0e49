-- The text of the `.ele` file of a list determines the list.
use Rattle.std.specs.Prelude.{◌≡◌, ◌≢◌, ◌+◌, ◌<◌, ◌^◌, ℕ, Option, IfSome, List, All, AllPairs, Contains}
use Rattle.geo_laws.specs.Delaunay.{numbers}
use Rattle.geo_laws.specs.declared.complex.Region.{Region}
use Rattle.geo_laws.specs.declared.tetrahedra.Tet.{Tet}
use Rattle.mesh_files.specs.Texts.{ele_text_of, AreNamed}

-- no attribute has a line feed in it
abbrev pub AreInOneLine : List Region → Type 0
AreInOneLine regions = All (λ r. ¬ Contains r.attribute 10) regions

-- two lists of tetrahedra on the same points, whose names differ, that have the same text, each without marks or with any marks, are one
-- list
abbrev pub EleTextLaw : Type 0
EleTextLaw = (names : List ℕ) (first : ℕ) (marks marks' : Option (List (Option ℕ))) (regions regions' : List Region) (rows rows' : List Tet)
    → AllPairs ◌≢◌ names → All (λ n. n + first < 2 ^ 64) names
    → All (λ t. AreNamed names (numbers t)) rows → All (λ t. AreNamed names (numbers t)) rows'
    → IfSome marks (λ _. AreInOneLine regions) → IfSome marks' (λ _. AreInOneLine regions')
    → ele_text_of marks regions names first rows ≡ ele_text_of marks' regions' names first rows' → rows ≡ rows'
