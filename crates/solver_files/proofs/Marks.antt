-- Marks that are those of the tetrahedra of a mesh.
use Rattle.std.proofs.Common.{◌≡◌, ℕ, ◌<◌, List, [], length, Option, Some, None, get_or, sym, ap, ◌∙◌, arith}
use Rattle.std.specs.Prelude.{All, IfSome}
use Rattle.std.proofs.lemmas.List.{get_or-map}
use Rattle.geo_laws.specs.declared.complex.Region.{Region}
use Rattle.mesh_files.specs.Texts.{attribute_of}
use Rattle.solver_files.specs.Mesh.{mark_at}

-- the mark at a place names a region that is there
pub mark_there : (marks : Option (List (Option ℕ))) (rows regions place : ℕ) → IfSome marks (λ ms. length ms ≡ rows)
    → IfSome marks (λ ms. All (λ mark. IfSome mark (λ r. r < regions)) ms) → place < rows → IfSome (mark_at marks place) (λ r. r < regions)
mark_there None rows regions place long all lt = tt
mark_there (Some ms) rows regions place long all lt = all place None (omega (arith, long))

-- the attribute of a region that is there
pub attribute_at : (regions : List Region) (mark : Option ℕ) (k : ℕ) (r : Region) → mark ≡ Some k → k < length regions → ((d : Region) → get_or regions k d ≡ r) → r.attribute ≡ attribute_of regions mark
attribute_at regions mark k r e l at = sym (ap (attribute_of regions) e ∙ get_or-map (λ (x : Region). x.attribute) regions k r [] l ∙ ap (λ x. x.attribute) (at r))
