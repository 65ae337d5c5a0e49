-- Where a weighted point is outside of a row, it is lifted above it.
use Rattle.std.proofs.Common.{◌≡◌, ◌↔◌, ℕ, ◌<◌, ℤ, Bool, IsTrue, List, length, sym, ◌∙◌, arith}
use Rattle.sign_predicates.specs.Point.{Point}
use Rattle.sign_predicates.proofs.Places.{A, B, C, D, Place}
use Rattle.geo_laws.specs.declared.tetrahedra.Tet.{Tet as Row}
use Rattle.geo_laws.proofs.Corners.{on_of_corners}
use Rattle.geo_laws.proofs.Places.{number}
use Rattle.insert_laws.specs.LowestInsertion.{HasAbove}
use Rattle.weighted_mesh.specs.Regular.{weighted_lift, is_weighted_outside}
use Rattle.weighted_mesh.proofs.Weighted.{law_weighted_lift}
use Rattle.cavity_insert.specs.Lift.{IsRowFor}

pub above_of : (ps : List Point) (ws : List ℤ) (t : Row) (p : ℕ) (b : Bool) → IsRowFor ps t p → b ≡ is_weighted_outside ps ws t p → IsTrue b ↔ HasAbove (weighted_lift ps ws) ps t p
above_of ps ws t p b row is = let law = law_weighted_lift ps ws t p (on_of_corners ps t on) row.inside row.positive row.further in (λ h. law.0 (sym is ∙ h), λ h. is ∙ law.1 h)
  where
    on : (u : Place) → number t u < length ps
    on A = row.on 0 (omega arith)
    on B = row.on 1 (omega arith)
    on C = row.on 2 (omega arith)
    on D = row.on 3 (omega arith)
