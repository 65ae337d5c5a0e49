-- Rows of lifted points are those of the points.
use Rattle.std.proofs.Common.{◌≡◌, ℕ, zero, suc, ◌+◌, ◌<◌, Bool, List, [], ◌∷◌, ◌++◌, length, refl, sym, ap, subst, ◌∙◌, below_more, arith, get_or, IsTrue, ◌↔◌}
use Rattle.std.proofs.lemmas.List.{get_or_append_left, get_or_push, get_or_default}
use Rattle.sign_predicates.specs.Point.{Point, origin}
use Rattle.sign_predicates.specs.Lifted.{IsInFrame, AreInFrame}
use Rattle.sign_predicates.specs.declared.lifted.Frame.{Frame}
use Rattle.geo_laws.specs.Delaunay.{point, corners}
use Rattle.geo_laws.specs.declared.tetrahedra.Tet.{Tet as Row}
use Rattle.mesh_arena.specs.Mesh.{numbered_corners}
use Rattle.point_locate.specs.Place.{AreOn, row_corners}
use Rattle.geo_laws.specs.Height.{lifted}
use Rattle.geo_laws.proofs.Corners.{on_of_corners}
use Rattle.geo_laws.proofs.Places.{number}
use Rattle.geo_laws.proofs.Lift.{law_lift}
use Rattle.sign_predicates.proofs.Places.{A, B, C, D, Place}
use Rattle.insert_laws.specs.Insertion.{HasOutside}
use Rattle.insert_laws.specs.LowestInsertion.{HasAbove}
use Rattle.cavity_insert.specs.Lift.{IsRowFor}
use Rattle.cavity_insert.specs.Lifting.{AreLifted}
use Rattle.cavity_insert.specs.declared.lifting.LiftedPoints.{LiftedPoints}

-- a row of the points is one of the lifted points
pub lifted_row : (lifted : LiftedPoints) (ps : List Point) (t : Row) → AreLifted lifted ps → AreOn ps (row_corners t) → AreOn lifted.points (row_corners t)
lifted_row lifted ps t are on = λ k below. by_four k below
  where
    fits : (i : ℕ) → i < length ps → i < length lifted.points
    fits i h = omega (arith, are.count)

    by_four : AreOn lifted.points (row_corners t)
    by_four zero below = fits t.a (on 0 below)
    by_four (suc zero) below = fits t.b (on 1 below)
    by_four (suc (suc zero)) below = fits t.c (on 2 below)
    by_four (suc (suc (suc zero))) below = fits t.d (on 3 below)
    by_four (suc (suc (suc (suc k)))) below = absurd (omega arith)

-- and so are its corners
pub lifted_corners : (lifted : LiftedPoints) (ps : List Point) (t : Row) → AreLifted lifted ps → AreOn ps (row_corners t)
    → AreInFrame lifted.frame (corners lifted.points t) (corners ps t)
lifted_corners lifted ps t are on = record {
  a_in = are.each t.a (on 0 (omega arith));
  b_in = are.each t.b (on 1 (omega arith));
  c_in = are.each t.c (on 2 (omega arith));
  d_in = are.each t.d (on 3 (omega arith));
}

-- one point more
pub one_more : (frame : Frame) (ps qs rs : List Point) (n : ℕ) (q p : Point) → length qs ≡ n → ((i : ℕ) → i < n → IsInFrame frame (point qs i) (point ps i))
    → rs ≡ qs ++ q ∷ [] → point ps n ≡ p → IsInFrame frame q p → (i : ℕ) → i < n + 1 → IsInFrame frame (point rs i) (point ps i)
one_more frame ps qs rs n q p len each pushed at new = below_more _ _ before here
  where
    before : (i : ℕ) → i < n → IsInFrame frame (point rs i) (point ps i)
    before i h = subst (λ r. IsInFrame frame r (point ps i)) (sym (ap (λ ls. point ls i) pushed ∙ get_or_append_left qs (q ∷ []) origin i (omega arith))) (each i h)

    here : IsInFrame frame (point rs n) (point ps n)
    here = subst (λ r. IsInFrame frame r (point ps n)) (sym (ap (λ ls. point ls n) pushed ∙ get_or_push qs q origin n len)) (subst (λ e. IsInFrame frame q e) (sym at) new)

-- the corners of four points
pub four_numbered : (ns : List ℕ) → length ns ≡ 4 → numbered_corners ns ≡ row_corners (record { a = get_or ns 0 0; b = get_or ns 1 0; c = get_or ns 2 0; d = get_or ns 3 0 })
four_numbered [] h = absurd (omega arith)
four_numbered (a ∷ []) h = absurd (omega arith)
four_numbered (a ∷ b ∷ []) h = absurd (omega arith)
four_numbered (a ∷ b ∷ c ∷ []) h = absurd (omega arith)
four_numbered (a ∷ b ∷ c ∷ d ∷ []) h = refl
four_numbered (a ∷ b ∷ c ∷ d ∷ e ∷ ns) h = absurd (omega arith)

-- a point is lifted above a row where it is outside of it
pub above_of : (ps : List Point) (t : Row) (p : ℕ) (b : Bool) → IsRowFor ps t p → IsTrue b ↔ HasOutside ps t p → IsTrue b ↔ HasAbove (lifted ps) ps t p
above_of ps t p b row told = let law = law_lift ps t p (on_of_corners ps t on) row.inside row.positive row.further in (λ h. law.0 (told.0 h), λ h. told.1 (law.1 h))
  where
    on : (u : Place) → number t u < length ps
    on A = row.on 0 (omega arith)
    on B = row.on 1 (omega arith)
    on C = row.on 2 (omega arith)
    on D = row.on 3 (omega arith)

-- the point that a list has at a place
pub point_read : (ps : List Point) (n : ℕ) (p : Point) → n < length ps → p ≡ get_or ps n p → point ps n ≡ p
point_read ps n p h e = get_or_default ps n origin p h ∙ sym e
