-- How the rim's faces and its edges on the hull follow one another: where the one kind goes on, the other does not.
use Rattle.std.proofs.Common.{◌≡◌, ◌≢◌, inr, ℕ, ◌<◌, pos, neg_ℤ, ◌<ℤ◌, List, ◌∷◌, length, subst, ◌∙◌, arith, ℤ}
use Rattle.std.proofs.lemmas.Int.{ints}
use Rattle.std.specs.Prelude.{Contains}
use Rattle.sign_predicates.specs.Point.{Point}
use Rattle.sign_predicates.proofs.Places.{A, B, C}
use Rattle.geo_laws.proofs.Corners.{distinct}
use Rattle.geo_laws.proofs.Arrangement.{even-swap, even_positive}
use Rattle.geo_laws.specs.OrientedFace.{Face, reversed, beside}
use Rattle.insert_laws.specs.LowestInsertion.{IsNew, IsLowestHullFace, IsLowestHullRim, IsLowestRimFace, edge_and}
use Rattle.insert_laws.proofs.LowestBridge
use Rattle.insert_laws.proofs.LowestInsert as insert
use Rattle.insert_laws.proofs.FacePencil.{side_of, side_of-reversed}
use Rattle.insert_laws.proofs.Beyond.{turn, side-turn}
use Rattle.insert_laws.proofs.LowestHull.{law_hull_edge}
use Rattle.insert_laws.proofs.HullLaws.{law_new_hull}
use Rattle.insert_laws.proofs.LowestStart.{law_hull_turn}
use Rattle.mesh_laws.proofs.LowestFaces.{AreApart, hull_apart}

module _ (lifts : ℕ → ℤ) (ps : List Point) (ms : List ℕ) (p : ℕ) (new : IsNew ps ms p) where
  -- the new point is over a rim face
  rim_over : (f : Face) → IsLowestRimFace lifts ps ms p f → pos 0 <ℤ side_of ps f p
  rim_over f is = insert.law_rim lifts ps ms p new f is.cavity is.clear

  pub rim_apart : (f : Face) → IsLowestRimFace lifts ps ms p f → AreApart f
  rim_apart f is = let d = distinct ps (beside f p) (rim_over f is) in record { ab = d A B tt; ac = d A C tt; bc = d B C tt }

  -- so a face is no rim face from both of its sides
  pub one_side : (i j k : ℕ) → IsLowestRimFace lifts ps ms p (edge_and i j k) → IsLowestRimFace lifts ps ms p (edge_and j i k) → ⊥
  one_side i j k is back =
      let f = edge_and i j k in
      let front = rim_over f is in
      let turned_back = side-turn ps (turn (reversed f)) p ∙ side-turn ps (reversed f) p ∙ side_of-reversed ps f p in
      let behind : pos 0 <ℤ neg_ℤ (side_of ps f p) = subst (λ z. pos 0 <ℤ z) turned_back (rim_over (edge_and j i k) back) in
      absurd (omega (arith, ints, front, behind))

  pub hull_rim_apart : (i j : ℕ) → IsLowestHullRim lifts ps ms p i j → i ≢ j
  hull_rim_apart i j is = (hull_apart lifts ps ms (edge_and i j is.inner) is.seen).ab

  within : (i : ℕ) → Contains (p ∷ ms) i → i < length ps
  within = (LowestBridge.of_new ps ms p new).within

  -- the hull has the new point and the edge
  hull_with : (i j : ℕ) → IsLowestHullRim lifts ps ms p i j → IsLowestHullFace lifts ps (p ∷ ms) (edge_and i j p)
  hull_with i j is = (law_new_hull lifts ps ms p new is.seen.behind is.seen.is_row i j).1 is

  turned : (i j o : ℕ) → IsLowestHullFace lifts ps (p ∷ ms) (edge_and i j o) → IsLowestHullFace lifts ps (p ∷ ms) (edge_and j o i)
  turned i j o = law_hull_turn lifts ps (p ∷ ms) within i j o

  -- where the rim meets the hull no rim face goes on: its further corner would be strictly beyond the hull face of the edge and the new point
  pub rim_ends : (i j q : ℕ) → IsLowestHullRim lifts ps ms p i j → IsLowestRimFace lifts ps ms p (edge_and j i q) → ⊥
  rim_ends i j q edge face =
      (hull_with i j edge).none_beyond q (LowestBridge.to_cons p ms q (inr (insert.cavity_to lifts ps ms p new (edge_and j i q) face.cavity).0.on_c))
      (even_positive ps (beside (edge_and j i q) p) (beside (edge_and i j p) q) (even-swap ps (beside (edge_and j i q) p)) (rim_over (edge_and j i q) face))

  -- an edge on the hull has one before it
  pub edge_before : (i j : ℕ) → IsLowestHullRim lifts ps ms p i j → (q : ℕ) × IsLowestHullRim lifts ps ms p q i
  edge_before i j edge =
      let round = turned j p i (turned i j p (hull_with i j edge)) in
      let next = (law_hull_edge lifts ps (p ∷ ms) within p i j round).0 in
      (next.0, (law_new_hull lifts ps ms p new edge.seen.behind edge.seen.is_row next.0 i).0 (turned p next.0 i (turned i p next.0 next.1)))

  -- and only one
  pub one_before : (i j q : ℕ) → IsLowestHullRim lifts ps ms p i j → IsLowestHullRim lifts ps ms p q j → i ≡ q
  one_before i j q edge other = (law_hull_edge lifts ps (p ∷ ms) within j p i (turned i j p (hull_with i j edge))).1 q (turned q j p (hull_with q j other))
