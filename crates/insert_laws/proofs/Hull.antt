-- The hull of the Delaunay list, and what a further point changes in it: the laws of the lowest tetrahedra, at the squared lengths.
use Rattle.std.proofs.Common.{◌∷◌}
use Rattle.geo_laws.specs.Height.{lifted}
use Rattle.insert_laws.proofs.LowestHull as hull
use Rattle.insert_laws.proofs.HullLaws as hulls
use Rattle.insert_laws.proofs.LowestStart as start
use Rattle.insert_laws.specs.Insertion.{edge_and, HullTurnLaw, HullEdgeLaw, OldHullLaw, NewHullLaw}
use Rattle.insert_laws.proofs.Bridge.{hull_of, hull_from, numbers_with, low, sees_of, sees_from, hull_rim_of, hull_rim_from}

pub law_hull_turn : HullTurnLaw
law_hull_turn ps ms within i j o h = hull_from ps ms within (edge_and j o i) (start.law_hull_turn (lifted ps) ps ms within i j o (hull_of ps ms within (edge_and i j o) h))

pub law_hull_edge : HullEdgeLaw
law_hull_edge ps ms within i j o h =
    let law = hull.law_hull_edge (lifted ps) ps ms within i j o (hull_of ps ms within (edge_and i j o) h) in
    ((law.0.0, hull_from ps ms within (edge_and j i law.0.0) law.0.1), λ q k. law.1 q (hull_of ps ms within (edge_and i j q) k))

pub law_old_hull : OldHullLaw
law_old_hull ps ms p new some is f a b c =
    let law = hulls.law_old_hull (lifted ps) ps ms p new some (low ps ms p new some is) f a b c in
    let more = numbers_with ps ms p new in (
      λ k.
          let r = law.0 (hull_of ps (p ∷ ms) more f k) in
          let h = hull_from ps ms new.within f r.0 in
          (h, λ s. r.1 (sees_of ps ms p new f h.behind h.is_row s)),
      λ r. hull_from ps (p ∷ ms) more f (law.1 (hull_of ps ms new.within f r.0, λ s. r.1 (sees_from ps ms p new f r.0.behind r.0.is_row s))),
    )

pub law_new_hull : NewHullLaw
law_new_hull ps ms p new some is i j =
    let law = hulls.law_new_hull (lifted ps) ps ms p new some (low ps ms p new some is) i j in
    let more = numbers_with ps ms p new in
    (λ h. hull_rim_from ps ms p new i j (law.0 (hull_of ps (p ∷ ms) more (edge_and i j p) h)), λ r. hull_from ps (p ∷ ms) more (edge_and i j p) (law.1 (hull_rim_of ps ms p new i j r)))
