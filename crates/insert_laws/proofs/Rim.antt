-- The faces of the rim close up: across each edge lies one other.
use Rattle.geo_laws.proofs.Corners.{AreDistinct}
use Rattle.sign_predicates.proofs.Places.{D, A, B, C}
use Rattle.insert_laws.proofs.EdgePencil.{IsHullOn}
use Rattle.std.proofs.Common.{◌≡◌, ◌≢◌, ◌⊎◌, inl, inr, ℕ, ◌<◌, pos, List, ◌∷◌, length, refl, ℤ}
use Rattle.std.specs.Prelude.{Contains}
use Rattle.sign_predicates.specs.Point.{Point}
use Rattle.geo_laws.specs.Height.{places}
use Rattle.geo_laws.specs.declared.tetrahedra.Tet.{Tet}
use Rattle.geo_laws.proofs.Corners.{IsCorner}
use Rattle.geo_laws.proofs.Corners.{distinct}
use Rattle.geo_laws.specs.OrientedFace.{Face, reversed, beside}
use Rattle.geo_laws.specs.Height.{IsLowestAmong}
use Rattle.insert_laws.specs.LowestInsertion.{IsNew, IsLowestHullRim, IsLowestRimFace, edge_and, IsLowestHullFace, LowestRimEdgeLaw, LowestHullRimLaw, cavity_row, cavity_ghost, IsLowestCavityPlace}
use Rattle.insert_laws.proofs.Pencil.{IsBare, IsFirst, first_of, neighbor, low_unique, above_not_zero}
use Rattle.insert_laws.proofs.StarPencil as pencil
use Rattle.insert_laws.proofs.StarPencil.{With}
use Rattle.geo_laws.specs.Arrangement.{rotate}
use Rattle.geo_laws.proofs.Arrangement.{IsEven, even_trans, even-swap, even-rotate}
use Rattle.insert_laws.proofs.FacePencil.{side_of, gap_of, face_pencil}
use Rattle.insert_laws.proofs.LowestBridge
use Rattle.insert_laws.proofs.LowestHull as hull
use Rattle.insert_laws.proofs.HullLaws.{law_new_hull}
use Rattle.insert_laws.proofs.LowestInsert as insert
use Rattle.insert_laws.proofs.LowestHull.{law_hull_edge}
use Rattle.insert_laws.proofs.LowestStart.{law_hull_turn}

-- the row of a rim face and p
rim_low : (lifts : ℕ → ℤ) (ps : List Point) (ms : List ℕ) (p : ℕ) (new : IsNew ps ms p) (f : Face) → IsLowestRimFace lifts ps ms p f → LowestBridge.IsLowFour lifts ps (With (Contains ms) p) (beside f p)
rim_low lifts ps ms p new f h =
    let over = insert.cavity_to lifts ps ms p new f h.cavity in
    LowestBridge.four_of_face lifts ps (With (Contains ms) p) f p (record { on_a = inr over.0.on_a; on_b = inr over.0.on_b; on_c = inr over.0.on_c })
    (pencil.star_is_low (face_pencil lifts ps f) p over.1 (insert.clear_to lifts ps ms p new f over.0 h.clear))

-- and back, where some row is there
rim_of_low : (lifts : ℕ → ℤ) (ps : List Point) (ms : List ℕ) (p : ℕ) (new : IsNew ps ms p) (some : Tet) → IsLowestAmong ps ms lifts some → (f : Face) → LowestBridge.IsLowFour lifts ps (With (Contains ms) p) (beside f p) → IsLowestRimFace lifts ps ms p f
rim_of_low lifts ps ms p new some some_is f four = record { cavity = insert.of_cavity lifts ps ms p new f on at.0; clear = insert.of_clear lifts ps ms p new f on at.1 }
  where
    apart : AreDistinct (beside f p)
    apart = distinct ps (beside f p) four.positive

    old : (i : ℕ) → With (Contains ms) p i → i ≢ p → Contains ms i
    old i (inl e) n = absurd (n e)
    old i (inr c) n = c

    on : LowestBridge.IsFaceOn (Contains ms) f
    on = record { on_a = old f.a (four.on f.a (A, refl)) (apart A D tt); on_b = old f.b (four.on f.b (B, refl)) (apart B D tt); on_c = old f.c (four.on f.c (C, refl)) (apart C D tt) }

    low : LowestBridge.IsLowFour lifts ps (Contains ms) some
    low = LowestBridge.low_of_lowest lifts ps ms (Contains ms) (LowestBridge.of_list ps ms new.within) some some_is

    off : (e : ℕ) × IsCorner some e × (side_of ps f e ≢ pos 0)
    off = insert.off_plane ps f p some low.positive (above_not_zero (side_of ps f p) four.positive)

    at : insert.OverOn lifts ps ms p f × insert.UnderOn lifts ps ms p f
    at = pencil.low_is_star (face_pencil lifts ps f) p (LowestBridge.list_set ps ms new.within) new.is_new off.0 (low.on off.0 off.1) off.2 (LowestBridge.low_on_face lifts ps (With (Contains ms) p) f p four)

-- a row that was there before
some_row : (lifts : ℕ → ℤ) (ps : List Point) (ms : List ℕ) (p : ℕ) (f : Face) → IsLowestCavityPlace lifts ps ms p f → (t : Tet) × IsLowestAmong ps ms lifts t
some_row lifts ps ms p f (cavity_row t d face n) = (t, d)
some_row lifts ps ms p f (cavity_ghost h s) = (h.behind, h.is_row)

-- the neighbor of the new tetrahedron across the edge is on another rim face, or the edge is on the hull
pub law_rim_edge : LowestRimEdgeLaw
law_rim_edge lifts ps ms p new i j k h = (go (first_of (face_pencil lifts ps outer) (With (Contains ms) p) (LowestBridge.new_set ps ms p new)), unique)
  where
    -- the face of the edge and p, turned away from k
    outer : Face
    outer = edge_and i j p

    some : (t : Tet) × IsLowestAmong ps ms lifts t
    some = some_row lifts ps ms p (edge_and i j k) h.cavity

    four : LowestBridge.IsLowFour lifts ps (With (Contains ms) p) (beside (edge_and i j k) p)
    four = rim_low lifts ps ms p new (edge_and i j k) h

    -- i j k p to i p j k
    turned_row : (a b c d : ℕ) → IsEven ps (record { a = a; b = b; c = c; d = d }) (record { a = a; b = d; c = b; d = c })
    turned_row a b c d =
        let t : Tet = record { a = a; b = b; c = c; d = d } in
        even_trans ps t (rotate t) (rotate (rotate t)) (even-rotate ps t) (even-rotate ps (rotate t))

    behind : LowestBridge.IsLowFour lifts ps (With (Contains ms) p) (beside (reversed (edge_and i j p)) k)
    behind = LowestBridge.low_even lifts ps (With (Contains ms) p) (beside (edge_and i j k) p) (beside (reversed (edge_and i j p)) k) (turned_row i j k p) four

    under : LowestBridge.IsLowUnderOn lifts ps (With (Contains ms) p) (edge_and i j p) k
    under = LowestBridge.under_of lifts ps (With (Contains ms) p) (edge_and i j p) k (LowestBridge.low_on_face lifts ps (With (Contains ms) p) (reversed (edge_and i j p)) k behind)

    on : LowestBridge.IsFaceOn (With (Contains ms) p) (edge_and i j p)
    on = LowestBridge.reversed_on (With (Contains ms) p) (reversed (edge_and i j p)) (LowestBridge.face_on lifts ps (With (Contains ms) p) (reversed (edge_and i j p)) k behind)

    -- i j p q to j i q p
    exchanged : (q : ℕ) → IsEven ps (beside (edge_and i j p) q) (beside (edge_and j i q) p)
    exchanged q = even-swap ps (beside (edge_and i j p) q)

    go : IsBare (side_of ps (edge_and i j p)) (With (Contains ms) p) ⊎ ((q : ℕ) × IsFirst (side_of ps (edge_and i j p)) (gap_of lifts ps (edge_and i j p)) (places (length ps)) (With (Contains ms) p) q)
        → IsLowestHullRim lifts ps ms p i j ⊎ ((q : ℕ) × IsLowestRimFace lifts ps ms p (edge_and j i q))
    go (inl bare) = inl ((law_new_hull lifts ps ms p new some.0 some.1 i j).0 (hull.hull_from lifts ps (p ∷ ms) (With (Contains ms) p) (LowestBridge.of_new ps ms p new) (edge_and i j p) k (record { on = on; bare = bare; low = under })))
    go (inr (q, first)) = inr (
      q,
      rim_of_low lifts ps ms p new some.0 some.1 (edge_and j i q)
          (LowestBridge.low_even lifts ps (With (Contains ms) p) (beside (edge_and i j p) q) (beside (edge_and j i q) p) (exchanged q)
          (LowestBridge.four_of_face lifts ps (With (Contains ms) p) (edge_and i j p) q on (neighbor (face_pencil lifts ps (edge_and i j p)) k q under first))),
    )

    back : (q : ℕ) → IsLowestRimFace lifts ps ms p (edge_and i j q) → LowestBridge.IsLowOn lifts ps (With (Contains ms) p) (reversed (edge_and i j p)) q
    back q r = LowestBridge.low_on_face lifts ps (With (Contains ms) p) (reversed (edge_and i j p)) q
        (LowestBridge.low_even lifts ps (With (Contains ms) p) (beside (edge_and i j q) p) (beside (reversed (edge_and i j p)) q) (turned_row i j q p) (rim_low lifts ps ms p new (edge_and i j q) r))

    unique : (q : ℕ) → IsLowestRimFace lifts ps ms p (edge_and i j q) → k ≡ q
    unique q r = low_unique (face_pencil lifts ps (reversed (edge_and i j p))) k q (back k h) (back q r)

-- ---- the rim on the hull

pub law_hull_rim : LowestHullRimLaw
law_hull_rim lifts ps ms p new some some_is i j h = (behind (hull.some_hull_on lifts ps (p ∷ ms) (With (Contains ms) p) (LowestBridge.of_new ps ms p new) (edge_and i j p) face), (next.0.0, to_rim next.0.0 next.0.1, unique))
  where
    within : (k : ℕ) → Contains (p ∷ ms) k → k < length ps
    within k c = (LowestBridge.of_new ps ms p new).within k c

    face_of_rim : (a b : ℕ) → IsLowestHullRim lifts ps ms p a b → IsLowestHullFace lifts ps (p ∷ ms) (edge_and a b p)
    face_of_rim a b r = (law_new_hull lifts ps ms p new some some_is a b).1 r

    turned : (a b c : ℕ) → IsLowestHullFace lifts ps (p ∷ ms) (edge_and a b c) → IsLowestHullFace lifts ps (p ∷ ms) (edge_and b c a)
    turned a b c f = law_hull_turn lifts ps (p ∷ ms) within a b c f

    face : IsLowestHullFace lifts ps (p ∷ ms) (edge_and i j p)
    face = face_of_rim i j h

    next : ((q : ℕ) × IsLowestHullFace lifts ps (p ∷ ms) (edge_and p j q)) × ((q : ℕ) → IsLowestHullFace lifts ps (p ∷ ms) (edge_and j p q) → i ≡ q)
    next = law_hull_edge lifts ps (p ∷ ms) within j p i (turned i j p face)

    to_rim : (q : ℕ) → IsLowestHullFace lifts ps (p ∷ ms) (edge_and p j q) → IsLowestHullRim lifts ps ms p j q
    to_rim q f = (law_new_hull lifts ps ms p new some some_is j q).0 (turned p j q f)

    unique : (r : ℕ) → IsLowestHullRim lifts ps ms p j r → next.0.0 ≡ r
    unique r k = (law_hull_edge lifts ps (p ∷ ms) within p j next.0.0 next.0.1).1 r (turned r p j (turned_back (face_of_rim j r k)))
      where
        turned_back : IsLowestHullFace lifts ps (p ∷ ms) (edge_and j r p) → IsLowestHullFace lifts ps (p ∷ ms) (edge_and r p j)
        turned_back f = turned j r p f

    behind : (a : ℕ) × IsHullOn lifts ps (With (Contains ms) p) (edge_and i j p) a → (k : ℕ) × IsLowestRimFace lifts ps ms p (edge_and i j k)
    behind (a, on) = (a, rim_of_low lifts ps ms p new some some_is (edge_and i j a) (LowestBridge.low_even lifts ps (With (Contains ms) p) t (beside (edge_and i j a) p) even low))
      where
        t : Tet
        t = beside (reversed (edge_and i j p)) a

        low : LowestBridge.IsLowFour lifts ps (With (Contains ms) p) (beside (reversed (edge_and i j p)) a)
        low = LowestBridge.four_of_face lifts ps (With (Contains ms) p) (reversed (edge_and i j p)) a (LowestBridge.reversed_on (With (Contains ms) p) (edge_and i j p) on.on) (LowestBridge.of_under lifts ps (With (Contains ms) p) (edge_and i j p) a on.low)

        -- i p j a to i j a p
        even : IsEven ps (beside (reversed (edge_and i j p)) a) (beside (edge_and i j a) p)
        even = even-rotate ps (beside (reversed (edge_and i j p)) a)
