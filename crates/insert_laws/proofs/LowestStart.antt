-- Where the walk to the new point ends.
use Rattle.geo_laws.proofs.Places.{number}
use Rattle.std.proofs.Common.{◌≢◌, ◌⊎◌, inl, inr, ℕ, ℤ, pos, ◌<ℤ◌, List, length, refl, subst, arith}
use Rattle.std.specs.Prelude.{Contains}
use Rattle.sign_predicates.specs.Point.{Point, RationalPoint, as_rational}
use Rattle.sign_predicates.specs.Orientation.{side, InClosed}
use Rattle.geo_laws.specs.Delaunay.{point, corners, AreNumbersOf}
use Rattle.geo_laws.specs.Height.{IsLowestAmong}
use Rattle.geo_laws.specs.Height.{places}
use Rattle.geo_laws.specs.declared.tetrahedra.Tet.{Tet}
use Rattle.geo_laws.proofs.Determinants as ring
use Rattle.geo_laws.proofs.Corners.{IsCorner}
use Rattle.geo_laws.proofs.Corners.{contains_corner}
use Rattle.geo_laws.proofs.Heights.{all_fours, in_all_fours}
use Rattle.geo_laws.specs.OrientedFace.{Face, triangle, reversed, beside, IsOther}
use Rattle.insert_laws.specs.LowestInsertion.{IsLowestHullFace, edge_and, LowestHullTurnLaw, LowestLocateLaw}
use Rattle.insert_laws.proofs.Pencil.{IsBare, IsFirst, first_of, neighbor, above_not_zero, apart_sides}
use Rattle.geo_laws.proofs.Arrangement.{even_back}
use Rattle.insert_laws.proofs.FacePencil.{side_of, gap_of, face_pencil}
use Rattle.insert_laws.proofs.LowestBridge
use Rattle.insert_laws.proofs.EdgePencil.{IsHullOn}
use Rattle.insert_laws.proofs.LowestHull as hull
use Rattle.insert_laws.proofs.Climb.{climb}
use Rattle.insert_laws.proofs.Inside as inside
use Rattle.insert_laws.proofs.Beyond.{hull-turn}
use Rattle.insert_laws.proofs.BeyondLaw.{closed_or_beyond}

pub law_hull_turn : LowestHullTurnLaw
law_hull_turn lifts ps ms within i j o h = at (hull.some_hull_on lifts ps ms (Contains ms) (LowestBridge.of_list ps ms within) (edge_and i j o) h)
  where
    at : (a : ℕ) × IsHullOn lifts ps (Contains ms) (edge_and i j o) a → IsLowestHullFace lifts ps ms (edge_and j o i)
    at r = hull.hull_from lifts ps ms (Contains ms) (LowestBridge.of_list ps ms within) (edge_and j o i) r.0 (hull-turn lifts ps (Contains ms) (edge_and i j o) r.0 r.1)

-- ---- the walk

record IsNextRow (lifts : ℕ → ℤ) (ps : List Point) (ms : List ℕ) (y : RationalPoint) (t : Tet) : Type 0 where
  row : Tet
  is_row : IsLowestAmong ps ms lifts row
  rises : inside.rises_at lifts ps y t row

next_row : (lifts : ℕ → ℤ) (ps : List Point) (ms : List ℕ) → AreNumbersOf ps ms → (y : RationalPoint) (t : Tet) → IsLowestAmong ps ms lifts t → (b : inside.IsBeyondFace ps t y) → IsLowestHullFace lifts ps ms b.face ⊎ IsNextRow lifts ps ms y t
next_row lifts ps ms within y t d b = go (first_of (face_pencil lifts ps b.face) (Contains ms) (LowestBridge.list_set ps ms within))
  where
    low : LowestBridge.IsLowFour lifts ps (Contains ms) (beside (reversed b.face) b.apex)
    low = LowestBridge.low_even lifts ps (Contains ms) t (beside (reversed b.face) b.apex) (even_back ps (beside (reversed b.face) b.apex) t b.even) (LowestBridge.low_of_lowest lifts ps ms (Contains ms) (LowestBridge.of_list ps ms within) t d)

    low_back : LowestBridge.IsLowOn lifts ps (Contains ms) (reversed b.face) b.apex
    low_back = LowestBridge.low_on_face lifts ps (Contains ms) (reversed b.face) b.apex low

    on : LowestBridge.IsFaceOn (Contains ms) b.face
    on = LowestBridge.reversed_on (Contains ms) (reversed b.face) (LowestBridge.face_on lifts ps (Contains ms) (reversed b.face) b.apex low)

    under : LowestBridge.IsLowUnderOn lifts ps (Contains ms) b.face b.apex
    under = LowestBridge.under_of lifts ps (Contains ms) b.face b.apex low_back

    go : IsBare (side_of ps b.face) (Contains ms) ⊎ ((o : ℕ) × IsFirst (side_of ps b.face) (gap_of lifts ps b.face) (places (length ps)) (Contains ms) o) → IsLowestHullFace lifts ps ms b.face ⊎ IsNextRow lifts ps ms y t
    go (inl bare) = inl (record { behind = t; is_row = d; is_face = inside.face_of lifts ps (Contains ms) (reversed b.face) b.apex t low_back b.even; none_beyond = bare })
    go (inr (o, first)) = inr (record { row = r.row; is_row = r.is_row; rises = inside.rises_across lifts ps y b.face b.apex o t r.row b.even r.even b.beyond (low_back.others o low_o.on (record { not_a = other.not_a; not_b = other.not_c; not_c = other.not_b }) apart) })
      where
        low_o : LowestBridge.IsLowOn lifts ps (Contains ms) b.face o
        low_o = neighbor (face_pencil lifts ps b.face) b.apex o under first

        r : LowestBridge.HasRowOn lifts ps ms b.face o
        r = LowestBridge.row_of lifts ps ms (Contains ms) (LowestBridge.of_list ps ms within) b.face o on low_o

        other : IsOther b.face o
        other = (face_pencil lifts ps b.face).other o (above_not_zero (side_of ps b.face o) low_o.over)

        apart : o ≢ b.apex
        apart = apart_sides (side_of ps b.face) o b.apex low_o.over under.under

-- the walk to p, which may be one of the points, ends in a tetrahedron that holds it, or leaves by a hull face
pub locate_among : (lifts : ℕ → ℤ) (ps : List Point) (ms : List ℕ) → AreNumbersOf ps ms → (p : ℕ) (some : Tet) → IsLowestAmong ps ms lifts some
    → ((t : Tet) × IsLowestAmong ps ms lifts t × InClosed (corners ps t) (as_rational (point ps p))) ⊎ ((f : Face) × IsLowestHullFace lifts ps ms f × (pos 0 <ℤ side (triangle ps f) (point ps p)))
locate_among lifts ps ms within p some some_is =
    climb Tet (inside.rises_at lifts ps y) (IsLowestAmong ps ms lifts) (λ t. Found)
    (λ x z u hx hz hu a b. inside.rises_trans lifts ps y x z u hx.is_positive hz.is_positive hu.is_positive a b) (λ x h. inside.rises_never lifts ps y x h) step
    (length (all_fours ms)) (all_fours ms) (omega arith) some some_is
    (λ u d r. in_all_fours ms u (λ w. on u d (number u w) (w, refl)))
  where
    y : RationalPoint
    y = as_rational (point ps p)

    Found : Type 0
    Found = ((t : Tet) × IsLowestAmong ps ms lifts t × InClosed (corners ps t) (as_rational (point ps p))) ⊎ ((f : Face) × IsLowestHullFace lifts ps ms f × (pos 0 <ℤ side (triangle ps f) (point ps p)))

    on : (t : Tet) → IsLowestAmong ps ms lifts t → (i : ℕ) → IsCorner t i → Contains ms i
    on t d i c = d.is_on i (contains_corner t i c)

    step : (t : Tet) → IsLowestAmong ps ms lifts t
        → (((t : Tet) × IsLowestAmong ps ms lifts t × InClosed (corners ps t) (as_rational (point ps p))) ⊎ ((f : Face) × IsLowestHullFace lifts ps ms f × (pos 0 <ℤ side (triangle ps f) (point ps p))))
        ⊎ ((r : Tet) × IsLowestAmong ps ms lifts r × inside.rises_at lifts ps (as_rational (point ps p)) t r
        × ((((t : Tet) × IsLowestAmong ps ms lifts t × InClosed (corners ps t) (as_rational (point ps p))) ⊎ ((f : Face) × IsLowestHullFace lifts ps ms f × (pos 0 <ℤ side (triangle ps f) (point ps p))))
        → (((t : Tet) × IsLowestAmong ps ms lifts t × InClosed (corners ps t) (as_rational (point ps p))) ⊎ ((f : Face) × IsLowestHullFace lifts ps ms f × (pos 0 <ℤ side (triangle ps f) (point ps p))))))
    step t d = go (closed_or_beyond ps t (as_rational (point ps p)))
      where
        onward : (b : inside.IsBeyondFace ps t (as_rational (point ps p))) → IsLowestHullFace lifts ps ms b.face ⊎ IsNextRow lifts ps ms (as_rational (point ps p)) t
            → (((t : Tet) × IsLowestAmong ps ms lifts t × InClosed (corners ps t) (as_rational (point ps p))) ⊎ ((f : Face) × IsLowestHullFace lifts ps ms f × (pos 0 <ℤ side (triangle ps f) (point ps p))))
            ⊎ ((r : Tet) × IsLowestAmong ps ms lifts r × inside.rises_at lifts ps (as_rational (point ps p)) t r
            × ((((t : Tet) × IsLowestAmong ps ms lifts t × InClosed (corners ps t) (as_rational (point ps p))) ⊎ ((f : Face) × IsLowestHullFace lifts ps ms f × (pos 0 <ℤ side (triangle ps f) (point ps p))))
            → (((t : Tet) × IsLowestAmong ps ms lifts t × InClosed (corners ps t) (as_rational (point ps p))) ⊎ ((f : Face) × IsLowestHullFace lifts ps ms f × (pos 0 <ℤ side (triangle ps f) (point ps p))))))
        onward b (inl h) = inl (inr (b.face, h, subst (λ n. pos 0 <ℤ n) (ring.side_rational-as_rational (triangle ps b.face) (point ps p)) b.beyond))
        onward b (inr r) = inr (r.row, r.is_row, r.rises, λ f. f)

        go : InClosed (corners ps t) (as_rational (point ps p)) ⊎ inside.IsBeyondFace ps t (as_rational (point ps p))
            → (((t : Tet) × IsLowestAmong ps ms lifts t × InClosed (corners ps t) (as_rational (point ps p))) ⊎ ((f : Face) × IsLowestHullFace lifts ps ms f × (pos 0 <ℤ side (triangle ps f) (point ps p))))
            ⊎ ((r : Tet) × IsLowestAmong ps ms lifts r × inside.rises_at lifts ps (as_rational (point ps p)) t r
            × ((((t : Tet) × IsLowestAmong ps ms lifts t × InClosed (corners ps t) (as_rational (point ps p))) ⊎ ((f : Face) × IsLowestHullFace lifts ps ms f × (pos 0 <ℤ side (triangle ps f) (point ps p))))
            → (((t : Tet) × IsLowestAmong ps ms lifts t × InClosed (corners ps t) (as_rational (point ps p))) ⊎ ((f : Face) × IsLowestHullFace lifts ps ms f × (pos 0 <ℤ side (triangle ps f) (point ps p))))))
        go (inl h) = inl (inl (t, d, h))
        go (inr b) = onward b (next_row lifts ps ms within (as_rational (point ps p)) t d b)

pub law_locate : LowestLocateLaw
law_locate lifts ps ms p new = locate_among lifts ps ms new.within p
