-- The hull faces after a point was added: those with it stand over the horizon, and those without it are the ones that it didn't see.
use Rattle.geo_laws.proofs.Corners.{AreDistinct}
use Rattle.sign_predicates.proofs.Places.{A, B, C}
use Rattle.std.proofs.Common.{◌≡◌, ◌≢◌, ◌⊎◌, inl, inr, ℕ, pos, neg_ℤ, ◌<ℤ◌, List, ◌∷◌, length, sym, subst, ◌∙◌, refl, ℤ}
use Rattle.std.specs.Prelude.{Contains, ◌↔◌}
use Rattle.sign_predicates.specs.Point.{Point, RationalPoint}
use Rattle.geo_laws.specs.Height.{places}
use Rattle.geo_laws.specs.declared.tetrahedra.Tet.{Tet}
use Rattle.geo_laws.proofs.Corners.{IsCorner}
use Rattle.geo_laws.proofs.Corners.{distinct}
use Rattle.geo_laws.proofs.Lexicographic.{IsZeroAt, IsLexAbove, lex_sign_of, lex_same}
use Rattle.geo_laws.specs.OrientedFace.{Face, reversed, beside, IsOther}
use Rattle.insert_laws.specs.LowestInsertion.{IsNew, IsLowestHullFace, HasAbove, LowestSees, IsLowestClearPlace, clear_row, clear_ghost, edge_and, IsLowestHullRim, LowestOldHullLaw, LowestNewHullLaw}
use Rattle.geo_laws.proofs.Lexicographic.{IsLexBelow, not_both}
use Rattle.insert_laws.proofs.Pencil.{IsPencil, IsBare, IsFirst, first_of, above_not_zero, under_unique}
use Rattle.insert_laws.proofs.StarPencil as pencil
use Rattle.insert_laws.proofs.StarPencil.{With, IsCavityOver, IsClearUnder, over_row, over_ghost, under_row, under_ghost}
use Rattle.insert_laws.proofs.FacePencil.{side_of, gap_of, face_pencil}
use Rattle.insert_laws.proofs.LowestBridge
use Rattle.insert_laws.proofs.EdgePencil as edge
use Rattle.insert_laws.proofs.EdgePencil.{edge_face, edge_side, edge_gap, edge_places, IsHullOn, IsSome}
use Rattle.insert_laws.proofs.LowestInsert as insert
use Rattle.insert_laws.proofs.LowestHull as hull

-- p sees the hull face, by the row of a behind it
abbrev pub IsSeen : (ℕ → ℤ) → List Point → ℕ → Face → ℕ → Type 0
IsSeen lifts ps p f a = (pos 0 <ℤ side_of ps f p) ⊎ ((side_of ps f p ≡ pos 0) × IsLexAbove (gap_of lifts ps f a p) (places (length ps)))

-- the row behind, as the hull face names it
record IsBehind (lifts : ℕ → ℤ) (ps : List Point) (ms : List ℕ) (p : ℕ) (f : Face) (a : ℕ) (t : Tet) : Type 0 where
  on : LowestBridge.IsFaceOn (Contains ms) f
  outside : HasAbove lifts ps t p ↔ IsLexBelow (gap_of lifts ps f a p) (places (length ps))
  decided : IsLexAbove (gap_of lifts ps f a p) (places (length ps)) ⊎ IsLexBelow (gap_of lifts ps f a p) (places (length ps))

behind_of : (lifts : ℕ → ℤ) (ps : List Point) (ms : List ℕ) (p : ℕ) (new : IsNew ps ms p) (f : Face) (a : ℕ) → (h : IsLowestHullFace lifts ps ms f) → IsHullOn lifts ps (Contains ms) f a → IsBehind lifts ps ms p f a h.behind
behind_of lifts ps ms p new f a h on = subst (λ i. IsBehind lifts ps ms p f i h.behind) same own
  where
    r : LowestBridge.IsRowOn lifts ps (Contains ms) (reversed f) h.behind
    r = LowestBridge.row_on lifts ps ms (Contains ms) (LowestBridge.of_list ps ms new.within) (reversed f) h.behind h.is_row h.is_face

    same : r.apex ≡ a
    same = under_unique (face_pencil lifts ps f) r.apex a (LowestBridge.under_of lifts ps (Contains ms) f r.apex r.low) on.low

    law : HasAbove lifts ps h.behind p ↔ IsLexAbove (gap_of lifts ps (reversed f) r.apex p) (places (length ps))
    law = insert.face_above lifts ps ms p new (reversed f) r.apex h.behind r.on r.low r.even

    to_below : IsLexAbove (gap_of lifts ps (reversed f) r.apex p) (places (length ps)) → IsLexBelow (gap_of lifts ps f r.apex p) (places (length ps))
    to_below k = lex_same (gap_of lifts ps (reversed f) r.apex p) (λ k. neg_ℤ (gap_of lifts ps f r.apex p k)) (places (length ps)) (λ k. LowestBridge.gap_over lifts ps f r.apex p k) k

    from_below : IsLexBelow (gap_of lifts ps f r.apex p) (places (length ps)) → IsLexAbove (gap_of lifts ps (reversed f) r.apex p) (places (length ps))
    from_below k = lex_same (λ k. neg_ℤ (gap_of lifts ps f r.apex p k)) (gap_of lifts ps (reversed f) r.apex p) (places (length ps)) (λ k. sym (LowestBridge.gap_over lifts ps f r.apex p k)) k

    split : IsLexAbove (gap_of lifts ps (reversed f) r.apex p) (places (length ps)) ⊎ IsLexBelow (gap_of lifts ps (reversed f) r.apex p) (places (length ps))
        → IsLexAbove (gap_of lifts ps f r.apex p) (places (length ps)) ⊎ IsLexBelow (gap_of lifts ps f r.apex p) (places (length ps))
    split (inl k) = inr (to_below k)
    split (inr k) = inl (lex_same (λ k. neg_ℤ (gap_of lifts ps (reversed f) r.apex p k)) (gap_of lifts ps f r.apex p) (places (length ps)) (λ k. sym (LowestBridge.gap_back lifts ps f r.apex p k)) k)

    own : IsBehind lifts ps ms p f r.apex h.behind
    own = record { on = on.on; outside = (λ o. to_below (law.0 o), λ k. law.1 (from_below k)); decided = split (insert.decided lifts ps ms p new (reversed f) r.apex r.on r.low) }

-- p sees a hull face exactly where it is below it in the pencil of its edge
pub sees_to : (lifts : ℕ → ℤ) (ps : List Point) (ms : List ℕ) (p : ℕ) (new : IsNew ps ms p) (f : Face) (a : ℕ) (h : IsLowestHullFace lifts ps ms f) → IsHullOn lifts ps (Contains ms) f a → LowestSees lifts ps p f h.behind → IsSeen lifts ps p f a
sees_to lifts ps ms p new f a h on s = go s (behind_of lifts ps ms p new f a h on)
  where
    go : LowestSees lifts ps p f h.behind → IsBehind lifts ps ms p f a h.behind → IsSeen lifts ps p f a
    go (inl k) b = inl (subst (λ n. pos 0 <ℤ n) (sym (insert.side_new ps ms p new f b.on)) k)
    go (inr k) b = inr (insert.side_new ps ms p new f b.on ∙ k.0, above b.decided)
      where
        above : IsLexAbove (gap_of lifts ps f a p) (places (length ps)) ⊎ IsLexBelow (gap_of lifts ps f a p) (places (length ps))
            → IsLexAbove (gap_of lifts ps f a p) (places (length ps))
        above (inl l) = l
        above (inr l) = absurd (k.1 (b.outside.1 l))

pub sees_of : (lifts : ℕ → ℤ) (ps : List Point) (ms : List ℕ) (p : ℕ) (new : IsNew ps ms p) (f : Face) (a : ℕ) (h : IsLowestHullFace lifts ps ms f) → IsHullOn lifts ps (Contains ms) f a → IsSeen lifts ps p f a → LowestSees lifts ps p f h.behind
sees_of lifts ps ms p new f a h on s = go s (behind_of lifts ps ms p new f a h on)
  where
    go : IsSeen lifts ps p f a → IsBehind lifts ps ms p f a h.behind → LowestSees lifts ps p f h.behind
    go (inl k) b = inl (subst (λ n. pos 0 <ℤ n) (insert.side_new ps ms p new f b.on) k)
    go (inr k) b = inr (sym (insert.side_new ps ms p new f b.on) ∙ k.0, λ o. not_both (gap_of lifts ps f a p) (places (length ps)) k.1 (b.outside.0 o))

-- ---- hull faces with the new point

wider : (ps : List Point) (S : ℕ → Type 0) (p : ℕ) (t : Tet) (mid : RationalPoint) → IsSome ps S t mid → IsSome ps (With S p) t mid
wider ps S p t mid h = record { on = λ i c. inr (h.on i c); positive = h.positive; inside = h.inside }

all_hull : (lifts : ℕ → ℤ) (ps : List Point) (ms : List ℕ) (p : ℕ) (new : IsNew ps ms p) (f : Face) (a : ℕ) → IsHullOn lifts ps (With (Contains ms) p) f a → IsLowestHullFace lifts ps (p ∷ ms) f
all_hull lifts ps ms p new f a h = hull.hull_from lifts ps (p ∷ ms) (With (Contains ms) p) (LowestBridge.of_new ps ms p new) f a h

of_all_hull : (lifts : ℕ → ℤ) (ps : List Point) (ms : List ℕ) (p : ℕ) (new : IsNew ps ms p) (f : Face) → IsLowestHullFace lifts ps (p ∷ ms) f → (a : ℕ) × IsHullOn lifts ps (With (Contains ms) p) f a
of_all_hull lifts ps ms p new f h = hull.some_hull_on lifts ps (p ∷ ms) (With (Contains ms) p) (LowestBridge.of_new ps ms p new) f h

-- the corners of a hull face and the one behind are different
pub distinct_corners : (lifts : ℕ → ℤ) (qs : List Point) (S : ℕ → Type 0) (f : Face) (a : ℕ) → IsHullOn lifts qs S f a → AreDistinct (beside (reversed f) a)
distinct_corners lifts qs S f a h = distinct qs (beside (reversed f) a) (LowestBridge.of_under lifts qs S f a h.low).over

below_next : (ms : List ℕ) (p i : ℕ) → With (Contains ms) p i → i ≢ p → Contains ms i
below_next ms p i (inl e) n = absurd (n e)
below_next ms p i (inr c) n = c

-- the new faces are those that p makes in the pencil of an edge between a seen and an unseen face
pub law_new_hull : LowestNewHullLaw
law_new_hull lifts ps ms p new some some_is i j = (to, from)
  where
    here_some : IsSome ps (Contains ms) some (hull.middle_of ps some)
    here_some = hull.some_on lifts ps ms (Contains ms) (LowestBridge.of_list ps ms new.within) some some_is

    rim : IsPencil (edge_face i j) (edge_side ps (hull.middle_of ps some) i j) (edge_gap lifts ps (hull.middle_of ps some) i j) (edge_places (length ps)) (length ps)
    rim = edge.edge_pencil lifts ps (hull.middle_of ps some) i j

    to : IsLowestHullFace lifts ps (p ∷ ms) (edge_and i j p) → IsLowestHullRim lifts ps ms p i j
    to h = by (of_all_hull lifts ps ms p new (edge_and i j p) h)
      where
        by : (a : ℕ) × IsHullOn lifts ps (With (Contains ms) p) (edge_and i j p) a → IsLowestHullRim lifts ps ms p i j
        by r = go (first_of rim (Contains ms) (LowestBridge.list_set ps ms new.within))
          where
            apart : AreDistinct (beside (reversed (edge_and i j p)) r.0)
            apart = distinct_corners lifts ps (With (Contains ms) p) (edge_and i j p) r.0 r.1

            on_i : Contains ms i
            on_i = below_next ms p i r.1.on.on_a (apart A B tt)

            on_j : Contains ms j
            on_j = below_next ms p j r.1.on.on_b (λ e. (apart B C tt) (sym e))

            low : hull.IsEdgeLow lifts ps (hull.middle_of ps some) (With (Contains ms) p) i j p
            low = hull.edge_of_hull lifts ps (With (Contains ms) p) some (hull.middle_of ps some) (edge_and i j p) r.0 (wider ps (Contains ms) p some (hull.middle_of ps some) here_some) r.1

            off : edge_side ps (hull.middle_of ps some) i j p ≢ pos 0
            off = above_not_zero (edge_side ps (hull.middle_of ps some) i j p) low.over

            at : IsCavityOver (edge_face i j) (edge_side ps (hull.middle_of ps some) i j) (edge_gap lifts ps (hull.middle_of ps some) i j) (edge_places (length ps)) (Contains ms) p
                × IsClearUnder (edge_face i j) (edge_side ps (hull.middle_of ps some) i j) (edge_gap lifts ps (hull.middle_of ps some) i j) (edge_places (length ps)) (Contains ms) p → IsLowestHullRim lifts ps ms p i j
            at (over_ghost bare _ _ _, _) = absurd (hull.edge_not_bare ps (Contains ms) some (hull.middle_of ps some) i j p here_some off bare)
            at (over_row _ _ _, under_ghost bare _ _ _) = absurd (hull.edge_not_bare_under ps (Contains ms) some (hull.middle_of ps some) i j p here_some off bare)
            at (over_row o low_o below, under_row b low_b clear) = record {
              inner = o;
              seen = seen;
              sees = sees_of lifts ps ms p new (edge_and i j o) inner.0 seen inner.1 (edge.of_edge_below lifts ps (hull.middle_of ps some) (edge_and i j o) inner.0 p low_o.over inner.1.low.under below);
              outer = b;
              unseen = unseen;
              sees_not = λ s. not_both (edge_gap lifts ps (hull.middle_of ps some) j i b p) (edge_places (length ps)) above
                  (edge.edge_below lifts ps (hull.middle_of ps some) (edge_and j i b) outer.0 p turned.over outer.1.low.under (sees_to lifts ps ms p new (edge_and j i b) outer.0 unseen outer.1 s));
            }
              where
                inner : (a : ℕ) × IsHullOn lifts ps (Contains ms) (edge_and i j o) a
                inner = hull.hull_of_edge lifts ps (Contains ms) some (hull.middle_of ps some) i j o (LowestBridge.list_set ps ms new.within) here_some on_i on_j low_o

                seen : IsLowestHullFace lifts ps ms (edge_and i j o)
                seen = hull.hull_from lifts ps ms (Contains ms) (LowestBridge.of_list ps ms new.within) (edge_and i j o) inner.0 inner.1

                turned : hull.IsEdgeLow lifts ps (hull.middle_of ps some) (Contains ms) j i b
                turned = hull.edge_of_under lifts ps (hull.middle_of ps some) (Contains ms) i j b low_b

                outer : (a : ℕ) × IsHullOn lifts ps (Contains ms) (edge_and j i b) a
                outer = hull.hull_of_edge lifts ps (Contains ms) some (hull.middle_of ps some) j i b (LowestBridge.list_set ps ms new.within) here_some on_j on_i turned

                unseen : IsLowestHullFace lifts ps ms (edge_and j i b)
                unseen = hull.hull_from lifts ps ms (Contains ms) (LowestBridge.of_list ps ms new.within) (edge_and j i b) outer.0 outer.1

                above : IsLexAbove (edge_gap lifts ps (hull.middle_of ps some) j i b p) (edge_places (length ps))
                above = lex_same (λ k. neg_ℤ (edge_gap lifts ps (hull.middle_of ps some) i j b p k)) (edge_gap lifts ps (hull.middle_of ps some) j i b p) (edge_places (length ps))
                    (λ k. sym (edge.edge_gap-turned lifts ps (hull.middle_of ps some) i j b p k)) clear

            go : IsBare (edge_side ps (hull.middle_of ps some) i j) (Contains ms) ⊎ ((o : ℕ) × IsFirst (edge_side ps (hull.middle_of ps some) i j) (edge_gap lifts ps (hull.middle_of ps some) i j) (edge_places (length ps)) (Contains ms) o) → IsLowestHullRim lifts ps ms p i j
            go (inl bare) = absurd (hull.edge_not_bare ps (Contains ms) some (hull.middle_of ps some) i j p here_some off bare)
            go (inr o) = at (pencil.low_is_star rim p (LowestBridge.list_set ps ms new.within) new.is_new o.0 o.1.on (above_not_zero (edge_side ps (hull.middle_of ps some) i j o.0) o.1.over) low)

    from : IsLowestHullRim lifts ps ms p i j → IsLowestHullFace lifts ps (p ∷ ms) (edge_and i j p)
    from h = all_hull lifts ps ms p new (edge_and i j p) found.0 found.1
      where
        inner : IsHullOn lifts ps (Contains ms) (edge_and i j h.inner) (LowestBridge.row_on lifts ps ms (Contains ms) (LowestBridge.of_list ps ms new.within) (reversed (edge_and i j h.inner)) h.seen.behind h.seen.is_row h.seen.is_face).apex
        inner = hull.hull_on lifts ps ms (Contains ms) (LowestBridge.of_list ps ms new.within) (edge_and i j h.inner) h.seen

        outer : IsHullOn lifts ps (Contains ms) (edge_and j i h.outer) (LowestBridge.row_on lifts ps ms (Contains ms) (LowestBridge.of_list ps ms new.within) (reversed (edge_and j i h.outer)) h.unseen.behind h.unseen.is_row h.unseen.is_face).apex
        outer = hull.hull_on lifts ps ms (Contains ms) (LowestBridge.of_list ps ms new.within) (edge_and j i h.outer) h.unseen

        low : hull.IsEdgeLow lifts ps (hull.middle_of ps some) (Contains ms) i j h.inner
        low = hull.edge_of_hull lifts ps (Contains ms) some (hull.middle_of ps some) (edge_and i j h.inner) _ here_some inner

        low' : hull.IsEdgeLow lifts ps (hull.middle_of ps some) (Contains ms) j i h.outer
        low' = hull.edge_of_hull lifts ps (Contains ms) some (hull.middle_of ps some) (edge_and j i h.outer) _ here_some outer

        below : IsLexBelow (edge_gap lifts ps (hull.middle_of ps some) i j h.inner p) (edge_places (length ps))
        below = edge.edge_below lifts ps (hull.middle_of ps some) (edge_and i j h.inner) _ p low.over inner.low.under (sees_to lifts ps ms p new (edge_and i j h.inner) _ h.seen inner h.sees)

        clear : IsLexAbove (edge_gap lifts ps (hull.middle_of ps some) j i h.outer p) (edge_places (length ps))
            ⊎ (IsZeroAt (edge_gap lifts ps (hull.middle_of ps some) j i h.outer p) (edge_places (length ps)) ⊎ IsLexBelow (edge_gap lifts ps (hull.middle_of ps some) j i h.outer p) (edge_places (length ps)))
            → IsLexBelow (edge_gap lifts ps (hull.middle_of ps some) i j h.outer p) (edge_places (length ps))
        clear (inl a) = lex_same (edge_gap lifts ps (hull.middle_of ps some) j i h.outer p) (λ k. neg_ℤ (edge_gap lifts ps (hull.middle_of ps some) i j h.outer p k)) (edge_places (length ps))
            (λ k. edge.edge_gap-turned lifts ps (hull.middle_of ps some) i j h.outer p k) a
        clear (inr (inl z)) = absurd ((edge.edge_pencil lifts ps (hull.middle_of ps some) j i).apart h.outer p new.on
            (record { not_a = insert.not_new ps ms p new j outer.on.on_a; not_b = insert.not_new ps ms p new i outer.on.on_b; not_c = insert.not_new ps ms p new i outer.on.on_b })
            (insert.not_new ps ms p new h.outer outer.on.on_c) (above_not_zero (edge_side ps (hull.middle_of ps some) j i h.outer) low'.over) z)
        clear (inr (inr b)) = absurd (h.sees_not (sees_of lifts ps ms p new (edge_and j i h.outer) _ h.unseen outer (edge.of_edge_below lifts ps (hull.middle_of ps some) (edge_and j i h.outer) _ p low'.over outer.low.under b)))

        found : (a : ℕ) × IsHullOn lifts ps (With (Contains ms) p) (edge_and i j p) a
        found = hull.hull_of_edge lifts ps (With (Contains ms) p) some (hull.middle_of ps some) i j p (LowestBridge.new_set ps ms p new) (wider ps (Contains ms) p some (hull.middle_of ps some) here_some)
            (inr inner.on.on_a) (inr inner.on.on_b)
            (pencil.star_is_low rim p (over_row h.inner low below) (under_row h.outer (hull.edge_under_of lifts ps (hull.middle_of ps some) (Contains ms) i j h.outer low')
            (clear (lex_sign_of (edge_gap lifts ps (hull.middle_of ps some) j i h.outer p) (edge_places (length ps))))))

-- ---- hull faces without it

-- a face without p stays exactly where p is not below it
pub law_old_hull : LowestOldHullLaw
law_old_hull lifts ps ms p new some some_is f fa fb fc = (to, from)
  where
    on : LowestBridge.IsFaceOn (Contains ms) f
    on = record { on_a = fa; on_b = fb; on_c = fc }

    other : IsOther f p
    other = insert.new_other ps ms p new f on

    here_some : IsSome ps (Contains ms) some (hull.middle_of ps some)
    here_some = hull.some_on lifts ps ms (Contains ms) (LowestBridge.of_list ps ms new.within) some some_is

    to : IsLowestHullFace lifts ps (p ∷ ms) f → (h : IsLowestHullFace lifts ps ms f) × ¬ LowestSees lifts ps p f h.behind
    to h = by (of_all_hull lifts ps ms p new f h)
      where
        by : (a : ℕ) × IsHullOn lifts ps (With (Contains ms) p) f a → (h : IsLowestHullFace lifts ps ms f) × ¬ LowestSees lifts ps p f h.behind
        by (a, r) = go r.low.on
          where
            bare : IsBare (side_of ps f) (Contains ms)
            bare e l k = r.bare e (inr l) k

            go : (a ≡ p) ⊎ Contains ms a → (h : IsLowestHullFace lifts ps ms f) × ¬ LowestSees lifts ps p f h.behind
            go (inr l) = (found, λ s. unseen (sees_to lifts ps ms p new f a found old s))
              where
                old : IsHullOn lifts ps (Contains ms) f a
                old = record { on = on; bare = bare; low = record { on = l; under = r.low.under; others = λ e k o d. r.low.others e (inr k) o d } }

                found : IsLowestHullFace lifts ps ms f
                found = hull.hull_from lifts ps ms (Contains ms) (LowestBridge.of_list ps ms new.within) f a old

                unseen : IsSeen lifts ps p f a → ⊥
                unseen (inl k) = r.bare p (inl refl) k
                unseen (inr k) = not_both (gap_of lifts ps f a p) (places (length ps)) k.1 (r.low.others p (inl refl) other (insert.not_new ps ms p new a l))
            go (inl e) = place (insert.of_clear lifts ps ms p new (reversed f) (LowestBridge.reversed_on (Contains ms) f on) at.1)
              where
                low : LowestBridge.IsLowOn lifts ps (With (Contains ms) p) (reversed f) p
                low = subst (λ i. LowestBridge.IsLowOn lifts ps (With (Contains ms) p) (reversed f) i) e (LowestBridge.of_under lifts ps (With (Contains ms) p) f a r.low)

                off : (e : ℕ) × IsCorner some e × (side_of ps (reversed f) e ≢ pos 0)
                off = insert.off_plane ps (reversed f) p some here_some.positive (above_not_zero (side_of ps (reversed f) p) low.over)

                at : insert.OverOn lifts ps ms p (reversed f) × insert.UnderOn lifts ps ms p (reversed f)
                at = pencil.low_is_star (face_pencil lifts ps (reversed f)) p (LowestBridge.list_set ps ms new.within) new.is_new off.0 (here_some.on off.0 off.1) off.2 low

                place : IsLowestClearPlace lifts ps ms p f → (h : IsLowestHullFace lifts ps ms f) × ¬ LowestSees lifts ps p f h.behind
                place (clear_row t d face o) = let q = LowestBridge.row_on lifts ps ms (Contains ms) (LowestBridge.of_list ps ms new.within) f t d face in absurd (bare q.apex q.low.on q.low.over)
                place (clear_ghost h n) = (h, n)

    from : ((h : IsLowestHullFace lifts ps ms f) × ¬ LowestSees lifts ps p f h.behind) → IsLowestHullFace lifts ps (p ∷ ms) f
    from (h, n) = go (insert.decided lifts ps ms p new (reversed f) r.apex r.on r.low)
      where
        r : LowestBridge.IsRowOn lifts ps (Contains ms) (reversed f) h.behind
        r = LowestBridge.row_on lifts ps ms (Contains ms) (LowestBridge.of_list ps ms new.within) (reversed f) h.behind h.is_row h.is_face

        old : IsHullOn lifts ps (Contains ms) f r.apex
        old = hull.hull_on lifts ps ms (Contains ms) (LowestBridge.of_list ps ms new.within) f h

        wide : LowestBridge.IsFaceOn (With (Contains ms) p) f
        wide = record { on_a = inr fa; on_b = inr fb; on_c = inr fc }

        bare : IsBare (side_of ps f) (With (Contains ms) p)
        bare e l k = at (l) k
          where
            at : (e ≡ p) ⊎ Contains ms e → pos 0 <ℤ side_of ps f e → ⊥
            at (inl d) k = n (sees_of lifts ps ms p new f r.apex h old (inl (subst (λ i. pos 0 <ℤ side_of ps f i) d k)))
            at (inr l) k = old.bare e l k

        go : IsLexAbove (gap_of lifts ps (reversed f) r.apex p) (places (length ps)) ⊎ IsLexBelow (gap_of lifts ps (reversed f) r.apex p) (places (length ps))
            → IsLowestHullFace lifts ps (p ∷ ms) f
        go (inl above) = all_hull lifts ps ms p new f r.apex (record { on = wide; bare = bare; low = record { on = inr r.low.on; under = old.low.under; others = λ e l o d. at e (l) o d } })
          where
            at : (e : ℕ) → (e ≡ p) ⊎ Contains ms e → IsOther f e → e ≢ r.apex → IsLexBelow (gap_of lifts ps f r.apex e) (places (length ps))
            at e (inl d) o q = subst (λ i. IsLexBelow (gap_of lifts ps f r.apex i) (places (length ps))) (sym d)
                (lex_same (gap_of lifts ps (reversed f) r.apex p) (λ k. neg_ℤ (gap_of lifts ps f r.apex p k)) (places (length ps))
                (λ k. LowestBridge.gap_over lifts ps f r.apex p k) above)
            at e (inr l) o q = old.low.others e l o q
        go (inr below) = all_hull lifts ps ms p new f p (record { on = wide; bare = bare; low = LowestBridge.under_of lifts ps (With (Contains ms) p) f p low })
          where
            low : LowestBridge.IsLowOn lifts ps (With (Contains ms) p) (reversed f) p
            low = pencil.star_is_low (face_pencil lifts ps (reversed f)) p (over_row r.apex r.low below) (insert.clear_to lifts ps ms p new (reversed f) r.on (clear_ghost h n))
