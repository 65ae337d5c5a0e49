-- A point that lies in a closed row s, and above it, is above each row t: over the corners of s, weighted by the sides of p, the residuals of t
-- add up, and with that of s at p they are the residual of t at p, up to positive factors. So the point is hidden by all the rows at once.
use Rattle.std.proofs.Common.{◌≡◌, ◌⊎◌, inl, inr, ℕ, ℤ, pos, ◌+ℤ◌, ◌-ℤ◌, ◌*ℤ◌, ◌<ℤ◌, ◌≤ℤ◌, List, [], ◌∷◌, length, ap, sym, subst, ◌∙◌}
use Rattle.std.specs.Prelude.{Contains, ◌↔◌}
use Rattle.exact_algebra.proofs.Ring.{var, ring_given, given, same, neg, ◌⊕◌, ◌⊖◌, ◌⊗◌}
use Rattle.sign_predicates.specs.Point.{Point, as_rational}
use Rattle.sign_predicates.specs.Orientation.{Triangle, volume, side, side_rational, InClosed}
use Rattle.sign_predicates.proofs.Places.{Place, A, B, C, D, opposite}
use Rattle.geo_laws.specs.Delaunay.{point, corners}
use Rattle.geo_laws.specs.Height.{IsLowestAmong, height, residual_at, places}
use Rattle.geo_laws.specs.OrientedFace.{Face, triangle}
use Rattle.geo_laws.specs.declared.tetrahedra.Tet.{Tet}
use Rattle.geo_laws.proofs.Determinants as ring
use Rattle.geo_laws.proofs.Places.{number, over_places, at_face}
use Rattle.geo_laws.proofs.Corners.{corner_among}
use Rattle.geo_laws.proofs.Lexicographic.{IsLexAtLeast, above_add, at_least_add, at_least_multiple, lex_scale, lex_same, above_unscale}
use Rattle.geo_laws.proofs.Radical.{residual-at_least}
use Rattle.insert_laws.specs.LowestInsertion.{HasAbove, IsLowestHullFace, LowestSees, RowOrGhost as Spot, IsInLowestCavity, row_in, ghost_in, IsLowestCavityPlace, cavity_row, cavity_ghost, IsLowestStarRow, HiddenLaw}
use Rattle.insert_laws.proofs.Identities as identity
use Rattle.insert_laws.proofs.InsideLaw.{not_beyond_hull}
use Rattle.insert_laws.proofs.LowestBridge.{of_cons, to_cons}
use Rattle.insert_laws.proofs.LowestInsert.{law_insertion}

-- the sums of residuals, by the sides w of p at the faces of s, the sides q of p at those of t, and the sides m of the corners of s at those of t
combined : (vs vt hp : ℤ) (h g w q : Place → ℤ) (m : Place → Place → ℤ)
    → ((u : Place) → w A *ℤ m u A +ℤ (w B *ℤ m u B +ℤ (w C *ℤ m u C +ℤ w D *ℤ m u D)) ≡ vs *ℤ q u)
    → vt *ℤ (vs *ℤ hp -ℤ over_places (λ v. w v *ℤ h v))
    +ℤ (w A *ℤ (vt *ℤ h A -ℤ over_places (λ u. m u A *ℤ g u)) +ℤ (w B *ℤ (vt *ℤ h B -ℤ over_places (λ u. m u B *ℤ g u))
    +ℤ (w C *ℤ (vt *ℤ h C -ℤ over_places (λ u. m u C *ℤ g u)) +ℤ w D *ℤ (vt *ℤ h D -ℤ over_places (λ u. m u D *ℤ g u)))))
    ≡ vs *ℤ (vt *ℤ hp -ℤ over_places (λ u. q u *ℤ g u))
unfolding same
combined vs vt hp h g w q m e =
    ring_given
    (var 1 ⊗ (var 0 ⊗ var 2 ⊖ (var 11 ⊗ var 3 ⊕ var 12 ⊗ var 4 ⊕ var 13 ⊗ var 5 ⊕ var 14 ⊗ var 6))
    ⊕ (var 11 ⊗ (var 1 ⊗ var 3 ⊖ (var 19 ⊗ var 7 ⊕ var 23 ⊗ var 8 ⊕ var 27 ⊗ var 9 ⊕ var 31 ⊗ var 10))
    ⊕ (var 12 ⊗ (var 1 ⊗ var 4 ⊖ (var 20 ⊗ var 7 ⊕ var 24 ⊗ var 8 ⊕ var 28 ⊗ var 9 ⊕ var 32 ⊗ var 10))
    ⊕ (var 13 ⊗ (var 1 ⊗ var 5 ⊖ (var 21 ⊗ var 7 ⊕ var 25 ⊗ var 8 ⊕ var 29 ⊗ var 9 ⊕ var 33 ⊗ var 10))
    ⊕ var 14 ⊗ (var 1 ⊗ var 6 ⊖ (var 22 ⊗ var 7 ⊕ var 26 ⊗ var 8 ⊕ var 30 ⊗ var 9 ⊕ var 34 ⊗ var 10))))))
    (var 0 ⊗ (var 1 ⊗ var 2 ⊖ (var 15 ⊗ var 7 ⊕ var 16 ⊗ var 8 ⊕ var 17 ⊗ var 9 ⊕ var 18 ⊗ var 10)))
    (given (neg (var 7)) (var 11 ⊗ var 19 ⊕ (var 12 ⊗ var 20 ⊕ (var 13 ⊗ var 21 ⊕ var 14 ⊗ var 22))) (var 0 ⊗ var 15)
    ∷ given (neg (var 8)) (var 11 ⊗ var 23 ⊕ (var 12 ⊗ var 24 ⊕ (var 13 ⊗ var 25 ⊕ var 14 ⊗ var 26))) (var 0 ⊗ var 16)
    ∷ given (neg (var 9)) (var 11 ⊗ var 27 ⊕ (var 12 ⊗ var 28 ⊕ (var 13 ⊗ var 29 ⊕ var 14 ⊗ var 30))) (var 0 ⊗ var 17)
    ∷ given (neg (var 10)) (var 11 ⊗ var 31 ⊕ (var 12 ⊗ var 32 ⊕ (var 13 ⊗ var 33 ⊕ var 14 ⊗ var 34))) (var 0 ⊗ var 18) ∷ [])
    tt (vs ∷ vt ∷ hp ∷ h A ∷ h B ∷ h C ∷ h D ∷ g A ∷ g B ∷ g C ∷ g D ∷ w A ∷ w B ∷ w C ∷ w D ∷ q A ∷ q B ∷ q C ∷ q D
    ∷ m A A ∷ m A B ∷ m A C ∷ m A D ∷ m B A ∷ m B B ∷ m B C ∷ m B D ∷ m C A ∷ m C B ∷ m C C ∷ m C D ∷ m D A ∷ m D B ∷ m D C ∷ m D D ∷ [])
    (e A, (e B, (e C, (e D, tt))))

-- the side of a point at any plane is the sum of those of the corners, weighted
sides_combine : (ps : List Point) (s : Tet) (f : Triangle) (p : Point)
    → side (opposite (corners ps s) A) p *ℤ side f (point ps s.a) +ℤ (side (opposite (corners ps s) B) p *ℤ side f (point ps s.b)
    +ℤ (side (opposite (corners ps s) C) p *ℤ side f (point ps s.c) +ℤ side (opposite (corners ps s) D) p *ℤ side f (point ps s.d)))
    ≡ volume (corners ps s) *ℤ side f p
sides_combine ps s f p =
    let c = corners ps s in
    sym (λ j. ring.side_rational-as_rational (opposite c A) p j *ℤ side f (point ps s.a) +ℤ (ring.side_rational-as_rational (opposite c B) p j *ℤ side f (point ps s.b)
    +ℤ (ring.side_rational-as_rational (opposite c C) p j *ℤ side f (point ps s.c) +ℤ ring.side_rational-as_rational (opposite c D) p j *ℤ side f (point ps s.d))))
    ∙ identity.sides-combine c f (as_rational p)
    ∙ ap (λ n. volume c *ℤ n) (ring.side_rational-as_rational f p)

-- a point of a closed row that is above it is above each row
pub above_all : (lifts : ℕ → ℤ) (ps : List Point) (ms : List ℕ) (p : ℕ) (s : Tet) → IsLowestAmong ps ms lifts s → InClosed (corners ps s) (as_rational (point ps p)) → HasAbove lifts ps s p
    → (t : Tet) → IsLowestAmong ps ms lifts t → HasAbove lifts ps t p
above_all lifts ps ms p s low_s closed above t low_t =
    above_unscale vs (residual_at ps lifts t p) ks low_s.is_positive
    (lex_same (λ k. vt *ℤ residual_at ps lifts s p k +ℤ (part A k +ℤ (part B k +ℤ (part C k +ℤ part D k)))) (λ k. vs *ℤ residual_at ps lifts t p k) ks
    (λ k. combined vs vt (height lifts p k) (λ v. height lifts (number s v) k) (λ u. height lifts (number t u) k)
    (λ v. side (opposite (corners ps s) v) (point ps p)) (λ u. side (opposite (corners ps t) u) (point ps p))
    (λ u v. side (opposite (corners ps t) u) (point ps (number s v))) (λ u. sides_combine ps s (opposite (corners ps t) u) (point ps p)))
    (above_add (λ k. vt *ℤ residual_at ps lifts s p k) (λ k. part A k +ℤ (part B k +ℤ (part C k +ℤ part D k))) ks (lex_scale vt (residual_at ps lifts s p) ks low_t.is_positive above)
    (at_least_add (part A) (λ k. part B k +ℤ (part C k +ℤ part D k)) ks (at_least A)
    (at_least_add (part B) (λ k. part C k +ℤ part D k) ks (at_least B) (at_least_add (part C) (part D) ks (at_least C) (at_least D))))))
  where
    vs : ℤ
    vs = volume (corners ps s)

    vt : ℤ
    vt = volume (corners ps t)

    ks : List ℕ
    ks = places (length ps)

    part : Place → ℕ → ℤ
    part v k = side (opposite (corners ps s) v) (point ps p) *ℤ residual_at ps lifts t (number s v) k

    at_least : (v : Place) → IsLexAtLeast (part v) (places (length ps))
    at_least v = at_least_multiple (side (opposite (corners ps s) v) (point ps p)) (residual_at ps lifts t (number s v)) (places (length ps))
        (subst (λ n. pos 0 ≤ℤ n) (ring.side_rational-as_rational (opposite (corners ps s) v) (point ps p)) (at_face (λ f. pos 0 ≤ℤ side_rational f (as_rational (point ps p))) (corners ps s) closed v))
        (residual-at_least ps ms lifts t low_t (number s v) (corner_among ms s low_s.is_on v))

-- so no row and no ghost is in its cavity, and by the insertion law nothing changes
pub law_hidden : HiddenLaw
law_hidden lifts ps ms p new s low closed above = record { above = over; no_place = none; rows = rows; hull = hull }
  where
    over : (t : Tet) → IsLowestAmong ps ms lifts t → HasAbove lifts ps t p
    over = above_all lifts ps ms p s low closed above

    unseen : (f : Face) (h : IsLowestHullFace lifts ps ms f) → ¬ LowestSees lifts ps p f h.behind
    unseen f h (inl k) = not_beyond_hull lifts ps ms p new s low closed f h k
    unseen f h (inr k) = k.1 (over h.behind h.is_row)

    none : (a : Spot) → ¬ IsInLowestCavity lifts ps ms p a
    none _ (row_in t d n) = n (over t d)
    none _ (ghost_in f h sees) = unseen f h sees

    rows : (t : Tet) → IsLowestAmong ps (p ∷ ms) lifts t ↔ IsLowestAmong ps ms lifts t
    rows t = (λ d. to ((law_insertion lifts ps ms p new s low t).0 d), λ d. (law_insertion lifts ps ms p new s low t).1 (inl (d, over t d)))
      where
        no_star : {f : Face} → IsLowestCavityPlace lifts ps ms p f → ⊥
        no_star (cavity_row r d face n) = n (over r d)
        no_star {f} (cavity_ghost h sees) = unseen f h sees

        to : (IsLowestAmong ps ms lifts t × HasAbove lifts ps t p) ⊎ IsLowestStarRow lifts ps ms p t → IsLowestAmong ps ms lifts t
        to (inl old) = old.0
        to (inr star) = absurd (no_star star.cavity)

    hull : (f : Face) → IsLowestHullFace lifts ps (p ∷ ms) f ↔ IsLowestHullFace lifts ps ms f
    hull f = (to, from)
      where
        to : IsLowestHullFace lifts ps (p ∷ ms) f → IsLowestHullFace lifts ps ms f
        to h = record { behind = h.behind; is_row = (rows h.behind).0 h.is_row; is_face = h.is_face; none_beyond = λ i c. h.none_beyond i (to_cons p ms i (inr c)) }

        from : IsLowestHullFace lifts ps ms f → IsLowestHullFace lifts ps (p ∷ ms) f
        from h = record { behind = h.behind; is_row = (rows h.behind).1 h.is_row; is_face = h.is_face; none_beyond = λ i c. beyond i (of_cons p ms i c) }
          where
            beyond : (i : ℕ) → (i ≡ p) ⊎ Contains ms i → ¬ (pos 0 <ℤ side (triangle ps f) (point ps i))
            beyond i (inl e) k = not_beyond_hull lifts ps ms p new s low closed f h (subst (λ j. pos 0 <ℤ side (triangle ps f) (point ps j)) e k)
            beyond i (inr c) k = h.none_beyond i c k
