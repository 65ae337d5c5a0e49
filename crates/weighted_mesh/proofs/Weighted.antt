-- The laws of the regular list: its rows are the lowest tetrahedra, where each point is lifted by its squared length less its weight.
use Rattle.std.proofs.Common.{◌≡◌, ℕ, zero, ℤ, pos, neg_ℤ, ◌+ℤ◌, ◌-ℤ◌, ◌*ℤ◌, List, [], ◌∷◌, ap, sym, ◌∙◌, subst, arith}
use Rattle.std.proofs.lemmas.Int.{ints}
use Rattle.exact_algebra.proofs.Ring.{var, num, ring_given, given, same, neg, ◌⊕◌, ◌⊖◌, ◌⊗◌}
use Rattle.sign_predicates.specs.Point.{Point, from_to}
use Rattle.sign_predicates.specs.Orientation.{volume, side, det, opposite_a, opposite_b, opposite_c, opposite_d}
use Rattle.sign_predicates.specs.Sphere.{square_length}
use Rattle.sign_predicates.specs.declared.tetrahedron.Corners.{Corners}
use Rattle.sign_predicates.proofs.Vectors.{orient_is, side_exchanged, side_turned, in_sphere_is, sphere_sum_is}
use Rattle.geo_laws.specs.Delaunay.{point, corners}
use Rattle.geo_laws.specs.Height.{lifted, residual_at, IsLowestAmong}
use Rattle.geo_laws.specs.declared.tetrahedra.Tet.{Tet}
use Rattle.geo_laws.proofs.Corners.{on_of_among}
use Rattle.geo_laws.proofs.Determinants.{sphere-lift, sides-sum}
use Rattle.geo_laws.proofs.Lift.{lowest_of, delaunay_of}
use Rattle.geo_laws.proofs.Radical.{law_radical}
use Rattle.geo_laws.proofs.LeastHeight.{law_least_height}
use Rattle.insert_laws.proofs.Cover.{law_cover}
use Rattle.sign_predicates.specs.Weighted.{in_weighted_sphere}
use Rattle.sign_predicates.proofs.WeightedTerms.{weighted_sum_is, in_weighted_sphere_is}
use Rattle.weighted_mesh.specs.Regular.{weight, corner_weights, weighted_lift}
use Rattle.weighted_mesh.specs.WeightedLaws.{WeightedLiftLaw, RegularRowLaw, WeightedRadicalLaw, WeightedLeastHeightLaw, WeightedCoverLaw, NoWeightsLaw}
use Rattle.weighted_mesh.proofs.Votes.{sum_decides}

-- ---- the first number of the residual

-- by the sides `sa` to `sd` of e at the faces, which are the determinants `da` to `dd` up to signs; `pa` to `pd` are squared lengths from e, `ha` to `hd`
-- and `he` those of the points, `wa` to `wd` and `we` the weights
combined : (v he ha hb hc hd sa sb sc sd da db dc dd pa pb pc pd wa wb wc wd we : ℤ)
    → v *ℤ he -ℤ (sa *ℤ ha +ℤ sb *ℤ hb +ℤ sc *ℤ hc +ℤ sd *ℤ hd) ≡ neg_ℤ (pa *ℤ da -ℤ pb *ℤ db +ℤ pc *ℤ dc -ℤ pd *ℤ dd)
    → sa ≡ da → sb ≡ neg_ℤ db → sc ≡ dc → sd ≡ neg_ℤ dd → sa +ℤ sb +ℤ sc +ℤ sd ≡ v
    → v *ℤ (he -ℤ we) -ℤ (sa *ℤ (ha -ℤ wa) +ℤ sb *ℤ (hb -ℤ wb) +ℤ sc *ℤ (hc -ℤ wc) +ℤ sd *ℤ (hd -ℤ wd))
    ≡ neg_ℤ ((pa -ℤ wa +ℤ we) *ℤ da -ℤ (pb -ℤ wb +ℤ we) *ℤ db +ℤ (pc -ℤ wc +ℤ we) *ℤ dc -ℤ (pd -ℤ wd +ℤ we) *ℤ dd)
unfolding same
combined v he ha hb hc hd sa sb sc sd da db dc dd pa pb pc pd wa wb wc wd we e0 ea eb ec ed ev =
    ring_given
    (var 0 ⊗ (var 1 ⊖ var 22) ⊖ (var 6 ⊗ (var 2 ⊖ var 18) ⊕ var 7 ⊗ (var 3 ⊖ var 19) ⊕ var 8 ⊗ (var 4 ⊖ var 20) ⊕ var 9 ⊗ (var 5 ⊖ var 21)))
    (neg ((var 14 ⊖ var 18 ⊕ var 22) ⊗ var 10 ⊖ (var 15 ⊖ var 19 ⊕ var 22) ⊗ var 11 ⊕ (var 16 ⊖ var 20 ⊕ var 22) ⊗ var 12 ⊖ (var 17 ⊖ var 21 ⊕ var 22) ⊗ var 13))
    (given (num (pos 1)) (var 0 ⊗ var 1 ⊖ (var 6 ⊗ var 2 ⊕ var 7 ⊗ var 3 ⊕ var 8 ⊗ var 4 ⊕ var 9 ⊗ var 5)) (neg (var 14 ⊗ var 10 ⊖ var 15 ⊗ var 11 ⊕ var 16 ⊗ var 12 ⊖ var 17 ⊗ var 13))
    ∷ given (var 18 ⊖ var 22) (var 6) (var 10)
    ∷ given (var 19 ⊖ var 22) (var 7) (neg (var 11))
    ∷ given (var 20 ⊖ var 22) (var 8) (var 12)
    ∷ given (var 21 ⊖ var 22) (var 9) (neg (var 13))
    ∷ given (var 22) (var 6 ⊕ var 7 ⊕ var 8 ⊕ var 9) (var 0) ∷ [])
    tt (v ∷ he ∷ ha ∷ hb ∷ hc ∷ hd ∷ sa ∷ sb ∷ sc ∷ sd ∷ da ∷ db ∷ dc ∷ dd ∷ pa ∷ pb ∷ pc ∷ pd ∷ wa ∷ wb ∷ wc ∷ wd ∷ we ∷ [])
    (e0, (ea, (eb, (ec, (ed, (ev, tt))))))

-- the sides of e are determinants of the vectors from it to the corners
side-a : (t : Corners) (e : Point) → side (opposite_a t) e ≡ det (from_to e t.b) (from_to e t.c) (from_to e t.d)
side-a t e = side_exchanged t.b t.c t.d e ∙ sym (orient_is e t.b t.c t.d)

side-b : (t : Corners) (e : Point) → side (opposite_b t) e ≡ neg_ℤ (det (from_to e t.a) (from_to e t.c) (from_to e t.d))
side-b t e = side_turned t.a t.c t.d e ∙ ap neg_ℤ (sym (orient_is e t.a t.c t.d))

side-c : (t : Corners) (e : Point) → side (opposite_c t) e ≡ det (from_to e t.a) (from_to e t.b) (from_to e t.d)
side-c t e = side_exchanged t.a t.b t.d e ∙ sym (orient_is e t.a t.b t.d)

side-d : (t : Corners) (e : Point) → side (opposite_d t) e ≡ neg_ℤ (det (from_to e t.a) (from_to e t.b) (from_to e t.c))
side-d t e = side_turned t.a t.b t.c e ∙ ap neg_ℤ (sym (orient_is e t.a t.b t.c))

-- how far a weighted point is above a tetrahedron of weighted points is its weighted sphere sum with the other sign
weighted-lift : (ps : List Point) (ws : List ℤ) (t : Tet) (e : ℕ)
    → residual_at ps (weighted_lift ps ws) t e zero ≡ neg_ℤ (in_weighted_sphere (corners ps t) (corner_weights ws t) (point ps e) (weight ws e))
weighted-lift ps ws t e =
    let c = corners ps t in
    let p = point ps e in
    let a = from_to p c.a in
    let b = from_to p c.b in
    let d = from_to p c.c in
    let f = from_to p c.d in
    combined (volume c) (square_length p) (square_length c.a) (square_length c.b) (square_length c.c) (square_length c.d)
    (side (opposite_a c) p) (side (opposite_b c) p) (side (opposite_c c) p) (side (opposite_d c) p) (det b d f) (det a d f) (det a b f) (det a b d)
    (square_length a) (square_length b) (square_length d) (square_length f) (weight ws t.a) (weight ws t.b) (weight ws t.c) (weight ws t.d) (weight ws e)
    (sphere-lift c p ∙ ap neg_ℤ (sym (sphere_sum_is a b d f ∙ in_sphere_is c p)))
    (side-a c p) (side-b c p) (side-c c p) (side-d c p) (sides-sum c p)
    ∙ ap neg_ℤ (weighted_sum_is a b d f (corner_weights ws t) (weight ws e) ∙ in_weighted_sphere_is c (corner_weights ws t) p (weight ws e))

-- ---- the laws

pub law_weighted_lift : WeightedLiftLaw
law_weighted_lift ps ws t e on below p different =
    sum_decides ps (weighted_lift ps ws) t e (in_weighted_sphere (corners ps t) (corner_weights ws t) (point ps e) (weight ws e)) on below p different (weighted-lift ps ws t e)

-- a regular row is lowest, and a lowest one is regular
pub law_regular_row : RegularRowLaw
law_regular_row ps ws ms within t = (
  λ d. record {
    is_on = d.is_on;
    is_positive = d.is_positive;
    is_arranged = d.is_arranged;
    others = λ i h n. (law_weighted_lift ps ws t i (on_of_among ps ms t within d.is_on) (within i h) d.is_positive n).0 (d.others i h n);
  },
  λ l. record {
    is_on = l.is_on;
    is_positive = l.is_positive;
    is_arranged = l.is_arranged;
    others = λ i h n. (law_weighted_lift ps ws t i (on_of_among ps ms t within l.is_on) (within i h) l.is_positive n).1 (l.others i h n);
  },
)

pub law_weighted_radical : WeightedRadicalLaw
law_weighted_radical ps ws ms within s t d e =
    law_radical.lowest ps ms (weighted_lift ps ws) s t ((law_regular_row ps ws ms within s).0 d) ((law_regular_row ps ws ms within t).0 e)

pub law_weighted_least_height : WeightedLeastHeightLaw
law_weighted_least_height ps ws ms within x w hull generic =
    let r = law_least_height.lowest ps ms within (weighted_lift ps ws) x w hull generic in
    (r.0, (law_regular_row ps ws ms within r.0).1 r.1, r.2)

pub law_weighted_cover : WeightedCoverLaw
law_weighted_cover ps ws ms within rows list = law_cover (weighted_lift ps ws) ps ms within rows (record {
  exactly = λ t. (λ c. (law_regular_row ps ws ms within t).0 ((list.exactly t).0 c), λ l. (list.exactly t).1 ((law_regular_row ps ws ms within t).1 l));
  ascending = list.ascending;
})

-- heights that are the same have the same lowest rows
same_heights : (ps : List Point) (ms : List ℕ) (f g : ℕ → ℤ) → f ≡ g → (t : Tet) → IsLowestAmong ps ms f t → IsLowestAmong ps ms g t
same_heights ps ms f g e t l = subst (λ h. IsLowestAmong ps ms h t) e l

pub law_no_weights : NoWeightsLaw
law_no_weights ps ws ms within none t = (
  λ d. delaunay_of ps ms within t (same_heights ps ms (weighted_lift ps ws) (lifted ps) same t ((law_regular_row ps ws ms within t).0 d)),
  λ d. (law_regular_row ps ws ms within t).1 (same_heights ps ms (lifted ps) (weighted_lift ps ws) (sym same) t (lowest_of ps ms within t d)),
)
  where
    less : (h w : ℤ) → w ≡ pos 0 → h -ℤ w ≡ h
    less h w e = omega (arith, ints)

    same : weighted_lift ps ws ≡ lifted ps
    same = λ j i. less (square_length (point ps i)) (weight ws i) (none i) j
