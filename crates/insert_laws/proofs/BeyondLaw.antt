-- Where the new point is strictly beyond a hull face, each place of the cavity is joined to the ghost of that face.
use Rattle.exact_algebra.proofs.Signs.{nonneg_of_pos}
use Rattle.geo_laws.proofs.Places.{number}
use Rattle.std.proofs.Common.{◌≡◌, ◌≢◌, ◌⊎◌, inl, inr, ℕ, zero, suc, ◌+◌, ◌<◌, ℤ, pos, neg_ℤ, nat_abs, ◌+ℤ◌, ◌-ℤ◌, ◌*ℤ◌, ◌<ℤ◌, ◌≤ℤ◌, List, length, refl, ap, sym, subst, ◌∙◌, arith}
use Rattle.std.specs.Prelude.{Contains}
use Rattle.std.proofs.lemmas.Int.{ints}
use Rattle.sign_predicates.specs.Point.{Point, RationalPoint, as_rational}
use Rattle.sign_predicates.specs.Orientation.{orient, volume, side_rational, opposite_a, opposite_b, opposite_c, opposite_d, InClosed}
use Rattle.geo_laws.specs.Delaunay.{point, corners}
use Rattle.geo_laws.specs.Height.{height}
use Rattle.geo_laws.specs.declared.tetrahedra.Tet.{Tet}
use Rattle.geo_laws.proofs.Determinants as ring
use Rattle.exact_algebra.proofs.Signs.{sign_of, mul_pos, multiple_above}
use Rattle.sign_predicates.proofs.Places.{A, B, C, D}
use Rattle.geo_laws.proofs.Corners.{same_or_not}
use Rattle.geo_laws.proofs.Lexicographic.{IsLexAbove, IsLexAtLeast, lex_same, lex_scale, above_add, at_least_add, above_not_zero, zero_everywhere}
use Rattle.geo_laws.proofs.Lexicographic.{at_least_same}
use Rattle.geo_laws.proofs.Heights.{all_fours, in_all_fours}
use Rattle.geo_laws.specs.OrientedFace.{Face, triangle, reversed, beside}
use Rattle.insert_laws.specs.LowestInsertion.{IsNew, IsFaceOf, IsLowestHullFace, LowestSees, edge_and, RowOrGhost, row_place, ghost_place, IsInLowestCavity, row_in, ghost_in, row_ghost, ghost_ghost, ghost_turned, AreLowestPlacesJoined, joined_self, joined_by, LowestBeyondCavityLaw}
use Rattle.insert_laws.proofs.Identities as identity
use Rattle.geo_laws.proofs.Lexicographic.{at_least_multiple}
use Rattle.insert_laws.proofs.Pencil.{IsBare}
use Rattle.geo_laws.specs.Arrangement.{swap_both}
use Rattle.geo_laws.proofs.Arrangement.{even_self, even_trans, even_back, even-swap, even-cross, cross}
use Rattle.insert_laws.proofs.FacePencil.{side_of}
use Rattle.insert_laws.proofs.LowestBridge
use Rattle.insert_laws.proofs.EdgePencil as edge
use Rattle.insert_laws.proofs.EdgePencil.{edge_side, edge_places, IsHullOn, IsSome}
use Rattle.insert_laws.proofs.LowestInsert as insert
use Rattle.insert_laws.proofs.LowestHull as hull
use Rattle.insert_laws.proofs.HullLaws as laws
use Rattle.insert_laws.proofs.Climb.{climb}
use Rattle.insert_laws.proofs.Inside as inside
use Rattle.insert_laws.proofs.Beyond.{turn, weight, lift, ghost-turn, IsGhost, nearer, nearer_trans, nearer_never, nearer-turn, IsAcross, ghost_weight, across}

-- ---- no hull face below another

-- the number is a corner of the face
data IsFaceCorner (f : Face) (x : ℕ) : Type 0 where
  at_a : x ≡ f.a → IsFaceCorner f x
  at_b : x ≡ f.b → IsFaceCorner f x
  at_c : x ≡ f.c → IsFaceCorner f x
  away : x ≢ f.a → x ≢ f.b → x ≢ f.c → IsFaceCorner f x

corner_kind : (f : Face) (x : ℕ) → IsFaceCorner f x
corner_kind f x = go (same_or_not x f.a) (same_or_not x f.b) (same_or_not x f.c)
  where
    go : (x ≡ f.a) ⊎ (x ≡ f.a → ⊥) → (x ≡ f.b) ⊎ (x ≡ f.b → ⊥) → (x ≡ f.c) ⊎ (x ≡ f.c → ⊥) → IsFaceCorner f x
    go (inl e) _ _ = at_a e
    go (inr _) (inl e) _ = at_b e
    go (inr _) (inr _) (inl e) = at_c e
    go (inr na) (inr nb) (inr nc) = away na nb nc

lift-a : (lifts : ℕ → ℤ) (qs : List Point) (mid : RationalPoint) (f : Face) (k : ℕ) → lift lifts qs mid f f.a k ≡ pos 0
lift-a lifts qs mid f zero = identity.edge-first_i (point qs f.a) (point qs f.b) (point qs f.c)
lift-a lifts qs mid f (suc k) = identity.edge-gap_i (point qs f.a) (point qs f.b) mid (point qs f.c) (height lifts f.a k) (height lifts f.b k) (height lifts f.c k)

lift-b : (lifts : ℕ → ℤ) (qs : List Point) (mid : RationalPoint) (f : Face) (k : ℕ) → lift lifts qs mid f f.b k ≡ pos 0
lift-b lifts qs mid f zero = identity.edge-first_j (point qs f.a) (point qs f.b) (point qs f.c)
lift-b lifts qs mid f (suc k) = identity.edge-gap_j (point qs f.a) (point qs f.b) mid (point qs f.c) (height lifts f.a k) (height lifts f.b k) (height lifts f.c k)

-- the relation of two hull faces and a point
faces-relation : (lifts : ℕ → ℤ) (qs : List Point) (mid : RationalPoint) (f g : Face) (x k : ℕ)
    → weight qs mid g *ℤ lift lifts qs mid f x k -ℤ weight qs mid f *ℤ lift lifts qs mid g x k
    ≡ edge_side qs mid g.b g.c x *ℤ lift lifts qs mid f g.a k +ℤ (edge_side qs mid g.c g.a x *ℤ lift lifts qs mid f g.b k +ℤ edge_side qs mid g.a g.b x *ℤ lift lifts qs mid f g.c k)
faces-relation lifts qs mid f g x zero = identity.faces-first (triangle qs f) (triangle qs g) mid (point qs x)
faces-relation lifts qs mid f g x (suc k) = identity.faces-rest (triangle qs f) (triangle qs g) mid (point qs x) (height lifts f.a k) (height lifts f.b k) (height lifts f.c k)
    (height lifts g.a k) (height lifts g.b k) (height lifts g.c k) (height lifts x k)

abbrev between : (ℕ → ℤ) → List Point → RationalPoint → Face → Face → ℕ → ℕ → ℤ
between lifts qs mid f g x k = weight qs mid g *ℤ lift lifts qs mid f x k -ℤ weight qs mid f *ℤ lift lifts qs mid g x k

module _ (lifts : ℕ → ℤ) (ps : List Point) (ms : List ℕ) (p : ℕ) (new : IsNew ps ms p) (t : Tet) (mid : RationalPoint) (some : IsSome ps (Contains ms) t mid) where
  lift_away : (f : Face) → IsGhost lifts ps ms p mid f → (x : ℕ) → Contains ms x → x ≢ f.a → x ≢ f.b → x ≢ f.c → IsLexAbove (lift lifts ps mid f x) (edge_places (length ps))
  lift_away f g x l na nb nc = (hull.edge_of_hull lifts ps (Contains ms) t mid f g.apex some g.hull).others x l (record { not_a = na; not_b = nb; not_c = nb }) nc

  lift_at_least : (f : Face) → IsGhost lifts ps ms p mid f → (x : ℕ) → Contains ms x → IsLexAtLeast (lift lifts ps mid f x) (edge_places (length ps))
  lift_at_least f g x l = go (corner_kind f x)
    where
      zero_if : (y : ℕ) → x ≡ y → ((k : ℕ) → lift lifts ps mid f y k ≡ pos 0) → IsLexAtLeast (lift lifts ps mid f x) (edge_places (length ps))
      zero_if y e z = inr (zero_everywhere (lift lifts ps mid f x) (edge_places (length ps)) (λ k. ap (λ i. lift lifts ps mid f i k) e ∙ z k))

      neg_self : (n : ℤ) → n ≡ neg_ℤ n → n ≡ pos 0
      neg_self n e = omega (arith, ints)

      go : IsFaceCorner f x → IsLexAtLeast (lift lifts ps mid f x) (edge_places (length ps))
      go (at_a e) = zero_if f.a e (lift-a lifts ps mid f)
      go (at_b e) = zero_if f.b e (lift-b lifts ps mid f)
      go (at_c e) = zero_if f.c e (λ k. neg_self (lift lifts ps mid f f.c k) ((edge.edge_pencil lifts ps mid f.a f.b).opposite f.c f.c k))
      go (away na nb nc) = inl (lift_away f g x l na nb nc)

  sum_at_least : (f g : Face) → IsGhost lifts ps ms p mid f → IsGhost lifts ps ms p mid g → pos 0 ≤ℤ edge_side ps mid g.b g.c p → pos 0 ≤ℤ edge_side ps mid g.c g.a p
      → pos 0 ≤ℤ edge_side ps mid g.a g.b p → IsLexAtLeast (between lifts ps mid f g p) (edge_places (length ps))
  sum_at_least f g gf gg ha hb hc =
      let qs = ps in
      let n = p in
      let ks = edge_places (length qs) in
      at_least_same (λ k. edge_side qs mid g.b g.c n *ℤ lift lifts qs mid f g.a k +ℤ (edge_side qs mid g.c g.a n *ℤ lift lifts qs mid f g.b k +ℤ edge_side qs mid g.a g.b n *ℤ lift lifts qs mid f g.c k)) (between lifts qs mid f g n) ks
      (λ k. sym (faces-relation lifts qs mid f g n k))
      (at_least_add (λ k. edge_side qs mid g.b g.c n *ℤ lift lifts qs mid f g.a k) (λ k. edge_side qs mid g.c g.a n *ℤ lift lifts qs mid f g.b k +ℤ edge_side qs mid g.a g.b n *ℤ lift lifts qs mid f g.c k) ks
      (at_least_multiple (edge_side qs mid g.b g.c n) (lift lifts qs mid f g.a) ks ha (lift_at_least f gf g.a gg.hull.on.on_a))
      (at_least_add (λ k. edge_side qs mid g.c g.a n *ℤ lift lifts qs mid f g.b k) (λ k. edge_side qs mid g.a g.b n *ℤ lift lifts qs mid f g.c k) ks
      (at_least_multiple (edge_side qs mid g.c g.a n) (lift lifts qs mid f g.b) ks hb (lift_at_least f gf g.b gg.hull.on.on_b))
      (at_least_multiple (edge_side qs mid g.a g.b n) (lift lifts qs mid f g.c) ks hc (lift_at_least f gf g.c gg.hull.on.on_c))))

  -- above where some corner of g is none of f
  sum_above_a : (f g : Face) → IsGhost lifts ps ms p mid f → IsGhost lifts ps ms p mid g → pos 0 <ℤ edge_side ps mid g.b g.c p → pos 0 <ℤ edge_side ps mid g.c g.a p
      → pos 0 <ℤ edge_side ps mid g.a g.b p → g.a ≢ f.a → g.a ≢ f.b → g.a ≢ f.c → IsLexAbove (between lifts ps mid f g p) (edge_places (length ps))
  sum_above_a f g gf gg ha hb hc na nb nc =
      let qs = ps in
      let n = p in
      let ks = edge_places (length qs) in
      lex_same (λ k. edge_side qs mid g.b g.c n *ℤ lift lifts qs mid f g.a k +ℤ (edge_side qs mid g.c g.a n *ℤ lift lifts qs mid f g.b k +ℤ edge_side qs mid g.a g.b n *ℤ lift lifts qs mid f g.c k)) (between lifts qs mid f g n) ks
      (λ k. sym (faces-relation lifts qs mid f g n k))
      (above_add (λ k. edge_side qs mid g.b g.c n *ℤ lift lifts qs mid f g.a k) (λ k. edge_side qs mid g.c g.a n *ℤ lift lifts qs mid f g.b k +ℤ edge_side qs mid g.a g.b n *ℤ lift lifts qs mid f g.c k) ks
      (lex_scale (edge_side qs mid g.b g.c n) (lift lifts qs mid f g.a) ks ha (lift_away f gf g.a gg.hull.on.on_a na nb nc))
      (at_least_add (λ k. edge_side qs mid g.c g.a n *ℤ lift lifts qs mid f g.b k) (λ k. edge_side qs mid g.a g.b n *ℤ lift lifts qs mid f g.c k) ks
      (at_least_multiple (edge_side qs mid g.c g.a n) (lift lifts qs mid f g.b) ks (nonneg_of_pos _ hb) (lift_at_least f gf g.b gg.hull.on.on_b))
      (at_least_multiple (edge_side qs mid g.a g.b n) (lift lifts qs mid f g.c) ks (nonneg_of_pos _ hc) (lift_at_least f gf g.c gg.hull.on.on_c))))

  -- p is seen inside g and, from the same point, in closed f: the first corner of g is one of f
  first_shared : (f g : Face) → IsGhost lifts ps ms p mid f → IsGhost lifts ps ms p mid g → pos 0 <ℤ edge_side ps mid g.b g.c p → pos 0 <ℤ edge_side ps mid g.c g.a p
      → pos 0 <ℤ edge_side ps mid g.a g.b p
      → pos 0 ≤ℤ edge_side ps mid f.b f.c p → pos 0 ≤ℤ edge_side ps mid f.c f.a p → pos 0 ≤ℤ edge_side ps mid f.a f.b p
      → g.a ≢ f.a → g.a ≢ f.b → g.a ≢ f.c → ⊥
  first_shared f g gf gg ha hb hc ka kb kc na nb nc =
      let qs = ps in
      let n = p in
      let ks = edge_places (length qs) in
      above_not_zero (λ k. between lifts qs mid f g n k +ℤ between lifts qs mid g f n k) ks
      (above_add (between lifts qs mid f g n) (between lifts qs mid g f n) ks (sum_above_a f g gf gg ha hb hc na nb nc) (sum_at_least g f gg gf ka kb kc))
      (zero_everywhere (λ k. between lifts qs mid f g n k +ℤ between lifts qs mid g f n k) ks (λ k. cancel (weight qs mid g *ℤ lift lifts qs mid f n k) (weight qs mid f *ℤ lift lifts qs mid g n k)))
    where
      cancel : (a b : ℤ) → (a -ℤ b) +ℤ (b -ℤ a) ≡ pos 0
      cancel a b = omega (arith, ints)

-- ---- faces with the same corners

data IsCorner3 (f : Face) (x : ℕ) : Type 0 where
  one_a : x ≡ f.a → IsCorner3 f x
  one_b : x ≡ f.b → IsCorner3 f x
  one_c : x ≡ f.c → IsCorner3 f x

corner3-turn : (f : Face) (x : ℕ) → IsCorner3 f x → IsCorner3 (turn f) x
corner3-turn f x (one_a e) = one_c e
corner3-turn f x (one_b e) = one_a e
corner3-turn f x (one_c e) = one_b e

-- different corners
record IsProper (g : Face) : Type 0 where
  a_b : g.a ≢ g.b
  a_c : g.a ≢ g.c
  b_c : g.b ≢ g.c

weight-reversed : (qs : List Point) (mid : RationalPoint) (f : Face) → weight qs mid (reversed f) ≡ neg_ℤ (weight qs mid f)
weight-reversed qs mid f = ap neg_ℤ (identity.side_rational-reverse (triangle qs f) mid)

aligned : (qs : List Point) (mid : RationalPoint) (f g : Face) → pos 0 <ℤ weight qs mid f → pos 0 <ℤ weight qs mid g → IsProper g → g.a ≡ f.a → IsCorner3 f g.b → IsCorner3 f g.c → g ≡ f
aligned qs mid f g wf wg d ea (one_a eb) c = absurd (d.a_b (ea ∙ sym eb))
aligned qs mid f g wf wg d ea (one_b eb) (one_a ec) = absurd (d.a_c (ea ∙ sym ec))
aligned qs mid f g wf wg d ea (one_b eb) (one_b ec) = absurd (d.b_c (eb ∙ sym ec))
aligned qs mid f g wf wg d ea (one_b eb) (one_c ec) = λ j. record { a = ea j; b = eb j; c = ec j }
aligned qs mid f g wf wg d ea (one_c eb) (one_a ec) = absurd (d.a_c (ea ∙ sym ec))
aligned qs mid f g wf wg d ea (one_c eb) (one_c ec) = absurd (d.b_c (eb ∙ sym ec))
aligned qs mid f g wf wg d ea (one_c eb) (one_b ec) = absurd (clash (weight qs mid g) (weight qs mid f) ((λ j. weight qs mid (record { a = ea j; b = eb j; c = ec j })) ∙ weight-reversed qs mid f) wg wf)
  where
    clash : (v w : ℤ) → v ≡ neg_ℤ w → pos 0 <ℤ v → pos 0 <ℤ w → ⊥
    clash v w e h k = omega (arith, ints)

-- ---- a point is in the closed row, or beyond one of its faces

-- a point lies in the closed tetrahedron, or beyond one of its faces
pub closed_or_beyond : (qs : List Point) (t : Tet) (y : RationalPoint) → InClosed (corners qs t) y ⊎ inside.IsBeyondFace qs t y
closed_or_beyond qs t y = go (sign (side_rational (opposite_a (corners qs t)) y)) (sign (side_rational (opposite_b (corners qs t)) y)) (sign (side_rational (opposite_c (corners qs t)) y)) (sign (side_rational (opposite_d (corners qs t)) y))
  where
    sign : (n : ℤ) → (pos 0 ≤ℤ n) ⊎ (pos 0 <ℤ neg_ℤ n)
    sign n = split (sign_of n)
      where
        split : (pos 0 <ℤ n) ⊎ ((n ≡ pos 0) ⊎ (pos 0 <ℤ neg_ℤ n)) → (pos 0 ≤ℤ n) ⊎ (pos 0 <ℤ neg_ℤ n)
        split (inl k) = inl (omega (arith, ints))
        split (inr (inl k)) = inl (omega (arith, ints))
        split (inr (inr k)) = inr k

    go : (pos 0 ≤ℤ side_rational (opposite_a (corners qs t)) y) ⊎ (pos 0 <ℤ neg_ℤ (side_rational (opposite_a (corners qs t)) y))
        → (pos 0 ≤ℤ side_rational (opposite_b (corners qs t)) y) ⊎ (pos 0 <ℤ neg_ℤ (side_rational (opposite_b (corners qs t)) y))
        → (pos 0 ≤ℤ side_rational (opposite_c (corners qs t)) y) ⊎ (pos 0 <ℤ neg_ℤ (side_rational (opposite_c (corners qs t)) y))
        → (pos 0 ≤ℤ side_rational (opposite_d (corners qs t)) y) ⊎ (pos 0 <ℤ neg_ℤ (side_rational (opposite_d (corners qs t)) y))
        → InClosed (corners qs t) y ⊎ inside.IsBeyondFace qs t y
    go (inr h) _ _ _ = inr (inside.beyond_of qs t y (record { a = t.d; b = t.c; c = t.b }) t.a
        (even_back qs t (swap_both (cross t)) (even_trans qs t (cross t) (swap_both (cross t)) (even-cross qs t) (even-swap qs (cross t))))
        (subst (λ n. pos 0 <ℤ neg_ℤ n) (sym (ring.side_rational-turned (opposite_a (corners qs t)) y)) h))
    go (inl _) (inr h) _ _ = inr (inside.beyond_of qs t y (record { a = t.c; b = t.d; c = t.a }) t.b (even_back qs t (cross t) (even-cross qs t))
        (subst (λ n. pos 0 <ℤ neg_ℤ n) (sym (ring.side_rational-turned (opposite_b (corners qs t)) y)) h))
    go (inl _) (inl _) (inr h) _ = inr (inside.beyond_of qs t y (record { a = t.b; b = t.a; c = t.d }) t.c (even_back qs t (swap_both t) (even-swap qs t))
        (subst (λ n. pos 0 <ℤ neg_ℤ n) (sym (ring.side_rational-turned (ring.turned (opposite_c (corners qs t))) y ∙ ring.side_rational-turned (opposite_c (corners qs t)) y)) h))
    go (inl _) (inl _) (inl _) (inr h) = inr (inside.beyond_of qs t y (record { a = t.a; b = t.b; c = t.c }) t.d (even_self qs t) h)
    go (inl a) (inl b) (inl c) (inl d) = inl (a, (b, (c, (d, tt))))

-- ---- the walk to g

-- the leg from mid to p leads through the inside of g
record IsGoal (lifts : ℕ → ℤ) (ps : List Point) (ms : List ℕ) (p : ℕ) (mid : RationalPoint) (g : Face) : Type 0 where
  ghost : IsGhost lifts ps ms p mid g
  bc : pos 0 <ℤ edge_side ps mid g.b g.c p
  ca : pos 0 <ℤ edge_side ps mid g.c g.a p
  ab : pos 0 <ℤ edge_side ps mid g.a g.b p
  beyond : pos 0 <ℤ side_of ps g p

module _ (lifts : ℕ → ℤ) (ps : List Point) (ms : List ℕ) (p : ℕ) (new : IsNew ps ms p) (t : Tet) (mid : RationalPoint) (some : IsSome ps (Contains ms) t mid) (g : Face) (goal : IsGoal lifts ps ms p mid g) where
  ghost_in_cavity : (f : Face) → IsGhost lifts ps ms p mid f → IsInLowestCavity lifts ps ms p (ghost_place f)
  ghost_in_cavity f k =
      let h = hull.hull_from lifts ps ms (Contains ms) (LowestBridge.of_list ps ms new.within) f k.apex k.hull in
      ghost_in f h (laws.sees_of lifts ps ms p new f k.apex h k.hull (edge.of_edge_below lifts ps mid f k.apex p (ghost_weight lifts ps ms p new t mid some f k) k.hull.low.under k.seen))

  ghost_of : (f : Face) → (h : IsLowestHullFace lifts ps ms f) → LowestSees lifts ps p f h.behind → IsGhost lifts ps ms p mid f
  ghost_of f h s = at (hull.some_hull_on lifts ps ms (Contains ms) (LowestBridge.of_list ps ms new.within) f h)
    where
      at : (a : ℕ) × IsHullOn lifts ps (Contains ms) f a → IsGhost lifts ps ms p mid f
      at (a, k) = record { apex = a; hull = k; seen = edge.edge_below lifts ps mid f a p (hull.center_below lifts ps (Contains ms) t mid f a some k) k.low.under (laws.sees_to lifts ps ms p new f a h k s) }

  joined_turn : (f : Face) → IsGhost lifts ps ms p mid f → AreLowestPlacesJoined lifts ps ms p (ghost_place (turn f)) (ghost_place g) → AreLowestPlacesJoined lifts ps ms p (ghost_place f) (ghost_place g)
  joined_turn f k rest = joined_by (ghost_place f) (ghost_place (turn f)) (ghost_place g) (ghost_turned f.a f.b f.c) (ghost_in_cavity (turn f) (ghost-turn lifts ps ms p new mid f k)) rest

  -- where no edge leads on, the face is g
  at_goal : (f : Face) → IsGhost lifts ps ms p mid f → pos 0 ≤ℤ edge_side ps mid f.b f.c p → pos 0 ≤ℤ edge_side ps mid f.c f.a p → pos 0 ≤ℤ edge_side ps mid f.a f.b p
      → AreLowestPlacesJoined lifts ps ms p (ghost_place f) (ghost_place g)
  at_goal f k ka kb kc = go shared_a
    where
      gg : IsGhost lifts ps ms p mid g
      gg = goal.ghost

      shared : (h : Face) → IsGhost lifts ps ms p mid h → pos 0 <ℤ edge_side ps mid h.b h.c p → pos 0 <ℤ edge_side ps mid h.c h.a p → pos 0 <ℤ edge_side ps mid h.a h.b p
          → IsCorner3 f h.a
      shared h gh ha hb hc = split (corner_kind f h.a)
        where
          split : IsFaceCorner f h.a → IsCorner3 f h.a
          split (at_a e) = one_a e
          split (at_b e) = one_b e
          split (at_c e) = one_c e
          split (away na nb nc) = absurd (first_shared lifts ps ms p new t mid some f h k gh ha hb hc ka kb kc na nb nc)

      shared_a : IsCorner3 f g.a
      shared_a = shared g gg goal.bc goal.ca goal.ab

      shared_b : IsCorner3 f g.b
      shared_b = shared (turn g) (ghost-turn lifts ps ms p new mid g gg) goal.ca goal.ab goal.bc

      shared_c : IsCorner3 f g.c
      shared_c = shared (turn (turn g)) (ghost-turn lifts ps ms p new mid (turn g) (ghost-turn lifts ps ms p new mid g gg)) goal.ab goal.bc goal.ca

      proper : IsProper g
      proper =
          let d = laws.distinct_corners lifts ps (Contains ms) g gg.apex gg.hull in
          record { a_b = d A C tt; a_c = d A B tt; b_c = λ e. d B C tt (sym e) }

      wg : pos 0 <ℤ weight ps mid g
      wg = ghost_weight lifts ps ms p new t mid some g gg

      found : (h : Face) → IsGhost lifts ps ms p mid h → g.a ≡ h.a → IsCorner3 h g.b → IsCorner3 h g.c → AreLowestPlacesJoined lifts ps ms p (ghost_place h) (ghost_place g)
      found h gh e b c = subst (λ q. AreLowestPlacesJoined lifts ps ms p (ghost_place q) (ghost_place g)) (aligned ps mid h g (ghost_weight lifts ps ms p new t mid some h gh) wg proper e b c) (joined_self (ghost_place g))

      kt : IsGhost lifts ps ms p mid (turn f)
      kt = ghost-turn lifts ps ms p new mid f k

      ktt : IsGhost lifts ps ms p mid (turn (turn f))
      ktt = ghost-turn lifts ps ms p new mid (turn f) kt

      go : IsCorner3 f g.a → AreLowestPlacesJoined lifts ps ms p (ghost_place f) (ghost_place g)
      go (one_a e) = found f k e shared_b shared_c
      go (one_b e) = joined_turn f k (found (turn f) kt e (corner3-turn f g.b shared_b) (corner3-turn f g.c shared_c))
      go (one_c e) = joined_turn f k (joined_turn (turn f) kt (found (turn (turn f)) ktt e (corner3-turn (turn f) g.b (corner3-turn f g.b shared_b)) (corner3-turn (turn f) g.c (corner3-turn f g.c shared_c))))

  negative_or : (n : ℤ) → (pos 0 <ℤ neg_ℤ n) ⊎ (pos 0 ≤ℤ n)
  negative_or n = split (sign_of n)
    where
      split : (pos 0 <ℤ n) ⊎ ((n ≡ pos 0) ⊎ (pos 0 <ℤ neg_ℤ n)) → (pos 0 <ℤ neg_ℤ n) ⊎ (pos 0 ≤ℤ n)
      split (inl k) = inr (omega (arith, ints))
      split (inr (inl k)) = inr (omega (arith, ints))
      split (inr (inr k)) = inl k

  over_edge : (f : Face) → IsGhost lifts ps ms p mid f → (r : IsAcross lifts ps ms p mid f) → AreLowestPlacesJoined lifts ps ms p (ghost_place (edge_and f.b f.a r.apex)) (ghost_place g) → AreLowestPlacesJoined lifts ps ms p (ghost_place f) (ghost_place g)
  over_edge f k r rest = joined_by (ghost_place f) (ghost_place (edge_and f.b f.a r.apex)) (ghost_place g) (ghost_ghost f.a f.b f.c r.apex) (ghost_in_cavity (edge_and f.b f.a r.apex) r.ghost) rest

  ghost_step : (f : Face) → IsGhost lifts ps ms p mid f
      → AreLowestPlacesJoined lifts ps ms p (ghost_place f) (ghost_place g) ⊎ ((h : Face) × IsGhost lifts ps ms p mid h × nearer lifts ps mid p f h × (AreLowestPlacesJoined lifts ps ms p (ghost_place h) (ghost_place g) → AreLowestPlacesJoined lifts ps ms p (ghost_place f) (ghost_place g)))
  ghost_step f k = go (negative_or (edge_side ps mid f.a f.b p)) (negative_or (edge_side ps mid f.b f.c p)) (negative_or (edge_side ps mid f.c f.a p))
    where
      kt : IsGhost lifts ps ms p mid (turn f)
      kt = ghost-turn lifts ps ms p new mid f k

      ktt : IsGhost lifts ps ms p mid (turn (turn f))
      ktt = ghost-turn lifts ps ms p new mid (turn f) kt

      first : IsAcross lifts ps ms p mid f
          → AreLowestPlacesJoined lifts ps ms p (ghost_place f) (ghost_place g) ⊎ ((h : Face) × IsGhost lifts ps ms p mid h × nearer lifts ps mid p f h × (AreLowestPlacesJoined lifts ps ms p (ghost_place h) (ghost_place g) → AreLowestPlacesJoined lifts ps ms p (ghost_place f) (ghost_place g)))
      first r = inr (edge_and f.b f.a r.apex, r.ghost, r.rises, over_edge f k r)

      second : IsAcross lifts ps ms p mid (turn f)
          → AreLowestPlacesJoined lifts ps ms p (ghost_place f) (ghost_place g) ⊎ ((h : Face) × IsGhost lifts ps ms p mid h × nearer lifts ps mid p f h × (AreLowestPlacesJoined lifts ps ms p (ghost_place h) (ghost_place g) → AreLowestPlacesJoined lifts ps ms p (ghost_place f) (ghost_place g)))
      second r = inr (edge_and f.c f.b r.apex, r.ghost, nearer-turn lifts ps mid p f (edge_and f.c f.b r.apex) r.rises, λ rest. joined_turn f k (over_edge (turn f) kt r rest))

      third : IsAcross lifts ps ms p mid (turn (turn f))
          → AreLowestPlacesJoined lifts ps ms p (ghost_place f) (ghost_place g) ⊎ ((h : Face) × IsGhost lifts ps ms p mid h × nearer lifts ps mid p f h × (AreLowestPlacesJoined lifts ps ms p (ghost_place h) (ghost_place g) → AreLowestPlacesJoined lifts ps ms p (ghost_place f) (ghost_place g)))
      third r = inr (
        edge_and f.a f.c r.apex,
        r.ghost,
        nearer-turn lifts ps mid p f (edge_and f.a f.c r.apex) (nearer-turn lifts ps mid p (turn f) (edge_and f.a f.c r.apex) r.rises),
        λ rest. joined_turn f k (joined_turn (turn f) kt (over_edge (turn (turn f)) ktt r rest)),
      )

      go : (pos 0 <ℤ neg_ℤ (edge_side ps mid f.a f.b p)) ⊎ (pos 0 ≤ℤ edge_side ps mid f.a f.b p)
          → (pos 0 <ℤ neg_ℤ (edge_side ps mid f.b f.c p)) ⊎ (pos 0 ≤ℤ edge_side ps mid f.b f.c p)
          → (pos 0 <ℤ neg_ℤ (edge_side ps mid f.c f.a p)) ⊎ (pos 0 ≤ℤ edge_side ps mid f.c f.a p)
          → AreLowestPlacesJoined lifts ps ms p (ghost_place f) (ghost_place g) ⊎ ((h : Face) × IsGhost lifts ps ms p mid h × nearer lifts ps mid p f h × (AreLowestPlacesJoined lifts ps ms p (ghost_place h) (ghost_place g) → AreLowestPlacesJoined lifts ps ms p (ghost_place f) (ghost_place g)))
      go (inl h) _ _ = first (across lifts ps ms p new t mid some f k h)
      go (inr _) (inl h) _ = second (across lifts ps ms p new t mid some (turn f) kt h)
      go (inr _) (inr _) (inl h) = third (across lifts ps ms p new t mid some (turn (turn f)) ktt h)
      go (inr c) (inr a) (inr b) = inl (at_goal f k a b c)

  ghosts_joined : (f : Face) → IsGhost lifts ps ms p mid f → AreLowestPlacesJoined lifts ps ms p (ghost_place f) (ghost_place g)
  ghosts_joined f k =
      climb Face (nearer lifts ps mid p) (IsGhost lifts ps ms p mid) (λ h. AreLowestPlacesJoined lifts ps ms p (ghost_place h) (ghost_place g))
      (λ x y z hx hy hz a b. nearer_trans lifts ps mid p x y z (ghost_weight lifts ps ms p new t mid some x hx) (ghost_weight lifts ps ms p new t mid some y hy) (ghost_weight lifts ps ms p new t mid some z hz) a b)
      (λ x h. nearer_never lifts ps mid p x h)
      ghost_step (length (inside.all_faces ms)) (inside.all_faces ms) (omega arith) f k
      (λ h gh r. inside.in_all_faces ms h gh.hull.on)

  -- ---- rows

  here_p : RationalPoint
  here_p = as_rational (point ps p)

  row_step : (r : Tet) → inside.IsCavityRow lifts ps ms p r
      → AreLowestPlacesJoined lifts ps ms p (row_place r) (ghost_place g) ⊎ ((s : Tet) × inside.IsCavityRow lifts ps ms p s × inside.rises_at lifts ps (as_rational (point ps p)) r s
      × (AreLowestPlacesJoined lifts ps ms p (row_place s) (ghost_place g) → AreLowestPlacesJoined lifts ps ms p (row_place r) (ghost_place g)))
  row_step r c = go (closed_or_beyond ps r (as_rational (point ps p)))
    where
      low : LowestBridge.IsLowFour lifts ps (Contains ms) r
      low = LowestBridge.low_of_lowest lifts ps ms (Contains ms) (LowestBridge.of_list ps ms new.within) r c.is_row

      bare : IsBare (side_of ps g) (Contains ms)
      bare = goal.ghost.hull.bare

      onward : (b : inside.IsBeyondFace ps r (as_rational (point ps p)))
          → pos 0 <ℤ side_of ps b.face p
          → (LowestBridge.IsFaceOn (Contains ms) b.face × IsBare (side_of ps b.face) (Contains ms)) ⊎ inside.IsNext lifts ps ms p (as_rational (point ps p)) r
          → AreLowestPlacesJoined lifts ps ms p (row_place r) (ghost_place g) ⊎ ((s : Tet) × inside.IsCavityRow lifts ps ms p s × inside.rises_at lifts ps (as_rational (point ps p)) r s
          × (AreLowestPlacesJoined lifts ps ms p (row_place s) (ghost_place g) → AreLowestPlacesJoined lifts ps ms p (row_place r) (ghost_place g)))
      onward b above (inr n) = inr (n.row, n.cavity, n.rises, λ rest. joined_by (row_place r) (row_place n.row) (ghost_place g) n.touches (row_in n.row n.cavity.is_row n.cavity.not_above) rest)
      onward b above (inl (on, none)) = inl (joined_by (row_place r) (ghost_place b.face) (ghost_place g) (row_ghost b.face r face_is) (ghost_in b.face h sees) (ghosts_joined b.face (ghost_of b.face h sees)))
        where
          four : LowestBridge.IsLowFour lifts ps (Contains ms) (beside (reversed b.face) b.apex)
          four = LowestBridge.low_even lifts ps (Contains ms) r (beside (reversed b.face) b.apex) (even_back ps (beside (reversed b.face) b.apex) r b.even) low

          face_is : IsFaceOf ps (reversed b.face) r
          face_is = inside.face_of lifts ps (Contains ms) (reversed b.face) b.apex r (LowestBridge.low_on_face lifts ps (Contains ms) (reversed b.face) b.apex four) b.even

          h : IsLowestHullFace lifts ps ms b.face
          h = record { behind = r; is_row = c.is_row; is_face = face_is; none_beyond = insert.of_bare ps ms p new b.face on none }

          sees : LowestSees lifts ps p b.face h.behind
          sees = inl (subst (λ n. pos 0 <ℤ n) (insert.side_new ps ms p new b.face on) above)

      go : InClosed (corners ps r) (as_rational (point ps p)) ⊎ inside.IsBeyondFace ps r (as_rational (point ps p))
          → AreLowestPlacesJoined lifts ps ms p (row_place r) (ghost_place g) ⊎ ((s : Tet) × inside.IsCavityRow lifts ps ms p s × inside.rises_at lifts ps (as_rational (point ps p)) r s
          × (AreLowestPlacesJoined lifts ps ms p (row_place s) (ghost_place g) → AreLowestPlacesJoined lifts ps ms p (row_place r) (ghost_place g)))
      go (inl closed) = absurd (inside.not_beyond (corners ps r) (triangle ps g) (as_rational (point ps p)) low.positive closed
          (bare r.a (low.on r.a (A, refl))) (bare r.b (low.on r.b (B, refl))) (bare r.c (low.on r.c (C, refl))) (bare r.d (low.on r.d (D, refl)))
          (subst (λ n. pos 0 <ℤ n) (sym (ring.side_rational-as_rational (triangle ps g) (point ps p))) goal.beyond))
      go (inr b) =
          let above = subst (λ n. pos 0 <ℤ n) (ring.side_rational-as_rational (triangle ps b.face) (point ps p)) b.beyond in
          onward b above (inside.next lifts ps ms p new (as_rational (point ps p)) r c b (nonneg_of_pos _ above))

  rows_joined : (r : Tet) → inside.IsCavityRow lifts ps ms p r → AreLowestPlacesJoined lifts ps ms p (row_place r) (ghost_place g)
  rows_joined r c =
      climb Tet (inside.rises_at lifts ps (as_rational (point ps p))) (inside.IsCavityRow lifts ps ms p) (λ s. AreLowestPlacesJoined lifts ps ms p (row_place s) (ghost_place g))
      (λ x y z hx hy hz a b. inside.rises_trans lifts ps (as_rational (point ps p)) x y z (four x hx).positive (four y hy).positive (four z hz).positive a b)
      (λ x h. inside.rises_never lifts ps (as_rational (point ps p)) x h)
      row_step (length (all_fours ms)) (all_fours ms) (omega arith) r c
      (λ s h k. (let low = four s h in in_all_fours ms s (λ w. low.on (number s w) (w, refl))))
    where
      four : (s : Tet) → inside.IsCavityRow lifts ps ms p s → LowestBridge.IsLowFour lifts ps (Contains ms) s
      four s h = LowestBridge.low_of_lowest lifts ps ms (Contains ms) (LowestBridge.of_list ps ms new.within) s h.is_row

  each_joined : (a : RowOrGhost) → IsInLowestCavity lifts ps ms p a → AreLowestPlacesJoined lifts ps ms p a (ghost_place g)
  each_joined (row_place r) (row_in u d n) = rows_joined r (record { is_row = d; not_above = n })
  each_joined (ghost_place f) (ghost_in u h s) = ghosts_joined f (ghost_of f h s)

-- ---- a point from which the new point is seen through the face

abbrev toward : List Point → ℕ → ℕ → ℕ → ℕ → ℤ
toward qs i j x a = neg_ℤ (orient (point qs i) (point qs j) (point qs x) (point qs a))

-- near the middle of the face f, toward the point a behind it
abbrev near : List Point → Face → ℕ → ℕ → RationalPoint
near qs f a n = identity.near_face (triangle qs f) (point qs a) (pos n)

near_inside : (lifts : ℕ → ℤ) (qs : List Point) (S : ℕ → Type 0) (f : Face) (a n : ℕ) → 0 < n → IsHullOn lifts qs S f a → IsSome qs S (beside (reversed f) a) (near qs f a n)
near_inside lifts qs S f a n some h = record {
  on = four.on;
  positive = four.positive;
  inside = (
    moved _ _ (identity.near-a (triangle qs f) (point qs a) (pos n)) large,
    (
      moved _ _ (identity.near-b (triangle qs f) (point qs a) (pos n)) large,
      (moved _ _ (identity.near-c (triangle qs f) (point qs a) (pos n)) large, (moved _ _ (identity.near-d (triangle qs f) (point qs a) (pos n)) four.positive, tt)),
    ),
  );
}
  where
    four : LowestBridge.IsLowFour lifts qs S (beside (reversed f) a)
    four = LowestBridge.four_of_face lifts qs S (reversed f) a (LowestBridge.reversed_on S f h.on) (LowestBridge.of_under lifts qs S f a h.low)

    above : (n : ℕ) → 0 < n → pos 0 <ℤ pos n
    above n h = omega (arith, ints)

    moved : (a b : ℤ) → a ≡ b → pos 0 <ℤ b → pos 0 <ℤ a
    moved a b e h = omega (arith, ints)

    large : pos 0 <ℤ (pos n *ℤ volume (corners qs (beside (reversed f) a)))
    large = mul_pos (pos n) (volume (corners qs (beside (reversed f) a))) (above n some) four.positive

near_goal : (lifts : ℕ → ℤ) (ps : List Point) (ms : List ℕ) (p : ℕ) (new : IsNew ps ms p) (f : Face) (a n : ℕ) → 0 < n → IsHullOn lifts ps (Contains ms) f a → pos 0 <ℤ side_of ps f p
    → nat_abs (toward ps f.a f.b p a) < n → nat_abs (toward ps f.b f.c p a) < n → nat_abs (toward ps f.c f.a p a) < n
    → IsGoal lifts ps ms p (near ps f a n) f
near_goal lifts ps ms p new f a n some h above hab hbc hca = record {
  ghost = record {
    apex = a;
    hull = h;
    seen = edge.edge_below lifts ps (near ps f a n) f a p
        (hull.center_below lifts ps (Contains ms) (beside (reversed f) a) (near ps f a n) f a (near_inside lifts ps (Contains ms) f a n some h) h) h.low.under (inl above);
  };
  bc = moved _ _ (identity.near-edge_bc (triangle ps f) (point ps a) (point ps p) (pos n))
      (multiple_above n (side_of ps f p) (toward ps f.b f.c p a) hbc above);
  ca = moved _ _ (identity.near-edge_ca (triangle ps f) (point ps a) (point ps p) (pos n))
      (multiple_above n (side_of ps f p) (toward ps f.c f.a p a) hca above);
  ab = moved _ _ (identity.near-edge_ab (triangle ps f) (point ps a) (point ps p) (pos n))
      (multiple_above n (side_of ps f p) (toward ps f.a f.b p a) hab above);
  beyond = above;
}
  where
    moved : (a b : ℤ) → a ≡ b → pos 0 <ℤ b → pos 0 <ℤ a
    moved a b e h = omega (arith, ints)

-- a tetrahedron of the cavity is joined to a ghost that p sees, and each such ghost to that of f
pub law_beyond_cavity : LowestBeyondCavityLaw
law_beyond_cavity lifts ps ms p new f h above = start (hull.some_hull_on lifts ps ms (Contains ms) (LowestBridge.of_list ps ms new.within) f h)
  where
    start : (a : ℕ) × IsHullOn lifts ps (Contains ms) f a → (x : RowOrGhost) → IsInLowestCavity lifts ps ms p x → AreLowestPlacesJoined lifts ps ms p x (ghost_place f)
    start (a, k) = each_joined lifts ps ms p new (beside (reversed f) a) (near ps f a large) (near_inside lifts ps (Contains ms) f a large (omega arith) k) f
        (near_goal lifts ps ms p new f a large (omega arith) k (subst (λ n. pos 0 <ℤ n) (sym (insert.side_new ps ms p new f k.on)) above) (omega arith) (omega arith) (omega arith))
      where
        large : ℕ
        large = suc (nat_abs (toward ps f.a f.b p a) + (nat_abs (toward ps f.b f.c p a) + nat_abs (toward ps f.c f.a p a)))
