-- A walk over the hull faces that the new point sees, to one that it is strictly beyond: from each face the leg between the new point and a point near the
-- middle of the last face crosses an edge, and the face across that edge is seen too and nearer to its end.
use Rattle.exact_algebra.proofs.Signs.{nonneg_of_pos}
use Rattle.geo_laws.proofs.Heights.{order-trans}
use Rattle.geo_laws.proofs.Arrangement.{even_residual}
use Rattle.std.proofs.Common.{◌≡◌, ◌≢◌, ◌⊎◌, inl, inr, ℕ, zero, suc, ℤ, pos, neg_ℤ, ◌-ℤ◌, ◌*ℤ◌, ◌<ℤ◌, List, length, ap, sym, subst, ◌∙◌, arith}
use Rattle.std.specs.Prelude.{Contains}
use Rattle.std.proofs.lemmas.Int.{ints}
use Rattle.sign_predicates.specs.Point.{Point, RationalPoint}
use Rattle.geo_laws.specs.Delaunay.{point}
use Rattle.geo_laws.specs.Height.{height, places}
use Rattle.geo_laws.specs.declared.tetrahedra.Tet.{Tet}
use Rattle.geo_laws.proofs.Lexicographic.{IsLexAbove, lex_same, lex_scale, above_not_zero, zero_everywhere}
use Rattle.geo_laws.specs.OrientedFace.{Face, triangle, beside, IsOther}
use Rattle.insert_laws.specs.LowestInsertion.{IsNew, edge_and}
use Rattle.insert_laws.proofs.LowestBridge
use Rattle.insert_laws.proofs.Identities as identity
use Rattle.geo_laws.proofs.Lexicographic.{IsLexBelow, sum_first}
use Rattle.insert_laws.proofs.Pencil.{IsBare, IsFirst, first_of, neighbor, above_not_zero as positive_not_zero, apart_sides}
use Rattle.geo_laws.specs.Arrangement.{swap_both, rotate}
use Rattle.geo_laws.proofs.Arrangement.{IsEven, even_trans, even-swap, even-rotate}
use Rattle.insert_laws.proofs.FacePencil.{side_of, gap_of}
use Rattle.insert_laws.proofs.EdgePencil as edge
use Rattle.insert_laws.proofs.EdgePencil.{edge_face, edge_side, edge_gap, edge_places, IsHullOn, IsSome}
use Rattle.insert_laws.proofs.LowestHull as hull

-- the face, named from its next corner
abbrev pub turn : Face → Face
turn f = record { a = f.b; b = f.c; c = f.a }

-- the face's side toward the point mid, and how far the point x is above the face on its edge
abbrev pub weight : List Point → RationalPoint → Face → ℤ
weight qs mid f = edge_side qs mid f.a f.b f.c

-- and how far a point is above it there
abbrev pub lift : (ℕ → ℤ) → List Point → RationalPoint → Face → ℕ → ℕ → ℤ
lift lifts qs mid f x k = edge_gap lifts qs mid f.a f.b f.c x k

-- both are the same from each corner of the face
pub weight-turn : (qs : List Point) (mid : RationalPoint) (f : Face) → weight qs mid (turn f) ≡ weight qs mid f
weight-turn qs mid f = identity.edge-side_rotated (point qs f.a) (point qs f.b) (point qs f.c) mid

pub lift-turn : (lifts : ℕ → ℤ) (qs : List Point) (mid : RationalPoint) (f : Face) (x k : ℕ) → lift lifts qs mid (turn f) x k ≡ lift lifts qs mid f x k
lift-turn lifts qs mid f x zero = identity.edge-first_rotated (point qs f.a) (point qs f.b) (point qs f.c) (point qs x)
lift-turn lifts qs mid f x (suc k) = identity.edge-gap_rotated (point qs f.a) (point qs f.b) (point qs f.c) mid (point qs x) (height lifts f.a k) (height lifts f.b k) (height lifts f.c k) (height lifts x k)

-- ---- a hull face, named from another corner

-- the tetrahedron behind is evenly permuted
pub even-turn : (qs : List Point) (f : Face) (a : ℕ) → IsEven qs (beside f a) (beside (turn f) a)
even-turn qs f a =
    let t = beside f a in
    even_trans qs t (swap_both t) (beside (turn f) a) (even-swap qs t) (even_trans qs (swap_both t) (rotate (swap_both t)) (beside (turn f) a) (even-rotate qs (swap_both t)) (even-rotate qs (rotate (swap_both t))))

-- and the sides are the same
pub side-turn : (qs : List Point) (f : Face) (o : ℕ) → side_of qs (turn f) o ≡ side_of qs f o
side-turn qs f o = identity.side-turned (triangle qs f) (point qs o)

-- so a hull face is one from each of its corners
pub hull-turn : (lifts : ℕ → ℤ) (qs : List Point) (S : ℕ → Type 0) (f : Face) (a : ℕ) → IsHullOn lifts qs S f a → IsHullOn lifts qs S (turn f) a
hull-turn lifts qs S f a h = record {
  on = record { on_a = h.on.on_b; on_b = h.on.on_c; on_c = h.on.on_a };
  bare = λ e l k. h.bare e l (subst (λ n. pos 0 <ℤ n) (side-turn qs f e) k);
  low = record {
    on = h.low.on;
    under = subst (λ n. pos 0 <ℤ neg_ℤ n) (sym (side-turn qs f a)) h.low.under;
    others = λ e l o d. lex_same (λ k. neg_ℤ (gap_of lifts qs f a e k)) (λ k. neg_ℤ (gap_of lifts qs (turn f) a e k)) (places (length qs)) (λ k. ap neg_ℤ (even_residual qs (beside f a) (beside (turn f) a) (even-turn qs f a) lifts e k))
        (h.low.others e l (record { not_a = o.not_c; not_b = o.not_a; not_c = o.not_b }) d);
  };
}

-- ---- the hull faces that the new point sees

-- a hull face that the new point sees, by its heights
pub record IsGhost (lifts : ℕ → ℤ) (ps : List Point) (ms : List ℕ) (p : ℕ) (mid : RationalPoint) (f : Face) : Type 0 where
  pub apex : ℕ
  pub hull : IsHullOn lifts ps (Contains ms) f apex
  pub seen : IsLexBelow (lift lifts ps mid f p) (edge_places (length ps))

pub ghost-turn : (lifts : ℕ → ℤ) (ps : List Point) (ms : List ℕ) (p : ℕ) (new : IsNew ps ms p) (mid : RationalPoint) (f : Face) → IsGhost lifts ps ms p mid f → IsGhost lifts ps ms p mid (turn f)
ghost-turn lifts ps ms p new mid f g = record {
  apex = g.apex;
  hull = hull-turn lifts ps (Contains ms) f g.apex g.hull;
  seen = lex_same (λ k. neg_ℤ (lift lifts ps mid f p k)) (λ k. neg_ℤ (lift lifts ps mid (turn f) p k)) (edge_places (length ps))
      (λ k. ap neg_ℤ (sym (lift-turn lifts ps mid f p k))) g.seen;
}

-- the plane of g cuts the leg nearer to its end than that of f
abbrev pub nearer_at : (ℕ → ℤ) → List Point → RationalPoint → ℕ → Face → Face → ℕ → ℤ
nearer_at lifts qs mid x f g k = weight qs mid f *ℤ neg_ℤ (lift lifts qs mid g x k) -ℤ weight qs mid g *ℤ neg_ℤ (lift lifts qs mid f x k)

abbrev pub nearer : (ℕ → ℤ) → List Point → RationalPoint → ℕ → Face → Face → Type 0
nearer lifts qs mid x f g = IsLexAbove (nearer_at lifts qs mid x f g) (edge_places (length qs))

-- the order is transitive
pub nearer_trans : (lifts : ℕ → ℤ) (qs : List Point) (mid : RationalPoint) (x : ℕ) (s t u : Face) → pos 0 <ℤ weight qs mid s → pos 0 <ℤ weight qs mid t → pos 0 <ℤ weight qs mid u → nearer lifts qs mid x s t → nearer lifts qs mid x t u → nearer lifts qs mid x s u
nearer_trans lifts qs mid x s t u hs ht hu st tu =
    sum_first (weight qs mid t) (weight qs mid u) (weight qs mid s) (nearer_at lifts qs mid x s u) (nearer_at lifts qs mid x s t) (nearer_at lifts qs mid x t u) (edge_places (length qs)) ht hu (nonneg_of_pos _ hs)
    (λ k. sym (order-trans (weight qs mid s) (weight qs mid t) (weight qs mid u) (neg_ℤ (lift lifts qs mid s x k)) (neg_ℤ (lift lifts qs mid t x k)) (neg_ℤ (lift lifts qs mid u x k)))) st (inl tu)

-- and strict
pub nearer_never : (lifts : ℕ → ℤ) (qs : List Point) (mid : RationalPoint) (x : ℕ) (s : Face) → nearer lifts qs mid x s s → ⊥
nearer_never lifts qs mid x s h = above_not_zero (nearer_at lifts qs mid x s s) (edge_places (length qs)) h (zero_everywhere (nearer_at lifts qs mid x s s) (edge_places (length qs)) (λ k. zero (weight qs mid s *ℤ neg_ℤ (lift lifts qs mid s x k))))
  where
    zero : (n : ℤ) → n -ℤ n ≡ pos 0
    zero n = omega (arith, ints)

pub nearer-turn : (lifts : ℕ → ℤ) (qs : List Point) (mid : RationalPoint) (x : ℕ) (f g : Face) → nearer lifts qs mid x (turn f) g → nearer lifts qs mid x f g
nearer-turn lifts qs mid x f g h = lex_same (nearer_at lifts qs mid x (turn f) g) (nearer_at lifts qs mid x f g) (edge_places (length qs))
    (λ k j. weight-turn qs mid f j *ℤ neg_ℤ (lift lifts qs mid g x k) -ℤ weight qs mid g *ℤ neg_ℤ (lift-turn lifts qs mid f x k j)) h

-- ---- the step across an edge

-- the seen face across an edge is nearer
pub record IsAcross (lifts : ℕ → ℤ) (ps : List Point) (ms : List ℕ) (p : ℕ) (mid : RationalPoint) (f : Face) : Type 0 where
  pub apex : ℕ
  pub ghost : IsGhost lifts ps ms p mid (edge_and f.b f.a apex)
  pub rises : nearer lifts ps mid p f (edge_and f.b f.a apex)

module _ (lifts : ℕ → ℤ) (ps : List Point) (ms : List ℕ) (p : ℕ) (new : IsNew ps ms p) (t : Tet) (mid : RationalPoint) (some : IsSome ps (Contains ms) t mid) where
  pub ghost_weight : (f : Face) → IsGhost lifts ps ms p mid f → pos 0 <ℤ weight ps mid f
  ghost_weight f g = hull.center_below lifts ps (Contains ms) t mid f g.apex some g.hull

  pub across : (f : Face) → IsGhost lifts ps ms p mid f → pos 0 <ℤ neg_ℤ (edge_side ps mid f.a f.b p) → IsAcross lifts ps ms p mid f
  across f g beyond = go (first_of (edge.edge_pencil lifts ps mid f.b f.a) (Contains ms) (LowestBridge.list_set ps ms new.within))
    where
      qs : List Point
      qs = ps

      low : hull.IsEdgeLow lifts ps mid (Contains ms) f.a f.b f.c
      low = hull.edge_of_hull lifts ps (Contains ms) t mid f g.apex some g.hull

      under : hull.IsEdgeLowUnder lifts ps mid (Contains ms) f.b f.a f.c
      under = hull.edge_under_of lifts ps mid (Contains ms) f.b f.a f.c low

      beyond' : pos 0 <ℤ edge_side ps mid f.b f.a p
      beyond' = subst (λ n. pos 0 <ℤ n) (sym (edge.edge_side-turned ps mid f.a f.b p)) beyond

      seen' : IsLexAbove (edge_gap lifts ps mid f.b f.a f.c p) (edge_places (length ps))
      seen' = lex_same (λ k. neg_ℤ (edge_gap lifts ps mid f.a f.b f.c p k)) (edge_gap lifts ps mid f.b f.a f.c p) (edge_places (length ps))
          (λ k. sym (edge.edge_gap-turned lifts ps mid f.a f.b f.c p k)) g.seen

      go : IsBare (edge_side ps mid f.b f.a) (Contains ms) ⊎ ((b : ℕ) × IsFirst (edge_side ps mid f.b f.a) (edge_gap lifts ps mid f.b f.a) (edge_places (length ps)) (Contains ms) b) → IsAcross lifts ps ms p mid f
      go (inl bare) = absurd (hull.edge_not_bare ps (Contains ms) t mid f.b f.a p some (positive_not_zero (edge_side ps mid f.b f.a p) beyond') bare)
      go (inr (b, first)) = record { apex = b; ghost = record { apex = found.0; hull = found.1; seen = seen_b }; rises = rises_b }
        where
          low_b : hull.IsEdgeLow lifts ps mid (Contains ms) f.b f.a b
          low_b = neighbor (edge.edge_pencil lifts ps mid f.b f.a) f.c b under first

          found : (a : ℕ) × IsHullOn lifts ps (Contains ms) (edge_and f.b f.a b) a
          found = hull.hull_of_edge lifts ps (Contains ms) t mid f.b f.a b (LowestBridge.list_set ps ms new.within) some g.hull.on.on_b g.hull.on.on_a low_b

          other : IsOther (edge_face f.b f.a) b
          other = (edge.edge_pencil lifts ps mid f.b f.a).other b (positive_not_zero (edge_side ps mid f.b f.a b) low_b.over)

          apart : b ≢ f.c
          apart = apart_sides (edge_side ps mid f.b f.a) b f.c low_b.over under.under

          below_b : IsLexBelow (edge_gap lifts ps mid f.b f.a f.c b) (edge_places (length ps))
          below_b = under.others b low_b.on other apart

          seen_b : IsLexBelow (edge_gap lifts ps mid f.b f.a b p) (edge_places (length ps))
          seen_b = sum_first (neg_ℤ (edge_side ps mid f.b f.a f.c)) (edge_side ps mid f.b f.a b) (edge_side ps mid f.b f.a p)
              (λ k. neg_ℤ (edge_gap lifts ps mid f.b f.a b p k)) (edge_gap lifts ps mid f.b f.a f.c p) (λ k. neg_ℤ (edge_gap lifts ps mid f.b f.a f.c b k)) (edge_places (length ps))
              under.under low_b.over (nonneg_of_pos _ beyond')
              (λ k. identity.solve-walk (edge_side ps mid f.b f.a f.c) (edge_gap lifts ps mid f.b f.a b p k) (edge_side ps mid f.b f.a b) (edge_gap lifts ps mid f.b f.a f.c p k)
              (edge_side ps mid f.b f.a p) (edge_gap lifts ps mid f.b f.a f.c b k) ((edge.edge_pencil lifts ps mid f.b f.a).relation f.c b p k))
              seen' (inl below_b)

          rises_b : nearer lifts ps mid p f (edge_and f.b f.a b)
          rises_b = lex_same (λ k. edge_side ps mid f.b f.a p *ℤ neg_ℤ (edge_gap lifts ps mid f.b f.a f.c b k)) (nearer_at lifts ps mid p f (edge_and f.b f.a b)) (edge_places (length ps))
              (λ k. identity.walk-gap (edge_side ps mid f.b f.a f.c) (edge_gap lifts ps mid f.b f.a b p k) (edge_side ps mid f.b f.a b) (edge_gap lifts ps mid f.b f.a f.c p k)
              (edge_side ps mid f.b f.a p) (edge_gap lifts ps mid f.b f.a f.c b k) ((edge.edge_pencil lifts ps mid f.b f.a).relation f.c b p k)
              ∙ (λ j. sym (edge.edge_side-turned ps mid f.b f.a f.c) j *ℤ neg_ℤ (edge_gap lifts ps mid f.b f.a b p k)
              -ℤ edge_side ps mid f.b f.a b *ℤ neg_ℤ (sym (edge.edge_gap-turned lifts ps mid f.b f.a f.c p k) j)))
              (lex_scale (edge_side ps mid f.b f.a p) (λ k. neg_ℤ (edge_gap lifts ps mid f.b f.a f.c b k)) (edge_places (length ps)) beyond' below_b)
