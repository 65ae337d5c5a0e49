-- The rim's faces are paired at their edges.
use Rattle.std.proofs.Common.{◌≡◌, ◌≢◌, ◌⊎◌, inl, inr, ℕ, ◌<◌, List, length, Option, refl, sym, ap, subst, ◌∙◌, ℤ}
use Rattle.sign_predicates.specs.Point.{Point}
use Rattle.geo_laws.specs.OrientedFace.{Face}
use Rattle.insert_laws.specs.LowestInsertion.{IsNew, IsLowestHullRim, IsLowestRimFace, edge_and}
use Rattle.insert_laws.proofs.Beyond.{turn}
use Rattle.insert_laws.proofs.Rim.{law_rim_edge, law_hull_rim}
use Rattle.mesh_arena.specs.Mesh.{SlotValue, IsArenaMesh}
use Rattle.mesh_arena.specs.Star.{rim_at}
use Rattle.mesh_arena.specs.StarLinks.{OnRim, Other}
use Rattle.mesh_arena.specs.declared.slot.Corner.{Corner}
use Rattle.mesh_arena.specs.declared.slot.Corner.TheVariants.{Point as Numbered, Ghost}
use Rattle.mesh_arena.specs.declared.slot.Slot.{Slot}
use Rattle.mesh_arena.specs.declared.slot.RimFace.{RimFace}
use Rattle.mesh_laws.specs.LowestRule.{IsLowestTaken}
use Rattle.mesh_laws.specs.Reach.{Grown}
use Rattle.mesh_laws.specs.LowestLiving.{IsFaceCorner, IsLowestMesh}
use Rattle.mesh_laws.specs.LowestLaws.{IsLowestWholeFrom}
use Rattle.mesh_laws.specs.LowestRimLaws.{LowestPairedLaw}
use Rattle.mesh_laws.proofs.LowestFaces.{AreApart}
use Rattle.mesh_laws.proofs.LowestJoined.{same_reversed}
use Rattle.mesh_laws.proofs.NextHull.{ShowsEdge, along}
use Rattle.mesh_laws.proofs.RimNames.{IsTriangle, IsEdge, triangle_shows, shows_edge, triangle_turn, triangle_rim, edge_rim, name_of, one_triangle, one_edge, triangle_at, edge_at}
use Rattle.mesh_laws.proofs.RimEdges.{rim_apart, one_side, hull_rim_apart, rim_ends, edge_before, one_before}

-- the face t of the rim has the corners i and j: a triangle goes from the one to the other, or back, or t is over their edge
data HasEdge (lifts : ℕ → ℤ) (slots : List (Option SlotValue)) (ps : List Point) (ms : List ℕ) (rim : List RimFace) (t i j : ℕ) : Type 0 where
  onward : (k : ℕ) → IsTriangle lifts slots ps ms rim t (edge_and i j k) → HasEdge lifts slots ps ms rim t i j
  back : (k : ℕ) → IsTriangle lifts slots ps ms rim t (edge_and j i k) → HasEdge lifts slots ps ms rim t i j
  over : IsEdge lifts slots ps ms rim t i j → HasEdge lifts slots ps ms rim t i j
  over_back : IsEdge lifts slots ps ms rim t j i → HasEdge lifts slots ps ms rim t i j

swap : (slots : List (Option SlotValue)) (rim : List RimFace) (r : ℕ) (x y : Corner) → Other slots rim r x y → Other slots rim r y x
swap slots rim r x y o = record { face = o.face; inside = o.inside; differs = o.differs; first = o.second; second = o.first; only = λ t h n on_y on_x. o.only t h n on_x on_y }

module _ (lifts : ℕ → ℤ) (slots : List (Option SlotValue)) (ps : List Point) (ms : List ℕ) (mesh : IsArenaMesh slots) (now : IsLowestMesh lifts slots ps ms) (rim : List RimFace) (p start : ℕ) (cavity : List Slot) (new : IsNew ps ms p) (grown : Grown slots (IsLowestTaken lifts slots ps p) start cavity rim) (whole : IsLowestWholeFrom lifts slots ps p start) where
  rim_of : (r : ℕ) (f : Face) → r < length rim → IsTriangle lifts slots ps ms rim r f → IsLowestRimFace lifts ps ms p f
  rim_of = triangle_rim lifts slots ps ms mesh now rim p start cavity new grown whole

  edge_of : (r i j : ℕ) → r < length rim → IsEdge lifts slots ps ms rim r i j → IsLowestHullRim lifts ps ms p i j
  edge_of = edge_rim lifts slots ps ms mesh now rim p start cavity new grown whole

  same_triangle : (r q : ℕ) (f : Face) → r < length rim → q < length rim → IsTriangle lifts slots ps ms rim r f → IsTriangle lifts slots ps ms rim q f → r ≡ q
  same_triangle = one_triangle lifts slots ps ms mesh now rim p start cavity new grown whole

  same_edge : (r q i j : ℕ) → r < length rim → q < length rim → IsEdge lifts slots ps ms rim r i j → IsEdge lifts slots ps ms rim q i j → r ≡ q
  same_edge = one_edge lifts slots ps ms mesh now rim p start cavity new grown whole

  on_triangle : (r : ℕ) (f : Face) (i : ℕ) → IsTriangle lifts slots ps ms rim r f → IsFaceCorner f i → OnRim slots rim r (Numbered i)
  on_triangle r f i is c = (triangle_shows lifts slots ps ms mesh now rim r f is).from i ((same_reversed f i).1 c)

  triangle_corner : (r : ℕ) (f : Face) (i : ℕ) → IsTriangle lifts slots ps ms rim r f → OnRim slots rim r (Numbered i) → IsFaceCorner f i
  triangle_corner r f i is on = (same_reversed f i).0 ((triangle_shows lifts slots ps ms mesh now rim r f is).to i on)

  turned : (r : ℕ) (f : Face) → IsTriangle lifts slots ps ms rim r f → IsTriangle lifts slots ps ms rim r (turn f)
  turned = triangle_turn lifts slots ps ms mesh now rim

  -- ---- the faces at two corners

  edge_in : (r : ℕ) (f : Face) (i j : ℕ) → IsTriangle lifts slots ps ms rim r f → i ≢ j → IsFaceCorner f i → IsFaceCorner f j → HasEdge lifts slots ps ms rim r i j
  edge_in r f i j is n (inl a) (inl b) = absurd (n (cc))
  edge_in r f i j is n (inl a) (inr (inl b)) = onward f.c (along (λ (x y : ℕ). IsTriangle lifts slots ps ms rim r (edge_and x y f.c)) (sym a) (sym b) is)
  edge_in r f i j is n (inl a) (inr (inr b)) = back f.b (along (λ (x y : ℕ). IsTriangle lifts slots ps ms rim r (edge_and y x f.b)) (sym a) (sym b) (turned r (turn f) (turned r f is)))
  edge_in r f i j is n (inr (inl a)) (inl b) = back f.c (along (λ (x y : ℕ). IsTriangle lifts slots ps ms rim r (edge_and y x f.c)) (sym a) (sym b) is)
  edge_in r f i j is n (inr (inl a)) (inr (inl b)) = absurd (n (cc))
  edge_in r f i j is n (inr (inl a)) (inr (inr b)) = onward f.a (along (λ (x y : ℕ). IsTriangle lifts slots ps ms rim r (edge_and x y f.a)) (sym a) (sym b) (turned r f is))
  edge_in r f i j is n (inr (inr a)) (inl b) = onward f.b (along (λ (x y : ℕ). IsTriangle lifts slots ps ms rim r (edge_and x y f.b)) (sym a) (sym b) (turned r (turn f) (turned r f is)))
  edge_in r f i j is n (inr (inr a)) (inr (inl b)) = back f.a (along (λ (x y : ℕ). IsTriangle lifts slots ps ms rim r (edge_and y x f.a)) (sym a) (sym b) (turned r f is))
  edge_in r f i j is n (inr (inr a)) (inr (inr b)) = absurd (n (cc))

  with_edge : (t i j : ℕ) → t < length rim → i ≢ j → OnRim slots rim t (Numbered i) → OnRim slots rim t (Numbered j) → HasEdge lifts slots ps ms rim t i j
  with_edge t i j h n on_i on_j = by (name_of lifts slots ps ms mesh now rim p start cavity new grown whole t h)
    where
      ends : (a b : ℕ) → IsEdge lifts slots ps ms rim t a b → (i ≡ a) ⊎ (i ≡ b) → (j ≡ a) ⊎ (j ≡ b) → HasEdge lifts slots ps ms rim t i j
      ends a b is (inl x) (inl y) = absurd (n (cc))
      ends a b is (inl x) (inr y) = over (along (λ (u v : ℕ). IsEdge lifts slots ps ms rim t u v) (sym x) (sym y) is)
      ends a b is (inr x) (inl y) = over_back (along (λ (u v : ℕ). IsEdge lifts slots ps ms rim t u v) (sym y) (sym x) is)
      ends a b is (inr x) (inr y) = absurd (n (cc))

      by : ((f : Face) × IsTriangle lifts slots ps ms rim t f) ⊎ ((a : ℕ) × (b : ℕ) × IsEdge lifts slots ps ms rim t a b) → HasEdge lifts slots ps ms rim t i j
      by (inl is) = edge_in t is.0 i j is.1 n (triangle_corner t is.0 i is.1 on_i) (triangle_corner t is.0 j is.1 on_j)
      by (inr is) = let shown = shows_edge lifts slots ps ms mesh now rim t is.0 is.1 is.2 in ends is.0 is.1 is.2 (shown.to i on_i) (shown.to j on_j)

  -- the only triangle onward is the one that is there
  no_second : (r t i j k q : ℕ) → r < length rim → t < length rim → t ≢ r → IsTriangle lifts slots ps ms rim r (edge_and i j k) → IsTriangle lifts slots ps ms rim t (edge_and i j q) → ⊥
  no_second r t i j k q hr ht n is other = n (same_triangle t r (edge_and i j k) ht hr (subst (λ x. IsTriangle lifts slots ps ms rim t (edge_and i j x)) (sym ((law_rim_edge lifts ps ms p new i j k (rim_of r (edge_and i j k) hr is)).1 q (rim_of t (edge_and i j q) ht other))) other) is)

  -- ---- the other face at an edge of a triangle

  paired_triangle : (r i j k : ℕ) → r < length rim → IsTriangle lifts slots ps ms rim r (edge_and i j k) → Other slots rim r (Numbered i) (Numbered j)
  paired_triangle r i j k hr is = by (law_rim_edge lifts ps ms p new i j k here).0
    where
      here : IsLowestRimFace lifts ps ms p (edge_and i j k)
      here = rim_of r (edge_and i j k) hr is

      d : AreApart (edge_and i j k)
      d = rim_apart lifts ps ms p new (edge_and i j k) here

      by : IsLowestHullRim lifts ps ms p i j ⊎ ((q : ℕ) × IsLowestRimFace lifts ps ms p (edge_and j i q)) → Other slots rim r (Numbered i) (Numbered j)
      by (inl edge) = record {
        face = found.0;
        inside = found.1;
        differs = λ e. (triangle_shows lifts slots ps ms mesh now rim r (edge_and i j k) is).finite (subst (λ x. OnRim slots rim x Ghost) e shown.infinite);
        first = shown.first;
        second = shown.second;
        only = λ t h n on_i on_j. only t h n (with_edge t i j h d.ab on_i on_j);
      }
        where
          found : (q : ℕ) × (q < length rim) × IsEdge lifts slots ps ms rim q i j
          found = edge_at lifts slots ps ms mesh now rim p start cavity new grown whole i j edge

          shown : ShowsEdge slots (rim_at rim found.0).slot.index (rim_at rim found.0).face i j
          shown = shows_edge lifts slots ps ms mesh now rim found.0 i j found.2

          only : (t : ℕ) → t < length rim → t ≢ r → HasEdge lifts slots ps ms rim t i j → t ≡ found.0
          only t h n (onward q other) = absurd (no_second r t i j k q hr h n is other)
          only t h n (back q other) = absurd (rim_ends lifts ps ms p new i j q edge (rim_of t (edge_and j i q) h other))
          only t h n (over other) = same_edge t found.0 i j h found.1 other found.2
          only t h n (over_back other) = absurd (rim_ends lifts ps ms p new j i k (edge_of t j i h other) here)
      by (inr (q, there)) = record {
        face = found.0;
        inside = found.1;
        differs = λ e. differs (subst (λ x. IsTriangle lifts slots ps ms rim x (edge_and j i q)) e found.2);
        first = on_triangle found.0 (edge_and j i q) i found.2 (inr (inl refl));
        second = on_triangle found.0 (edge_and j i q) j found.2 (inl refl);
        only = λ t h n on_i on_j. only t h n (with_edge t i j h d.ab on_i on_j);
      }
        where
          found : (x : ℕ) × (x < length rim) × IsTriangle lifts slots ps ms rim x (edge_and j i q)
          found = triangle_at lifts slots ps ms mesh now rim p start cavity new grown whole (edge_and j i q) there

          apart : AreApart (edge_and j i q)
          apart = rim_apart lifts ps ms p new (edge_and j i q) there

          third : IsFaceCorner (edge_and i j k) q → ⊥
          third (inl e) = apart.bc (sym e)
          third (inr (inl e)) = apart.ac (sym e)
          third (inr (inr e)) = one_side lifts ps ms p new i j k here (subst (λ x. IsLowestRimFace lifts ps ms p (edge_and j i x)) e there)

          differs : IsTriangle lifts slots ps ms rim r (edge_and j i q) → ⊥
          differs both = third (triangle_corner r (edge_and i j k) q is (on_triangle r (edge_and j i q) q both (inr (inr refl))))

          only : (t : ℕ) → t < length rim → t ≢ r → HasEdge lifts slots ps ms rim t i j → t ≡ found.0
          only t h n (onward x other) = absurd (no_second r t i j k x hr h n is other)
          only t h n (back x other) =
              let level : q ≡ x = (law_rim_edge lifts ps ms p new j i q there).1 x (rim_of t (edge_and j i x) h other) in
              same_triangle t found.0 (edge_and j i q) h found.1 (subst (λ y. IsTriangle lifts slots ps ms rim t (edge_and j i y)) (sym level) other) found.2
          only t h n (over other) = absurd (rim_ends lifts ps ms p new i j q (edge_of t i j h other) there)
          only t h n (over_back other) = absurd (rim_ends lifts ps ms p new j i k (edge_of t j i h other) here)

  -- ---- the other faces at an edge where the rim meets the hull

  module _ (r i j : ℕ) (hr : r < length rim) (is : IsEdge lifts slots ps ms rim r i j) where
    here : IsLowestHullRim lifts ps ms p i j
    here = edge_of r i j hr is

    follow : ((k : ℕ) × IsLowestRimFace lifts ps ms p (edge_and i j k)) × ((q : ℕ) × IsLowestHullRim lifts ps ms p j q × ((x : ℕ) → IsLowestHullRim lifts ps ms p j x → q ≡ x))
    follow = law_hull_rim lifts ps ms p new here.seen.behind here.seen.is_row i j here

    -- the edge is none of the rim when it is turned
    not_back : IsLowestHullRim lifts ps ms p j i → ⊥
    not_back edge = rim_ends lifts ps ms p new j i follow.0.0 edge follow.0.1

    paired_edge : Other slots rim r (Numbered i) (Numbered j)
    paired_edge = record {
      face = found.0;
      inside = found.1;
      differs = λ e. (triangle_shows lifts slots ps ms mesh now rim found.0 (edge_and i j follow.0.0) found.2).finite (subst (λ x. OnRim slots rim x Ghost) (sym e) (shows_edge lifts slots ps ms mesh now rim r i j is).infinite);
      first = on_triangle found.0 (edge_and i j follow.0.0) i found.2 (inl refl);
      second = on_triangle found.0 (edge_and i j follow.0.0) j found.2 (inr (inl refl));
      only = λ t h n on_i on_j. only t h n (with_edge t i j h (hull_rim_apart lifts ps ms p new i j here) on_i on_j);
    }
      where
        found : (x : ℕ) × (x < length rim) × IsTriangle lifts slots ps ms rim x (edge_and i j follow.0.0)
        found = triangle_at lifts slots ps ms mesh now rim p start cavity new grown whole (edge_and i j follow.0.0) follow.0.1

        only : (t : ℕ) → t < length rim → t ≢ r → HasEdge lifts slots ps ms rim t i j → t ≡ found.0
        only t h n (onward q other) =
            let level : follow.0.0 ≡ q = (law_rim_edge lifts ps ms p new i j follow.0.0 follow.0.1).1 q (rim_of t (edge_and i j q) h other) in
            same_triangle t found.0 (edge_and i j follow.0.0) h found.1 (subst (λ y. IsTriangle lifts slots ps ms rim t (edge_and i j y)) (sym level) other) found.2
        only t h n (back q other) = absurd (rim_ends lifts ps ms p new i j q here (rim_of t (edge_and j i q) h other))
        only t h n (over other) = absurd (n (same_edge t r i j h hr other is))
        only t h n (over_back other) = absurd (not_back (edge_of t j i h other))

    -- a face of the rim with the point at infinity and the corner x is over an edge to it or from it
    infinite_edge : (t x : ℕ) → t < length rim → OnRim slots rim t (Numbered x) → OnRim slots rim t Ghost → ((a : ℕ) × IsEdge lifts slots ps ms rim t a x) ⊎ ((b : ℕ) × IsEdge lifts slots ps ms rim t x b)
    infinite_edge t x h on infinite = by (name_of lifts slots ps ms mesh now rim p start cavity new grown whole t h)
      where
        by : ((f : Face) × IsTriangle lifts slots ps ms rim t f) ⊎ ((a : ℕ) × (b : ℕ) × IsEdge lifts slots ps ms rim t a b) → ((a : ℕ) × IsEdge lifts slots ps ms rim t a x) ⊎ ((b : ℕ) × IsEdge lifts slots ps ms rim t x b)
        by (inl triangle) = absurd ((triangle_shows lifts slots ps ms mesh now rim t triangle.0 triangle.1).finite infinite)
        by (inr edge) = elim ((shows_edge lifts slots ps ms mesh now rim t edge.0 edge.1 edge.2).to x on) [
          | inl e ↦ inr (edge.1, subst (λ y. IsEdge lifts slots ps ms rim t y edge.1) (sym e) edge.2)
          | inr e ↦ inl (edge.0, subst (λ y. IsEdge lifts slots ps ms rim t edge.0 y) (sym e) edge.2)
        ]

    -- no face is over two edges of which one follows the other
    not_both : (a b c d : ℕ) → IsLowestHullRim lifts ps ms p a b → IsLowestHullRim lifts ps ms p c d → b ≡ c → (t : ℕ) → IsEdge lifts slots ps ms rim t a b → IsEdge lifts slots ps ms rim t c d → ⊥
    not_both a b c d first second e t x y = by ((shows_edge lifts slots ps ms mesh now rim t a b x).to d (shows_edge lifts slots ps ms mesh now rim t c d y).second)
      where
        by : (d ≡ a) ⊎ (d ≡ b) → ⊥
        by (inl z) = rim_ends lifts ps ms p new c d (behind_first.0) second (subst (λ w. IsLowestRimFace lifts ps ms p (edge_and w c behind_first.0)) (sym z) (subst (λ w. IsLowestRimFace lifts ps ms p (edge_and a w behind_first.0)) e behind_first.1))
          where
            behind_first : (k : ℕ) × IsLowestRimFace lifts ps ms p (edge_and a b k)
            behind_first = (law_hull_rim lifts ps ms p new first.seen.behind first.seen.is_row a b first).0
        by (inr z) = hull_rim_apart lifts ps ms p new c d second (cc)

    paired_second : Other slots rim r (Numbered j) Ghost
    paired_second = record {
      face = found.0;
      inside = found.1;
      differs = λ e. not_both i j j follow.1.0 here follow.1.1 refl r is (subst (λ x. IsEdge lifts slots ps ms rim x j follow.1.0) e found.2);
      first = (shows_edge lifts slots ps ms mesh now rim found.0 j follow.1.0 found.2).first;
      second = (shows_edge lifts slots ps ms mesh now rim found.0 j follow.1.0 found.2).infinite;
      only = λ t h n on_j infinite. only t h n (infinite_edge t j h on_j infinite);
    }
      where
        found : (x : ℕ) × (x < length rim) × IsEdge lifts slots ps ms rim x j follow.1.0
        found = edge_at lifts slots ps ms mesh now rim p start cavity new grown whole j follow.1.0 follow.1.1

        only : (t : ℕ) → t < length rim → t ≢ r → ((a : ℕ) × IsEdge lifts slots ps ms rim t a j) ⊎ ((b : ℕ) × IsEdge lifts slots ps ms rim t j b) → t ≡ found.0
        only t h n (inl (a, other)) = absurd (n (same_edge t r i j h hr (subst (λ x. IsEdge lifts slots ps ms rim t x j) (sym (one_before lifts ps ms p new i j a here (edge_of t a j h other))) other) is))
        only t h n (inr (b, other)) = same_edge t found.0 j follow.1.0 h found.1 (subst (λ x. IsEdge lifts slots ps ms rim t j x) (sym (follow.1.2 b (edge_of t j b h other))) other) found.2

    paired_first : Other slots rim r (Numbered i) Ghost
    paired_first = record {
      face = found.0;
      inside = found.1;
      differs = λ e. not_both before.0 i i j before.1 here refl r (subst (λ x. IsEdge lifts slots ps ms rim x before.0 i) e found.2) is;
      first = (shows_edge lifts slots ps ms mesh now rim found.0 before.0 i found.2).second;
      second = (shows_edge lifts slots ps ms mesh now rim found.0 before.0 i found.2).infinite;
      only = λ t h n on_i infinite. only t h n (infinite_edge t i h on_i infinite);
    }
      where
        before : (q : ℕ) × IsLowestHullRim lifts ps ms p q i
        before = edge_before lifts ps ms p new i j here

        found : (x : ℕ) × (x < length rim) × IsEdge lifts slots ps ms rim x before.0 i
        found = edge_at lifts slots ps ms mesh now rim p start cavity new grown whole before.0 i before.1

        onward_of : (b : ℕ) → IsLowestHullRim lifts ps ms p i b → b ≡ j
        onward_of b edge = let next = (law_hull_rim lifts ps ms p new before.1.seen.behind before.1.seen.is_row before.0 i before.1).1 in sym (next.2 b edge) ∙ next.2 j here

        only : (t : ℕ) → t < length rim → t ≢ r → ((a : ℕ) × IsEdge lifts slots ps ms rim t a i) ⊎ ((b : ℕ) × IsEdge lifts slots ps ms rim t i b) → t ≡ found.0
        only t h n (inl (a, other)) = same_edge t found.0 before.0 i h found.1 (subst (λ x. IsEdge lifts slots ps ms rim t x i) (sym (one_before lifts ps ms p new before.0 i a before.1 (edge_of t a i h other))) other) found.2
        only t h n (inr (b, other)) = absurd (n (same_edge t r i j h hr (subst (λ x. IsEdge lifts slots ps ms rim t i x) (onward_of b (edge_of t i b h other)) other) is))

  -- ---- the two corners are numbers, or one is the point at infinity

  paired_numbers : (r i j : ℕ) → r < length rim → HasEdge lifts slots ps ms rim r i j → Other slots rim r (Numbered i) (Numbered j)
  paired_numbers r i j h (onward k is) = paired_triangle r i j k h is
  paired_numbers r i j h (back k is) = swap slots rim r (Numbered j) (Numbered i) (paired_triangle r j i k h is)
  paired_numbers r i j h (over is) = paired_edge r i j h is
  paired_numbers r i j h (over_back is) = swap slots rim r (Numbered j) (Numbered i) (paired_edge r j i h is)

  paired_infinite : (r i : ℕ) → r < length rim → OnRim slots rim r (Numbered i) → OnRim slots rim r Ghost → Other slots rim r (Numbered i) Ghost
  paired_infinite r i h on infinite = by (name_of lifts slots ps ms mesh now rim p start cavity new grown whole r h)
    where
      by : ((f : Face) × IsTriangle lifts slots ps ms rim r f) ⊎ ((a : ℕ) × (b : ℕ) × IsEdge lifts slots ps ms rim r a b) → Other slots rim r (Numbered i) Ghost
      by (inl is) = absurd ((triangle_shows lifts slots ps ms mesh now rim r is.0 is.1).finite infinite)
      by (inr is) = elim ((shows_edge lifts slots ps ms mesh now rim r is.0 is.1 is.2).to i on) [
        | inl e ↦ subst (λ x. Other slots rim r (Numbered x) Ghost) (sym e) (paired_first r is.0 is.1 h is.2)
        | inr e ↦ subst (λ x. Other slots rim r (Numbered x) Ghost) (sym e) (paired_second r is.0 is.1 h is.2)
      ]

  paired : (r : ℕ) (x y : Corner) → r < length rim → OnRim slots rim r x → OnRim slots rim r y → x ≢ y → Other slots rim r x y
  paired r (Numbered i) (Numbered j) h on_x on_y n = paired_numbers r i j h (with_edge r i j h (λ e. n (ap Numbered e)) on_x on_y)
  paired r (Numbered i) Ghost h on_x on_y n = paired_infinite r i h on_x on_y
  paired r Ghost (Numbered j) h on_x on_y n = swap slots rim r (Numbered j) Ghost (paired_infinite r j h on_y on_x)
  paired r Ghost Ghost h on_x on_y n = absurd (n refl)

pub law_paired : LowestPairedLaw
law_paired lifts slots ps ms p start cavity rim mesh now new grown whole = paired lifts slots ps ms mesh now rim p start cavity new grown whole
