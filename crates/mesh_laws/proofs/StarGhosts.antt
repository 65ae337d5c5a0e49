-- The faces of the rim with the point at infinity, and the slots that surgery puts over them: the ghosts of the star.
use Rattle.std.proofs.Common.{◌≡◌, ◌≢◌, ◌⊎◌, inl, inr, ℕ, zero, suc, ◌<◌, ℤ, pos, neg_ℤ, ◌<ℤ◌, List, ◌∷◌, length, set, Option, Some, option_map, refl, sym, ap, subst, ◌∙◌, arith}
use Rattle.std.proofs.lemmas.Int.{ints}
use Rattle.sign_predicates.specs.Point.{Point}
use Rattle.geo_laws.specs.Delaunay.{AreNumbersOf}
use Rattle.geo_laws.specs.Height.{IsLowestAmong}
use Rattle.geo_laws.specs.declared.tetrahedra.Tet.{Tet as Row}
use Rattle.geo_laws.proofs.Places.{number, with_number}
use Rattle.geo_laws.specs.OrientedFace.{Face, reversed}
use Rattle.insert_laws.specs.LowestInsertion.{IsNew, IsLowestHullFace, IsLowestHullRim, edge_and}
use Rattle.insert_laws.proofs.FacePencil.{side_of, side_of-reversed}
use Rattle.insert_laws.proofs.Beyond.{turn, side-turn}
use Rattle.insert_laws.proofs.LowestStart.{law_hull_turn}
use Rattle.insert_laws.proofs.HullLaws.{law_new_hull}
use Rattle.mesh_arena.specs.Mesh.{SlotValue, at, IsArenaMesh}
use Rattle.mesh_arena.specs.Star.{rim_at}
use Rattle.mesh_arena.specs.Cavity.{IsInCavitySlots}
use Rattle.mesh_arena.specs.Replace.{Replaces}
use Rattle.mesh_arena.specs.declared.arena.SlotFace.{SlotFace}
use Rattle.mesh_arena.specs.declared.slot.Corner.TheVariants.{Point as Numbered, Ghost}
use Rattle.mesh_arena.specs.declared.slot.Slot.{Slot}
use Rattle.mesh_arena.specs.declared.slot.RimFace.{RimFace}
use Rattle.point_locate.specs.Place.{row_corners}
use Rattle.mesh_laws.specs.LowestRule.{IsLowestTaken}
use Rattle.mesh_laws.specs.Reach.{Grown}
use Rattle.mesh_laws.specs.LowestLiving.{face_off, IsFaceCorner, HasSameFaceCorners, IsLowestGhostSlot, IsLowestMesh}
use Rattle.mesh_laws.proofs.LowestFaces.{AreApart, hull_apart, place_of}
use Rattle.mesh_laws.proofs.LowestJoined.{same_back, same_then}
use Rattle.mesh_laws.proofs.NextHull.{turned_corners, turned_twice}
use Rattle.mesh_laws.proofs.NextHull.{IsOverEdge, edge_across}
use Rattle.mesh_laws.proofs.RimNames.{IsEdge, edge_rim, one_edge, edge_at}
use Rattle.mesh_laws.proofs.Reached.{hull_sides}
use Rattle.mesh_laws.proofs.StarRows.{whole_from, made, IsBehind, rim_behind}

-- ---- the edges of a hull face

-- g is f, named from one of its corners
abbrev pub IsNamed : Face → Face → Type 0
IsNamed f g = (f ≡ g) ⊎ ((turn f ≡ g) ⊎ (turn (turn f) ≡ g))

named_same : (f g : Face) → IsNamed f g → HasSameFaceCorners f g
named_same f g (inl e) = subst (HasSameFaceCorners f) e (λ x. (λ c. c, λ c. c))
named_same f g (inr (inl e)) = subst (HasSameFaceCorners f) e (turned_corners f)
named_same f g (inr (inr e)) = subst (HasSameFaceCorners f) e (turned_twice f)

module _ (lifts : ℕ → ℤ) (ps : List Point) (ms : List ℕ) (within : AreNumbersOf ps ms) where
  turned : (f : Face) → IsLowestHullFace lifts ps ms f → IsLowestHullFace lifts ps ms (turn f)
  turned f h = law_hull_turn lifts ps ms within f.a f.b f.c h

  named_to : (f g : Face) → IsNamed f g → IsLowestHullFace lifts ps ms f → IsLowestHullFace lifts ps ms g
  named_to f g (inl e) h = subst (IsLowestHullFace lifts ps ms) e h
  named_to f g (inr (inl e)) h = subst (IsLowestHullFace lifts ps ms) e (turned f h)
  named_to f g (inr (inr e)) h = subst (IsLowestHullFace lifts ps ms) e (turned (turn f) (turned f h))

  named_back : (f g : Face) → IsNamed f g → IsLowestHullFace lifts ps ms g → IsLowestHullFace lifts ps ms f
  named_back f g (inl e) h = subst (IsLowestHullFace lifts ps ms) (sym e) h
  named_back f g (inr (inl e)) h = turned (turn (turn f)) (turned (turn f) (subst (IsLowestHullFace lifts ps ms) (sym e) h))
  named_back f g (inr (inr e)) h = turned (turn (turn f)) (subst (IsLowestHullFace lifts ps ms) (sym e) h)

-- two hull faces with the same corners, named from the same one, are on the same edge
pub same_edge : (lifts : ℕ → ℤ) (ps : List Point) (ms : List ℕ) (i j k l o : ℕ) → IsLowestHullFace lifts ps ms (edge_and i j o) → IsLowestHullFace lifts ps ms (edge_and k l o) → HasSameFaceCorners (edge_and i j o) (edge_and k l o) → (i ≡ k) × (j ≡ l)
same_edge lifts ps ms i j k l o h g same = by ((same i).0 (inl refl)) ((same j).0 (inr (inl refl)))
  where
    d : AreApart (edge_and i j o)
    d = hull_apart lifts ps ms (edge_and i j o) h

    -- the sides of the face with its edge turned are exchanged
    opposed : (q : ℕ) → side_of ps (edge_and j i o) q ≡ neg_ℤ (side_of ps (edge_and i j o) q)
    opposed q = side-turn ps (turn (reversed (edge_and i j o))) q ∙ side-turn ps (reversed (edge_and i j o)) q ∙ side_of-reversed ps (edge_and i j o) q

    none : (m n r : ℤ) → m ≡ n → n ≡ neg_ℤ m → r ≡ neg_ℤ m → pos 0 <ℤ r → ⊥
    none m n r a b c lt = omega (arith, ints)

    turned_edge : i ≡ l → j ≡ k → ⊥
    turned_edge e z =
        let q = h.is_face.opposite in
        none _ _ _ (hull_sides lifts ps ms (edge_and i j o) (edge_and k l o) same h g q) (ap (λ (m : ℕ). side_of ps (edge_and m l o) q) (sym z) ∙ ap (λ (m : ℕ). side_of ps (edge_and j m o) q) (sym e) ∙ opposed q) (side_of-reversed ps (edge_and i j o) q) h.is_face.over

    by : IsFaceCorner (edge_and k l o) i → IsFaceCorner (edge_and k l o) j → (i ≡ k) × (j ≡ l)
    by (inl a) (inl b) = absurd (d.ab (a ∙ sym b))
    by (inl a) (inr (inl b)) = (a, b)
    by (inl a) (inr (inr b)) = absurd (d.bc b)
    by (inr (inl a)) (inl b) = absurd (turned_edge a b)
    by (inr (inl a)) (inr (inl b)) = absurd (d.ab (a ∙ sym b))
    by (inr (inl a)) (inr (inr b)) = absurd (d.bc b)
    by (inr (inr a)) c = absurd (d.ac a)

-- the hull face opposite l is on the edge from j to i and the corner k, and with p in place of that corner it is on the edge and p
pub record IsEdgeOff (t : Row) (l k p : ℕ) : Type 0 where
  pub i : ℕ
  pub j : ℕ
  pub named : IsNamed (face_off t l) (edge_and j i (number t (place_of k)))
  pub named_new : IsNamed (face_off (with_number t (place_of k) p) l) (edge_and j i p)
  pub corners : set (set (row_corners t) l Ghost) k (Numbered p) ≡ set (row_corners (with_number t (place_of k) p)) l Ghost

pub edge_off : (t : Row) (l k p : ℕ) → l < 4 → k < 4 → k ≢ l → IsEdgeOff t l k p
edge_off t zero zero p h g n = absurd (n refl)
edge_off t zero (suc zero) p h g n = record { i = t.c; j = t.d; named = inr (inl refl); named_new = inr (inl refl); corners = refl }
edge_off t zero (suc (suc zero)) p h g n = record { i = t.d; j = t.b; named = inl refl; named_new = inl refl; corners = refl }
edge_off t zero (suc (suc (suc zero))) p h g n = record { i = t.b; j = t.c; named = inr (inr refl); named_new = inr (inr refl); corners = refl }
edge_off t zero (suc (suc (suc (suc k)))) p h g n = absurd (omega arith)
edge_off t (suc zero) zero p h g n = record { i = t.d; j = t.c; named = inr (inl refl); named_new = inr (inl refl); corners = refl }
edge_off t (suc zero) (suc zero) p h g n = absurd (n refl)
edge_off t (suc zero) (suc (suc zero)) p h g n = record { i = t.a; j = t.d; named = inr (inr refl); named_new = inr (inr refl); corners = refl }
edge_off t (suc zero) (suc (suc (suc zero))) p h g n = record { i = t.c; j = t.a; named = inl refl; named_new = inl refl; corners = refl }
edge_off t (suc zero) (suc (suc (suc (suc k)))) p h g n = absurd (omega arith)
edge_off t (suc (suc zero)) zero p h g n = record { i = t.b; j = t.d; named = inr (inl refl); named_new = inr (inl refl); corners = refl }
edge_off t (suc (suc zero)) (suc zero) p h g n = record { i = t.d; j = t.a; named = inl refl; named_new = inl refl; corners = refl }
edge_off t (suc (suc zero)) (suc (suc zero)) p h g n = absurd (n refl)
edge_off t (suc (suc zero)) (suc (suc (suc zero))) p h g n = record { i = t.a; j = t.b; named = inr (inr refl); named_new = inr (inr refl); corners = refl }
edge_off t (suc (suc zero)) (suc (suc (suc (suc k)))) p h g n = absurd (omega arith)
edge_off t (suc (suc (suc zero))) zero p h g n = record { i = t.c; j = t.b; named = inr (inl refl); named_new = inr (inl refl); corners = refl }
edge_off t (suc (suc (suc zero))) (suc zero) p h g n = record { i = t.a; j = t.c; named = inr (inr refl); named_new = inr (inr refl); corners = refl }
edge_off t (suc (suc (suc zero))) (suc (suc zero)) p h g n = record { i = t.b; j = t.a; named = inl refl; named_new = inl refl; corners = refl }
edge_off t (suc (suc (suc zero))) (suc (suc (suc zero))) p h g n = absurd (n refl)
edge_off t (suc (suc (suc zero))) (suc (suc (suc (suc k)))) p h g n = absurd (omega arith)
edge_off t (suc (suc (suc (suc l)))) k p h g n = absurd (omega arith)

-- ---- the faces of the rim

module _ (lifts : ℕ → ℤ) (old new : List (Option SlotValue)) (ps : List Point) (ms : List ℕ) (p start : ℕ) (cavity : List Slot) (rim : List RimFace) (s : ℕ) (mesh : IsArenaMesh old) (now : IsLowestMesh lifts old ps ms) (fresh : IsNew ps ms p) (grown : Grown old (IsLowestTaken lifts old ps p) start cavity rim) (whole : (u : ℕ) → IsLowestTaken lifts old ps p u → IsInCavitySlots cavity u) (star : Replaces old new cavity rim (Numbered p) s) (within_new : AreNumbersOf ps (p ∷ ms)) (some : Row) (some_is : IsLowestAmong ps ms lifts some) where
  -- the face r has the point at infinity: behind it is a ghost, and the face is no hull face
  pub record IsEdgeOver (r : ℕ) : Type 0 where
    pub inner : SlotFace
    pub is_behind : IsBehind lifts old new ps ms p start cavity rim s mesh now fresh grown whole star r inner
    pub row : Row
    pub place : ℕ
    pub slot : IsLowestGhostSlot lifts old ps ms inner.slot row place
    pub off : inner.face ≢ place

  module _ (r : ℕ) (x : IsEdgeOver r) where
    pub edge : IsEdgeOff x.row x.place x.inner.face p
    edge = edge_off x.row x.place x.inner.face p x.slot.within x.is_behind.within x.off

    -- the hull face of the ghost behind, on the same edge
    abbrev old_face : Face
    old_face = edge_and edge.j edge.i (number x.row (place_of x.inner.face))

    old_hull : IsLowestHullFace lifts ps ms old_face
    old_hull = named_to lifts ps ms now.within (face_off x.row x.place) old_face edge.named x.slot.is_hull

    old_same : HasSameFaceCorners (face_off x.row x.place) old_face
    old_same = named_same (face_off x.row x.place) old_face edge.named

    over_edge : IsOverEdge lifts old ps ms edge.i edge.j x.inner.slot x.inner.face
    over_edge = record {
      row = x.row;
      place = x.place;
      slot = x.slot;
      apex = number x.row (place_of x.inner.face);
      hull = old_hull;
      same = old_same;
      within = x.is_behind.within;
      off = x.off;
      is = refl;
    }

    -- the edge is one where the rim meets the hull
    pub is_edge : IsEdge lifts old ps ms rim r edge.j edge.i
    is_edge = edge_across lifts old ps ms mesh now edge.i edge.j x.inner.slot x.inner.face (at (rim_at rim r).slot.index (rim_at rim r).face) over_edge x.is_behind.back

    is_hull_rim : IsLowestHullRim lifts ps ms p edge.j edge.i
    is_hull_rim = edge_rim lifts old ps ms mesh now rim p start cavity fresh grown (whole_from lifts old new ps ms p start cavity rim s mesh now fresh grown whole star) r edge.j edge.i x.is_behind.inside is_edge

    pub new_hull : IsLowestHullFace lifts ps (p ∷ ms) (edge_and edge.j edge.i p)
    new_hull = (law_new_hull lifts ps ms p fresh some some_is edge.j edge.i).1 is_hull_rim

    -- the corners of the slot over it, one of them the point at infinity
    abbrev pub star_four : Row
    star_four = with_number x.row (place_of x.inner.face) p

    pub new_same : HasSameFaceCorners (face_off star_four x.place) (edge_and edge.j edge.i p)
    new_same = named_same (face_off star_four x.place) (edge_and edge.j edge.i p) edge.named_new

    -- the slot is the ghost of the edge and p
    pub ghost_slot : IsLowestGhostSlot lifts new ps (p ∷ ms) (made lifts old new ps ms p start cavity rim s mesh now fresh grown whole star r) star_four x.place
    ghost_slot = record {
      within = x.slot.within;
      is = x.is_behind.corners ∙ ap (option_map (λ cs. set cs x.inner.face (Numbered p))) x.slot.is ∙ ap Some edge.corners;
      is_hull = named_back lifts ps (p ∷ ms) within_new (face_off star_four x.place) (edge_and edge.j edge.i p) edge.named_new new_hull;
    }

  -- faces of the rim whose ghosts have the same hull face are one
  pub edge_over_once : (r q : ℕ) (x : IsEdgeOver r) (y : IsEdgeOver q) → HasSameFaceCorners (face_off (star_four r x) x.place) (face_off (star_four q y) y.place) → r ≡ q
  edge_over_once r q x y same = one_edge lifts old ps ms mesh now rim p start cavity fresh grown (whole_from lifts old new ps ms p start cavity rim s mesh now fresh grown whole star) r q d.j d.i x.is_behind.inside y.is_behind.inside moved (is_edge q y)
    where
      e : IsEdgeOff x.row x.place x.inner.face p
      e = edge r x

      d : IsEdgeOff y.row y.place y.inner.face p
      d = edge q y

      f : Face
      f = face_off (star_four r x) x.place

      g : Face
      g = face_off (star_four q y) y.place

      on_edge : HasSameFaceCorners (edge_and e.j e.i p) (edge_and d.j d.i p)
      on_edge = same_then (edge_and e.j e.i p) f (edge_and d.j d.i p) (same_back f (edge_and e.j e.i p) (new_same r x)) (same_then f g (edge_and d.j d.i p) same (new_same q y))

      one : (e.j ≡ d.j) × (e.i ≡ d.i)
      one = same_edge lifts ps (p ∷ ms) e.j e.i d.j d.i p (new_hull r x) (new_hull q y) on_edge

      moved : IsEdge lifts old ps ms rim r d.j d.i
      moved = subst (λ m. IsEdge lifts old ps ms rim r m d.i) one.0 (subst (λ m. IsEdge lifts old ps ms rim r e.j m) one.1 (is_edge r x))

  -- each edge where the rim meets the hull has a face of the rim over it, whose ghost is that of the edge and p
  pub record HasEdgeOver (i j : ℕ) : Type 0 where
    pub face : ℕ
    pub over : IsEdgeOver face
    pub same : HasSameFaceCorners (face_off (star_four face over) over.place) (edge_and i j p)

  pub edge_over : (i j : ℕ) → IsLowestHullRim lifts ps ms p i j → HasEdgeOver i j
  edge_over i j h = record { face = r.0; over = x; same = subst (λ m. HasSameFaceCorners (face_off (star_four r.0 x) x.place) (edge_and i m p)) one.1 (subst (λ m. HasSameFaceCorners (face_off (star_four r.0 x) x.place) (edge_and m (edge r.0 x).i p)) one.0 (new_same r.0 x)) }
    where
      r : (q : ℕ) × (q < length rim) × IsEdge lifts old ps ms rim q i j
      r = edge_at lifts old ps ms mesh now rim p start cavity fresh grown (whole_from lifts old new ps ms p start cavity rim s mesh now fresh grown whole star) i j h

      b : (b : SlotFace) × IsBehind lifts old new ps ms p start cavity rim s mesh now fresh grown whole star r.0 b
      b = rim_behind lifts old new ps ms p start cavity rim s mesh now fresh grown whole star r.0 r.1

      -- the ghost behind
      v : IsOverEdge lifts old ps ms j i b.0.slot b.0.face
      v = edge_across lifts old ps ms mesh now i j (rim_at rim r.0).slot.index (rim_at rim r.0).face b.0 r.2 b.1.is

      x : IsEdgeOver r.0
      x = record { inner = b.0; is_behind = b.1; row = v.row; place = v.place; slot = v.slot; off = v.off }

      apex : ℕ
      apex = number v.row (place_of b.0.face)

      seen : IsLowestHullFace lifts ps ms (edge_and i j apex)
      seen = subst (λ m. IsLowestHullFace lifts ps ms (edge_and i j m)) (sym v.is) v.hull

      on_seen : HasSameFaceCorners (face_off v.row v.place) (edge_and i j apex)
      on_seen = subst (λ m. HasSameFaceCorners (face_off v.row v.place) (edge_and i j m)) (sym v.is) v.same

      one : ((edge r.0 x).j ≡ i) × ((edge r.0 x).i ≡ j)
      one = same_edge lifts ps ms (edge r.0 x).j (edge r.0 x).i i j apex (old_hull r.0 x) seen (same_then (old_face r.0 x) (face_off v.row v.place) (edge_and i j apex) (same_back (face_off v.row v.place) (old_face r.0 x) (old_same r.0 x)) on_seen)
