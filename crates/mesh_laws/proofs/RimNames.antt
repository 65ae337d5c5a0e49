-- Each face of the rim is a triangle between the cavity and the rest, or stands over an edge where the rim meets the hull.
use Rattle.std.proofs.Common.{◌≡◌, ◌⊎◌, inl, inr, ℕ, ◌<◌, List, length, Option, refl, sym, subst, ℤ}
use Rattle.std.proofs.lemmas.Bool.{cases_eq}
use Rattle.sign_predicates.specs.Point.{Point}
use Rattle.geo_laws.specs.declared.tetrahedra.Tet.{Tet as Row}
use Rattle.geo_laws.specs.OrientedFace.{Face, reversed}
use Rattle.insert_laws.specs.LowestInsertion.{IsNew, IsLowestHullRim, IsLowestRimFace}
use Rattle.insert_laws.proofs.Beyond.{turn}
use Rattle.mesh_arena.specs.Mesh.{SlotValue, IsLive, link_behind, OnFace, IsArenaMesh}
use Rattle.mesh_arena.specs.Star.{rim_at}
use Rattle.mesh_arena.specs.StarLinks.{OnRim}
use Rattle.mesh_arena.specs.Cavity.{IsInCavitySlots}
use Rattle.mesh_arena.specs.declared.slot.Corner.{Corner}
use Rattle.mesh_arena.specs.declared.slot.Corner.TheVariants.{Point as Numbered, Ghost}
use Rattle.mesh_arena.specs.declared.slot.Slot.{Slot}
use Rattle.mesh_arena.specs.declared.slot.RimFace.{RimFace}
use Rattle.mesh_arena.proofs.Mesh.{side_live}
use Rattle.mesh_laws.specs.LowestRule.{IsLowestTaken}
use Rattle.mesh_laws.specs.Reach.{Grown}
use Rattle.mesh_laws.specs.LowestLiving.{face_off, IsLowestRowSlot, IsLowestGhostSlot, IsLowestMesh}
use Rattle.mesh_laws.specs.LowestLaws.{IsLowestWholeFrom}
use Rattle.mesh_laws.proofs.LowestFaces.{row_off}
use Rattle.mesh_laws.proofs.LowestAcross.{Shows, some_side}
use Rattle.mesh_laws.proofs.OverFace.{IsOver, row_over, ghost_over, over_shows, over_turn, one_place, over_once, over_across, cavity_taken, clear_not_taken, clear_slot, rim_face}
use Rattle.mesh_laws.proofs.NextHull.{IsOverEdge, ShowsEdge, edge_shows, edge_of_ghost, edge_of_hull, edge_once, edge_across}
use Rattle.mesh_laws.proofs.SeenEdge.{edge_sees, edge_taken, rim_edge}

-- the face r of the rim is f, turned to the cavity
abbrev pub IsTriangle : (ℕ → ℤ) → List (Option SlotValue) → List Point → List ℕ → List RimFace → ℕ → Face → Type 0
IsTriangle lifts slots ps ms rim r f = IsOver lifts slots ps ms (reversed f) (rim_at rim r).slot.index (rim_at rim r).face

-- or it stands over the edge from i to j
abbrev pub IsEdge : (ℕ → ℤ) → List (Option SlotValue) → List Point → List ℕ → List RimFace → ℕ → ℕ → ℕ → Type 0
IsEdge lifts slots ps ms rim r i j = IsOverEdge lifts slots ps ms i j (rim_at rim r).slot.index (rim_at rim r).face

module _ (lifts : ℕ → ℤ) (slots : List (Option SlotValue)) (ps : List Point) (ms : List ℕ) (mesh : IsArenaMesh slots) (now : IsLowestMesh lifts slots ps ms) (rim : List RimFace) where
  pub triangle_shows : (r : ℕ) (f : Face) → IsTriangle lifts slots ps ms rim r f → Shows slots (rim_at rim r).slot.index (rim_at rim r).face (reversed f)
  triangle_shows r f is = over_shows lifts slots ps ms (reversed f) (rim_at rim r).slot.index (rim_at rim r).face is

  pub shows_edge : (r i j : ℕ) → IsEdge lifts slots ps ms rim r i j → ShowsEdge slots (rim_at rim r).slot.index (rim_at rim r).face i j
  shows_edge r i j is = edge_shows lifts slots ps ms mesh now i j (rim_at rim r).slot.index (rim_at rim r).face is

  -- a face may be named from its next corner
  pub triangle_turn : (r : ℕ) (f : Face) → IsTriangle lifts slots ps ms rim r f → IsTriangle lifts slots ps ms rim r (turn f)
  triangle_turn r f is = over_turn lifts slots ps ms (turn (reversed f)) (rim_at rim r).slot.index (rim_at rim r).face (over_turn lifts slots ps ms (reversed f) (rim_at rim r).slot.index (rim_at rim r).face is)

  module _ (p start : ℕ) (cavity : List Slot) (new : IsNew ps ms p) (grown : Grown slots (IsLowestTaken lifts slots ps p) start cavity rim) (whole : IsLowestWholeFrom lifts slots ps p start) where
    not_taken : (r : ℕ) → r < length rim → IsLowestTaken lifts slots ps p (rim_at rim r).slot.index → ⊥
    not_taken r h taken = grown.outer r h (grown.all (rim_at rim r).slot.index (whole.all (rim_at rim r).slot.index taken))

    in_cavity : (u : ℕ) → IsLowestTaken lifts slots ps p u → IsInCavitySlots cavity u
    in_cavity u taken = grown.all u (whole.all u taken)

    behind_taken : (u : ℕ) → IsInCavitySlots cavity u → IsLowestTaken lifts slots ps p u
    behind_taken u is = subst (IsLowestTaken lifts slots ps p) is.is (grown.taken is.place is.inside)

    pub triangle_rim : (r : ℕ) (f : Face) → r < length rim → IsTriangle lifts slots ps ms rim r f → IsLowestRimFace lifts ps ms p f
    triangle_rim r f h is = let inner = grown.inner r h in rim_face lifts slots ps ms mesh now p new f (rim_at rim r).slot.index (rim_at rim r).face inner.0 is inner.1 (not_taken r h) (behind_taken inner.0.slot inner.2)

    pub edge_rim : (r i j : ℕ) → r < length rim → IsEdge lifts slots ps ms rim r i j → IsLowestHullRim lifts ps ms p i j
    edge_rim r i j h is = let inner = grown.inner r h in rim_edge lifts slots ps ms mesh now p new i j (rim_at rim r).slot.index (rim_at rim r).face inner.0 is inner.1 (not_taken r h) (behind_taken inner.0.slot inner.2)

    -- each face of the rim is one of the two
    pub name_of : (r : ℕ) → r < length rim → ((f : Face) × IsTriangle lifts slots ps ms rim r f) ⊎ ((i : ℕ) × (j : ℕ) × IsEdge lifts slots ps ms rim r i j)
    name_of r h = by (now.each u live.0)
      where
        u : ℕ
        u = (rim_at rim r).slot.index

        k : ℕ
        k = (rim_at rim r).face

        live : IsLive slots (rim_at rim r).slot.index × ((rim_at rim r).face < 4)
        live = let inner = grown.inner r h in side_live slots (rim_at rim r).slot.index (rim_at rim r).face inner.0 mesh.shaped inner.1

        by : ((t : Row) × IsLowestRowSlot lifts slots ps ms (rim_at rim r).slot.index t) ⊎ ((t : Row) × (l : ℕ) × IsLowestGhostSlot lifts slots ps ms (rim_at rim r).slot.index t l) → ((f : Face) × IsTriangle lifts slots ps ms rim r f) ⊎ ((i : ℕ) × (j : ℕ) × IsEdge lifts slots ps ms rim r i j)
        by (inl row) = inl (reversed (face_off row.0 (rim_at rim r).face), row_over row.0 row.1 live.1 (λ x. (λ c. c, λ c. c)) (row_off ps row.0 row.1.row (rim_at rim r).face live.1 row.1.is_positive row.1.same_corners))
        by (inr ghost) = elim (cases_eq (rim_at rim r).face ghost.1) [
          | inl same ↦
              let slot = subst (IsLowestGhostSlot lifts slots ps ms (rim_at rim r).slot.index ghost.0) (sym same) ghost.2 in
              inl (reversed (face_off ghost.0 (rim_at rim r).face), ghost_over ghost.0 slot (λ x. (λ c. c, λ c. c)) slot.is_hull)
          | inr other ↦ inr (edge_of_ghost lifts slots ps ms mesh now (rim_at rim r).slot.index ghost.1 (rim_at rim r).face ghost.0 ghost.2 live.1 other)
        ]

    same_rim : (r q : ℕ) → r < length rim → q < length rim → (rim_at rim r).slot.index ≡ (rim_at rim q).slot.index → ((x : Corner) → OnRim slots rim q x → OnRim slots rim r x) → r ≡ q
    same_rim r q hr hq same on = grown.rim_once r q hr hq same (one_place lifts slots ps ms mesh now (rim_at rim r).slot.index (rim_at rim r).face (rim_at rim q).face live.0 live.1 (λ x c. on x (subst (λ u. OnFace slots u (rim_at rim q).face x) same c)))
      where
        live : IsLive slots (rim_at rim r).slot.index × ((rim_at rim r).face < 4)
        live = let inner = grown.inner r hr in side_live slots (rim_at rim r).slot.index (rim_at rim r).face inner.0 mesh.shaped inner.1

    -- and there is one of each name
    pub one_triangle : (r q : ℕ) (f : Face) → r < length rim → q < length rim → IsTriangle lifts slots ps ms rim r f → IsTriangle lifts slots ps ms rim q f → r ≡ q
    one_triangle r q f hr hq a b = same_rim r q hr hq (over_once lifts slots ps ms mesh now (reversed f) (rim_at rim r).slot.index (rim_at rim r).face (rim_at rim q).slot.index (rim_at rim q).face a b) on
      where
        on : (x : Corner) → OnRim slots rim q x → OnRim slots rim r x
        on (Numbered i) c = (triangle_shows r f a).from i ((triangle_shows q f b).to i c)
        on Ghost c = absurd ((triangle_shows q f b).finite c)

    pub one_edge : (r q i j : ℕ) → r < length rim → q < length rim → IsEdge lifts slots ps ms rim r i j → IsEdge lifts slots ps ms rim q i j → r ≡ q
    one_edge r q i j hr hq a b = same_rim r q hr hq (edge_once lifts slots ps ms mesh now i j (rim_at rim r).slot.index (rim_at rim r).face (rim_at rim q).slot.index (rim_at rim q).face a b) on
      where
        numbered : (x : ℕ) → (x ≡ i) ⊎ (x ≡ j) → OnRim slots rim r (Numbered x)
        numbered x (inl e) = subst (λ y. OnRim slots rim r (Numbered y)) (sym e) (shows_edge r i j a).first
        numbered x (inr e) = subst (λ y. OnRim slots rim r (Numbered y)) (sym e) (shows_edge r i j a).second

        on : (x : Corner) → OnRim slots rim q x → OnRim slots rim r x
        on (Numbered x) c = numbered x ((shows_edge q i j b).to x c)
        on Ghost c = (shows_edge r i j a).infinite

    -- the rim has each face between the cavity and the rest
    pub triangle_at : (f : Face) → IsLowestRimFace lifts ps ms p f → (r : ℕ) × (r < length rim) × IsTriangle lifts slots ps ms rim r f
    triangle_at f is =
        let here = clear_slot lifts slots ps ms mesh now p new (reversed f) is.clear in
        let k4 = over_below here.0 here.1 here.2 in
        let b = some_side (link_behind slots here.0 here.1) (now.linked here.0 here.1 k4.0 k4.1) in
        let behind = over_across lifts slots ps ms mesh now (reversed f) here.0 here.1 b.0 here.2 b.1 in
        let inside = in_cavity b.0.slot (cavity_taken lifts slots ps ms mesh now p new f b.0.slot b.0.face behind is.cavity) in
        let not = λ (c : IsInCavitySlots cavity here.0). clear_not_taken lifts slots ps ms mesh now p new (reversed f) here.0 here.1 here.2 is.clear (behind_taken here.0 c) in
        let r = grown.rim_all here.0 here.1 b.0 b.1 not inside in
        (r.0, r.1, moved here.0 (rim_at rim r.0).slot.index here.1 (rim_at rim r.0).face r.2 r.3 here.2)
      where
        over_below : (u k : ℕ) → IsOver lifts slots ps ms (reversed f) u k → IsLive slots u × (k < 4)
        over_below u k (row_over t slot k4 same face) = (rw slot.is refl, k4)
        over_below u k (ghost_over t slot same hull) = (rw slot.is refl, slot.within)

        moved : (u v k l : ℕ) → v ≡ u → l ≡ k → IsOver lifts slots ps ms (reversed f) u k → IsOver lifts slots ps ms (reversed f) v l
        moved u v k l e d over = subst (λ x. IsOver lifts slots ps ms (reversed f) x l) (sym e) (subst (λ x. IsOver lifts slots ps ms (reversed f) u x) (sym d) over)

    -- and one over each edge where it meets the hull
    pub edge_at : (i j : ℕ) → IsLowestHullRim lifts ps ms p i j → (r : ℕ) × (r < length rim) × IsEdge lifts slots ps ms rim r i j
    edge_at i j is =
        let here = edge_of_hull lifts slots ps ms mesh now i j is.outer is.unseen in
        let live : IsLive slots here.0 = rw here.2.slot.is refl in
        let b = some_side (link_behind slots here.0 here.1) (now.linked here.0 here.1 live here.2.within) in
        let behind = edge_across lifts slots ps ms mesh now i j here.0 here.1 b.0 here.2 b.1 in
        let inside = in_cavity b.0.slot (edge_taken lifts slots ps ms mesh now p new j i b.0.slot b.0.face is.inner behind is.seen is.sees) in
        let not = λ (c : IsInCavitySlots cavity here.0). is.sees_not (edge_sees lifts slots ps ms mesh now p new i j here.0 here.1 is.outer here.2 is.unseen (behind_taken here.0 c)) in
        let r = grown.rim_all here.0 here.1 b.0 b.1 not inside in
        (r.0, r.1, moved here.0 (rim_at rim r.0).slot.index here.1 (rim_at rim r.0).face r.2 r.3 here.2)
      where
        moved : (u v k l : ℕ) → v ≡ u → l ≡ k → IsOverEdge lifts slots ps ms i j u k → IsOverEdge lifts slots ps ms i j v l
        moved u v k l e d over = subst (λ x. IsOverEdge lifts slots ps ms i j x l) (sym e) (subst (λ x. IsOverEdge lifts slots ps ms i j u x) (sym d) over)
