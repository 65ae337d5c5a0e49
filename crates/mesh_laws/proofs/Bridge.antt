-- A Delaunay mesh is one of lowest tetrahedra where each point is lifted by its squared length, and back; and a new point takes the same slots of both.
use Rattle.std.proofs.Common.{◌≡◌, ◌↔◌, ◌⊎◌, inl, inr, ℕ, List, get_or, Option, Some, refl, sym, ap, subst, ◌∙◌, arith}
use Rattle.std.proofs.lemmas.List.{get_or-set_same}
use Rattle.sign_predicates.specs.Point.{Point}
use Rattle.geo_laws.specs.Delaunay.{point, AreNumbersOf, IsAmong}
use Rattle.geo_laws.specs.Height.{lifted}
use Rattle.geo_laws.specs.declared.tetrahedra.Tet.{Tet as Row}
use Rattle.geo_laws.proofs.Corners.{on_of_among}
use Rattle.geo_laws.proofs.Lift.{law_lift, lowest_of, delaunay_of}
use Rattle.insert_laws.specs.Insertion.{IsNew, HasOutside}
use Rattle.insert_laws.proofs.Bridge.{hull_of, hull_from}
use Rattle.insert_laws.specs.LowestInsertion.{HasAbove}
use Rattle.mesh_arena.specs.Mesh.{SlotValue, corners_at}
use Rattle.mesh_arena.specs.Cavity.{slot_at}
use Rattle.mesh_arena.specs.declared.slot.Corner.TheVariants.{Ghost}
use Rattle.mesh_arena.specs.declared.slot.Slot.{Slot}
use Rattle.mesh_arena.specs.declared.slot.RimFace.{RimFace}
use Rattle.point_locate.specs.Place.{IsAt, row_corners}
use Rattle.mesh_laws.specs.LowestRule as lowest_rule
use Rattle.mesh_laws.specs.LowestLiving as lowest
use Rattle.mesh_laws.specs.LowestLaws as lowest_growth
use Rattle.mesh_laws.specs.Reach.{Reach, first, next, Grown}
use Rattle.mesh_laws.specs.Rule.{IsTakenRow, IsSeen, IsTaken}
use Rattle.mesh_laws.specs.Living.{IsRowSlot, IsGhostSlot, IsDelaunayMesh}
use Rattle.mesh_laws.specs.Laws.{IsWholeFrom}
use Rattle.mesh_laws.proofs.Taken.{no_ghost, same_corners}
use Rattle.mesh_laws.proofs.Rows.{same_row}

-- ---- slots

module _ (slots : List (Option SlotValue)) (ps : List Point) (ms : List ℕ) (within : AreNumbersOf ps ms) where
  abbrev pub row_of : (s : ℕ) (t : Row) → IsRowSlot slots ps ms s t → lowest.IsLowestRowSlot (lifted ps) slots ps ms s t
  row_of s t x = record { is = x.is; row = x.row; is_row = lowest_of ps ms within x.row x.is_row; same_corners = x.same_corners; is_positive = x.is_positive }

  abbrev pub row_from : (s : ℕ) (t : Row) → lowest.IsLowestRowSlot (lifted ps) slots ps ms s t → IsRowSlot slots ps ms s t
  row_from s t x = record { is = x.is; row = x.row; is_row = delaunay_of ps ms within x.row x.is_row; same_corners = x.same_corners; is_positive = x.is_positive }

  abbrev pub ghost_of : (s : ℕ) (t : Row) (k : ℕ) → IsGhostSlot slots ps ms s t k → lowest.IsLowestGhostSlot (lifted ps) slots ps ms s t k
  ghost_of s t k x = record { within = x.within; is = x.is; is_hull = hull_of ps ms within (lowest.face_off t k) x.is_hull }

  abbrev pub ghost_from : (s : ℕ) (t : Row) (k : ℕ) → lowest.IsLowestGhostSlot (lifted ps) slots ps ms s t k → IsGhostSlot slots ps ms s t k
  ghost_from s t k x = record { within = x.within; is = x.is; is_hull = hull_from ps ms within (lowest.face_off t k) x.is_hull }

-- ---- meshes

module _ (slots : List (Option SlotValue)) (ps : List Point) (ms : List ℕ) where
  pub mesh_of : IsDelaunayMesh slots ps ms → lowest.IsLowestMesh (lifted ps) slots ps ms
  mesh_of now = record {
    within = now.within;
    each = λ s live. elim (now.each s live) [ inl x ↦ inl (x.0, row_to s x.0 x.1) | inr x ↦ inr (x.0, x.1, ghost_to s x.0 x.1 x.2) ];
    rows = λ r is. let x = now.rows r (delaunay_of ps ms now.within r is) in (x.0, x.1, row_to x.0 x.1 x.2, x.3);
    one_row = λ s u t r x y. now.one_row s u t r (row_back s t x) (row_back u r y);
    ghosts = λ f is. let x = now.ghosts f (hull_from ps ms now.within f is) in (x.0, x.1, x.2, ghost_to x.0 x.1 x.2 x.3, x.4);
    one_ghost = λ s u t r k j x y. now.one_ghost s u t r k j (ghost_back s t k x) (ghost_back u r j y);
    linked = now.linked;
  }
    where
      row_to : (s : ℕ) (t : Row) → IsRowSlot slots ps ms s t → lowest.IsLowestRowSlot (lifted ps) slots ps ms s t
      row_to = row_of slots ps ms now.within

      row_back : (s : ℕ) (t : Row) → lowest.IsLowestRowSlot (lifted ps) slots ps ms s t → IsRowSlot slots ps ms s t
      row_back = row_from slots ps ms now.within

      ghost_to : (s : ℕ) (t : Row) (k : ℕ) → IsGhostSlot slots ps ms s t k → lowest.IsLowestGhostSlot (lifted ps) slots ps ms s t k
      ghost_to = ghost_of slots ps ms now.within

      ghost_back : (s : ℕ) (t : Row) (k : ℕ) → lowest.IsLowestGhostSlot (lifted ps) slots ps ms s t k → IsGhostSlot slots ps ms s t k
      ghost_back = ghost_from slots ps ms now.within

  pub mesh_from : lowest.IsLowestMesh (lifted ps) slots ps ms → IsDelaunayMesh slots ps ms
  mesh_from now = record {
    within = now.within;
    each = λ s live. elim (now.each s live) [ inl x ↦ inl (x.0, row_back s x.0 x.1) | inr x ↦ inr (x.0, x.1, ghost_back s x.0 x.1 x.2) ];
    rows = λ r is. let x = now.rows r (lowest_of ps ms now.within r is) in (x.0, x.1, row_back x.0 x.1 x.2, x.3);
    one_row = λ s u t r x y. now.one_row s u t r (row_to s t x) (row_to u r y);
    ghosts = λ f is. let x = now.ghosts f (hull_of ps ms now.within f is) in (x.0, x.1, x.2, ghost_back x.0 x.1 x.2 x.3, x.4);
    one_ghost = λ s u t r k j x y. now.one_ghost s u t r k j (ghost_to s t k x) (ghost_to u r j y);
    linked = now.linked;
  }
    where
      row_to : (s : ℕ) (t : Row) → IsRowSlot slots ps ms s t → lowest.IsLowestRowSlot (lifted ps) slots ps ms s t
      row_to = row_of slots ps ms now.within

      row_back : (s : ℕ) (t : Row) → lowest.IsLowestRowSlot (lifted ps) slots ps ms s t → IsRowSlot slots ps ms s t
      row_back = row_from slots ps ms now.within

      ghost_to : (s : ℕ) (t : Row) (k : ℕ) → IsGhostSlot slots ps ms s t k → lowest.IsLowestGhostSlot (lifted ps) slots ps ms s t k
      ghost_to = ghost_of slots ps ms now.within

      ghost_back : (s : ℕ) (t : Row) (k : ℕ) → lowest.IsLowestGhostSlot (lifted ps) slots ps ms s t k → IsGhostSlot slots ps ms s t k
      ghost_back = ghost_from slots ps ms now.within

-- ---- what a rule reaches

pub reach_by : (slots : List (Option SlotValue)) (rule other : ℕ → Type 0) → ((u : ℕ) → rule u → other u) → (start u : ℕ) → Reach slots rule start u → Reach slots other start u
reach_by slots rule other to start _ first = first
reach_by slots rule other to start _ (next s k b reached is takes) = next s k b (reach_by slots rule other to start s reached) is (to b.slot takes)

pub grown_by : (slots : List (Option SlotValue)) (rule other : ℕ → Type 0) → ((u : ℕ) → rule u ↔ other u) → (start : ℕ) (cavity : List Slot) (rim : List RimFace) → Grown slots rule start cavity rim → Grown slots other start cavity rim
grown_by slots rule other same start cavity rim g = record {
  reached = λ j l. reach_by slots rule other (λ u. (same u).0) start (slot_at cavity j) (g.reached j l);
  taken = λ j l. (same (slot_at cavity j)).0 (g.taken j l);
  live = g.live;
  once = g.once;
  all = λ u r. g.all u (reach_by slots other rule (λ u. (same u).1) start u r);
  outer = g.outer;
  inner = g.inner;
  rim_once = g.rim_once;
  rim_all = g.rim_all;
}

-- ---- what a new point takes

module _ (slots : List (Option SlotValue)) (ps : List Point) (ms : List ℕ) (p : ℕ) (now : IsDelaunayMesh slots ps ms) (new : IsNew ps ms p) where
  -- it is outside of the four of a slot exactly where it is lifted above them
  at_slot : (s : ℕ) (u : Row) → corners_at slots s ≡ Some (row_corners u) → HasOutside ps u p ↔ HasAbove (lifted ps) ps u p
  at_slot s u is = by (now.each s (rw is refl))
    where
      by : ((t : Row) × IsRowSlot slots ps ms s t) ⊎ ((t : Row) × (k : ℕ) × IsGhostSlot slots ps ms s t k) → HasOutside ps u p ↔ HasAbove (lifted ps) ps u p
      by (inl (t, slot)) =
          let same : u ≡ t = same_row u t (same_corners slots s _ _ is slot.is) in
          let among : IsAmong ms t = λ i c. slot.is_row.is_on i ((slot.same_corners i).0 c) in
          subst (λ (r : Row). HasOutside ps r p ↔ HasAbove (lifted ps) ps r p) (sym same)
          (law_lift ps t p (on_of_among ps ms t now.within among) new.on slot.is_positive (λ c. new.is_new (among p c)))
      by (inr (t, k, slot)) =
          absurd (no_ghost u k slot.within (ap (λ cs. get_or cs k Ghost) (same_corners slots s _ _ is slot.is) ∙ get_or-set_same (row_corners t) k Ghost Ghost (omega (arith, slot.within))))

  row_takes : (s : ℕ) → IsAt slots (IsTakenRow ps (point ps p) p) s → IsAt slots (lowest_rule.IsLowestTakenRow (lifted ps) ps p) s
  row_takes s x = record { corners = x.corners; is = x.is; here = record { row = x.here.row; is = x.here.is; holds = λ a. x.here.holds ((at_slot s x.here.row (x.is ∙ ap Some x.here.is)).1 a) } }

  row_takes_back : (s : ℕ) → IsAt slots (lowest_rule.IsLowestTakenRow (lifted ps) ps p) s → IsAt slots (IsTakenRow ps (point ps p) p) s
  row_takes_back s x = record { corners = x.corners; is = x.is; here = record { row = x.here.row; is = x.here.is; holds = λ o. x.here.holds ((at_slot s x.here.row (x.is ∙ ap Some x.here.is)).0 o) } }

  sees_of : (s k : ℕ) → IsSeen slots ps (point ps p) p s k → lowest_rule.IsLowestSeen (lifted ps) slots ps p s k
  sees_of s k x = record {
    ghost = x.ghost;
    is = x.is;
    sees = elim x.sees [ inl h ↦ inl h | inr h ↦ inr (h.0, record { inner = h.1.inner; is = h.1.is; takes = row_takes h.1.inner.slot h.1.takes }) ];
  }

  sees_from : (s k : ℕ) → lowest_rule.IsLowestSeen (lifted ps) slots ps p s k → IsSeen slots ps (point ps p) p s k
  sees_from s k x = record {
    ghost = x.ghost;
    is = x.is;
    sees = elim x.sees [ inl h ↦ inl h | inr h ↦ inr (h.0, record { inner = h.1.inner; is = h.1.is; takes = row_takes_back h.1.inner.slot h.1.takes }) ];
  }

  pub taken_of : (s : ℕ) → IsTaken slots ps (point ps p) p s → lowest_rule.IsLowestTaken (lifted ps) slots ps p s
  taken_of s (inl row) = inl (row_takes s row)
  taken_of s (inr x) = inr (record { place = x.place; within = x.within; infinite = x.infinite; seen = sees_of s x.place x.seen })

  pub taken_from : (s : ℕ) → lowest_rule.IsLowestTaken (lifted ps) slots ps p s → IsTaken slots ps (point ps p) p s
  taken_from s (inl row) = inl (row_takes_back s row)
  taken_from s (inr x) = inr (record { place = x.place; within = x.within; infinite = x.infinite; seen = sees_from s x.place x.seen })

  pub grown_of : (start : ℕ) (cavity : List Slot) (rim : List RimFace) → Grown slots (IsTaken slots ps (point ps p) p) start cavity rim → Grown slots (lowest_rule.IsLowestTaken (lifted ps) slots ps p) start cavity rim
  grown_of = grown_by slots (IsTaken slots ps (point ps p) p) (lowest_rule.IsLowestTaken (lifted ps) slots ps p) (λ u. (taken_of u, taken_from u))

  pub whole_of : (start : ℕ) → IsWholeFrom slots ps p start → lowest_growth.IsLowestWholeFrom (lifted ps) slots ps p start
  whole_of start w = record {
    takes_start = taken_of start w.takes_start;
    all = λ u takes. reach_by slots (IsTaken slots ps (point ps p) p) (lowest_rule.IsLowestTaken (lifted ps) slots ps p) taken_of start u (w.all u (taken_from u takes));
  }

  pub whole_from : (start : ℕ) → lowest_growth.IsLowestWholeFrom (lifted ps) slots ps p start → IsWholeFrom slots ps p start
  whole_from start w = record {
    takes_start = taken_from start w.takes_start;
    all = λ u takes. reach_by slots (lowest_rule.IsLowestTaken (lifted ps) slots ps p) (IsTaken slots ps (point ps p) p) taken_from start u (w.all u (taken_of u takes));
  }
