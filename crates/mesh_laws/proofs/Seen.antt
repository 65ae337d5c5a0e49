-- What the rule says of the slot of a ghost: the new point sees its hull face.
use Rattle.std.proofs.Common.{◌≡◌, ◌↔◌, ◌⊎◌, inl, inr, ℕ, zero, suc, ◌<◌, pos, ◌<ℤ◌, List, get_or, set, Option, Some, refl, sym, ap, subst, ◌∙◌, arith, ℤ}
use Rattle.std.proofs.lemmas.List.{get_or-set_same}
use Rattle.sign_predicates.specs.Point.{Point}
use Rattle.sign_predicates.specs.Orientation.{side as side_at, volume}
use Rattle.geo_laws.specs.Delaunay.{point, corners}
use Rattle.geo_laws.specs.declared.tetrahedra.Tet.{Tet as Row}
use Rattle.geo_laws.proofs.Places.{replaced}
use Rattle.geo_laws.proofs.Determinants.{volume-replaced}
use Rattle.insert_laws.specs.LowestInsertion.{IsNew, HasAbove, LowestSees}
use Rattle.insert_laws.proofs.FacePencil.{side_of}
use Rattle.mesh_arena.specs.Mesh.{SlotValue, corner_list, link_behind, IsArenaMesh}
use Rattle.mesh_arena.specs.declared.arena.SlotFace.{SlotFace}
use Rattle.mesh_arena.specs.declared.slot.Corner.TheVariants.{Point as Numbered, Ghost}
use Rattle.mesh_arena.specs.declared.slot.SlotCorners.{SlotCorners}
use Rattle.point_locate.specs.Place.{row_corners, placed}
use Rattle.mesh_laws.specs.LowestRule.{IsLowestTaken, IsLowestInnerTaken, IsLowestSeen}
use Rattle.mesh_laws.specs.LowestLiving.{face_off, IsLowestGhostSlot, IsLowestMesh}
use Rattle.mesh_laws.proofs.LowestTaken.{no_ghost, same_corners, one_ghost}
use Rattle.mesh_laws.proofs.LowestRows.{taken_row, above_slot}
use Rattle.mesh_laws.proofs.LowestFaces.{place_of, triangle_off}
use Rattle.mesh_laws.proofs.LowestAcross.{some_side, behind_ghost}

-- the corners of a ghost, in their places
pub ghost_of : Row → ℕ → SlotCorners
ghost_of t zero = record { a = Ghost; b = Numbered t.b; c = Numbered t.c; d = Numbered t.d }
ghost_of t (suc zero) = record { a = Numbered t.a; b = Ghost; c = Numbered t.c; d = Numbered t.d }
ghost_of t (suc (suc zero)) = record { a = Numbered t.a; b = Numbered t.b; c = Ghost; d = Numbered t.d }
ghost_of t k = record { a = Numbered t.a; b = Numbered t.b; c = Numbered t.c; d = Ghost }

pub ghost_list : (t : Row) (k : ℕ) → k < 4 → set (row_corners t) k Ghost ≡ corner_list (ghost_of t k)
unfolding ghost_of
ghost_list t zero h = refl
ghost_list t (suc zero) h = refl
ghost_list t (suc (suc zero)) h = refl
ghost_list t (suc (suc (suc zero))) h = refl
ghost_list t (suc (suc (suc (suc k)))) h = absurd (omega arith)

same_ghost : (g h : SlotCorners) → corner_list g ≡ corner_list h → g ≡ h
same_ghost g h e =
    let a : g.a ≡ h.a = cc in
    let b : g.b ≡ h.b = cc in
    let c : g.c ≡ h.c = cc in
    let d : g.d ≡ h.d = cc in
    λ i. record { a = a i; b = b i; c = c i; d = d i }

placed_ghost : (ps : List Point) (p : Point) (t : Row) (k : ℕ) → k < 4 → placed ps p (ghost_of t k) ≡ replaced (corners ps t) (place_of k) p
unfolding ghost_of
placed_ghost ps p t zero h = refl
placed_ghost ps p t (suc zero) h = refl
placed_ghost ps p t (suc (suc zero)) h = refl
placed_ghost ps p t (suc (suc (suc zero))) h = refl
placed_ghost ps p t (suc (suc (suc (suc k)))) h = absurd (omega arith)

-- the ghost's volume with the point in place of the one at infinity is the side of the point at the hull face
pub ghost_volume : (ps : List Point) (p : ℕ) (t : Row) (k : ℕ) (g : SlotCorners) → k < 4 → set (row_corners t) k Ghost ≡ corner_list g → volume (placed ps (point ps p) g) ≡ side_of ps (face_off t k) p
ghost_volume ps p t k g h e =
    let same : g ≡ ghost_of t k = same_ghost g (ghost_of t k) (sym e ∙ ghost_list t k h) in
    ap (λ (x : SlotCorners). volume (placed ps (point ps p) x)) same
    ∙ ap volume (placed_ghost ps (point ps p) t k h)
    ∙ volume-replaced (corners ps t) (place_of k) (point ps p)
    ∙ ap (λ f. side_at f (point ps p)) (sym (triangle_off ps t k h))

module _ (lifts : ℕ → ℤ) (slots : List (Option SlotValue)) (ps : List Point) (ms : List ℕ) (p : ℕ) (new : IsNew ps ms p) (mesh : IsArenaMesh slots) (now : IsLowestMesh lifts slots ps ms) (s k : ℕ) (t : Row) (slot : IsLowestGhostSlot lifts slots ps ms s t k) where
  infinite : get_or (set (row_corners t) k Ghost) k Ghost ≡ Ghost
  infinite = get_or-set_same (row_corners t) k Ghost Ghost (omega (arith, slot.within))

  -- the row on the inner side has p above or not, as the neighbor tells
  inner_to : IsLowestInnerTaken lifts slots ps p s k → ¬ HasAbove lifts ps slot.is_hull.behind p
  inner_to inner =
      let there = behind_ghost lifts slots ps ms mesh now s k t inner.inner slot inner.is in
      subst (λ (r : Row). ¬ HasAbove lifts ps r p) there.2 ((taken_row lifts slots ps ms p new inner.inner.slot there.0 there.1).0 (inl inner.takes))

  inner_from : (¬ HasAbove lifts ps slot.is_hull.behind p) → (b : SlotFace) → link_behind slots s k ≡ Some b → IsLowestInnerTaken lifts slots ps p s k
  inner_from not b is =
      let there = behind_ghost lifts slots ps ms mesh now s k t b slot is in
      record {
        inner = b;
        is = is;
        takes = record {
          corners = row_corners there.0;
          is = there.1.is;
          here = record { row = there.0; is = refl; holds = λ o. not (subst (λ (r : Row). HasAbove lifts ps r p) there.2 ((above_slot lifts slots ps ms p new b.slot there.0 there.1).0 o)) };
        };
      }

  pub taken_sees : IsLowestTaken lifts slots ps p s ↔ LowestSees lifts ps p (face_off t k) slot.is_hull.behind
  taken_sees = (to, from)
    where
      to : IsLowestTaken lifts slots ps p s → LowestSees lifts ps p (face_off t k) slot.is_hull.behind
      to (inl row) = absurd (no_ghost row.here.row k slot.within (ap (λ cs. get_or cs k Ghost) (sym row.here.is ∙ same_corners slots s _ _ row.is slot.is) ∙ infinite))
      to (inr ghost) =
          let cs = same_corners slots s _ _ slot.is ghost.infinite.is in
          let at : ghost.place ≡ k = one_ghost slots s (set (row_corners t) k Ghost) ghost.place k mesh slot.is ghost.within slot.within (ap (λ xs. get_or xs ghost.place Ghost) cs ∙ ghost.infinite.here) infinite in
          by (subst (IsLowestSeen lifts slots ps p s) at ghost.seen)
        where
          by : IsLowestSeen lifts slots ps p s k → LowestSees lifts ps p (face_off t k) slot.is_hull.behind
          by seen = go seen.sees
            where
              same : volume (placed ps (point ps p) seen.ghost) ≡ side_of ps (face_off t k) p
              same = ghost_volume ps p t k seen.ghost slot.within (same_corners slots s _ _ slot.is seen.is)

              go : (pos 0 <ℤ volume (placed ps (point ps p) seen.ghost)) ⊎ ((volume (placed ps (point ps p) seen.ghost) ≡ pos 0) × IsLowestInnerTaken lifts slots ps p s k) → LowestSees lifts ps p (face_off t k) slot.is_hull.behind
              go (inl over) = inl (subst (λ z. pos 0 <ℤ z) same over)
              go (inr level) = inr (sym same ∙ level.0, inner_to level.1)

      from : LowestSees lifts ps p (face_off t k) slot.is_hull.behind → IsLowestTaken lifts slots ps p s
      from sees = inr (record { place = k; within = slot.within; infinite = record { corners = set (row_corners t) k Ghost; is = slot.is; here = infinite }; seen = record { ghost = ghost_of t k; is = slot.is ∙ ap Some (ghost_list t k slot.within); sees = go sees } })
        where
          same : volume (placed ps (point ps p) (ghost_of t k)) ≡ side_of ps (face_off t k) p
          same = ghost_volume ps p t k (ghost_of t k) slot.within (ghost_list t k slot.within)

          go : LowestSees lifts ps p (face_off t k) slot.is_hull.behind → (pos 0 <ℤ volume (placed ps (point ps p) (ghost_of t k))) ⊎ ((volume (placed ps (point ps p) (ghost_of t k)) ≡ pos 0) × IsLowestInnerTaken lifts slots ps p s k)
          go (inl over) = inl (subst (λ z. pos 0 <ℤ z) (sym same) over)
          go (inr level) =
              let b = some_side (link_behind slots s k) (now.linked s k (rw slot.is refl) slot.within) in
              inr (same ∙ level.0, inner_from level.1 b.0 b.1)
