-- How the steps of `replace_cavity` fit together.
use Rattle.std.proofs.Common.{◌≡◌, ◌≢◌, ◌⊎◌, ℕ, zero, suc, ◌<◌, ◌≤◌, List, length, set, Option, Some, None, IsSome, option_map, refl, sym, ap, subst, ◌∙◌, inl, inr, arith, rules}
use Rattle.std.proofs.lemmas.Bool.{cases_eq}
use Rattle.std.proofs.lemmas.List.{get_or-set_same}
use Rattle.mesh_arena.specs.declared.slot.Corner.{Corner}
use Rattle.mesh_arena.specs.declared.slot.Corner.TheVariants.{Ghost}
use Rattle.mesh_arena.specs.declared.arena.SlotFace.{SlotFace}
use Rattle.mesh_arena.specs.declared.slot.Slot.{Slot}
use Rattle.mesh_arena.specs.declared.slot.RimFace.{RimFace}
use Rattle.mesh_arena.specs.Mesh.{SlotValue, corners_at, corner_in, IsLive, corner, link_behind, at, IsArenaMesh, AllDiffer}
use Rattle.mesh_arena.specs.Star.{behind, rim_at, face_side, behind_rim}
use Rattle.mesh_arena.specs.declared.star.StarSlot.{StarSlot}
use Rattle.mesh_arena.specs.Surgery.{star_at, star_corners, Plans, FitsFace, CanAdd, AddsStar}
use Rattle.mesh_arena.specs.StarLinks.{OnRim, ArePaired, IsStar, LinksStar}
use Rattle.mesh_arena.specs.Cavity.{slot_at, IsInCavitySlots}
use Rattle.mesh_arena.specs.Cut.{Cuts}
use Rattle.mesh_arena.specs.Replace.{IsCavity, IsRim, IsOffRim, IsStarSlot, Replaces}
use Rattle.mesh_arena.proofs.Mesh.{none_some, none_live}
use Rattle.mesh_arena.proofs.Cone.{corners_four, faces_below, cone_differ, cone_fits}
use Rattle.mesh_arena.proofs.AddStar.{free_from_dead, live_by_side, live_not_free}

-- a slot is on the list or not
pub in_or_not : (cavity : List Slot) (s : ℕ) → IsInCavitySlots cavity s ⊎ (IsInCavitySlots cavity s → ⊥)
in_or_not cavity s =
    elim (below_not (length cavity) (omega arith)) [
      | inl found ↦ inl found
      | inr none ↦ inr (λ found. none found.place found.inside found.is)
    ]
  where
    below_not : (n : ℕ) → n ≤ length cavity → IsInCavitySlots cavity s ⊎ ((j : ℕ) → j < n → slot_at cavity j ≢ s)
    below_not zero h = inr (λ j lt. absurd (omega arith))
    below_not (suc n) h =
        elim (below_not n (omega arith)) [
          | inl found ↦ inl found
          | inr none ↦ elim (cases_eq (slot_at cavity n) s) [
            | inl is ↦ inl (record { place = n; inside = omega arith; is = is })
            | inr differ ↦ inr (λ j lt. elim (cases_eq j n) [ inl same ↦ rw same differ | inr other ↦ none j (omega arith) ])
          ]
        ]

some_corners : (o : Option (List Corner)) → IsSome o → (cs : List Corner) × (o ≡ Some cs)
some_corners None some = absurd (search rules)
some_corners (Some cs) some = (cs, refl)

module _ (A : List (Option SlotValue)) (cavity : List Slot) (rim : List RimFace) (p : Corner) (mesh_A : IsArenaMesh A) (hole : IsCavity A cavity) (edge : IsRim A cavity rim) (pairs : ArePaired A rim) (off : IsOffRim A rim p) where
  in_live : (u : ℕ) → IsInCavitySlots cavity u → IsLive A u
  in_live u found = subst (IsLive A) found.is (hole.live found.place found.inside)

  inner_live : (r : ℕ) → r < length rim → IsLive A (behind_rim A rim r).slot
  inner_live r h = in_live _ (edge.inner r h)

  outer_live : (r : ℕ) → r < length rim → IsLive A (rim_at rim r).slot.index
  outer_live r h = live_by_side A _ _ _ (edge.has r h)

  module _ (F : List (Option SlotValue)) (cuts : Cuts A F cavity rim) where
    live_F : (u : ℕ) → IsLive A u → (IsInCavitySlots cavity u → ⊥) → IsLive F u
    live_F u live out = subst IsSome (sym (cuts.kept u out)) live

    outer_F : (r : ℕ) → r < length rim → corners_at F (rim_at rim r).slot.index ≡ corners_at A (rim_at rim r).slot.index
    outer_F r h = cuts.kept _ (edge.outer r h)

    outer_live_F : (r : ℕ) → r < length rim → IsLive F (rim_at rim r).slot.index
    outer_live_F r h = live_F _ (outer_live r h) (edge.outer r h)

    module _ (star : List StarSlot) (plans : Plans A rim p star (length rim)) where
      -- the corners behind a face, and the face is one
      inner_corners : (r : ℕ) → r < length rim → (cs : List Corner) × (corners_at A (behind_rim A rim r).slot ≡ Some cs)
      inner_corners r h = some_corners (corners_at A (behind_rim A rim r).slot) (inner_live r h)

      planned : (r : ℕ) (h : r < length rim) → star_corners star r ≡ set (inner_corners r h).0 (behind_rim A rim r).face p
      planned r h =
          let both : Some (star_corners star r) ≡ Some (set (inner_corners r h).0 (behind_rim A rim r).face p) =
          plans.corners r h ∙ ap (option_map (λ (cs : List Corner). set cs (behind_rim A rim r).face p)) (inner_corners r h).1 in
          cc

      fits_star : (r : ℕ) → r < length rim → FitsFace F (rim_at rim r).slot.index (rim_at rim r).face (star_corners star r) (star_at star r).face
      fits_star r h =
          let cone = cone_fits A _ _ (behind_rim A rim r) p (inner_corners r h).0 mesh_A (edge.has r h) (inner_corners r h).1 in
          rw (planned r h, plans.face r h) (record {
            to = λ x on. cone.to x (record { place = on.place; within = on.within; off = on.off; is = sym (ap (λ (o : Option (List Corner)). corner_in o on.place) (outer_F r h)) ∙ on.is });
            from = λ x has. let on = cone.from x has in record { place = on.place; within = on.within; off = on.off; is = ap (λ (o : Option (List Corner)). corner_in o on.place) (outer_F r h) ∙ on.is };
          })

      pub CanAdd-freed : CanAdd F rim star
      CanAdd-freed =
          record {
            live = outer_live_F;
            below = λ r h. (faces_below A _ _ (behind_rim A rim r) mesh_A (edge.has r h)).0;
            free = cuts.outer;
            bare = plans.bare;
            once = edge.once;
            face = λ r h. rw (plans.face r h) (faces_below A _ _ (behind_rim A rim r) mesh_A (edge.has r h)).1;
            differ = λ r h. subst AllDiffer (sym (planned r h)) (cone_differ A _ _ (behind_rim A rim r) p (inner_corners r h).0 mesh_A (edge.has r h) (off r h) (inner_corners r h).1);
            fits = fits_star;
          }

      module _ (S : List (Option SlotValue)) (adds_star : AddsStar F S rim star (length rim)) where
        new_behind : (r : ℕ) → r < length rim → behind_rim S rim r ≡ at (behind_rim S rim r).slot (star_at star r).face
        new_behind r h = ap behind (adds_star.over r h).is

        same_face : (r : ℕ) → r < length rim → (behind_rim S rim r).face ≡ (star_at star r).face
        same_face r h = ap (λ (b : SlotFace). b.face) (new_behind r h)

        -- a slot of the star is not one that stayed
        star_new : (r u : ℕ) → r < length rim → IsLive F u → (behind_rim S rim r).slot ≢ u
        star_new r u h live e = live_not_free F u _ live (adds_star.over r h).fresh (sym e)

        apex : (r : ℕ) → r < length rim → corner S (behind_rim S rim r).slot (star_at star r).face ≡ p
        apex r h =
            let inner = behind_rim A rim r in
            let four = corners_four A inner.slot (inner_corners r h).0 mesh_A.shaped (inner_corners r h).1 in
            let below = (faces_below A _ _ inner mesh_A (edge.has r h)).1 in
            ap (λ (o : Option (List Corner)). corner_in o (star_at star r).face) (adds_star.over r h).corners
            ∙ rw (planned r h, plans.face r h) (get_or-set_same (inner_corners r h).0 inner.face p Ghost (omega (arith, four, below)))

        pub IsStar-added : IsStar S rim p
        IsStar-added =
            record {
              has = λ r h. (adds_star.over r h).is ∙ ap Some (sym (new_behind r h));
              apart = adds_star.apart;
              outside = λ r q h g. star_new r _ h (outer_live_F q g);
              apex = λ r h. rw (same_face r h) (apex r h);
              closed = λ r k b h differ e. absurd (none_some b _ ((adds_star.over r h).bare k (λ q. differ (q ∙ sym (same_face r h)))) e);
            }

        rim_corners : (t : ℕ) → t < length rim → corners_at S (rim_at rim t).slot.index ≡ corners_at A (rim_at rim t).slot.index
        rim_corners t h = adds_star.kept _ (outer_live_F t h) ∙ outer_F t h

        on_back : (t : ℕ) (x : Corner) → t < length rim → OnRim S rim t x → OnRim A rim t x
        on_back t x h on = record { place = on.place; within = on.within; off = on.off; is = ap (λ (o : Option (List Corner)). corner_in o on.place) (sym (rim_corners t h)) ∙ on.is }

        on_along : (t : ℕ) (x : Corner) → t < length rim → OnRim A rim t x → OnRim S rim t x
        on_along t x h on = record { place = on.place; within = on.within; off = on.off; is = ap (λ (o : Option (List Corner)). corner_in o on.place) (rim_corners t h) ∙ on.is }

        pub ArePaired-added : ArePaired S rim
        ArePaired-added r x y h on_x on_y differ =
            let o = pairs r x y h (on_back r x h on_x) (on_back r y h on_y) differ in
            record {
              face = o.face;
              inside = o.inside;
              differs = o.differs;
              first = on_along o.face x o.inside o.first;
              second = on_along o.face y o.inside o.second;
              only = λ t lt tr on_x2 on_y2. o.only t lt tr (on_back t x lt on_x2) (on_back t y lt on_y2);
            }

        module _ (L : List (Option SlotValue)) (links_star : LinksStar S L rim p (length rim)) where
          corners_L : (u : ℕ) → IsLive A u → (IsInCavitySlots cavity u → ⊥) → corners_at L u ≡ corners_at A u
          corners_L u live out = links_star.corners u ∙ adds_star.kept u (live_F u live out) ∙ cuts.kept u out

          sides_L : (u k : ℕ) → IsLive F u → link_behind L u k ≡ link_behind S u k
          sides_L u k live = links_star.sides u k (λ q h. star_new q u h live)

          rim_side : (r : ℕ) → r < length rim → face_side L (rim_at rim r) ≡ face_side S (rim_at rim r)
          rim_side r h = sides_L _ _ (outer_live_F r h)

          pub rim_some : (r : ℕ) → r < length rim → IsSome (face_side L (rim_at rim r))
          rim_some r h = subst IsSome (sym (rim_side r h ∙ (adds_star.over r h).is)) refl

          same_slot : (r : ℕ) → r < length rim → (behind_rim L rim r).slot ≡ (behind_rim S rim r).slot
          same_slot r h = ap (λ (b : SlotFace). b.slot) (ap behind (rim_side r h))

          -- a place that was not free is the cavity's
          star_fresh : (r : ℕ) → r < length rim → IsLive A (behind_rim S rim r).slot → IsInCavitySlots cavity (behind_rim S rim r).slot
          star_fresh r h live =
              elim (in_or_not cavity (behind_rim S rim r).slot) [
                | inl found ↦ found
                | inr out ↦ absurd (none_live _ (adds_star.over r h).fresh (live_F _ live out))
              ]

          stands : (r : ℕ) → r < length rim → IsStarSlot A L cavity rim p r
          stands r h =
              let o = adds_star.over r h in
              let inner = behind_rim A rim r in
              let P : ℕ → Type 0 = λ s. (face_side L (rim_at rim r) ≡ Some (at s inner.face)) × (IsLive A s → IsInCavitySlots cavity s) × (corners_at L s ≡ option_map (λ (cs : List Corner). set cs inner.face p) (corners_at A inner.slot)) × ((k : ℕ) → k < 4 → IsSome (link_behind L s k)) in
              let all : P (behind_rim L rim r).slot = subst P (sym (same_slot r h)) (
                rim_side r h ∙ o.is ∙ ap (λ (k : ℕ). Some (at (behind_rim S rim r).slot k)) (plans.face r h),
                star_fresh r h,
                links_star.corners _ ∙ o.corners ∙ plans.corners r h,
                λ k k4. links_star.linked r k h k4,
              ) in
              record { is = all.0; fresh = all.1; corners = all.2; linked = all.3 }

          live_after : (u : ℕ) → IsLive L u → (IsLive A u × (IsInCavitySlots cavity u → ⊥)) ⊎ ((r : ℕ) × (r < length rim) × ((behind_rim L rim r).slot ≡ u))
          live_after u live =
              elim (adds_star.live u (subst IsSome (links_star.corners u) live)) [
                | inl before ↦
                    let out : IsInCavitySlots cavity u → ⊥ = λ found. none_live _ (cuts.gone u found) before in
                    inl (subst IsSome (cuts.kept u out) before, out)
                | inr found ↦ inr (found.0, found.1, same_slot found.0 found.1 ∙ found.2)
              ]

          pub Replaces-done : (s : ℕ) (b : SlotFace) → face_side L (rim_at rim 0) ≡ Some b → s ≡ b.slot → Replaces A L cavity rim p s
          Replaces-done s b is named =
              record {
                star = stands;
                apart = λ r q h g e. adds_star.apart r q h g (sym (same_slot r h) ∙ e ∙ same_slot q g);
                gone = λ u found away. free_from_dead (corners_at L u) (λ live. elim (live_after u live) [
                  | inl before ↦ before.1 found
                  | inr star_slot ↦ away star_slot.0 star_slot.1 star_slot.2
                ]);
                kept = corners_L;
                live = live_after;
                sides = λ u k live out away.
                    sides_L u k (live_F u live out)
                    ∙ adds_star.sides u k (live_F u live out) away
                    ∙ cuts.sides u k out away;
                answer = (0, edge.some, ap (λ (x : SlotFace). x.slot) (ap behind is) ∙ sym named);
              }
