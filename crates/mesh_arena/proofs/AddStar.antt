-- How one more slot extends the star.
use Rattle.std.proofs.Common.{◌≡◌, ◌≢◌, ◌⊎◌, ℕ, ◌+◌, ◌<◌, List, length, Option, Some, None, IsSome, option_map, refl, sym, ap, subst, ◌∙◌, inl, inr, arith}
use Rattle.std.proofs.lemmas.Bool.{cases_eq, cases_lt}
use Rattle.mesh_arena.specs.declared.slot.Corner.{Corner}
use Rattle.mesh_arena.specs.declared.arena.SlotFace.{SlotFace}
use Rattle.mesh_arena.specs.declared.slot.RimFace.{RimFace}
use Rattle.mesh_arena.specs.Mesh.{SlotValue, tet_at, corners_at, corner_in, IsLive, side_in, link_behind, at, Off}
use Rattle.mesh_arena.specs.Star.{behind, rim_at, face_side, behind_rim}
use Rattle.mesh_arena.specs.declared.star.StarSlot.{StarSlot}
use Rattle.mesh_arena.specs.Surgery.{star_at, star_corners, FitsFace, AddsOver, CanAdd, IsOver, AddsStar}
use Rattle.mesh_arena.proofs.Mesh.{none_live, same_or_off}

-- a slot that is not live is free
pub free_from_dead : (o : Option (List Corner)) → (IsSome o → ⊥) → o ≡ None
free_from_dead None dead = refl
free_from_dead (Some cs) dead = absurd (dead refl)

pub live_by_side : (slots : List (Option SlotValue)) (u k : ℕ) (b : SlotFace) → link_behind slots u k ≡ Some b → IsLive slots u
live_by_side slots u k b e = by_tet (tet_at slots u) e
  where
    by_tet : (o : Option SlotValue) → side_in o k ≡ Some b → IsSome (option_map (λ (t : SlotValue). t.corners) o)
    by_tet None e = absurd (cc)
    by_tet (Some t) e = refl

-- slots of which one is live and the other free are two
pub live_not_free : (slots : List (Option SlotValue)) (u v : ℕ) → IsLive slots u → corners_at slots v ≡ None → u ≢ v
live_not_free slots u v live free same = none_live (corners_at slots v) free (subst (λ n. IsLive slots n) same live)

pub live_along : (old new : List (Option SlotValue)) (u : ℕ) → corners_at new u ≡ corners_at old u → IsLive old u → IsLive new u
live_along old new u same live = subst IsSome (sym same) live

pub step_cases : (r n : ℕ) → r < n + 1 → (r < n) ⊎ (r ≡ n)
step_cases r n h = elim (cases_lt r n) [ inl less ↦ inl less | inr more ↦ inr (omega arith) ]

-- the faces of a rim that lists each once are different faces
abbrev pub AreOnce : List RimFace → Type 0
AreOnce rim = (r q : ℕ) → r < length rim → q < length rim → (rim_at rim r).slot.index ≡ (rim_at rim q).slot.index → (rim_at rim r).face ≡ (rim_at rim q).face → r ≡ q

pub Off-faces : (rim : List RimFace) (r q : ℕ) → AreOnce rim → r < length rim → q < length rim → r ≢ q → Off (rim_at rim r).slot.index (rim_at rim r).face (rim_at rim q).slot.index (rim_at rim q).face
Off-faces rim r q once hr hq differ =
    elim (same_or_off (rim_at rim r).slot.index (rim_at rim r).face (rim_at rim q).slot.index (rim_at rim q).face) [
      | inr off ↦ off
      | inl is ↦ absurd (differ (once r q hr hq is.0 is.1))
    ]

module _ (first now : List (Option SlotValue)) (rim : List RimFace) (star : List StarSlot) (n : ℕ) (can : CanAdd first rim star) (lt : n < length rim) (was : AddsStar first now rim star n) where
  pub waiting_fits : FitsFace now (rim_at rim n).slot.index (rim_at rim n).face (star_corners star n) (star_at star n).face
  waiting_fits =
      let fits = can.fits n lt in
      let kept = was.kept _ (can.live n lt) in
      record {
        to = λ x on. fits.to x (record { place = on.place; within = on.within; off = on.off; is = sym (ap (λ (o : Option (List Corner)). corner_in o on.place) kept) ∙ on.is });
        from = λ x has. let on = fits.from x has in record { place = on.place; within = on.within; off = on.off; is = ap (λ (o : Option (List Corner)). corner_in o on.place) kept ∙ on.is };
      }

  module _ (next : List (Option SlotValue)) (made : ℕ) (adds : AddsOver now next (rim_at rim n).slot.index (rim_at rim n).face made (star_corners star n) (star_at star n).face) where
    -- what was live at first is not the new slot
    not_made : (u : ℕ) → IsLive first u → u ≢ made
    not_made u live = live_not_free now u made (live_along first now u (was.kept u live) live) adds.fresh

    star_live : (r : ℕ) → r < n → IsLive now (behind_rim now rim r).slot
    star_live r h = subst IsSome (sym (was.over r h).corners) refl

    star_not_made : (r : ℕ) → r < n → (behind_rim now rim r).slot ≢ made
    star_not_made r h = live_not_free now _ made (star_live r h) adds.fresh

    -- what a slot added before is not
    star_not_live : (r u : ℕ) → r < n → IsLive first u → (behind_rim now rim r).slot ≢ u
    star_not_live r u h live e = live_not_free first u _ live (was.over r h).fresh (sym e)

    new_inner : behind_rim next rim n ≡ at made (star_at star n).face
    new_inner = ap behind adds.to

    added_before : (r : ℕ) → r < n → face_side next (rim_at rim r) ≡ face_side now (rim_at rim r)
    added_before r h =
        adds.others _ _
        (Off-faces rim r n can.once (omega arith) lt (λ e. omega arith))
        (not_made _ (can.live r (omega arith)))

    pub same_star : (r : ℕ) → r < n → behind_rim next rim r ≡ behind_rim now rim r
    same_star r h = ap behind (added_before r h)

    star_side : (r k : ℕ) → r < n → link_behind next (behind_rim now rim r).slot k ≡ link_behind now (behind_rim now rim r).slot k
    star_side r k h = adds.others _ _ (inl (star_not_live r _ h (can.live n lt))) (star_not_made r h)

    -- a slot that was added before
    over_before : (r : ℕ) → r < n → IsOver first next rim star r
    over_before r h =
        let o = was.over r h in
        let face = (star_at star r).face in
        let P : SlotFace → Type 0 = λ x. (face_side next (rim_at rim r) ≡ Some (at x.slot face)) × (corners_at first x.slot ≡ None) × (corners_at next x.slot ≡ Some (star_corners star r)) × ((k : ℕ) → k ≢ face → link_behind next x.slot k ≡ None) in
        let all : P (behind_rim next rim r) = subst P (sym (same_star r h)) (
          added_before r h ∙ o.is,
          o.fresh,
          adds.corners _ (star_not_made r h) ∙ o.corners,
          λ k differ. star_side r k h ∙ o.bare k differ,
        ) in
        record { is = all.0; fresh = all.1; corners = all.2; bare = all.3 }

    over_new : IsOver first next rim star n
    over_new =
        let face = (star_at star n).face in
        let P : SlotFace → Type 0 = λ x. (face_side next (rim_at rim n) ≡ Some (at x.slot face)) × (corners_at first x.slot ≡ None) × (corners_at next x.slot ≡ Some (star_corners star n)) × ((k : ℕ) → k ≢ face → link_behind next x.slot k ≡ None) in
        let all : P (behind_rim next rim n) = subst P (sym new_inner) (
          adds.to,
          free_from_dead (corners_at first made) (λ live. not_made made live refl),
          adds.made_corners,
          adds.bare,
        ) in
        record { is = all.0; fresh = all.1; corners = all.2; bare = all.3 }

    pub new_star : (behind_rim next rim n).slot ≡ made
    new_star = ap (λ (b : SlotFace). b.slot) new_inner

    old_star : (r : ℕ) → r < n → (behind_rim next rim r).slot ≡ (behind_rim now rim r).slot
    old_star r h = ap (λ (b : SlotFace). b.slot) (same_star r h)

    stars_apart : (r q : ℕ) → (r < n) ⊎ (r ≡ n) → (q < n) ⊎ (q ≡ n) → (behind_rim next rim r).slot ≡ (behind_rim next rim q).slot → r ≡ q
    stars_apart r q (inl a) (inl b) e = was.apart r q a b (sym (old_star r a) ∙ e ∙ old_star q b)
    stars_apart r q (inl a) (inr b) e = absurd (star_not_made r a (sym (old_star r a) ∙ e ∙ ap (λ m. (behind_rim next rim m).slot) b ∙ new_star))
    stars_apart r q (inr a) (inl b) e = absurd (star_not_made q b (sym (old_star q b) ∙ sym e ∙ ap (λ m. (behind_rim next rim m).slot) a ∙ new_star))
    stars_apart r q (inr a) (inr b) e = a ∙ sym b

    pub AddsStar-step : AddsStar first next rim star (n + 1)
    AddsStar-step =
        record {
          over = λ r h. elim (step_cases r n h) [ inl a ↦ over_before r a | inr b ↦ rw b over_new ];
          apart = λ r q h g e. stars_apart r q (step_cases r n h) (step_cases q n g) e;
          kept = λ u live. adds.corners u (not_made u live) ∙ was.kept u live;
          live = λ u live. elim (cases_eq u made) [
            | inl same ↦ inr (n, omega arith, new_star ∙ sym same)
            | inr differ ↦ elim (was.live u (subst IsSome (adds.corners u differ) live)) [
              | inl before ↦ inl before
              | inr found ↦ inr (found.0, omega (arith, found.1), old_star found.0 found.1 ∙ found.2)
            ]
          ];
          sides = λ u k live off_rim.
              adds.others u k (off_rim n (omega arith)) (not_made u live)
              ∙ was.sides u k live (λ r h. off_rim r (omega arith));
        }
