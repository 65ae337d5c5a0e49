-- How a look over one face extends the search.
use Rattle.std.proofs.Common.{◌≡◌, ◌≢◌, ◌⊎◌, ℕ, ◌+◌, ◌<◌, ◌≤◌, List, [], ◌∷◌, ◌++◌, length, get_or, Option, None, Some, refl, sym, ap, subst, ◌∙◌, inl, inr, arith}
use Rattle.std.proofs.lemmas.Bool.{cases_lt}
use Rattle.std.proofs.lemmas.List.{get_or_append_left, get_or_push, length_push}
use Rattle.mesh_arena.specs.declared.arena.SlotFace.{SlotFace}
use Rattle.mesh_arena.specs.declared.slot.Slot.{Slot}
use Rattle.mesh_arena.specs.declared.slot.RimFace.{RimFace}
use Rattle.mesh_arena.specs.Mesh.{SlotValue, IsLive, link_behind, at, IsArenaMesh}
use Rattle.mesh_arena.specs.Star.{rim_at, no_face}
use Rattle.mesh_arena.specs.Cavity.{slot_at, IsInCavitySlots}
use Rattle.mesh_arena.proofs.Mesh.{side_live}
use Rattle.mesh_laws.specs.Reach.{Reach, first, next, Grown}
use Rattle.std.specs.Int.Bits.{xor_self}
use Rattle.cavity_insert.specs.Grow.{Before, BordersCavity, IsRimListed, Growing, AreEntered, entry_at, face_turn}
use Rattle.cavity_insert.proofs.Turns.{turn_one, turn_small}

split : (i e k j m : ℕ) → (j ≡ i → (face_turn e m ≡ face_turn e k) → m ≡ k) → Before i e (face_turn e k + 1) j m → Before i e (face_turn e k) j m ⊎ ((j ≡ i) × (m ≡ k))
split i e k j m one (inl less) = inl (inl less)
split i e k j m one (inr here) = elim (cases_lt (face_turn e m) (face_turn e k)) [ inl less ↦ inl (inr (here.0, less)) | inr more ↦ inr (here.0, one here.0 (omega (arith, here.1))) ]

widen : (i e k j m : ℕ) → Before i e k j m → Before i e (k + 1) j m
widen i e k j m (inl less) = inl less
widen i e k j m (inr here) = inr (here.0, omega (arith, here.1))

rim_push : (rim : List RimFace) (f : RimFace) (r : ℕ) → r < length rim → rim_at (rim ++ f ∷ []) r ≡ rim_at rim r
rim_push rim f r h = get_or_append_left rim (f ∷ []) no_face r h

pub slot_push : (cavity : List Slot) (s : Slot) (j : ℕ) → j < length cavity → slot_at (cavity ++ s ∷ []) j ≡ slot_at cavity j
slot_push cavity s j h = ap (λ (x : Slot). x.index) (get_or_append_left cavity (s ∷ []) (record { index = 0 }) j h)

pub slot_last : (cavity : List Slot) (s : Slot) → slot_at (cavity ++ s ∷ []) (length cavity) ≡ s.index
slot_last cavity s = ap (λ (x : Slot). x.index) (get_or_push cavity s (record { index = 0 }) (length cavity) refl)

pub step_cases : (r n : ℕ) → r < n + 1 → (r < n) ⊎ (r ≡ n)
step_cases r n h = elim (cases_lt r n) [ inl less ↦ inl less | inr more ↦ inr (omega arith) ]

module _ (slots : List (Option SlotValue)) (rule : ℕ → Type 0) (start : ℕ) (mesh : IsArenaMesh slots) where
  borders_on : (cavity : List Slot) (i e k : ℕ) (f : RimFace) → BordersCavity slots rule cavity i e k f → BordersCavity slots rule cavity i e (k + 1) f
  borders_on cavity i e k f b =
      record { slot = b.slot; face = b.face; inside = b.inside; before = widen i e k b.slot b.face b.before; is = b.is; out = b.out }

  -- there is no slot behind the face, or it is in the cavity
  pub Growing-in : (cavity : List Slot) (rim : List RimFace) (i e k : ℕ) → (i < length cavity → (e < 4) × (k < 4)) → (i < length cavity → (b : SlotFace) → link_behind slots (slot_at cavity i) k ≡ Some b → IsInCavitySlots cavity b.slot) → Growing slots rule start cavity rim i e (face_turn e k) → Growing slots rule start cavity rim i e (face_turn e k + 1)
  Growing-in cavity rim i e k small found was =
      record {
        begun = was.begun;
        reached = was.reached;
        taken = was.taken;
        live = was.live;
        once = was.once;
        seen = λ j m c h before d. elim (split i e k j m (λ level. let fit = small (omega (arith, level)) in turn_one e m k fit.0 (side_live slots (slot_at cavity j) m c mesh.shaped d).1 fit.1) before) [
          | inl old ↦ was.seen j m c h old d
          | inr here ↦ inl (found (omega (arith, here.0)) c (subst (λ n. link_behind slots (slot_at cavity i) n ≡ Some c) here.1 (subst (λ n. link_behind slots (slot_at cavity n) m ≡ Some c) here.0 d)))
        ];
        borders = λ r h. borders_on cavity i e (face_turn e k) (rim_at rim r) (was.borders r h);
        rim_once = was.rim_once;
      }

  -- the slot behind the face is not taken: the face is on the rim
  pub Growing-out : (cavity : List Slot) (rim : List RimFace) (i e k : ℕ) (f : RimFace) → i < length cavity → e < 4 → k < 4 → link_behind slots (slot_at cavity i) k ≡ Some (at f.slot.index f.face) → (rule f.slot.index → ⊥) → Growing slots rule start cavity rim i e (face_turn e k) → Growing slots rule start cavity (rim ++ f ∷ []) i e (face_turn e k + 1)
  Growing-out cavity rim i e k f inside e4 k4 is out was =
      record {
        begun = was.begun;
        reached = was.reached;
        taken = was.taken;
        live = was.live;
        once = was.once;
        seen = λ j m c h before d. elim (split i e k j m (λ level. turn_one e m k e4 (side_live slots (slot_at cavity j) m c mesh.shaped d).1 k4) before) [
          | inl old ↦ elim (was.seen j m c h old d) [ inl found ↦ inl found | inr found ↦ inr (kept c found) ]
          | inr here ↦
              let there : link_behind slots (slot_at cavity i) k ≡ Some c = subst (λ n. link_behind slots (slot_at cavity i) n ≡ Some c) here.1 (subst (λ n. link_behind slots (slot_at cavity n) m ≡ Some c) here.0 d) in
              let same : at f.slot.index f.face ≡ c = cc in
              inr (subst (IsRimListed (rim ++ f ∷ [])) same new)
        ];
        borders = λ r h. elim (step_cases r (length rim) (omega (arith, length_push rim f))) [
          | inl less ↦ rw (rim_push rim f r less) (borders_on cavity i e (face_turn e k) (rim_at rim r) (was.borders r less))
          | inr last ↦ rw (last, get_or_push rim f no_face (length rim) refl) (record { slot = i; face = k; inside = inside; before = inr (refl, omega arith); is = is; out = out })
        ];
        rim_once = λ r q h g c d. once r q (step_cases r (length rim) (omega (arith, length_push rim f))) (step_cases q (length rim) (omega (arith, length_push rim f))) c d;
      }
    where
      last_is : rim_at (rim ++ f ∷ []) (length rim) ≡ f
      last_is = get_or_push rim f no_face (length rim) refl

      kept : (c : SlotFace) → IsRimListed rim c → IsRimListed (rim ++ f ∷ []) c
      kept c on = record {
        place = on.place;
        inside = omega (arith, on.inside, length_push rim f);
        slot = ap (λ (x : RimFace). x.slot.index) (rim_push rim f on.place on.inside) ∙ on.slot;
        face = ap (λ (x : RimFace). x.face) (rim_push rim f on.place on.inside) ∙ on.face;
      }

      new : IsRimListed (rim ++ f ∷ []) (at f.slot.index f.face)
      new = record { place = length rim; inside = omega (arith, length_push rim f); slot = ap (λ (x : RimFace). x.slot.index) last_is; face = ap (λ (x : RimFace). x.face) last_is }

      -- a face of the rim from before is not that face
      fresh : (r : ℕ) → r < length rim → (rim_at rim r).slot.index ≡ f.slot.index → (rim_at rim r).face ≡ f.face → ⊥
      fresh r h c d =
          let old = was.borders r h in
          let back = mesh.back _ _ _ old.is in
          let now = mesh.back _ _ _ is in
          let home : link_behind slots f.slot.index f.face ≡ Some (at (slot_at cavity old.slot) old.face) = subst (λ n. link_behind slots f.slot.index n ≡ Some (at (slot_at cavity old.slot) old.face)) d (subst (λ n. link_behind slots n (rim_at rim r).face ≡ Some (at (slot_at cavity old.slot) old.face)) c back) in
          let same : at (slot_at cavity old.slot) old.face ≡ at (slot_at cavity i) k = cc in
          let level : old.slot ≡ i = was.once old.slot i old.inside inside (ap (λ (x : SlotFace). x.slot) same) in
          let place : old.face ≡ k = ap (λ (x : SlotFace). x.face) same in
          elim old.before [ inl less ↦ omega arith | inr here ↦ omega (arith, here.1, ap (face_turn e) place) ]

      once : (r q : ℕ) → (r < length rim) ⊎ (r ≡ length rim) → (q < length rim) ⊎ (q ≡ length rim) → (rim_at (rim ++ f ∷ []) r).slot.index ≡ (rim_at (rim ++ f ∷ []) q).slot.index → (rim_at (rim ++ f ∷ []) r).face ≡ (rim_at (rim ++ f ∷ []) q).face → r ≡ q
      once r q (inl a) (inl b) e d =
          let x = rim_push rim f r a in
          let y = rim_push rim f q b in
          was.rim_once r q a b (ap (λ (z : RimFace). z.slot.index) (sym x) ∙ e ∙ ap (λ (z : RimFace). z.slot.index) y) (ap (λ (z : RimFace). z.face) (sym x) ∙ d ∙ ap (λ (z : RimFace). z.face) y)
      once r q (inl a) (inr b) e d =
          let x = rim_push rim f r a in
          let y = ap (rim_at (rim ++ f ∷ [])) b ∙ last_is in
          absurd (fresh r a (ap (λ (z : RimFace). z.slot.index) (sym x) ∙ e ∙ ap (λ (z : RimFace). z.slot.index) y) (ap (λ (z : RimFace). z.face) (sym x) ∙ d ∙ ap (λ (z : RimFace). z.face) y))
      once r q (inr a) (inl b) e d =
          let x = rim_push rim f q b in
          let y = ap (rim_at (rim ++ f ∷ [])) a ∙ last_is in
          absurd (fresh q b (ap (λ (z : RimFace). z.slot.index) (sym x) ∙ sym e ∙ ap (λ (z : RimFace). z.slot.index) y) (ap (λ (z : RimFace). z.face) (sym x) ∙ sym d ∙ ap (λ (z : RimFace). z.face) y))
      once r q (inr a) (inr b) e d = a ∙ sym b

  module _ (cavity : List Slot) (rim : List RimFace) (i entry k u : ℕ) (was : Growing slots rule start cavity rim i entry k) where
    -- the slot is taken
    pub Growing-add : (s : Slot) → s.index ≡ u → i < length cavity → (IsInCavitySlots cavity u → ⊥) → Reach slots rule start u → rule u → IsLive slots u → Growing slots rule start (cavity ++ s ∷ []) rim i entry k
    Growing-add s named inside fresh reach found live =
        record {
          begun = wider start was.begun;
          reached = λ j h. elim (step_cases j (length cavity) (omega (arith, long))) [
            | inl less ↦ rw (slot_push cavity s j less) (was.reached j less)
            | inr end ↦ rw (end, last) reach
          ];
          taken = λ j h. elim (step_cases j (length cavity) (omega (arith, long))) [
            | inl less ↦ rw (slot_push cavity s j less) (was.taken j less)
            | inr end ↦ rw (end, last) found
          ];
          live = λ j h. elim (step_cases j (length cavity) (omega (arith, long))) [
            | inl less ↦ rw (slot_push cavity s j less) (was.live j less)
            | inr end ↦ rw (end, last) live
          ];
          once = λ j q h g e. once j q (step_cases j (length cavity) (omega (arith, long))) (step_cases q (length cavity) (omega (arith, long))) e;
          seen = λ j m b h before e. elim (step_cases j (length cavity) (omega (arith, long))) [
            | inl less ↦ elim (was.seen j m b less before (subst (λ n. link_behind slots n m ≡ Some b) (slot_push cavity s j less) e)) [ inl in_it ↦ inl (wider b.slot in_it) | inr on ↦ inr on ]
            | inr end ↦ absurd (elim before [ inl less ↦ omega arith | inr level ↦ omega (arith, level.0) ])
          ];
          borders = λ r h.
              let old = was.borders r h in
              record {
                slot = old.slot;
                face = old.face;
                inside = omega (arith, old.inside, long);
                before = old.before;
                is = rw (slot_push cavity s old.slot old.inside) old.is;
                out = old.out;
              };
          rim_once = was.rim_once;
        }
      where
        long : length (cavity ++ s ∷ []) ≡ length cavity + 1
        long = length_push cavity s

        last : slot_at (cavity ++ s ∷ []) (length cavity) ≡ u
        last = slot_last cavity s ∙ named

        wider : (v : ℕ) → IsInCavitySlots cavity v → IsInCavitySlots (cavity ++ s ∷ []) v
        wider v in_it = record { place = in_it.place; inside = omega (arith, in_it.inside, long); is = slot_push cavity s in_it.place in_it.inside ∙ in_it.is }

        old_not : (j : ℕ) → j < length cavity → slot_at cavity j ≢ u
        old_not j h e = fresh (record { place = j; inside = h; is = e })

        once : (j q : ℕ) → (j < length cavity) ⊎ (j ≡ length cavity) → (q < length cavity) ⊎ (q ≡ length cavity) → slot_at (cavity ++ s ∷ []) j ≡ slot_at (cavity ++ s ∷ []) q → j ≡ q
        once j q (inl a) (inl b) e = was.once j q a b (sym (slot_push cavity s j a) ∙ e ∙ slot_push cavity s q b)
        once j q (inl a) (inr b) e = absurd (old_not j a (sym (slot_push cavity s j a) ∙ e ∙ ap (slot_at (cavity ++ s ∷ [])) b ∙ last))
        once j q (inr a) (inl b) e = absurd (old_not q b (sym (slot_push cavity s q b) ∙ sym e ∙ ap (slot_at (cavity ++ s ∷ [])) a ∙ last))
        once j q (inr a) (inr b) e = a ∙ sym b

module _ (slots : List (Option SlotValue)) (rule : ℕ → Type 0) (start : ℕ) (mesh : IsArenaMesh slots) (cavity : List Slot) (rim : List RimFace) (i entry k : ℕ) (f : RimFace) (inside : i < length cavity) (small : entry < 4) (face : k < 4) (is : link_behind slots (slot_at cavity i) k ≡ Some (at f.slot.index f.face)) (was : Growing slots rule start cavity rim i entry (face_turn entry k)) where
  pub Grown-in : (IsInCavitySlots cavity f.slot.index → ⊥) → IsLive slots f.slot.index → rule f.slot.index → Growing slots rule start (cavity ++ f.slot ∷ []) rim i entry (face_turn entry k + 1)
  Grown-in fresh live found =
      let reach = next (slot_at cavity i) k (at f.slot.index f.face) (was.reached i inside) is found in
      let added = Growing-add slots rule start mesh cavity rim i entry (face_turn entry k) f.slot.index was f.slot refl inside fresh reach found live in
      let there : link_behind slots (slot_at (cavity ++ f.slot ∷ []) i) k ≡ Some (at f.slot.index f.face) = rw (slot_push cavity f.slot i inside) is in
      Growing-in slots rule start mesh _ rim i entry k (λ _. (small, face))
      (λ _ b e. record { place = length cavity; inside = omega (arith, length_push cavity f.slot); is = slot_last cavity f.slot ∙ same b there e })
      added
    where
      same : (b : SlotFace) → link_behind slots (slot_at (cavity ++ f.slot ∷ []) i) k ≡ Some (at f.slot.index f.face) → link_behind slots (slot_at (cavity ++ f.slot ∷ []) i) k ≡ Some b → f.slot.index ≡ b.slot
      same b there e = let one : at f.slot.index f.face ≡ b = cc in ap (λ (x : SlotFace). x.slot) one

module _ (slots : List (Option SlotValue)) (rule : ℕ → Type 0) (start : ℕ) (mesh : IsArenaMesh slots) (cavity : List Slot) (rim : List RimFace) where
  -- all four faces of a slot were looked over
  pub Growing-row : (i entry later : ℕ) → entry < 4 → Growing slots rule start cavity rim i entry 4 → Growing slots rule start cavity rim (i + 1) later 0
  Growing-row i entry later small was =
      record {
        begun = was.begun;
        reached = was.reached;
        taken = was.taken;
        live = was.live;
        once = was.once;
        seen = λ j m b h before e. was.seen j m b h (back j m (side_live slots (slot_at cavity j) m b mesh.shaped e).1 before) e;
        borders = λ r h.
            let old = was.borders r h in
            record { slot = old.slot; face = old.face; inside = old.inside; before = inl (ahead old.slot old.face old.before); is = old.is; out = old.out };
        rim_once = was.rim_once;
      }
    where
      back : (j m : ℕ) → m < 4 → Before (i + 1) later 0 j m → Before i entry 4 j m
      back j m m4 (inl less) = elim (step_cases j i less) [ inl a ↦ inl a | inr b ↦ inr (b, turn_small entry m small m4) ]
      back j m m4 (inr here) = absurd (omega (arith, here.1))

      ahead : (j m : ℕ) → Before i entry 4 j m → j < i + 1
      ahead j m (inl less) = omega arith
      ahead j m (inr here) = omega (arith, here.0)

  -- behind the face through which a slot was entered stands a slot of the cavity
  pub Growing-entered : (entries : List ℕ) (i : ℕ) → 0 < i → AreEntered slots cavity entries → Growing slots rule start cavity rim i (entry_at entries i) 0 → Growing slots rule start cavity rim i (entry_at entries i) 1
  Growing-entered entries i later entered was =
      let entry = entry_at entries i in
      let first : face_turn entry entry ≡ 0 = xor_self entry in
      let small : i < length cavity → entry < 4 = entered.faces i in
      subst (λ k. Growing slots rule start cavity rim i entry (k + 1)) first
      (Growing-in slots rule start mesh cavity rim i entry entry (λ h. (small h, small h)) (λ h b e. entered.inner i b later h e) (subst (Growing slots rule start cavity rim i entry) (sym first) was))

  module _ (i entry turns : ℕ) (done : length cavity ≤ i) (was : Growing slots rule start cavity rim i entry turns) where
    all_seen : (u k : ℕ) (b : SlotFace) → IsInCavitySlots cavity u → link_behind slots u k ≡ Some b → IsInCavitySlots cavity b.slot ⊎ IsRimListed rim b
    all_seen u k b found e = was.seen found.place k b found.inside (inl (omega (arith, found.inside))) (rw found.is e)

    every : (u : ℕ) → Reach slots rule start u → IsInCavitySlots cavity u
    every _ first = was.begun
    every _ (next s k b reach e taken) =
        elim (all_seen s k b (every s reach) e) [
          | inl in_it ↦ in_it
          | inr on ↦ absurd ((was.borders on.place on.inside).out (subst rule (sym on.slot) taken))
        ]

    pub Grown-done : Grown slots rule start cavity rim
    Grown-done =
        record {
          reached = was.reached;
          taken = was.taken;
          live = was.live;
          once = was.once;
          all = every;
          outer = λ r h found. (was.borders r h).out (subst rule found.is (was.taken found.place found.inside));
          inner = λ r h.
              let old = was.borders r h in
              (at (slot_at cavity old.slot) old.face, mesh.back _ _ _ old.is, record { place = old.slot; inside = old.inside; is = refl });
          rim_once = was.rim_once;
          rim_all = λ u k b e out found.
              elim (all_seen b.slot b.face (at u k) found (mesh.back u k b e)) [
                | inl in_it ↦ absurd (out in_it)
                | inr on ↦ (on.place, on.inside, on.slot, on.face)
              ];
        }

pub Growing-begin : (slots : List (Option SlotValue)) (rule : ℕ → Type 0) (s : Slot) → rule s.index → IsLive slots s.index → Growing slots rule s.index (s ∷ []) [] 0 0 0
Growing-begin slots rule s found live =
    record {
      begun = record { place = 0; inside = omega arith; is = refl };
      reached = λ j h. let z : j ≡ 0 = omega arith in rw z first;
      taken = λ j h. let z : j ≡ 0 = omega arith in rw z found;
      live = λ j h. let z : j ≡ 0 = omega arith in rw z live;
      once = λ j q h g e. omega arith;
      seen = λ j m b h before e. absurd (elim before [ inl less ↦ omega arith | inr level ↦ omega (arith, level.1) ]);
      borders = λ r h. absurd (omega arith);
      rim_once = λ r q h g e d. absurd (omega arith);
    }

-- the slot behind a face, as a look at it reads it
pub behind_is : (slots : List (Option SlotValue)) (cavity : List Slot) (i k : ℕ) (s : Slot) (b : SlotFace) → ((d : Slot) → get_or cavity i d ≡ s) → Some b ≡ link_behind slots s.index k → link_behind slots (slot_at cavity i) k ≡ Some b
behind_is slots cavity i k s b read e = ap (λ (x : Slot). link_behind slots x.index k) (read (record { index = 0 })) ∙ sym e

-- there is none
pub none_behind : (slots : List (Option SlotValue)) (cavity : List Slot) (i k : ℕ) (s : Slot) → ((d : Slot) → get_or cavity i d ≡ s) → None ≡ link_behind slots s.index k → (b : SlotFace) → link_behind slots (slot_at cavity i) k ≡ Some b → IsInCavitySlots cavity b.slot
none_behind slots cavity i k s read e b is =
    let gone : link_behind slots (slot_at cavity i) k ≡ None = ap (λ (x : Slot). link_behind slots x.index k) (read (record { index = 0 })) ∙ sym e in
    absurd (cc)

-- it is in the cavity
pub in_behind : (slots : List (Option SlotValue)) (cavity : List Slot) (i k : ℕ) (f : RimFace) → link_behind slots (slot_at cavity i) k ≡ Some (at f.slot.index f.face) → IsInCavitySlots cavity f.slot.index → (b : SlotFace) → link_behind slots (slot_at cavity i) k ≡ Some b → IsInCavitySlots cavity b.slot
in_behind slots cavity i k f is found b e =
    let one : at f.slot.index f.face ≡ b = cc in
    subst (IsInCavitySlots cavity) (ap (λ (x : SlotFace). x.slot) one) found

pub AreEntered-begin : (slots : List (Option SlotValue)) (s : Slot) → AreEntered slots (s ∷ []) (0 ∷ [])
AreEntered-begin slots s =
    record {
      many = refl;
      faces = λ j h. let z : j ≡ 0 = omega arith in rw z (omega arith);
      inner = λ j b later h e. absurd (omega arith);
    }

module _ (slots : List (Option SlotValue)) (mesh : IsArenaMesh slots) (cavity : List Slot) (entries : List ℕ) (i k : ℕ) (f : RimFace) where
  -- neighbors are mutual: behind the face through which a slot is entered stands the slot from which it is entered
  pub AreEntered-push : i < length cavity → f.face < 4 → link_behind slots (slot_at cavity i) k ≡ Some (at f.slot.index f.face) → AreEntered slots cavity entries → AreEntered slots (cavity ++ f.slot ∷ []) (entries ++ f.face ∷ [])
  AreEntered-push inside small is was =
      record {
        many = omega (arith, length_push cavity f.slot, length_push entries f.face, was.many);
        faces = λ j h. elim (step_cases j (length cavity) (omega (arith, length_push cavity f.slot))) [
          | inl less ↦ rw (get_or_append_left entries (f.face ∷ []) 0 j (omega (arith, less, was.many))) (was.faces j less)
          | inr end ↦ rw (get_or_push entries f.face 0 j (omega (arith, end, was.many))) small
        ];
        inner = λ j b later h e. elim (step_cases j (length cavity) (omega (arith, length_push cavity f.slot))) [
          | inl less ↦
              let place = slot_push cavity f.slot j less in
              let entry = get_or_append_left entries (f.face ∷ []) 0 j (omega (arith, less, was.many)) in
              wider b.slot (was.inner j b later less (subst (λ n. link_behind slots (slot_at cavity j) n ≡ Some b) entry (subst (λ n. link_behind slots n (entry_at (entries ++ f.face ∷ []) j) ≡ Some b) place e)))
          | inr end ↦
              let place : slot_at (cavity ++ f.slot ∷ []) j ≡ f.slot.index = ap (slot_at (cavity ++ f.slot ∷ [])) end ∙ slot_last cavity f.slot in
              let entry : entry_at (entries ++ f.face ∷ []) j ≡ f.face = get_or_push entries f.face 0 j (omega (arith, end, was.many)) in
              let there : link_behind slots f.slot.index f.face ≡ Some b = subst (λ n. link_behind slots f.slot.index n ≡ Some b) entry (subst (λ n. link_behind slots n (entry_at (entries ++ f.face ∷ []) j) ≡ Some b) place e) in
              let back = mesh.back _ _ _ is in
              let same : at (slot_at cavity i) k ≡ b = cc in
              wider b.slot (record { place = i; inside = inside; is = ap (λ (x : SlotFace). x.slot) same })
        ];
      }
    where
      wider : (v : ℕ) → IsInCavitySlots cavity v → IsInCavitySlots (cavity ++ f.slot ∷ []) v
      wider v in_it = record { place = in_it.place; inside = omega (arith, in_it.inside, length_push cavity f.slot); is = slot_push cavity f.slot in_it.place in_it.inside ∙ in_it.is }
