-- How a change of sides keeps a mesh.
use Rattle.std.proofs.Common.{◌≡◌, ◌≢◌, ◌⊎◌, ℕ, zero, suc, ◌+◌, ◌<◌, ◌≤◌, List, [], ◌∷◌, ◌++◌, length, set, Option, Some, None, IsSome, refl, sym, ap, subst, ◌∙◌, inl, inr, arith, rules, length-set}
use Rattle.std.proofs.lemmas.Bool.{cases_eq, cases_lt}
use Rattle.std.proofs.lemmas.List.{get_or-set_same, get_or-set_other, get_or_past, get_or_push, get_or_append_left, length_push}
use Rattle.mesh_arena.specs.declared.slot.Corner.{Corner}
use Rattle.mesh_arena.specs.declared.arena.SlotFace.{SlotFace}
use Rattle.mesh_arena.specs.Mesh.{SlotValue, tet_at, corners_at, corner_in, IsLive, corner, side_in, link_behind, at, OnFace, SameFace, IsShaped, IsArenaMesh, Off, Links, Takes, AllDiffer, tet_with}

pub same_or_off : (u k s i : ℕ) → ((u ≡ s) × (k ≡ i)) ⊎ Off u k s i
same_or_off u k s i =
    elim (cases_eq u s) [
      | inr differ ↦ inr (inl differ)
      | inl same ↦ elim (cases_eq k i) [ inl one ↦ inl (same, one) | inr other ↦ inr (inr other) ]
    ]

-- one side is written, and nothing else changes
pub record Writes (old new : List (Option SlotValue)) (s i : ℕ) (b : Option SlotFace) : Type 0 where
  pub len : length new ≡ length old
  pub corners : (u : ℕ) → corners_at new u ≡ corners_at old u
  pub here : link_behind new s i ≡ b
  pub others : (u k : ℕ) → Off u k s i → link_behind new u k ≡ link_behind old u k
  pub shaped : IsShaped new

pub Writes-set : (slots : List (Option SlotValue)) (s i : ℕ) (t : SlotValue) (b : Option SlotFace) → IsShaped slots → tet_at slots s ≡ Some t → i < 4 → Writes slots (set slots s (Some (tet_with t i b))) s i b
Writes-set slots s i t b shaped found face =
    let within : s < length slots = grind (arith, get_or_past) in
    let lens = shaped s t found in
    let new : Option SlotValue = Some (tet_with t i b) in
    let there : tet_at (set slots s new) s ≡ new = get_or-set_same slots s new None within in
    let elsewhere : (u : ℕ) → u ≢ s → tet_at (set slots s new) u ≡ tet_at slots u = λ u differ. get_or-set_other slots s u new None differ in
    record {
      len = length-set slots s new;
      corners = λ u. elim (cases_eq u s) [
        | inl same ↦ rw (same, there, found) refl
        | inr differ ↦ rw (elsewhere u differ) refl
      ];
      here = rw there (get_or-set_same t.sides i b None (omega arith));
      others = λ u k off. elim off [
        | inl differ ↦ rw (elsewhere u differ) refl
        | inr other ↦ elim (cases_eq u s) [
          | inr differ ↦ rw (elsewhere u differ) refl
          | inl same ↦ rw (same, there, found) (get_or-set_other t.sides i k b None other)
        ]
      ];
      shaped = λ u x e. elim (cases_eq u s) [
        | inr differ ↦ shaped u x (sym (elsewhere u differ) ∙ e)
        | inl same ↦
            let is : tet_with t i b ≡ x = let e2 = subst (λ n. tet_at (set slots s new) n ≡ Some x) same e in cc in
            rw (← is) (lens.0, length-set t.sides i b ∙ lens.1)
      ];
    }

pub Links-writes : (old mid new : List (Option SlotValue)) (s i t j : ℕ) → s ≢ t → Writes old mid s i (Some (at t j)) → Writes mid new t j (Some (at s i)) → Links old new s i t j
Links-writes old mid new s i t j differ one two =
    record {
      len = two.len ∙ one.len;
      corners = λ u. two.corners u ∙ one.corners u;
      first = two.others s i (inl differ) ∙ one.here;
      second = two.here;
      others = λ u k off off2. two.others u k off2 ∙ one.others u k off;
    }

module _ (old new : List (Option SlotValue)) (same : (u : ℕ) → corners_at new u ≡ corners_at old u) where
  pub same_corner : (u i : ℕ) → corner new u i ≡ corner old u i
  same_corner u i = ap (λ (o : Option (List Corner)). corner_in o i) (same u)

  pub OnFace-along : (s i : ℕ) (x : Corner) → OnFace old s i x → OnFace new s i x
  OnFace-along s i x on = record { place = on.place; within = on.within; off = on.off; is = same_corner s on.place ∙ on.is }

  pub OnFace-back : (s i : ℕ) (x : Corner) → OnFace new s i x → OnFace old s i x
  OnFace-back s i x on = record { place = on.place; within = on.within; off = on.off; is = sym (same_corner s on.place) ∙ on.is }

  pub SameFace-along : (s i t j : ℕ) → SameFace old s i t j → SameFace new s i t j
  SameFace-along s i t j faces =
      record {
        to = λ x on. OnFace-along t j x (faces.to x (OnFace-back s i x on));
        from = λ x on. OnFace-along s i x (faces.from x (OnFace-back t j x on));
      }

  pub differ-along : ((s i j : ℕ) → IsLive old s → i < 4 → j < 4 → corner old s i ≡ corner old s j → i ≡ j) → (s i j : ℕ) → IsLive new s → i < 4 → j < 4 → corner new s i ≡ corner new s j → i ≡ j
  differ-along differ s i j live hi hj e =
      differ s i j (subst IsSome (same s) live) hi hj (sym (same_corner s i) ∙ e ∙ same_corner s j)

pub SameFace-flip : (slots : List (Option SlotValue)) (s i t j : ℕ) → SameFace slots s i t j → SameFace slots t j s i
SameFace-flip slots s i t j faces = record { to = faces.from; from = faces.to }

pub none_some : (b : SlotFace) (o : Option SlotFace) → o ≡ None → o ≡ Some b → ⊥
none_some b o e f = cc

pub IsMesh-links : (old new : List (Option SlotValue)) (s i t j : ℕ) → IsArenaMesh old → IsShaped new → s ≢ t → SameFace old s i t j → link_behind old s i ≡ None → link_behind old t j ≡ None → Links old new s i t j → IsArenaMesh new
IsMesh-links old new s i t j mesh shaped differ faces free_s free_t links =
    record {
      shaped = shaped;
      differ = differ-along old new links.corners mesh.differ;
      back = λ u k b e. by_place u k b e (same_or_off u k s i) (same_or_off u k t j);
      apart = λ u k b e. by_apart u k b e (same_or_off u k s i) (same_or_off u k t j);
      shared = λ u k b e. by_shared u k b e (same_or_off u k s i) (same_or_off u k t j);
    }
  where
    off_s : (u k : ℕ) (b : SlotFace) → link_behind old u k ≡ Some b → Off b.slot b.face s i
    off_s u k b e = elim (same_or_off b.slot b.face s i) [
      | inr off ↦ off
      | inl is ↦ absurd (none_some (at u k) (link_behind old s i) free_s (subst (λ n. link_behind old s n ≡ Some (at u k)) is.1 (subst (λ n. link_behind old n b.face ≡ Some (at u k)) is.0 (mesh.back u k b e))))
    ]

    off_t : (u k : ℕ) (b : SlotFace) → link_behind old u k ≡ Some b → Off b.slot b.face t j
    off_t u k b e = elim (same_or_off b.slot b.face t j) [
      | inr off ↦ off
      | inl is ↦ absurd (none_some (at u k) (link_behind old t j) free_t (subst (λ n. link_behind old t n ≡ Some (at u k)) is.1 (subst (λ n. link_behind old n b.face ≡ Some (at u k)) is.0 (mesh.back u k b e))))
    ]

    -- what stands behind the one face, behind the other, and behind any other
    at_first : (u k : ℕ) (b : SlotFace) → link_behind new u k ≡ Some b → (u ≡ s) × (k ≡ i) → b ≡ at t j
    at_first u k b e is = let h = links.first in let there : link_behind new s i ≡ Some b = rw (← is.0, ← is.1) e in cc

    at_second : (u k : ℕ) (b : SlotFace) → link_behind new u k ≡ Some b → (u ≡ t) × (k ≡ j) → b ≡ at s i
    at_second u k b e is = let h = links.second in let there : link_behind new t j ≡ Some b = rw (← is.0, ← is.1) e in cc

    by_place : (u k : ℕ) (b : SlotFace) → link_behind new u k ≡ Some b → ((u ≡ s) × (k ≡ i)) ⊎ Off u k s i → ((u ≡ t) × (k ≡ j)) ⊎ Off u k t j → link_behind new b.slot b.face ≡ Some (at u k)
    by_place u k b e (inl is) _ = rw (at_first u k b e is, is.0, is.1) links.second
    by_place u k b e (inr off) (inl is) = rw (at_second u k b e is, is.0, is.1) links.first
    by_place u k b e (inr off) (inr off2) =
        let was : link_behind old u k ≡ Some b = sym (links.others u k off off2) ∙ e in
        links.others b.slot b.face (off_s u k b was) (off_t u k b was) ∙ mesh.back u k b was

    by_apart : (u k : ℕ) (b : SlotFace) → link_behind new u k ≡ Some b → ((u ≡ s) × (k ≡ i)) ⊎ Off u k s i → ((u ≡ t) × (k ≡ j)) ⊎ Off u k t j → b.slot ≢ u
    by_apart u k b e (inl is) _ = rw (at_first u k b e is, is.0) (λ same. differ (sym same))
    by_apart u k b e (inr off) (inl is) = rw (at_second u k b e is, is.0) differ
    by_apart u k b e (inr off) (inr off2) = mesh.apart u k b (sym (links.others u k off off2) ∙ e)

    by_shared : (u k : ℕ) (b : SlotFace) → link_behind new u k ≡ Some b → ((u ≡ s) × (k ≡ i)) ⊎ Off u k s i → ((u ≡ t) × (k ≡ j)) ⊎ Off u k t j → SameFace new u k b.slot b.face
    by_shared u k b e (inl is) _ = rw (at_first u k b e is, is.0, is.1) (SameFace-along old new links.corners s i t j faces)
    by_shared u k b e (inr off) (inl is) = rw (at_second u k b e is, is.0, is.1) (SameFace-along old new links.corners t j s i (SameFace-flip old s i t j faces))
    by_shared u k b e (inr off) (inr off2) = SameFace-along old new links.corners u k b.slot b.face (mesh.shared u k b (sym (links.others u k off off2) ∙ e))

abbrev pub lone : List Corner → SlotValue
lone cs = record { corners = cs; sides = None ∷ None ∷ None ∷ None ∷ [] }

-- one place is written
pub record Puts (old new : List (Option SlotValue)) (s : ℕ) (o : Option SlotValue) : Type 0 where
  pub here : tet_at new s ≡ o
  pub others : (u : ℕ) → u ≢ s → tet_at new u ≡ tet_at old u

pub Puts-set : (slots : List (Option SlotValue)) (s : ℕ) (o : Option SlotValue) → s < length slots → Puts slots (set slots s o) s o
Puts-set slots s o within = record { here = get_or-set_same slots s o None within; others = λ u differ. get_or-set_other slots s u o None differ }

pub Puts-push : (slots : List (Option SlotValue)) (o : Option SlotValue) → Puts slots (slots ++ o ∷ []) (length slots) o
Puts-push slots o =
    record {
      here = get_or_push slots o None (length slots) refl;
      others = λ u differ. elim (cases_lt u (length slots)) [
        | inl lt ↦ get_or_append_left slots (o ∷ []) None u lt
        | inr ge ↦ let long = length_push slots o in get_or_past (slots ++ o ∷ []) u None (omega arith) ∙ sym (get_or_past slots u None ge)
      ];
    }

lone_bare : (cs : List Corner) (i : ℕ) → side_in (Some (lone cs)) i ≡ None
lone_bare cs zero = refl
lone_bare cs (suc zero) = refl
lone_bare cs (suc (suc zero)) = refl
lone_bare cs (suc (suc (suc zero))) = refl
lone_bare cs (suc (suc (suc (suc i)))) = refl

pub Takes-puts : (old new : List (Option SlotValue)) (s : ℕ) (cs : List Corner) → Puts old new s (Some (lone cs)) → tet_at old s ≡ None → ((u : ℕ) → u < length old → corners_at old u ≡ None → s < length old) → (s < length old → length new ≡ length old) → (length old ≤ s → (s ≡ length old) × (length new ≡ length old + 1)) → Takes old new s cs
Takes-puts old new s cs puts free reuses within past =
    let bare : (i : ℕ) → link_behind new s i ≡ None = λ i. rw puts.here (lone_bare cs i) in
    record {
      free = rw free refl;
      made = rw puts.here refl;
      bare = bare;
      corners = λ u differ. rw (puts.others u differ) refl;
      sides = λ u k. elim (cases_eq u s) [
        | inl same ↦ rw same (bare k ∙ sym (ap (λ (o : Option SlotValue). side_in o k) free))
        | inr differ ↦ rw (puts.others u differ) refl
      ];
      reuses = reuses;
      within = within;
      past = past;
    }

pub none_live : (o : Option (List Corner)) → o ≡ None → IsSome o → ⊥
none_live o e live = let h : IsSome {T = List Corner} None = subst IsSome e live in absurd (search rules)

-- the faces of a slot whose corners stay
pub face_kept : (old new : List (Option SlotValue)) (s i t j : ℕ) → corners_at new s ≡ corners_at old s → corners_at new t ≡ corners_at old t → SameFace old s i t j → SameFace new s i t j
face_kept old new s i t j e f faces =
    let at_s : (p : ℕ) → corner new s p ≡ corner old s p = λ p. ap (λ (o : Option (List Corner)). corner_in o p) e in
    let at_t : (p : ℕ) → corner new t p ≡ corner old t p = λ p. ap (λ (o : Option (List Corner)). corner_in o p) f in
    record {
      to = λ x on. let there = faces.to x (record { place = on.place; within = on.within; off = on.off; is = sym (at_s on.place) ∙ on.is }) in
          record { place = there.place; within = there.within; off = there.off; is = at_t there.place ∙ there.is };
      from = λ x on. let there = faces.from x (record { place = on.place; within = on.within; off = on.off; is = sym (at_t on.place) ∙ on.is }) in
          record { place = there.place; within = there.within; off = there.off; is = at_s there.place ∙ there.is };
    }

-- what has a side is live
pub side_live : (slots : List (Option SlotValue)) (s i : ℕ) (b : SlotFace) → IsShaped slots → link_behind slots s i ≡ Some b → IsSome (corners_at slots s) × (i < 4)
side_live slots s i b shaped e = by_tet (tet_at slots s) refl e
  where
    by_tet : (o : Option SlotValue) → tet_at slots s ≡ o → side_in o i ≡ Some b → IsSome (corners_at slots s) × (i < 4)
    by_tet None is e = absurd (cc)
    by_tet (Some t) is e =
        let four = (shaped s t is).1 in
        let lt : i < length t.sides = grind (arith, get_or_past) in
        (rw is refl, omega arith)

pub IsMesh-takes : (old new : List (Option SlotValue)) (s : ℕ) (cs : List Corner) → IsArenaMesh old → Puts old new s (Some (lone cs)) → length cs ≡ 4 → AllDiffer cs → Takes old new s cs → IsArenaMesh new
IsMesh-takes old new s cs mesh puts four differ takes =
    record {
      shaped = λ u t e. elim (cases_eq u s) [
        | inr other ↦ mesh.shaped u t (sym (puts.others u other) ∙ e)
        | inl same ↦ let e2 = subst (λ n. tet_at new n ≡ Some t) same e in let h = puts.here in let is : lone cs ≡ t = cc in rw (← is) (four, refl)
      ];
      differ = λ u i j live hi hj e. elim (cases_eq u s) [
        | inr other ↦
            let kept = takes.corners u other in
            mesh.differ u i j (subst IsSome kept live) hi hj (subst (λ (o : Option (List Corner)). corner_in o i ≡ corner_in o j) kept e)
        | inl same ↦ differ i j hi hj (subst (λ (o : Option (List Corner)). corner_in o i ≡ corner_in o j) (ap (corners_at new) same ∙ takes.made) e)
      ];
      back = λ u k b e. let was = sym (takes.sides u k) ∙ e in takes.sides b.slot b.face ∙ mesh.back u k b was;
      apart = λ u k b e. mesh.apart u k b (sym (takes.sides u k) ∙ e);
      shared = λ u k b e.
          let was = sym (takes.sides u k) ∙ e in
          face_kept old new u k b.slot b.face (takes.corners u (off u k b was)) (takes.corners b.slot (off b.slot b.face (at u k) (mesh.back u k b was))) (mesh.shared u k b was);
    }
  where
    off : (u k : ℕ) (b : SlotFace) → link_behind old u k ≡ Some b → u ≢ s
    off u k b e same = none_live (corners_at old s) takes.free (subst (λ n. IsSome (corners_at old n)) same (side_live old u k b mesh.shaped e).0)
