-- Different numbers below m are at most m, so a list of different live slots is no longer than the slots.
use Rattle.std.proofs.Common.{◌≡◌, ◌≢◌, ◌⊎◌, inl, inr, ℕ, zero, suc, ◌+◌, ◌<◌, ◌≤◌, List, length, Option, sym, ap, ◌∙◌, arith}
use Rattle.std.proofs.lemmas.Bool.{cases_eq, cases_lt}
use Rattle.std.proofs.lemmas.List.{get_or_past}
use Rattle.mesh_arena.specs.declared.slot.Slot.{Slot}
use Rattle.mesh_arena.specs.Mesh.{SlotValue, IsLive}
use Rattle.mesh_arena.specs.Cavity.{slot_at}

-- f takes the value m below n, or not
find : (f : ℕ → ℕ) (m n : ℕ) → ((j : ℕ) × (j < n) × (f j ≡ m)) ⊎ ((j : ℕ) → j < n → f j ≢ m)
find f m zero = inr (λ j h. absurd (omega arith))
find f m (suc n) =
    elim (find f m n) [
      | inl found ↦ inl (found.0, omega (arith, found.1), found.2)
      | inr none ↦ elim (cases_eq (f n) m) [
        | inl here ↦ inl (n, omega arith, here)
        | inr not ↦ inr (λ j h e. elim (cases_lt j n) [ inl less ↦ none j less e | inr last ↦ let z : j ≡ n = omega arith in not (ap f (sym z) ∙ e) ])
      ]
    ]

module _ (f : ℕ → ℕ) (m n a : ℕ) (within : (j : ℕ) → j < n + 1 → f j < m + 1) (once : (i j : ℕ) → i < n + 1 → j < n + 1 → f i ≡ f j → i ≡ j) (inside : a < n + 1) (is : f a ≡ m) where
  -- f with the last place in place of a
  choose : (j : ℕ) → (j ≡ a) ⊎ (j ≢ a) → ℕ
  choose j (inl here) = f n
  choose j (inr other) = f j

  without : ℕ → ℕ
  without j = choose j (cases_eq j a)

  below : (j : ℕ) (d : (j ≡ a) ⊎ (j ≢ a)) → j < n → choose j d < m
  unfolding choose
  below j (inl here) h = elim (cases_eq (f n) m) [
    | inl same ↦ let clash : a ≡ n = once a n inside (omega arith) (is ∙ sym same) in omega arith
    | inr less ↦ omega (arith, within n (omega arith), less)
  ]
  below j (inr other) h = elim (cases_eq (f j) m) [
    | inl same ↦ absurd (other (once j a (omega arith) inside (same ∙ sym is)))
    | inr less ↦ omega (arith, within j (omega arith), less)
  ]

  apart : (i j : ℕ) (d : (i ≡ a) ⊎ (i ≢ a)) (e : (j ≡ a) ⊎ (j ≢ a)) → i < n → j < n → choose i d ≡ choose j e → i ≡ j
  unfolding choose
  apart i j (inl x) (inl y) h g same = x ∙ sym y
  apart i j (inl x) (inr y) h g same = let clash : n ≡ j = once n j (omega arith) (omega arith) same in omega arith
  apart i j (inr x) (inl y) h g same = let clash : i ≡ n = once i n (omega arith) (omega arith) same in omega arith
  apart i j (inr x) (inr y) h g same = once i j (omega arith) (omega arith) same

pub pigeons : (m n : ℕ) (f : ℕ → ℕ) → ((j : ℕ) → j < n → f j < m) → ((i j : ℕ) → i < n → j < n → f i ≡ f j → i ≡ j) → n ≤ m
unfolding without
pigeons m zero f within once = omega arith
pigeons zero (suc n) f within once = omega (arith, within 0 (omega arith))
pigeons (suc m) (suc n) f within once = elim (find f m (suc n)) [
  | inl found ↦
      let low : (j : ℕ) → j < n + 1 → f j < m + 1 = λ j h. omega (arith, within j (omega arith)) in
      let one : (i j : ℕ) → i < n + 1 → j < n + 1 → f i ≡ f j → i ≡ j = λ i j h g e. once i j (omega arith) (omega arith) e in
      let a = found.0 in
      let inside : a < n + 1 = omega (arith, found.1) in
      let rest = pigeons m n (without f m n a low one inside found.2) (λ j h. below f m n a low one inside found.2 j (cases_eq j a) h) (λ i j h g e. apart f m n a low one inside found.2 i j (cases_eq i a) (cases_eq j a) h g e) in
      omega (arith, rest)
  | inr none ↦ omega (arith, pigeons m (suc n) f (λ j h. omega (arith, within j h, none j h)) once)
]

pub few_slots : (slots : List (Option SlotValue)) (cavity : List Slot) → ((j : ℕ) → j < length cavity → IsLive slots (slot_at cavity j)) → ((i j : ℕ) → i < length cavity → j < length cavity → slot_at cavity i ≡ slot_at cavity j → i ≡ j) → length cavity ≤ length slots
few_slots slots cavity live once = pigeons (length slots) (length cavity) (slot_at cavity) (λ j h. live_within (slot_at cavity j) (live j h)) once
  where
    live_within : (u : ℕ) → IsLive slots u → u < length slots
    live_within u is = grind (arith, get_or_past)
