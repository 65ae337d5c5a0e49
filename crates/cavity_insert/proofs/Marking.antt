-- The marks of a cavity as slots come and go.
use Rattle.std.proofs.Common.{◌≡◌, ◌≢◌, ◌⊎◌, inl, inr, ℕ, ◌+◌, ◌<◌, ◌≤◌, Bool, true, false, List, [], ◌∷◌, ◌++◌, length, set, take, refl, sym, ap, subst, ◌∙◌, arith, true≢false}
use Rattle.std.proofs.lemmas.Bool.{cases_eq, cases_lt}
use Rattle.std.proofs.lemmas.List.{get_or-set_same, get_or-set_other, get_or-take, get_or_past, length-set, length-take-le, length_push}
use Rattle.mesh_arena.specs.declared.slot.Slot.{Slot}
use Rattle.mesh_arena.specs.Cavity.{slot_at, IsInCavitySlots}
use Rattle.cavity_insert.specs.Marks.{AreMarksOf}
use Rattle.cavity_insert.proofs.Growth.{slot_push, slot_last, step_cases}
use Rattle.geo_laws.specs.Marks.{is_marked}

-- the mark of another slot is set
mark_other : (marks : List Bool) (at u : ℕ) (m : Bool) → u ≢ at → is_marked (set marks at m) u ≡ is_marked marks u
mark_other marks at u m other = get_or-set_other marks at u m false other

mark_same : (marks : List Bool) (at : ℕ) (m : Bool) → at < length marks → is_marked (set marks at m) at ≡ m
mark_same marks at m h = get_or-set_same marks at m false h

-- ---- a slot comes

pub none_marked : AreMarksOf [] []
none_marked = record { only = λ u e. absurd (true≢false (sym e)); all = λ u h. absurd (let k = h.inside in omega arith) }

pub same_marks : (cavity : List Slot) (marks now : List Bool) → ((u : ℕ) → is_marked now u ≡ is_marked marks u) → AreMarksOf cavity marks → AreMarksOf cavity now
same_marks cavity marks now same was = record { only = λ u e. was.only u (sym (same u) ∙ e); all = λ u h. same u ∙ was.all u h }

pub one_marked : (cavity : List Slot) (marks : List Bool) (s : Slot) → s.index < length marks → AreMarksOf cavity marks → AreMarksOf (cavity ++ s ∷ []) (set marks s.index true)
one_marked cavity marks s inside was = record { only = λ u e. only u e (cases_eq u s.index); all = λ u h. all u h (step_cases h.place (length cavity) (let k = h.inside in omega (arith, length_push cavity s))) }
  where
    only : (u : ℕ) → is_marked (set marks s.index true) u ≡ true → (u ≡ s.index) ⊎ (u ≢ s.index) → IsInCavitySlots (cavity ++ s ∷ []) u
    only u e (inl same) = record { place = length cavity; inside = omega (arith, length_push cavity s); is = slot_last cavity s ∙ sym same }
    only u e (inr other) =
        let old = was.only u (sym (mark_other marks s.index u true other) ∙ e) in
        record { place = old.place; inside = omega (arith, old.inside, length_push cavity s); is = slot_push cavity s old.place old.inside ∙ old.is }

    all : (u : ℕ) (h : IsInCavitySlots (cavity ++ s ∷ []) u) → (h.place < length cavity) ⊎ (h.place ≡ length cavity) → is_marked (set marks s.index true) u ≡ true
    all u h (inr last) =
        let here : s.index ≡ u = sym (slot_last cavity s) ∙ ap (slot_at (cavity ++ s ∷ [])) (sym last) ∙ h.is in
        subst (λ v. is_marked (set marks s.index true) v ≡ true) here (mark_same marks s.index true inside)
    all u h (inl less) = by (cases_eq u s.index)
      where
        by : (u ≡ s.index) ⊎ (u ≢ s.index) → is_marked (set marks s.index true) u ≡ true
        by (inl same) = ap (is_marked (set marks s.index true)) same ∙ mark_same marks s.index true inside
        by (inr other) = mark_other marks s.index u true other ∙ was.all u (record { place = h.place; inside = less; is = sym (slot_push cavity s h.place less) ∙ h.is })

-- ---- all slots go

-- no other slot than those left is marked, and these have a mark
pub record Clearing (left : List Slot) (marks : List Bool) : Type 0 where
  pub only : (u : ℕ) → is_marked marks u ≡ true → IsInCavitySlots left u
  pub inside : (j : ℕ) → j < length left → slot_at left j < length marks

pub Clearing-start : (cavity : List Slot) (marks : List Bool) → AreMarksOf cavity marks → Clearing cavity marks
Clearing-start cavity marks was = record { only = was.only; inside = λ j h. by j h (cases_lt (slot_at cavity j) (length marks)) }
  where
    by : (j : ℕ) → j < length cavity → (slot_at cavity j < length marks) ⊎ (length marks ≤ slot_at cavity j) → slot_at cavity j < length marks
    by j h (inl less) = less
    by j h (inr past) = absurd (true≢false (sym (was.all (slot_at cavity j) (record { place = j; inside = h; is = refl })) ∙ get_or_past marks (slot_at cavity j) false past))

pub Clearing-more : (left : List Slot) (marks : List Bool) (n at : ℕ) → Clearing left marks → length left ≡ n + 1 → slot_at left n ≡ at → Clearing (take n left) (set marks at false)
Clearing-more left marks n at was long is = record { only = λ u e. only u e (cases_eq u at); inside = λ j h. within j (omega (arith, h, count)) }
  where
    count : length (take n left) ≡ n
    count = length-take-le n left (omega arith)

    kept : (j : ℕ) → j < n → slot_at (take n left) j ≡ slot_at left j
    kept j h = ap (λ (x : Slot). x.index) (get_or-take n left j (record { index = 0 }) h)

    marked : at < length marks
    marked = subst (λ u. u < length marks) is (was.inside n (omega arith))

    within : (j : ℕ) → j < n → slot_at (take n left) j < length (set marks at false)
    within j h = omega (arith, kept j h, was.inside j (omega arith), length-set marks at false)

    only : (u : ℕ) → is_marked (set marks at false) u ≡ true → (u ≡ at) ⊎ (u ≢ at) → IsInCavitySlots (take n left) u
    only u e (inl same) = absurd (true≢false (sym e ∙ ap (is_marked (set marks at false)) same ∙ mark_same marks at false marked))
    only u e (inr other) = by old (step_cases old.place n (omega (arith, old.inside)))
      where
        old : IsInCavitySlots left u
        old = was.only u (sym (mark_other marks at u false other) ∙ e)

        by : (h : IsInCavitySlots left u) → (h.place < n) ⊎ (h.place ≡ n) → IsInCavitySlots (take n left) u
        by h (inl less) = record { place = h.place; inside = omega (arith, count); is = kept h.place less ∙ h.is }
        by h (inr last) = absurd (other (sym h.is ∙ ap (slot_at left) last ∙ is))

pub Clearing-done : (left : List Slot) (marks : List Bool) → Clearing left marks → length left ≡ 0 → AreMarksOf left marks
Clearing-done left marks was none = record { only = was.only; all = λ u h. absurd (let k = h.inside in omega arith) }

-- ---- a slot is looked up

pub unmarked_past : (marks : List Bool) (u : ℕ) → length marks ≤ u → is_marked marks u ≡ false
unmarked_past marks u past = get_or_past marks u false past
