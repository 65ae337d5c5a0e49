use Rattle.std.proofs.Common.{◌≡◌, ℕ, ◌-◌, Bool, true, false, if◌then◌else◌, List, length, take, drop, ◌∙◌, sym, ap, refl, arith}
use Rattle.std.proofs.lemmas.Grind.{common_steps}
use Rattle.command_words.specs.Grammar.{number_fault}
use Rattle.command_words.proofs.first_fault.long_fault.Goals as goal

-- what stands from a place on is whole
rest-drop : (n : ℕ) (xs : List ℕ) → take (length xs - n) (drop n xs) ≡ drop n xs
rest-drop n xs = grind (arith, common_steps)

-- the third choice, where the first two do not hold
third : {A : Type 0} (a b c : Bool) (x y z w : A) → a ≡ false → b ≡ false → c ≡ true → (if a then x else if b then y else if c then z else w) ≡ z
third a b c x y z w = λ p q r. rw p (rw q (rw r refl))

pub returns-then-starts_with-3 : goal.returns-then-starts_with-3
returns-then-starts_with-3 c =
    c.number_fault-then-starts_with-3.ensures
    ∙ ap (number_fault 10 10000) (rest-drop 9 c.args.word.now)
    ∙ sym (third _ _ _ _ _ _ _ (sym c.if-starts_with.ensures.value) (sym c.if-starts_with-2.ensures.value) (sym c.if-starts_with-3.ensures.value))
