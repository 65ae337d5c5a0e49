-- A text has no fault exactly where it is one of switches.
use Rattle.std.proofs.Common.{◌≡◌, ℕ, suc, ◌+◌, ◌≤◌, Bool, true, false, not, ◌&&◌, List, [], ◌∷◌, length, drop, Option, Some, None, ◌==◌, nat_lt, if◌then◌else◌, refl, sym, ap, subst, ◌∙◌, arith}
use Rattle.std.specs.Prelude.{is_some, unwrap_or, ◌↔◌}
use Rattle.std.specs.List.{prefix_len}
use Rattle.std.specs.Char.{is_ascii_digit}
use Rattle.std.proofs.lemmas.List.Sums.{prefix_len-le-length}
use Rattle.std.proofs.lemmas.Bool.{true≢false}
use Rattle.std.proofs.lemmas.Bool.Decides.{Decides-eqb, nat_tests}
use Rattle.command_words.specs.Grammar.{starts_with_digit, AreSwitches, nothing, a_letter, a_number, switches_fault}
use Rattle.command_words.specs.Meaning.{is_letter}
use Rattle.command_words.specs.Words.{digit_count, budget_at_front}

-- ---- how many digits stand at the front

abbrev passes : ℕ → Bool
passes byte = not (not (is_ascii_digit byte))

first_or_all : (n len : ℕ) → n ≤ len → unwrap_or (if nat_lt n len then Some n else None) len ≡ n
first_or_all n len h = at (nat_lt n len) (λ e. grind (arith, nat_tests))
  where
    at : (b : Bool) → (b ≡ false → n ≡ len) → unwrap_or (if b then Some n else None) len ≡ n
    at true k = refl
    at false k = sym (k refl)

digit_count-prefix_len : (text : List ℕ) → digit_count text ≡ prefix_len passes text
digit_count-prefix_len text = first_or_all (prefix_len passes text) (length text) (prefix_len-le-length passes text)

digit_count-digit : (byte : ℕ) (more : List ℕ) → is_ascii_digit byte ≡ true → digit_count (byte ∷ more) ≡ 1 + digit_count more
digit_count-digit byte more h =
    digit_count-prefix_len (byte ∷ more)
    ∙ ap (λ (b : Bool). if not (not b) then 1 + prefix_len passes more else 0) h
    ∙ ap (λ (n : ℕ). 1 + n) (sym (digit_count-prefix_len more))

digit_count-other : (byte : ℕ) (more : List ℕ) → is_ascii_digit byte ≡ false → digit_count (byte ∷ more) ≡ 0
digit_count-other byte more h =
    digit_count-prefix_len (byte ∷ more) ∙ ap (λ (b : Bool). if not (not b) then 1 + prefix_len passes more else 0) h

drop-one : (n : ℕ) (byte : ℕ) (more : List ℕ) → drop (1 + n) (byte ∷ more) ≡ drop n more
drop-one n byte more = let e : 1 + n ≡ suc n = omega arith in ap (λ (k : ℕ). drop k (byte ∷ more)) e

rest-digit : (byte : ℕ) (more : List ℕ) → is_ascii_digit byte ≡ true → drop (digit_count (byte ∷ more)) (byte ∷ more) ≡ drop (digit_count more) more
rest-digit byte more h = ap (λ (n : ℕ). drop n (byte ∷ more)) (digit_count-digit byte more h) ∙ drop-one (digit_count more) byte more

rest-other : (byte : ℕ) (more : List ℕ) → is_ascii_digit byte ≡ false → drop (digit_count (byte ∷ more)) (byte ∷ more) ≡ byte ∷ more
rest-other byte more h = ap (λ (n : ℕ). drop n (byte ∷ more)) (digit_count-other byte more h)

-- behind the digits stands no digit
no_digit : (text : List ℕ) → starts_with_digit (drop (digit_count text) text) ≡ false
no_digit [] = refl
no_digit (byte ∷ more) = at (is_ascii_digit byte) refl (no_digit more)
  where
    at : (b : Bool) → is_ascii_digit byte ≡ b → starts_with_digit (drop (digit_count more) more) ≡ false
        → starts_with_digit (drop (digit_count (byte ∷ more)) (byte ∷ more)) ≡ false
    at true h rest = ap (λ (xs : List ℕ). starts_with_digit xs) (rest-digit byte more h) ∙ rest
    at false h rest = ap (λ (xs : List ℕ). starts_with_digit xs) (rest-other byte more h) ∙ h

-- ---- a text with no fault is one of switches

abbrev rest : Bool → List ℕ → List ℕ
rest true text = drop (digit_count text) text
rest false text = text

step : (byte : ℕ) (more : List ℕ) (place : ℕ) (numbered digit is_s letter number : Bool)
    → is_ascii_digit byte ≡ digit → (byte == 83) ≡ is_s → is_letter byte ≡ letter → is_some (budget_at_front more) ≡ number
    → ((n : Bool) (p : ℕ) → switches_fault n p more ≡ None → AreSwitches (rest n more))
    → (if numbered && digit then switches_fault true (place + 1) more else
    if is_s then (if number then switches_fault true (place + 1) more else Some (place + 1)) else
    if letter then switches_fault false (place + 1) more else Some place) ≡ None
    → AreSwitches (rest numbered (byte ∷ more))
step byte more place true true is_s letter number d e l g are h = subst AreSwitches (sym (rest-digit byte more d)) (are true (place + 1) h)
step byte more place true false true letter true d e l g are h = subst AreSwitches (sym (rest-other byte more d)) (a_number byte more ((Decides-eqb byte 83).0 e) g (are true (place + 1) h))
step byte more place true false true letter false d e l g are h = cc
step byte more place true false false true number d e l g are h = subst AreSwitches (sym (rest-other byte more d)) (a_letter byte more l (are false (place + 1) h))
step byte more place true false false false number d e l g are h = cc
step byte more place false digit true letter true d e l g are h = a_number byte more ((Decides-eqb byte 83).0 e) g (are true (place + 1) h)
step byte more place false digit true letter false d e l g are h = cc
step byte more place false digit false true number d e l g are h = a_letter byte more l (are false (place + 1) h)
step byte more place false digit false false number d e l g are h = cc

without_fault : (text : List ℕ) (numbered : Bool) (place : ℕ) → switches_fault numbered place text ≡ None → AreSwitches (rest numbered text)
without_fault [] true place h = nothing
without_fault [] false place h = nothing
without_fault (byte ∷ more) numbered place h =
    step byte more place numbered (is_ascii_digit byte) (byte == 83) (is_letter byte) (is_some (budget_at_front more)) refl refl refl refl (without_fault more) h

-- ---- switches have no fault

no_s : (byte : ℕ) (b : Bool) → (byte == 83) ≡ b → is_letter byte ≡ true → b ≡ false
no_s byte true is letter = absurd (true≢false (sym letter ∙ ap is_letter ((Decides-eqb byte 83).0 is)))
no_s byte false is letter = refl

-- the digits of a number are passed over
past_digits : (text : List ℕ) → ((p : ℕ) → switches_fault true p (drop (digit_count text) text) ≡ None) → (place : ℕ) → switches_fault true place text ≡ None
past_digits [] none place = refl
past_digits (byte ∷ more) none place = at (is_ascii_digit byte) refl (past_digits more)
  where
    at : (b : Bool) → is_ascii_digit byte ≡ b → (((p : ℕ) → switches_fault true p (drop (digit_count more) more) ≡ None) → (q : ℕ) → switches_fault true q more ≡ None)
        → switches_fault true place (byte ∷ more) ≡ None
    at true h pass = rw h (pass (λ p. ap (λ (xs : List ℕ). switches_fault true p xs) (sym (rest-digit byte more h)) ∙ none p) (place + 1))
    at false h pass = ap (λ (xs : List ℕ). switches_fault true place xs) (sym (rest-other byte more h)) ∙ none place

letter_step : (passed is_s letter : Bool) (found other third fourth : Option ℕ) → passed ≡ false → is_s ≡ false → letter ≡ true → found ≡ None
    → (if passed then other else if is_s then third else if letter then found else fourth) ≡ None
letter_step passed is_s letter found other third fourth p s l none = rw p (rw s (rw l none))

number_step : (passed is_s number : Bool) (found other third fourth : Option ℕ) → passed ≡ false → is_s ≡ true → number ≡ true → found ≡ None
    → (if passed then other else if is_s then (if number then found else third) else fourth) ≡ None
number_step passed is_s number found other third fourth p s n none = rw p (rw s (rw n none))

no_fault : (text : List ℕ) → AreSwitches text → (numbered : Bool) (place : ℕ) → (numbered && starts_with_digit text) ≡ false → switches_fault numbered place text ≡ None
no_fault [] nothing numbered place h = refl
no_fault (byte ∷ more) (a_letter _ _ l are) numbered place h =
    letter_step (numbered && is_ascii_digit byte) (byte == 83) (is_letter byte) (switches_fault false (place + 1) more) _ _ _
    h (no_s byte (byte == 83) refl l) l (no_fault more are false (place + 1) refl)
no_fault (byte ∷ more) (a_number _ _ is number are) numbered place h =
    number_step (numbered && is_ascii_digit byte) (byte == 83) (is_some (budget_at_front more)) (switches_fault true (place + 1) more) _ _ _
    h ((Decides-eqb byte 83).1 is) number
    (past_digits more (λ p. no_fault (drop (digit_count more) more) are true p (no_digit more)) (place + 1))

pub switches_fault-None : (place : ℕ) (text : List ℕ) → (switches_fault false place text ≡ None) ↔ AreSwitches text
switches_fault-None place text = (without_fault text false place, λ are. no_fault text are false place refl)
