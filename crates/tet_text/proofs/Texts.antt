-- The digits of a number as text, and the point among them.
use Rattle.std.proofs.Common.{◌≡◌, ◌≢◌, ℕ, zero, suc, ◌+◌, ◌-◌, ◌/◌, ◌%◌, ◌^◌, ◌<◌, ◌≤◌, eqb, List, [], ◌∷◌, ◌++◌, length, take, drop, set, map, replicate, refl, sym, ap, ◌∙◌, append_assoc, arith, inl, inr, length-append, subst, Result, Ok, Err}
use Rattle.std.specs.Prelude.{OnErr}
use Rattle.std.specs.Int.Digits.{digits_of}
use Rattle.std.proofs.lemmas.Bool.{cond-true, cond-false, eq-eqb, ne_eqb, cases_eq}
use Rattle.std.proofs.lemmas.List.{map-append, length-replicate}
use Rattle.std.proofs.lemmas.Grind.{drop-set_at}
use Rattle.std.proofs.lemmas.Int.Digits.{digits_of_step}
use Rattle.std.proofs.lemmas.Nat.{div_below}
use Rattle.std.proofs.Math.ListN.{drop_of_length-le}
use Rattle.std.proofs.Math.Nat.{pow-suc}
use Rattle.tet_text.specs.Printing.{glyphs, numeral, with_decimal_point}

pub numeral_zero : (n : ℕ) → n ≡ 0 → numeral n ≡ 48 ∷ []
unfolding numeral
numeral_zero n none = cond-true (eqb n 0) (48 ∷ []) (glyphs n) (eq-eqb n 0 none)

pub numeral_glyphs : (n : ℕ) → n ≢ 0 → numeral n ≡ glyphs n
unfolding numeral
numeral_glyphs n some = cond-false (eqb n 0) (48 ∷ []) (glyphs n) (ne_eqb n 0 some)

pub glyphs_step : (n : ℕ) → 0 < n → glyphs n ≡ glyphs (n / 10) ++ (48 + n % 10) ∷ []
glyphs_step n some = ap (map (λ digit. 48 + digit)) (digits_of_step 10 n (omega arith) some) ∙ map-append (λ digit. 48 + digit) (digits_of 10 (n / 10)) (n % 10 ∷ [])

pub numeral_some : (n : ℕ) → 0 < length (numeral n)
numeral_some n =
    elim (cases_eq n 0) [
      | inl none ↦ rw (numeral_zero n none) (omega arith)
      | inr some ↦
          let e = ap length (numeral_glyphs n some ∙ glyphs_step n (omega arith)) in
          omega (arith, length-append (glyphs (n / 10)) ((48 + n % 10) ∷ []))
    ]

-- one more digit before those that are written
pub digit_before : (xs : List ℕ) (n at : ℕ) → 0 < n → 0 < at → at ≤ length xs → glyphs (n / 10) ++ drop (at - 1) (set xs (at - 1) (48 + n % 10)) ≡ glyphs n ++ drop at xs
digit_before xs n at some room within =
    let e : drop (at - 1) (set xs (at - 1) (48 + n % 10)) ≡ (48 + n % 10) ∷ drop at xs = drop-set_at xs (at - 1) (at - 1) (48 + n % 10) refl (omega arith) ∙ ap (λ (k : ℕ). (48 + n % 10) ∷ drop k xs) (omega arith) in
    ap (λ (t : List ℕ). glyphs (n / 10) ++ t) e ∙ sym (append_assoc (glyphs (n / 10)) ((48 + n % 10) ∷ []) (drop at xs)) ∙ ap (λ (t : List ℕ). t ++ drop at xs) (sym (glyphs_step n some))

pub digits_left : (n at : ℕ) → 0 < n → n < 10 ^ at → (0 < at) × (n / 10 < 10 ^ (at - 1))
digits_left n zero some small = absurd (omega arith)
digits_left n (suc k) some small =
    let e = pow-suc 10 k in
    let lt : n / 10 < 10 ^ k = div_below n 10 (10 ^ k) (omega arith) (omega arith) in
    let one : suc k - 1 ≡ k = omega arith in
    (omega arith, rw one lt)

pointed : (body : List ℕ) (scale : ℕ) → 0 < scale → length body ≡ scale → with_decimal_point scale (48 ∷ body) ≡ 48 ∷ 46 ∷ body
pointed body scale some e =
    let one : suc (length body) - scale ≡ 1 = omega arith in
    rw (one, ne_eqb scale 0 (λ z. omega arith)) refl

-- a number below one: a zero before the point
pub fraction_text : (out digits : List ℕ) (scale : ℕ) → 0 < length digits → length digits ≤ scale → (out ++ 48 ∷ 46 ∷ replicate (scale - length digits) 48) ++ digits ≡ out ++ with_decimal_point scale (replicate (scale + 1 - length digits) 48 ++ digits)
fraction_text out digits scale some few =
    let k = scale - length digits in
    let body = replicate k 48 ++ digits in
    let more : scale + 1 - length digits ≡ suc k = omega arith in
    let long : length body ≡ scale = length-append (replicate k 48) digits ∙ ap (λ (n : ℕ). n + length digits) (length-replicate k 48) ∙ omega arith in
    append_assoc out (48 ∷ 46 ∷ replicate k 48) digits ∙ ap (λ (t : List ℕ). out ++ t) (sym (pointed body scale (omega arith) long)) ∙ ap (λ (n : ℕ). out ++ with_decimal_point scale (replicate n 48 ++ digits)) (sym more)

-- where no zero is in front
pub no_zeros : (digits : List ℕ) (scale : ℕ) → scale < length digits → replicate (scale + 1 - length digits) 48 ++ digits ≡ digits
no_zeros digits scale many = let none : scale + 1 - length digits ≡ 0 = omega arith in rw none refl

-- what was in front of a part stays in front
pub still_front : (old more new : List ℕ) → take (length (old ++ more)) new ≡ old ++ more → take (length old) new ≡ old
still_front [] more new e = refl
still_front (x ∷ old) more [] e = absurd cc
still_front (x ∷ old) more (y ∷ new) e =
    let first : y ≡ x = cc in
    let rest : take (length (old ++ more)) new ≡ old ++ more = cc in
    let whole = still_front old more new rest in
    cc

pub last_only : (xs : List ℕ) (k x : ℕ) → length xs ≡ k + 1 → drop k (set xs k x) ≡ x ∷ []
last_only xs k x e = drop-set_at xs k k x refl (omega arith) ∙ ap (λ (t : List ℕ). x ∷ t) (drop_of_length-le xs {i = k + 1} (omega arith))

pub front_on_err : {T E : Type 0} (r : Result T E) (old more mid new : List ℕ) → mid ≡ old ++ more → OnErr r (take (length mid) new ≡ mid) → OnErr r (take (length old) new ≡ old)
front_on_err (Ok x) old more mid new e kept = tt
front_on_err (Err x) old more mid new e kept = still_front old more new (subst (λ (m : List ℕ). take (length m) new ≡ m) e kept)
