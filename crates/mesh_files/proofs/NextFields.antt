-- Fields of numbers one after another, which differ in their last digit.
use Rattle.std.proofs.Common.{◌≡◌, ◌++◌, ◌+◌, ◌-◌, ◌%◌, ◌^◌, ◌<◌, ◌≤◌, ℕ, [], ◌∷◌, length, take, slice_set, get_or, refl, sym, ap, subst, ◌∙◌, arith}
use Rattle.std.proofs.lemmas.List.{length-append, length-take-le, get_or_at, append_cancel_right, set-get_or}
use Rattle.std.proofs.lemmas.Grind.{take-set_at}
use Rattle.mesh_files.specs.Fields.{IsNumberField, with_last}
use Rattle.mesh_files.specs.declared.fields.Field.{Field}
use Rattle.mesh_files.proofs.Pieces.{last_digit}

-- a field has a space and a digit at least
pub field_long : (n : ℕ) (f : Field) → length f.text ≡ 8 → n + 1 < 2 ^ 64 → IsNumberField n f → 2 ≤ f.len
field_long n f room fits is =
    let d = last_digit n fits in
    omega (arith, length-take-le f.len f.text (omega (arith, is.0)), ap length is.1, ap length d.1, length-append d.0 ((48 + n % 10) ∷ []))

-- its text ends with the last digit
ends_with : (f : Field) (last : ℕ) → length f.text ≡ 8 → 1 ≤ f.len → f.len ≤ 8
    → take f.len (slice_set f.text (f.len - 1) last) ≡ take (f.len - 1) f.text ++ (last ∷ [])
ends_with f last room one short = take-set_at f.text (f.len - 1) f.len last (omega arith) (omega arith)

-- so the last digit is that of the number
digit_of : (n : ℕ) (f : Field) (last : ℕ) → length f.text ≡ 8 → 1 ≤ f.len → (fits : n + 1 < 2 ^ 64) → IsNumberField n (with_last f last)
    → (last ≡ 48 + n % 10) × (take (f.len - 1) f.text ≡ 32 ∷ (last_digit n fits).0)
digit_of n f last room one fits is =
    let d = last_digit n fits in
    let x = 48 + n % 10 in
    let front = take (f.len - 1) f.text in
    let e : front ++ (last ∷ []) ≡ (32 ∷ d.0) ++ (x ∷ []) = sym (ends_with f last room one is.0) ∙ is.1 ∙ ap (λ s. 32 ∷ s) d.1 in
    let long : length front ≡ length (32 ∷ d.0) = omega (arith, length-append front (last ∷ []), length-append (32 ∷ d.0) (x ∷ []), ap length e) in
    let same : last ≡ x = sym (get_or_at front last [] 0 (length front) refl) ∙ ap (λ s. get_or s (length front) 0) e ∙ get_or_at (32 ∷ d.0) x [] 0 (length front) (sym long) in
    (same, append_cancel_right front (32 ∷ d.0) (x ∷ []) (subst (λ y. front ++ (y ∷ []) ≡ (32 ∷ d.0) ++ (x ∷ [])) same e))

-- it is a digit
pub digit_small : (n : ℕ) (f : Field) (last : ℕ) → length f.text ≡ 8 → 1 ≤ f.len → n + 1 < 2 ^ 64 → IsNumberField n (with_last f last) → last ≤ 57
digit_small n f last room one fits is = omega (arith, (digit_of n f last room one fits is).0)

-- where it has one after it, the next number's field has that one
pub next_field : (n : ℕ) (f : Field) (last : ℕ) → length f.text ≡ 8 → 1 ≤ f.len → n + 1 < 2 ^ 64 → IsNumberField n (with_last f last) → last < 57
    → IsNumberField (n + 1) (with_last f (last + 1))
next_field n f last room one fits is small =
    let d = last_digit n fits in
    let e = digit_of n f last room one fits is in (
      is.0,
      ends_with f (last + 1) room one is.0
          ∙ ap (λ s. s ++ ((last + 1) ∷ [])) e.1
          ∙ ap (λ s. 32 ∷ s) (ap (λ k. d.0 ++ ((k + 1) ∷ [])) e.0 ∙ sym (d.2 (omega (arith, e.0)))),
    )

-- a field that is the number's with this last digit
abbrev pub IsNow : ℕ → Field → ℕ → Type 0
IsNow n f last = (length f.text ≡ 8) × (1 ≤ f.len) × IsNumberField n (with_last f last)

-- a field has its own last digit
pub own_last : (n : ℕ) (f : Field) → length f.text ≡ 8 → n + 1 < 2 ^ 64 → IsNumberField n f → IsNow n f (get_or f.text (f.len - 1) 0)
own_last n f room fits is =
    (room, omega (arith, field_long n f room fits is), subst (IsNumberField n) (sym (ap (λ s. record { text = s; len = f.len }) (set-get_or f.text (f.len - 1) 0))) is)
