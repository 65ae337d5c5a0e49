-- Fields of printed numbers, as the readers take them.
use Rattle.std.proofs.Common.{◌≡◌, ℕ, ◌+◌, ◌-◌, ◌<◌, ◌≤◌, ℤ, pos, negsuc, unsigned_abs, true, [], ◌∷◌, Option, Some, None, Result, Ok, Err, refl, ap, ◌∙◌, arith}
use Rattle.std.specs.Prelude.{IfSome, ◌==◌, if◌then◌else◌}
use Rattle.std.specs.Option.{ok_or}
use Rattle.std.specs.Fmt.{decimal, signed_decimal}
use Rattle.std.proofs.lemmas.Bool.{cond-true, le-leb, lt-ltb, eq-eqb}
use Rattle.tet_text.specs.declared.fault.TextFault.{TextFault}
use Rattle.tet_text.specs.Faults.{not_a_number, bad_index, bad_count}
use Rattle.tet_text.specs.Reading.{◌>>=◌, Fields, count_at, whole_at}
use Rattle.node_files.specs.Header.{count_within, count_or, is_count_in_range}
use Rattle.mesh_files.specs.ReadFields.{numbered, corner_place_at, is_listed}
use Rattle.mesh_files.specs.ReadRows.{neighbor_at, neighbor_place, marker_field}
use Rattle.mesh_files.specs.Texts.{neighbor}
use Rattle.run_laws.specs.Reread.{IsShortNumber}
use Rattle.run_laws.proofs.Decimals.{count_is, whole_is}

pub count_read : (line n : ℕ) (rest : Fields) → IsShortNumber n → count_at line (decimal n ∷ rest) ≡ Ok (n, rest)
count_read line n rest h = ap (λ (o : Option ℕ). ok_or o (not_a_number line) >>= λ k. Ok (k, rest)) (count_is n h)

pub whole_read : (line : ℕ) (z : ℤ) (rest : Fields) → IsShortNumber (unsigned_abs z) → whole_at line (signed_decimal z ∷ rest) ≡ Ok (z, rest)
whole_read line z rest h = ap (λ (o : Option ℤ). ok_or o (not_a_number line) >>= λ k. Ok (k, rest)) (whole_is z h)

pub within_read : (least most line n : ℕ) (rest : Fields) → IsShortNumber n → least ≤ n → n ≤ most → count_within least most line (decimal n ∷ rest) ≡ Ok (n, rest)
unfolding count_within
within_read least most line n rest h p q =
    ap (λ (r : Result (ℕ × Fields) TextFault). r >>= λ count. if is_count_in_range least most count.0 then Ok count else Err (bad_count line)) (count_read line n rest h)
    ∙ cond-true (is_count_in_range least most n) _ _ holds
  where
    holds : is_count_in_range least most n ≡ true
    holds = rw (le-leb least n p, le-leb n most q) refl

pub or_read : (absent least most line n : ℕ) (rest : Fields) → IsShortNumber n → least ≤ n → n ≤ most → count_or absent least most line (decimal n ∷ rest) ≡ Ok (n, rest)
unfolding count_or
or_read absent least most line n rest h p q = within_read least most line n rest h p q

pub numbered_read : (wanted line : ℕ) (rest : Fields) → IsShortNumber wanted → numbered wanted line (decimal wanted ∷ rest) ≡ Ok (tt, rest)
unfolding numbered
numbered_read wanted line rest h =
    ap (λ (r : Result (ℕ × Fields) TextFault). r >>= λ number. if number.0 == wanted then Ok (tt, number.1) else Err (bad_index line)) (count_read line wanted rest h)
    ∙ cond-true _ _ _ (eq-eqb wanted wanted refl)

pub corner_read : (first points line n : ℕ) (rest : Fields) → IsShortNumber (first + points) → n < points → corner_place_at (record { first = first; points = points }) line (decimal (n + first) ∷ rest) ≡ Ok (n, rest)
unfolding corner_place_at
corner_read first points line n rest h lt =
    ap (λ (r : Result (ℕ × Fields) TextFault). r >>= λ number. if is_listed (record { first = first; points = points }) number.0 then Ok (number.0 - first, number.1) else Err (bad_index line)) (count_read line (n + first) rest (short h lt))
    ∙ cond-true (is_listed (record { first = first; points = points }) (n + first)) _ _ holds
    ∙ ap (λ (k : ℕ). Ok (k, rest)) (let e : n + first - first ≡ n = omega arith in e)
  where
    short : IsShortNumber (first + points) → n < points → IsShortNumber (n + first)
    short h lt = omega arith

    from : first ≤ n + first
    from = omega arith

    below : n + first < first + points
    below = omega arith

    holds : is_listed (record { first = first; points = points }) (n + first) ≡ true
    holds = rw (le-leb first (n + first) from, lt-ltb (n + first) (first + points) below) refl

pub marker_read : (line : ℕ) (z : ℤ) → IsShortNumber (unsigned_abs z) → marker_field true line (signed_decimal z ∷ []) ≡ Ok (z, [])
unfolding marker_field
marker_read line z h = whole_read line z [] h

one_short : IsShortNumber 1
one_short = omega arith

pub neighbor_read : (first count line : ℕ) (o : Option ℕ) (rest : Fields) → IsShortNumber (first + count) → IfSome o (λ i. i < count) → neighbor_at first line (signed_decimal (neighbor first o) ∷ rest) ≡ Ok (o, rest)
unfolding neighbor_at
neighbor_read first count line None rest h lt =
    ap (λ (r : Result (ℤ × Fields) TextFault). r >>= λ number. ok_or (neighbor_place first number.0) (bad_index line) >>= λ place. Ok (place, number.1)) (whole_read line (negsuc 0) rest one_short)
neighbor_read first count line (Some i) rest h lt =
    ap (λ (r : Result (ℤ × Fields) TextFault). r >>= λ number. ok_or (neighbor_place first number.0) (bad_index line) >>= λ place. Ok (place, number.1)) (whole_read line (pos (i + first)) rest (short h lt))
    ∙ ap (λ (o : Option (Option ℕ)). ok_or o (bad_index line) >>= λ place. Ok (place, rest)) (cond-true _ _ _ (le-leb first (i + first) (omega arith)) ∙ ap (λ (k : ℕ). Some (Some k)) (let e : i + first - first ≡ i = omega arith in e))
  where
    short : IsShortNumber (first + count) → i < count → IsShortNumber (i + first)
    short h lt = omega arith
