-- A split list, part by part: the first line and the lines after it, the first field and the fields after it.
use Rattle.std.proofs.Common.{◌≡◌, ℕ, suc, ◌<◌, ◌≤◌, ◌+◌, Bool, true, false, ltb, eqb, List, [], ◌∷◌, length, drop, refl, sym, ap, ◌∙◌, inl, inr, arith}
use Rattle.std.specs.Prelude.{filter}
use Rattle.std.specs.List.{slice_split, onto_first, position_or_len, before_first, after_first}
use Rattle.std.proofs.lemmas.Bool.{cases_lt, cases_Bool, cond-true, cond-false, lt-ltb, ne_eqb, eq-eqb, eqb-true, eqb-false}
use Rattle.std.proofs.lemmas.List.{take_all, length-take, length-drop, nil_from_length}
use Rattle.std.proofs.Math.ListN.{drop_of_length-le}
use Rattle.std.proofs.lemmas.List.Sums.{fails_before_first}
use Rattle.std.proofs.lemmas.List.Splits.{slice_split_first, slice_split_none, slice_split-cons_yes, slice_split-cons_no}
use Rattle.tet_text.specs.Lines.{is_line_feed, is_blank, is_no_blank, without_empty_last, lines_of, fields_of, without_blanks}

-- where fails element passes, all stands before the first that does, and nothing after it
none_passes : (p : ℕ → Bool) (xs : List ℕ) → length xs ≤ position_or_len p xs → slice_split p xs ≡ xs ∷ []
none_passes p xs le = slice_split_none p xs (λ k d lt. fails_before_first p xs k d (omega arith))

all_before : (p : ℕ → Bool) (xs : List ℕ) → length xs ≤ position_or_len p xs → before_first p xs ≡ xs
all_before p xs le = take_all (position_or_len p xs) xs le

none_after : (p : ℕ → Bool) (xs : List ℕ) → length xs ≤ position_or_len p xs → after_first p xs ≡ []
none_after p xs le = drop_of_length-le xs {i = position_or_len p xs + 1} (omega arith)

-- a split has a first part
pub split_is_cons : (p : ℕ → Bool) (xs : List ℕ) → (part : List ℕ) × (parts : List (List ℕ)) × (slice_split p xs ≡ part ∷ parts)
split_is_cons p [] = ([], [], refl)
split_is_cons p (x ∷ xs) =
    let rest = split_is_cons p xs in
    elim (cases_Bool (p x)) [
      | inl passes ↦ ([], slice_split p xs, cond-true (p x) _ _ passes)
      | inr fails ↦ (x ∷ rest.0, rest.1, cond-false (p x) _ _ fails ∙ ap (onto_first x) rest.2)
    ]

keeps_first : (part : List ℕ) (parts : List (List ℕ)) (next : List ℕ) (more : List (List ℕ)) → parts ≡ next ∷ more → without_empty_last (part ∷ parts) ≡ part ∷ without_empty_last parts
keeps_first part parts next more e = rw e refl

only_part : (part : List ℕ) → 0 < length part → without_empty_last (part ∷ []) ≡ part ∷ []
only_part part some = cond-false (eqb (length part) 0) [] (part ∷ []) (ne_eqb _ _ (λ e. omega arith))

pub lines_of-nil : lines_of [] ≡ []
unfolding lines_of
lines_of-nil = refl

-- the first line, and the lines of what stands after its line feed
pub lines_of-cons : (bytes : List ℕ) → 0 < length bytes → lines_of bytes ≡ before_first is_line_feed bytes ∷ lines_of (after_first is_line_feed bytes)
unfolding lines_of
lines_of-cons bytes some =
    elim (cases_lt (position_or_len is_line_feed bytes) (length bytes)) [
      | inl lt ↦
          let rest = split_is_cons is_line_feed (after_first is_line_feed bytes) in
          rw (slice_split_first is_line_feed bytes 0 lt) (keeps_first _ _ rest.0 rest.1 rest.2)
      | inr le ↦
          rw (none_passes is_line_feed bytes le, only_part bytes some, all_before is_line_feed bytes le, none_after is_line_feed bytes le) refl
    ]

-- what stands after the first line is shorter
pub length-after_first : (p : ℕ → Bool) (xs : List ℕ) → 0 < length xs → length (after_first p xs) + 1 ≤ length xs
length-after_first p xs some = omega (arith, length-drop (position_or_len p xs + 1) xs)

pub fields_of-nil : fields_of [] ≡ []
unfolding fields_of
fields_of-nil = refl

drop_one_more : (n x : ℕ) (xs : List ℕ) → drop (1 + n) (x ∷ xs) ≡ drop n xs
drop_one_more n x xs = let e : 1 + n ≡ suc n = omega arith in rw e refl

-- blanks in front
pub skips_blank : (x : ℕ) (xs : List ℕ) → is_blank x ≡ true → without_blanks (x ∷ xs) ≡ without_blanks xs
skips_blank x xs passes = rw passes (drop_one_more (position_or_len is_no_blank xs) x xs)

keeps_others : (x : ℕ) (xs : List ℕ) → is_blank x ≡ false → without_blanks (x ∷ xs) ≡ x ∷ xs
keeps_others x xs fails = rw fails refl

fields_of_blank : (x : ℕ) (xs : List ℕ) → is_blank x ≡ true → fields_of (x ∷ xs) ≡ fields_of xs
unfolding fields_of
fields_of_blank x xs passes = rw passes refl

pub fields_of-without_blanks : (xs : List ℕ) → fields_of (without_blanks xs) ≡ fields_of xs
fields_of-without_blanks [] = refl
fields_of-without_blanks (x ∷ xs) =
    elim (cases_Bool (is_blank x)) [
      | inl passes ↦ ap fields_of (skips_blank x xs passes) ∙ fields_of-without_blanks xs ∙ sym (fields_of_blank x xs passes)
      | inr fails ↦ ap fields_of (keeps_others x xs fails)
    ]

pub without_blanks_twice : (xs : List ℕ) → without_blanks (without_blanks xs) ≡ without_blanks xs
without_blanks_twice [] = refl
without_blanks_twice (x ∷ xs) =
    elim (cases_Bool (is_blank x)) [
      | inl passes ↦ ap without_blanks (skips_blank x xs passes) ∙ without_blanks_twice xs ∙ sym (skips_blank x xs passes)
      | inr fails ↦ ap without_blanks (keeps_others x xs fails)
    ]

length-without_blanks : (xs : List ℕ) → length (without_blanks xs) ≤ length xs
length-without_blanks xs = omega (arith, length-drop (position_or_len is_no_blank xs) xs)

-- with no blank in front, the first field has a byte
first_field_some : (xs : List ℕ) → 0 < length xs → without_blanks xs ≡ xs → 0 < position_or_len is_blank xs
first_field_some [] some front = absurd (omega arith)
first_field_some (x ∷ xs) some front =
    elim (cases_Bool (is_blank x)) [
      | inl passes ↦ absurd (omega (arith, length-without_blanks xs, ap length (sym (skips_blank x xs passes) ∙ front)))
      | inr fails ↦ rw fails (omega arith)
    ]

keeps_part : (part : List ℕ) (parts : List (List ℕ)) → 0 < length part → filter (λ x. ltb 0 (length x)) (part ∷ parts) ≡ part ∷ filter (λ x. ltb 0 (length x)) parts
keeps_part part parts some = cond-true (ltb 0 (length part)) _ _ (lt-ltb _ _ some)

-- the first field, and the fields of what stands after the blank behind it
pub fields_of-cons : (xs : List ℕ) → 0 < length xs → without_blanks xs ≡ xs → fields_of xs ≡ before_first is_blank xs ∷ fields_of (after_first is_blank xs)
unfolding fields_of
fields_of-cons xs some front =
    let long : 0 < length (before_first is_blank xs) = omega (arith, length-take (position_or_len is_blank xs) xs, first_field_some xs some front) in
    elim (cases_lt (position_or_len is_blank xs) (length xs)) [
      | inl lt ↦ rw (slice_split_first is_blank xs 0 lt) (keeps_part (before_first is_blank xs) (slice_split is_blank (after_first is_blank xs)) long)
      | inr le ↦ rw (none_passes is_blank xs le, keeps_part xs [] some, all_before is_blank xs le, none_after is_blank xs le) refl
    ]

-- whether there is a field
pub has_fields : (xs : List ℕ) → without_blanks xs ≡ xs → eqb (length xs) 0 ≡ eqb (length (fields_of xs)) 0
has_fields xs front =
    elim (cases_lt 0 (length xs)) [
      | inl some ↦
          let e = ap length (fields_of-cons xs some front) in
          ne_eqb (length xs) 0 (λ z. omega arith) ∙ sym (ne_eqb (length (fields_of xs)) 0 (λ z. omega arith))
      | inr none ↦
          let e = ap length (ap fields_of (nil_from_length xs (omega arith)) ∙ fields_of-nil) in
          eq-eqb (length xs) 0 (omega arith) ∙ sym (eq-eqb (length (fields_of xs)) 0 (omega arith))
    ]

pub no_fields : (xs : List ℕ) → eqb (length xs) 0 ≡ true → fields_of xs ≡ []
no_fields xs none = ap fields_of (nil_from_length xs (eqb-true (length xs) 0 none)) ∙ fields_of-nil

-- the first field, and the fields from the next one on
pub next_fields_are : (xs : List ℕ) → eqb (length xs) 0 ≡ false → without_blanks xs ≡ xs → fields_of xs ≡ before_first is_blank xs ∷ fields_of (without_blanks (after_first is_blank xs))
next_fields_are xs some front =
    let e = eqb-false (length xs) 0 some in
    fields_of-cons xs (omega arith) front ∙ ap (λ (ys : List (List ℕ)). before_first is_blank xs ∷ ys) (sym (fields_of-without_blanks (after_first is_blank xs)))

-- one more byte makes at most one more line
longer_first : (x : ℕ) (parts : List (List ℕ)) → length (without_empty_last (onto_first x parts)) ≤ length (without_empty_last parts) + 1
longer_first x [] = let e : length (without_empty_last ((x ∷ []) ∷ [])) ≡ 1 = ap length (only_part (x ∷ []) (omega arith)) in omega arith
longer_first x (part ∷ []) = let e : length (without_empty_last ((x ∷ part) ∷ [])) ≡ 1 = ap length (only_part (x ∷ part) (omega arith)) in omega arith
longer_first x (part ∷ next ∷ more) = omega arith

one_more_byte : (x : ℕ) (xs : List ℕ) → length (lines_of (x ∷ xs)) ≤ length (lines_of xs) + 1
unfolding lines_of
one_more_byte x xs =
    elim (cases_Bool (is_line_feed x)) [
      | inl passes ↦
          let rest = split_is_cons is_line_feed xs in
          let e = ap length (ap without_empty_last (slice_split-cons_yes is_line_feed x xs passes) ∙ keeps_first [] (slice_split is_line_feed xs) rest.0 rest.1 rest.2) in
          omega arith
      | inr fails ↦ rw (slice_split-cons_no is_line_feed x xs fails) (longer_first x (slice_split is_line_feed xs))
    ]

-- each line has a byte
pub length-lines_of : (xs : List ℕ) → length (lines_of xs) ≤ length xs
length-lines_of [] = rw lines_of-nil (omega arith)
length-lines_of (x ∷ xs) = omega (arith, one_more_byte x xs, length-lines_of xs)
