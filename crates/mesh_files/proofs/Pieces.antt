-- Pieces that are copied to a place of a block.
use Rattle.std.proofs.Common.{◌≡◌, ◌++◌, ◌+◌, ◌-◌, ◌/◌, ◌%◌, ◌^◌, ◌<◌, ◌≤◌, ℕ, ℤ, pos, negsuc, List, [], ◌∷◌, length, take, drop, set, get_or, refl, sym, ap, subst, ◌∙◌, inl, inr, arith, int_le, unsigned_abs, true, append_assoc, eq-zero-or-pos}
use Rattle.std.specs.Prelude.{flat_map, HoldsAt}
use Rattle.std.proofs.lemmas.Grind.{flat_map-append}
use Rattle.std.proofs.lemmas.List.{append-nil, length-append, length-drop, length-take, take-take, take_at, drop_at, drop-drop, take-append-le, set_at, get_or_at, get_or_append_left, get_or-drop, drop-set-add, drop-set-lt, take_more, set-append_right, get_or-set_same, length-set}
use Rattle.std.proofs.Math.Seq.{take-append-add, take-set-lt, set-set}
use Rattle.std.proofs.lemmas.Bool.{false≢true}
use Rattle.std.proofs.lemmas.Fmt.{decimal_digit, decimal_step}
use Rattle.std.specs.Fmt.{decimal, signed_decimal}
use Rattle.mesh_files.specs.Fields.{AreFields, IsNumberField}
use Rattle.mesh_files.specs.declared.fields.Field.{Field}
use borrow.Rule.Slice.PartMut.{put_mid, post_of}

-- what is written at the end of a line, up to a place, is so long as it starts before that
pub written_length : (line old xs : List ℕ) (start end : ℕ) → length line ≡ length old → start ≤ end → end ≤ length old
    → drop start line ≡ xs ++ drop end old → length xs ≡ end - start
written_length line old xs start end same l h e = omega (arith, simp (length-append, length-drop) at (ap length e))

-- it is the first of each piece that starts with it and is long enough
pub written_first : (line old xs : List ℕ) (start end n : ℕ) → length line ≡ length old → start ≤ end → end ≤ length old
    → end - start ≤ n → drop start line ≡ xs ++ drop end old → take (end - start) (take n (drop start line)) ≡ xs
written_first line old xs start end n same l h long e =
    take-take (end - start) n (drop start line) long
    ∙ ap (take (end - start)) e
    ∙ take_at xs (drop end old) (end - start) (written_length line old xs start end same l h e)

-- what was after that place stays
pub written_rest : (line old xs : List ℕ) (start end : ℕ) → length line ≡ length old → start ≤ end → end ≤ length old
    → drop start line ≡ xs ++ drop end old → drop end line ≡ drop end old
written_rest line old xs start end same l h e =
    let on : start + (end - start) ≡ end = omega arith in
    ap (λ k. drop k line) (sym on)
    ∙ sym (drop-drop (end - start) start line)
    ∙ ap (drop (end - start)) e
    ∙ drop_at xs (drop end old) (end - start) (written_length line old xs start end same l h e)

-- the first bytes of a piece that is copied stand after what was before them
pub copied_first : (at k len : ℕ) (block piece : List ℕ) → at ≤ length block → len ≤ length piece
    → take (at + len) (put_mid at k block piece) ≡ take at block ++ take len piece
copied_first at k len block piece l h =
    let e : length (take at block) ≡ at = omega (arith, length-take at block) in
    ap (λ n. take (n + len) (put_mid at k block piece)) (sym e)
    ∙ take-append-add (take at block) (piece ++ post_of at k block) len
    ∙ ap (λ xs. take at block ++ xs) (take-append-le len piece (post_of at k block) h)

-- a digit that has one after it steps, and no other
pub last_digit : (n : ℕ) → n + 1 < 2 ^ 64
    → (front : List ℕ) × (decimal n ≡ front ++ ((48 + n % 10) ∷ [])) × (n % 10 < 9 → decimal (n + 1) ≡ front ++ ((48 + n % 10 + 1) ∷ []))
last_digit n h =
    elim (eq-zero-or-pos (10 - n)) [
      | inr l ↦
          let e : n % 10 ≡ n = omega arith in
          ([], rw (decimal_digit n (omega arith), e), λ small. rw (decimal_digit (n + 1) (omega arith), e) (ap (λ k. k ∷ []) (omega arith)))
      | inl g ↦ (
        decimal (n / 10),
        decimal_step n (omega arith) (omega arith),
        λ small.
            let a : (n + 1) / 10 ≡ n / 10 = omega arith in
            let b : (n + 1) % 10 ≡ n % 10 + 1 = omega arith in
            rw (decimal_step (n + 1) (omega arith) h, a, b) (ap (λ k. decimal (n / 10) ++ (k ∷ [])) (omega arith)),
      )
    ]

-- so the digits of a number become those of the next one
pub stepped : (digits : List ℕ) (start n m last : ℕ) → 24 ≤ length digits → start ≤ 24
    → drop start digits ≡ decimal n ++ drop 24 digits → get_or digits 23 0 ≡ last → last < 57 → n < m → m - n ≡ 1 → m < 2 ^ 64
    → drop start (set digits 23 (last + 1)) ≡ decimal m ++ drop 24 (set digits 23 (last + 1))
stepped digits start n m last room l e read small below one fits =
    let d = last_digit n (omega arith) in
    let x = 48 + n % 10 in
    let rest = drop 24 digits in
    let e' : drop start digits ≡ d.0 ++ (x ∷ rest) = e ∙ ap (λ s. s ++ rest) d.1 ∙ append_assoc d.0 (x ∷ []) rest in
    let long : length (d.0 ++ (x ∷ [])) ≡ 24 - start = written_length digits digits _ start 24 refl l room (e ∙ ap (λ s. s ++ rest) d.1) in
    let front : length d.0 + start ≡ 23 = omega (arith, length-append d.0 (x ∷ []), long) in
    let at : start + length d.0 ≡ 23 = omega arith in
    let same : last ≡ x = sym read ∙ ap (λ k. get_or digits k 0) (sym at) ∙ sym (get_or-drop start digits (length d.0) 0) ∙ ap (λ s. get_or s (length d.0) 0) e' ∙ get_or_at d.0 x rest 0 (length d.0) refl in
    let next : n + 1 ≡ m = omega arith in
    ap (λ k. drop start (set digits k (last + 1))) (sym at)
    ∙ drop-set-add start digits (length d.0) (last + 1)
    ∙ ap (λ s. set s (length d.0) (last + 1)) e'
    ∙ set_at d.0 x rest (last + 1) (length d.0) refl
    ∙ sym (append_assoc d.0 ((last + 1) ∷ []) rest)
    ∙ ap (λ s. s ++ rest) (ap (λ k. d.0 ++ ((k + 1) ∷ [])) same ∙ sym (d.2 (omega arith)) ∙ ap decimal next)
    ∙ ap (λ s. decimal m ++ s) (sym (drop-set-lt 24 digits 23 (last + 1) (omega arith)))

-- the same where the last digit stands beside the others
pub stepped_beside : (digits : List ℕ) (start n m last : ℕ) → 24 ≤ length digits → start ≤ 24
    → drop start (set digits 23 last) ≡ decimal n ++ drop 24 digits → last < 57 → n < m → m - n ≡ 1 → m < 2 ^ 64
    → drop start (set digits 23 (last + 1)) ≡ decimal m ++ drop 24 digits
stepped_beside digits start n m last room l e small below one fits =
    let had = set digits 23 last in
    let rest : drop 24 had ≡ drop 24 digits = drop-set-lt 24 digits 23 last (omega arith) in
    let same : set had 23 (last + 1) ≡ set digits 23 (last + 1) = set-set digits 23 last (last + 1) in
    let step = stepped had start n m last (omega (arith, room, length-set digits 23 last)) l (e ∙ ap (λ s. decimal n ++ s) (sym rest))
    (get_or-set_same digits 23 last 0 (omega arith)) small below one fits in
    ap (drop start) (sym same) ∙ step ∙ ap (λ s. decimal m ++ s) (ap (drop 24) same ∙ drop-set-lt 24 digits 23 (last + 1) (omega arith))

pub some_digit : (n : ℕ) → n < 2 ^ 64 → 0 < length (decimal n)
some_digit n h =
    elim (eq-zero-or-pos (10 - n)) [
      | inr l ↦ omega (arith, ap length (decimal_digit n (omega arith)))
      | inl g ↦ omega (arith, ap length (decimal_step n (omega arith) h), length-append (decimal (n / 10)) ((48 + n % 10) ∷ []))
    ]

-- the digits are put in a block, and then the last one
pub put_beside : (block now digits : List ℕ) (at start n last : ℕ) → 24 ≤ length digits → start < 24 → at ≤ length block
    → drop start (set digits 23 last) ≡ decimal n ++ drop 24 digits
    → take (at + (24 - start)) now ≡ take at block ++ take (24 - start) (take (start + 24 - start) (drop start digits))
    → take (at + (24 - start)) (set now (at + (24 - start) - 1) last) ≡ take at block ++ decimal n
put_beside block now digits at start n last room l within e is =
    let k = 24 - start in
    let whole = set digits 23 last in
    let long : length (decimal n) ≡ k = written_length whole digits (decimal n) start 24 (length-set digits 23 last) (omega arith) room e in
    let j = at + k - 1 - at in
    let on : start + j ≡ 23 = omega arith in
    let front = take at block in
    take-set-lt (at + k) now (at + k - 1) last (omega arith)
    ∙ ap (λ s. set s (at + k - 1) last) (is ∙ ap (λ s. front ++ s) (take-take k (start + 24 - start) (drop start digits) (omega arith)))
    ∙ set-append_right front (take k (drop start digits)) at (at + k - 1) last (omega (arith, length-take at block)) (omega arith)
    ∙ ap (λ s. front ++ s)
    (sym (take-set-lt k (drop start digits) j last (omega arith))
    ∙ ap (take k) (sym (drop-set-add start digits j last) ∙ ap (λ i. drop start (set digits i last)) on ∙ e)
    ∙ take_at (decimal n) (drop 24 digits) k long)

-- a number that is not negative
pub not_negative : (z : ℤ) → int_le (pos 0) z ≡ true → decimal (unsigned_abs z) ≡ signed_decimal z
not_negative (pos n) h = refl
not_negative (negsuc n) h = absurd (false≢true h)

-- ---- a line in a block, of which a part is in the text

abbrev pub fields_text : List ℤ → List ℕ
fields_text zs = flat_map (λ z. 32 ∷ signed_decimal z) zs

pub number_put : (text front new out number : List ℕ) → out ≡ text ++ front → new ≡ front ++ number → text ++ new ≡ out ++ (number ++ [])
number_put text front new out number e f =
    ap (λ s. text ++ s) f ∙ sym (append_assoc text front number) ∙ ap (λ s. s ++ number) (sym e) ∙ ap (λ s. out ++ s) (sym (append-nil number))

pub field_put : (text front new out number : List ℕ) (zs : List ℤ) (i : ℕ) (z : ℤ) → i < length zs → get_or zs i z ≡ z
    → new ≡ front ++ (32 ∷ signed_decimal z) → text ++ front ≡ out ++ (number ++ fields_text (take i zs))
    → text ++ new ≡ out ++ (number ++ fields_text (take (i + 1) zs))
field_put text front new out number zs i z l read f e =
    let field = 32 ∷ signed_decimal z in
    let before = fields_text (take i zs) in
    ap (λ s. text ++ s) f ∙ sym (append_assoc text front field) ∙ ap (λ s. s ++ field) e
    ∙ append_assoc out (number ++ before) field
    ∙ ap (λ s. out ++ s) (append_assoc number before field)
    ∙ ap (λ s. out ++ (number ++ (before ++ s))) (sym (append-nil field))
    ∙ ap (λ s. out ++ (number ++ s)) (sym (flat_map-append (λ y. 32 ∷ signed_decimal y) (take i zs) (z ∷ [])))
    ∙ ap (λ s. out ++ (number ++ fields_text s)) (ap (λ y. take i zs ++ (y ∷ [])) (sym read) ∙ sym (take_more zs i z l))

-- ---- fields at hand

pub fields_none : AreFields []
fields_none k h d = absurd (omega arith)

pub fields_more : (fields new : List Field) (n : ℕ) (f : Field) → length fields ≡ n → AreFields fields → IsNumberField n f → new ≡ fields ++ (f ∷ []) → AreFields new
fields_more fields new n f e are is added =
    subst AreFields (sym added)
    (λ k h d. elim (eq-zero-or-pos (n - k)) [
      | inl z ↦
          let at : k ≡ n = omega (arith, length-append fields (f ∷ [])) in
          subst (λ j. IsNumberField j (get_or (fields ++ (f ∷ [])) j d)) (sym at) (subst (IsNumberField n) (sym (get_or_at fields f [] d n e)) is)
      | inr g ↦ subst (IsNumberField k) (sym (get_or_append_left fields (f ∷ []) d k (omega arith))) (are k (omega arith) d)
    ])

pub field_at : (fields : List Field) (n : ℕ) (f : Field) → AreFields fields → n < length fields → HoldsAt (λ x. x ≡ f) fields n → IsNumberField n f
field_at fields n f are l at = subst (IsNumberField n) (at f) (are n l f)
