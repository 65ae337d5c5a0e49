use Rattle.std.proofs.Common.{◌≡◌, ◌≤◌, ◌<◌, ◌+◌, ◌-◌, ◌*◌, ◌^◌, ◌++◌, ◌∷◌, ℕ, List, Some, true, length, take, drop, get_or, ap, subst, sym, ◌∙◌, arith, length-drop}
use Rattle.std.specs.List.{list_all}
use Rattle.std.proofs.lemmas.List.{take_all, length-take}
use Rattle.tet_text.specs.Lines.{is_no_blank}
use Rattle.tet_text.specs.Numbers.{digits_from}
use Rattle.tet_text.specs.PlainTexts.{IsPlain}
use Rattle.tet_text.proofs.Numerals.{room_behind, le_room, tens_le}
use Rattle.tet_text.proofs.PlainTexts.{whole_plain, whole_no_blank, pointed_plain, pointed_no_blank, split_at_point}
use Rattle.tet_text.proofs.plain.plain_prefix.Goals as goal

pub returns-else-place-eq0-clause-plain : goal.returns-else-place-eq0-clause-plain
returns-else-place-eq0-clause-plain c =
    let k = c.leading_digits-whole.result.1 in
    let long = length-take k c.args.bytes.now in
    whole_plain (take k c.args.bytes.now) c.leading_digits-whole.result.0 (omega arith) (omega arith) c.leading_digits-whole.ensures.value

pub returns-else-place-eq0-clause-no_blank : goal.returns-else-place-eq0-clause-no_blank
returns-else-place-eq0-clause-no_blank c =
    whole_no_blank 0 c.leading_digits-whole.result.0
    (take c.leading_digits-whole.result.1 c.args.bytes.now) c.leading_digits-whole.ensures.value

small_in : (n k count : ℕ) → count ≤ 19 → (n + 1) * 10 ^ k ≤ (0 + 1) * 10 ^ count → n < 10 ^ 19
small_in n k count few room = omega (arith, le_room (n + 1) k, tens_le count 19 few)

pub returns-else-place-eq0-clause-small : goal.returns-else-place-eq0-clause-small
returns-else-place-eq0-clause-small c =
    let count = length c.args.bytes.now in
    small_in c.leading_digits-whole.result.0
    (count - c.leading_digits-whole.result.1) count (omega arith) c.leading_digits-whole.ensures.room

fraction_is : (u : List ℕ) (k : ℕ) → take (length u - (k + 1)) (drop (k + 1) u) ≡ drop (k + 1) u
fraction_is u k = take_all (length u - (k + 1)) (drop (k + 1) u) (omega (arith, length-drop (k + 1) u))

-- the room for the digits behind the point
fraction_room : (u : List ℕ) (k m : ℕ) → k < length u → length u ≤ 19 → (m + 1) * 10 ^ (length u - k) ≤ (0 + 1) * 10 ^ length u
    → (m + 1) * 10 ^ length (take (length u - (k + 1)) (drop (k + 1) u)) ≤ 10 ^ 19
fraction_room u k m within few room =
    let all = ap length (fraction_is u k) ∙ length-drop (k + 1) u in
    rw all (omega (arith, room_behind m k (length u) ((0 + 1) * 10 ^ length u) within room, tens_le (length u) 19 few))

pub leading_digits-number-requires : goal.leading_digits-number-requires
leading_digits-number-requires c =
    fraction_room c.args.bytes.now c.leading_digits-whole.result.1 c.leading_digits-whole.result.0
    (omega arith) (omega arith) c.leading_digits-whole.ensures.room

record IsPointed (u : List ℕ) (k j n : ℕ) : Type 0 where
  plain : IsPlain (take (k + 1 + j) u) n j
  no_blank : list_all is_no_blank (take (k + 1 + j) u) ≡ true

pointed : (u : List ℕ) (k j m n : ℕ) → k < length u → length u ≤ 19 → get_or u k 0 ≡ 46 → 0 < k + j → digits_from 0 (take k u) ≡ Some m
    → j ≤ length (take (length u - (k + 1)) (drop (k + 1) u))
    → digits_from m (take j (take (length u - (k + 1)) (drop (k + 1) u))) ≡ Some n → IsPointed u k j n
pointed u k j m n within few point some first inside second =
    let w = take k u in
    let f = take j (drop (k + 1) u) in
    let behind : digits_from m f ≡ Some n = ap (λ (x : List ℕ). digits_from m (take j x)) (sym (fraction_is u k)) ∙ second in
    let fraction = ap length (fraction_is u k) in
    let dropped = length-drop (k + 1) u in
    let w-long = length-take k u in
    let f-long = length-take j (drop (k + 1) u) in
    let long : length f ≡ j = omega arith in
    let split = sym (split_at_point u k j within point) in
    record {
      plain = subst (λ (v : List ℕ). IsPlain v n j) split
          (subst (IsPlain (w ++ 46 ∷ f) n) long (pointed_plain w f m n (omega arith) (omega arith) first behind));
      no_blank = subst (λ (v : List ℕ). list_all is_no_blank v ≡ true) split (pointed_no_blank w f m n first behind);
    }

pub returns-clause-plain : goal.returns-clause-plain
returns-clause-plain c =
    (pointed c.args.bytes.now c.leading_digits-whole.result.1 c.leading_digits-number.result.1
    c.leading_digits-whole.result.0 c.leading_digits-number.result.0
    (omega arith) (omega arith) c.if-bytes-place-ne46.false (omega arith)
    c.leading_digits-whole.ensures.value c.leading_digits-number.ensures.within
    c.leading_digits-number.ensures.value).plain

pub returns-clause-no_blank : goal.returns-clause-no_blank
returns-clause-no_blank c =
    (pointed c.args.bytes.now c.leading_digits-whole.result.1 c.leading_digits-number.result.1
    c.leading_digits-whole.result.0 c.leading_digits-number.result.0
    (omega arith) (omega arith) c.if-bytes-place-ne46.false (omega arith)
    c.leading_digits-whole.ensures.value c.leading_digits-number.ensures.within
    c.leading_digits-number.ensures.value).no_blank

pub returns-clause-small : goal.returns-clause-small
returns-clause-small c =
    let u = c.args.bytes.now in
    let k = c.leading_digits-whole.result.1 in
    let count = length (take (length u - (k + 1)) (drop (k + 1) u)) in
    let room = fraction_room u k c.leading_digits-whole.result.0 (omega arith) (omega arith) c.leading_digits-whole.ensures.room in
    omega (arith, le_room (c.leading_digits-number.result.0 + 1) (count - c.leading_digits-number.result.1))
