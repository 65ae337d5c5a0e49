-- The number that digits write, one digit after the other.
use Rattle.std.proofs.Common.{◌≡◌, ℕ, zero, suc, ◌+◌, ◌-◌, ◌*◌, ◌^◌, ◌<◌, ◌≤◌, true, false, List, [], ◌∷◌, length, get_or, take, drop, Option, Some, None, refl, sym, ap, ◌∙◌, subst, arith, inl, inr, ◌++◌}
use Rattle.std.specs.Prelude.{option_and_then, IfSome}
use Rattle.std.specs.Char.{is_ascii_digit, digit_value}
use Rattle.std.proofs.lemmas.List.{at_drop_more, at_drop_all, take_more}
use Rattle.std.proofs.lemmas.Bool.{and_parts, leb-true, cond-true, cond-false, le-ltb, lt-ltb, le-leb, lt-leb, cases_Bool}
use Rattle.std.proofs.lemmas.Nat.{pow-add}
use Rattle.std.proofs.Math.Nat.{pow-succ', mul_assoc, mul-le-mul_right, le-mul_of_pos_right}
use Rattle.tet_text.specs.Numbers.{are_digits, number_of, digits_from}

pub digit_bounds : (c : ℕ) → is_ascii_digit c ≡ true → (48 ≤ c) × (c ≤ 57)
digit_bounds c is = let both = and_parts _ _ is in (leb-true 48 c both.0, leb-true c 57 both.1)

pub digit_value_is : (c : ℕ) → 48 ≤ c → c ≤ 57 → digit_value c ≡ c - 48
digit_value_is c low high = cond-false _ _ _ (le-ltb c 48 low) ∙ cond-true _ _ _ (lt-ltb c 58 (omega arith))

from_digit : (n c : ℕ) (cs : List ℕ) → is_ascii_digit c ≡ true → digits_from n (c ∷ cs) ≡ digits_from (n * 10 + (c - 48)) cs
unfolding digits_from
from_digit n c cs is =
    let bounds = digit_bounds c is in
    rw (is, digit_value_is c bounds.0 bounds.1) refl

from_other : (n c : ℕ) (cs : List ℕ) → is_ascii_digit c ≡ false → digits_from n (c ∷ cs) ≡ None
unfolding digits_from
from_other n c cs is = rw is refl

pub digits_from_more : (n : ℕ) (text : List ℕ) (i : ℕ) → i < length text → is_ascii_digit (get_or text i 0) ≡ true → digits_from n (drop i text) ≡ digits_from (n * 10 + (get_or text i 0 - 48)) (drop (i + 1) text)
digits_from_more n text i lt is = at_drop_more (digits_from n) text i 0 lt ∙ from_digit n (get_or text i 0) (drop (i + 1) text) is

pub digits_from_stops : (n : ℕ) (text : List ℕ) (i : ℕ) → i < length text → is_ascii_digit (get_or text i 0) ≡ false → digits_from n (drop i text) ≡ None
digits_from_stops n text i lt is = at_drop_more (digits_from n) text i 0 lt ∙ from_other n (get_or text i 0) (drop (i + 1) text) is

pub digits_from_all : (n : ℕ) (text : List ℕ) (i : ℕ) → length text ≤ i → digits_from n (drop i text) ≡ Some n
unfolding digits_from
digits_from_all n text i le = at_drop_all (digits_from n) text i le

pub nothing_more : (n : ℕ) → digits_from n [] ≡ Some n
unfolding digits_from
nothing_more n = refl

nothing_first : (n : ℕ) (ys : List ℕ) → digits_from n ys ≡ option_and_then (λ m. digits_from m ys) (digits_from n [])
unfolding digits_from
nothing_first n ys = refl

-- digits that stand behind one another
pub digits_from_joined : (n : ℕ) (xs ys : List ℕ) → digits_from n (xs ++ ys) ≡ option_and_then (λ m. digits_from m ys) (digits_from n xs)
digits_from_joined n [] ys = nothing_first n ys
digits_from_joined n (x ∷ xs) ys =
    elim (cases_Bool (is_ascii_digit x)) [
      | inl is ↦ from_digit n x (xs ++ ys) is ∙ digits_from_joined (n * 10 + (x - 48)) xs ys ∙ ap (option_and_then (λ (m : ℕ). digits_from m ys)) (sym (from_digit n x xs is))
      | inr isnt ↦ from_other n x (xs ++ ys) isnt ∙ ap (option_and_then (λ (m : ℕ). digits_from m ys)) (sym (from_other n x xs isnt))
    ]

-- one more digit behind those that are read
pub digits_from_next : (before n : ℕ) (text : List ℕ) (i : ℕ) → i < length text → is_ascii_digit (get_or text i 0) ≡ true
    → digits_from before (take i text) ≡ Some n → digits_from before (take (i + 1) text) ≡ Some (n * 10 + (get_or text i 0 - 48))
digits_from_next before n text i lt is read =
    let c = get_or text i 0 in
    ap (digits_from before) (take_more text i 0 lt) ∙ digits_from_joined before (take i text) (c ∷ [])
    ∙ ap (option_and_then (λ (m : ℕ). digits_from m (c ∷ []))) read ∙ from_digit n c [] is ∙ nothing_more (n * 10 + (c - 48))

-- so many digits, and too few or too many
pub number_of_fits : (most : ℕ) (text : List ℕ) → 0 < length text → length text ≤ most → number_of most text ≡ digits_from 0 text
unfolding are_digits digits_from
number_of_fits most text some few = rw (lt-ltb 0 (length text) some, le-leb (length text) most few) refl

pub number_of_nothing : (most : ℕ) (text : List ℕ) → length text ≡ 0 → number_of most text ≡ None
unfolding are_digits
number_of_nothing most text none = rw (le-ltb 0 (length text) (omega arith)) refl

pub number_of_many : (most : ℕ) (text : List ℕ) → most < length text → number_of most text ≡ None
unfolding are_digits
number_of_many most text many = rw (lt-ltb 0 (length text) (omega arith), lt-leb (length text) most many) refl

-- one more digit takes no more room than there was
room_more : (n k d limit : ℕ) → d ≤ 9 → (n + 1) * 10 ^ suc k ≤ limit → (n * 10 + d + 1) * 10 ^ k ≤ limit
room_more n k d limit small room =
    let step : (n * 10 + d + 1) * 10 ^ k ≤ (n + 1) * 10 * 10 ^ k = mul-le-mul_right (10 ^ k) (omega arith) in
    let e : (n + 1) * 10 ^ suc k ≡ (n + 1) * 10 * 10 ^ k = ap (λ (p : ℕ). (n + 1) * p) (pow-succ' 10 k) ∙ sym (mul_assoc (n + 1) 10 (10 ^ k)) in
    omega arith

pub room_next : (n d i count limit : ℕ) → i < count → d ≤ 9 → (n + 1) * 10 ^ (count - i) ≤ limit
    → (n * 10 + d + 1) * 10 ^ (count - (i + 1)) ≤ limit
room_next n d i count limit lt small room =
    let left : count - i ≡ suc (count - (i + 1)) = omega arith in
    room_more n (count - (i + 1)) d limit small (subst (λ (k : ℕ). (n + 1) * 10 ^ k ≤ limit) left room)

pub pow10_pos : (k : ℕ) → 0 < 10 ^ k
pow10_pos zero = omega arith
pow10_pos (suc k) = let e = pow-succ' 10 k in let p = pow10_pos k in omega arith

pub le_room : (n k : ℕ) → n ≤ n * 10 ^ k
le_room n k = le-mul_of_pos_right n (pow10_pos k)

pub tens_le : (i j : ℕ) → i ≤ j → 10 ^ i ≤ 10 ^ j
tens_le i j le =
    let steps : j ≡ i + (j - i) = omega arith in
    let e : 10 ^ j ≡ 10 ^ i * 10 ^ (j - i) = ap (λ (k : ℕ). 10 ^ k) steps ∙ pow-add 10 i (j - i) in
    omega (arith, le_room (10 ^ i) (j - i))

pub digit_fits : (n d i count limit : ℕ) → i < count → d ≤ 9 → (n + 1) * 10 ^ (count - i) ≤ limit → n * 10 + d < limit
digit_fits n d i count limit lt small room =
    omega (arith, room_next n d i count limit lt small room, le_room (n * 10 + d + 1) (count - (i + 1)))

-- the digits behind a point need no more room than those from the point on
pub room_behind : (n i count limit : ℕ) → i < count → (n + 1) * 10 ^ (count - i) ≤ limit → (n + 1) * 10 ^ (count - (i + 1)) ≤ limit
room_behind n i count limit lt room =
    let step : (n + 1) * 10 ^ (count - (i + 1)) ≤ (n * 10 + 0 + 1) * 10 ^ (count - (i + 1)) =
    mul-le-mul_right (10 ^ (count - (i + 1))) (omega arith) in
    omega (arith, room_next n 0 i count limit lt (omega arith) room)

-- the room for further digits behind those of the first list
pub both_room : (n i j : ℕ) → n + 1 ≤ (0 + 1) * 10 ^ i → i + j ≤ 36 → (n + 1) * 10 ^ j ≤ 10 ^ 36
both_room n i j room few =
    let step : (n + 1) * 10 ^ j ≤ (0 + 1) * 10 ^ i * 10 ^ j = mul-le-mul_right (10 ^ j) room in
    let one : (0 + 1) * 10 ^ i ≡ 10 ^ i = omega arith in
    let e : (0 + 1) * 10 ^ i * 10 ^ j ≡ 10 ^ (i + j) = ap (λ (p : ℕ). p * 10 ^ j) one ∙ sym (pow-add 10 i j) in
    omega (arith, tens_le (i + j) 36 few)

pub small_within : (o : Option ℕ) (limit : ℕ) → IfSome o (λ n. n + 1 ≤ limit) → limit ≤ 10 ^ 36 → IfSome o (λ n. n < 10 ^ 36)
small_within None limit room le = tt
small_within (Some n) limit room le = omega arith
