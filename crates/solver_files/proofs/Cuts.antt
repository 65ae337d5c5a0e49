-- Where a text is cut: at the end of a number, of a line, of a list of lines.
use Rattle.std.proofs.Common.{◌≡◌, ◌≢◌, ◌⊎◌, inl, inr, ◌++◌, ◌+◌, ◌^◌, ◌<◌, ℕ, ℤ, pos, negsuc, List, [], ◌∷◌, get_or, length, map, refl, sym, ap, subst, ◌∙◌, append_assoc, arith}
use Rattle.std.specs.Prelude.{flat_map, unsigned_abs, All, AllPairs, slice_index}
use Rattle.std.specs.Fmt.{decimal, signed_decimal}
use Rattle.std.specs.Int.Signed.{mag}
use Rattle.std.proofs.Math.Nat.{suc_inj}
use Rattle.std.proofs.lemmas.Bool.{cases_order}
use Rattle.std.proofs.lemmas.Fmt.{decimal_injective, signed_decimal_injective}
use Rattle.std.proofs.lemmas.List.{append_cancel_left}
use Rattle.std.proofs.lemmas.List.Elements.{All-nil, All-cons, All-head, All-tail}
use Rattle.mesh_files.specs.Texts.{text_line, file_number, AreNamed}
use Rattle.solver_files.proofs.Bytes.{IsInField, IsInLine, decimal_in, signed_in}

-- there is a first byte, and it is not so
abbrev pub Stops : (ℕ → Type 0) → List ℕ → Type 0
Stops P [] = ⊥
Stops P (c ∷ s) = ¬ P c

-- a text is cut in one way only before the first byte that is not so
pub cut : (P : ℕ → Type 0) (xs ys s t : List ℕ) → All P xs → All P ys → Stops P s → Stops P t → xs ++ s ≡ ys ++ t → (xs ≡ ys) × (s ≡ t)
cut P [] [] s t all all' stop stop' e = (refl, e)
cut P [] (y ∷ ys) [] t all all' stop stop' e = absurd stop
cut P [] (y ∷ ys) (c ∷ s) t all all' stop stop' e =
    let same : y ≡ c = cc in absurd (stop (subst P same (All-head P y ys all')))
cut P (x ∷ xs) [] s [] all all' stop stop' e = absurd stop'
cut P (x ∷ xs) [] s (d ∷ t) all all' stop stop' e =
    let same : x ≡ d = cc in absurd (stop' (subst P same (All-head P x xs all)))
cut P (x ∷ xs) (y ∷ ys) s t all all' stop stop' e =
    let first : x ≡ y = cc in
    let after : xs ++ s ≡ ys ++ t = cc in
    let both = cut P xs ys s t (All-tail P x xs all) (All-tail P y ys all') stop stop' after in
    let rest : xs ≡ ys = both.0 in
    (cc, both.1)

-- a line ends at its line feed
pub line_cut : (xs ys s t : List ℕ) → All IsInLine xs → All IsInLine ys → xs ++ (10 ∷ s) ≡ ys ++ (10 ∷ t) → (xs ≡ ys) × (s ≡ t)
line_cut xs ys s t all all' e =
    let both = cut IsInLine xs ys (10 ∷ s) (10 ∷ t) all all' (λ h. h refl) (λ h. h refl) e in
    (both.0, append_cancel_left (10 ∷ []) s t both.1)

-- a number ends at what is no byte of it
pub number_cut : (n m : ℕ) (s t : List ℕ) → n < 2 ^ 64 → m < 2 ^ 64 → Stops IsInField s → Stops IsInField t → decimal n ++ s ≡ decimal m ++ t → (n ≡ m) × (s ≡ t)
number_cut n m s t lt lt' stop stop' e =
    let both = cut IsInField (decimal n) (decimal m) s t (decimal_in n) (decimal_in m) stop stop' e in
    (decimal_injective n m lt lt' both.0, both.1)

-- four parts in front of a text
pub four_parts : (a b c d s : List ℕ) → a ++ b ++ c ++ d ++ s ≡ a ++ (b ++ (c ++ (d ++ s)))
four_parts a b c d s = append_assoc (a ++ b ++ c) d s ∙ append_assoc (a ++ b) c (d ++ s) ∙ append_assoc a b (c ++ (d ++ s))

-- a count between two texts, the second of which begins with a byte c that is none of a number
pub heading_cut : (head : List ℕ) (c : ℕ) (mid : List ℕ) (n m : ℕ) (s t : List ℕ) → ¬ IsInField c → n < 2 ^ 64 → m < 2 ^ 64
    → head ++ decimal n ++ (c ∷ mid) ++ s ≡ head ++ decimal m ++ (c ∷ mid) ++ t → (n ≡ m) × (s ≡ t)
heading_cut head c mid n m s t stop lt lt' e =
    let apart = λ (k : ℕ) (r : List ℕ). append_assoc (head ++ decimal k) (c ∷ mid) r ∙ append_assoc head (decimal k) ((c ∷ mid) ++ r) in
    let after = append_cancel_left head _ _ (sym (apart n s) ∙ e ∙ apart m t) in
    let both = number_cut n m ((c ∷ mid) ++ s) ((c ∷ mid) ++ t) lt lt' stop stop after in
    (both.0, append_cancel_left (c ∷ mid) s t both.1)

-- ---- lines of numbers

-- a number of 64 bits with a sign
abbrev pub IsShort : ℤ → Type 0
IsShort z = unsigned_abs z < 2 ^ 63

-- fields, a line feed, and what follows
abbrev pub behind : List ℤ → List ℕ → List ℕ
behind [] s = 10 ∷ s
behind (z ∷ zs) s = 32 ∷ (signed_decimal z ++ behind zs s)

behind_is : (zs : List ℤ) (s : List ℕ) → flat_map (λ z. 32 ∷ signed_decimal z) zs ++ (10 ∷ s) ≡ behind zs s
behind_is [] s = refl
behind_is (z ∷ zs) s =
    let left = flat_map (λ z. 32 ∷ signed_decimal z) zs in
    ap (λ (r : List ℕ). 32 ∷ r) (append_assoc (signed_decimal z) left (10 ∷ s) ∙ ap (λ (r : List ℕ). signed_decimal z ++ r) (behind_is zs s))

pub behind_stops : (zs : List ℤ) (s : List ℕ) → Stops IsInField (behind zs s)
behind_stops [] s = λ h. absurd (omega arith)
behind_stops (z ∷ zs) s = λ h. absurd (omega arith)

-- a number with a sign is told by its text
pub signed_same : (z y : ℤ) → IsShort z → IsShort y → signed_decimal z ≡ signed_decimal y → z ≡ y
signed_same z y short short' e = signed_decimal_injective z y (within z short) (within y short') e
  where
    within : (z : ℤ) → IsShort z → mag z < 2 ^ 63
    within (pos n) h = h
    within (negsuc n) h = omega (arith, h)

fields_cut : (zs ys : List ℤ) (s t : List ℕ) → All IsShort zs → All IsShort ys → behind zs s ≡ behind ys t → (zs ≡ ys) × (s ≡ t)
fields_cut [] [] s t short short' e = (refl, append_cancel_left (10 ∷ []) s t e)
fields_cut [] (y ∷ ys) s t short short' e = let heads = ap (λ (r : List ℕ). get_or r 0 0) e in absurd (omega (arith, heads))
fields_cut (z ∷ zs) [] s t short short' e = let heads = ap (λ (r : List ℕ). get_or r 0 0) e in absurd (omega (arith, heads))
fields_cut (z ∷ zs) (y ∷ ys) s t short short' e =
    let after = append_cancel_left (32 ∷ []) (signed_decimal z ++ behind zs s) (signed_decimal y ++ behind ys t) e in
    let both = cut IsInField (signed_decimal z) (signed_decimal y) (behind zs s) (behind ys t) (signed_in z) (signed_in y) (behind_stops zs s) (behind_stops ys t) after in
    let same : z ≡ y = signed_same z y (All-head IsShort z zs short) (All-head IsShort y ys short') both.0 in
    let rest = fields_cut zs ys s t (All-tail IsShort z zs short) (All-tail IsShort y ys short') both.1 in
    let others : zs ≡ ys = rest.0 in
    (cc, rest.1)

pub text_line_is : (n : ℕ) (zs : List ℤ) (s : List ℕ) → text_line n zs ++ s ≡ decimal n ++ behind zs s
text_line_is n zs s =
    let fields = flat_map (λ z. 32 ∷ signed_decimal z) zs in
    append_assoc (decimal n ++ fields) (10 ∷ []) s ∙ append_assoc (decimal n) fields (10 ∷ s) ∙ ap (λ (r : List ℕ). decimal n ++ r) (behind_is zs s)

-- a line of numbers, and what follows
pub text_line_cut : (n m : ℕ) (zs ys : List ℤ) (s t : List ℕ) → n < 2 ^ 64 → m < 2 ^ 64 → All IsShort zs → All IsShort ys
    → text_line n zs ++ s ≡ text_line m ys ++ t → (zs ≡ ys) × (s ≡ t)
text_line_cut n m zs ys s t lt lt' short short' e =
    let both = number_cut n m (behind zs s) (behind ys t) lt lt' (behind_stops zs s) (behind_stops ys t) (sym (text_line_is n zs s) ∙ e ∙ text_line_is m ys t) in
    fields_cut zs ys s t short short' both.1

-- ---- names

-- the number of a named point is short
pub names_short : (names : List ℕ) (first : ℕ) (ns : List ℕ) → All (λ n. n < 2 ^ 32) names → first < 2 ^ 32 → AreNamed names ns → All IsShort (map (file_number names first) ns)
names_short names first [] small lt named = All-nil IsShort
names_short names first (n ∷ ns) small lt named =
    let there = All-head (λ k. k < length names) n ns named in
    let name = small n 0 there in
    All-cons IsShort (file_number names first n) (map (file_number names first) ns) (let room : slice_index names n + first < 2 ^ 63 = omega (arith, name, lt) in room)
    (names_short names first ns small lt (All-tail (λ k. k < length names) n ns named))

-- points with the same numbers are the same
pub names_same : (names : List ℕ) (first : ℕ) → AllPairs ◌≢◌ names → (ns ms : List ℕ) → AreNamed names ns → AreNamed names ms
    → map (file_number names first) ns ≡ map (file_number names first) ms → ns ≡ ms
names_same names first apart [] [] named named' e = refl
names_same names first apart [] (m ∷ ms) named named' e = let lengths = ap length e in absurd (omega (arith, lengths))
names_same names first apart (n ∷ ns) [] named named' e = let lengths = ap length e in absurd (omega (arith, lengths))
names_same names first apart (n ∷ ns) (m ∷ ms) named named' e =
    let below = λ (k : ℕ). k < length names in
    let heads : file_number names first n ≡ file_number names first m = cc in
    let tails : map (file_number names first) ns ≡ map (file_number names first) ms = cc in
    let sums : slice_index names n + first ≡ slice_index names m + first = ap unsigned_abs heads in
    let same : n ≡ m = pick (All-head below n ns named) (All-head below m ms named') (omega (arith, sums)) (cases_order n m) in
    let others : ns ≡ ms = names_same names first apart ns ms (All-tail below n ns named) (All-tail below m ms named') tails in
    cc
  where
    pick : {n m : ℕ} → n < length names → m < length names → slice_index names n ≡ slice_index names m → (n ≡ m) ⊎ ((n < m) ⊎ (m < n)) → n ≡ m
    pick lt lt' same (inl is) = is
    pick {n} {m} lt lt' same (inr (inl less)) = absurd (apart n m 0 less lt' same)
    pick {n} {m} lt lt' same (inr (inr more)) = absurd (apart m n 0 more lt (sym same))

-- ---- lists of lines

-- as many lines that print as the same text are the same
pub lines_cut : {X : Type 0} (f g : X → List ℕ) → ((x : X) → All IsInLine (f x)) → ((x : X) → All IsInLine (g x)) → (xs ys : List X) (s t : List ℕ) → length xs ≡ length ys
    → flat_map (λ x. f x ++ (10 ∷ [])) xs ++ s ≡ flat_map (λ x. g x ++ (10 ∷ [])) ys ++ t → (map f xs ≡ map g ys) × (s ≡ t)
lines_cut f g one one' [] [] s t long e = (refl, e)
lines_cut f g one one' [] (y ∷ ys) s t long e = absurd (omega (arith, long))
lines_cut f g one one' (x ∷ xs) [] s t long e = absurd (omega (arith, long))
lines_cut f g one one' (x ∷ xs) (y ∷ ys) s t long e =
    let left = flat_map (λ x. f x ++ (10 ∷ [])) xs in
    let left' = flat_map (λ x. g x ++ (10 ∷ [])) ys in
    let apart = λ (a b r : List ℕ). append_assoc (a ++ (10 ∷ [])) b r ∙ append_assoc a (10 ∷ []) (b ++ r) in
    let both = line_cut (f x) (g y) (left ++ s) (left' ++ t) (one x) (one' y) (sym (apart (f x) left s) ∙ e ∙ apart (g y) left' t) in
    let rest = lines_cut f g one one' xs ys s t (suc_inj long) both.1 in
    let first : f x ≡ g y = both.0 in
    let others : map f xs ≡ map g ys = rest.0 in
    (cc, rest.1)
