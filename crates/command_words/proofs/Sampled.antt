-- Words that ask for the sample have no name, and no file is stored.
use Rattle.std.proofs.Common.{◌≡◌, ℕ, ◌+◌, Bool, true, false, not, ◌&&◌, ◌||◌, List, [], ◌∷◌, length, Option, Some, None, if◌then◌else◌, refl, ap}
use Rattle.std.specs.Prelude.{find, unwrap_or, IsSome}
use Rattle.std.specs.List.{list_any}
use Rattle.std.specs.Option.{option_or}
use Rattle.command_words.specs.Grammar.{bad_word_from, are_at_odds, words_fault_within}
use Rattle.command_words.specs.Words.{is_name, is_named, is_sampled, sample_words, name_of}

-- the first that passes is not there, where none passes
first_none : {X : Type 0} (b : Bool) (x : X) (rest : Bool) (found : Option X) → (b || rest) ≡ false → (rest ≡ false → found ≡ None) → (if b then Some x else found) ≡ None
first_none true x rest found h none = cc
first_none false x rest found h none = none h

find-list_any : {X : Type 0} (p : X → Bool) (xs : List X) → list_any p xs ≡ false → find p xs ≡ None
find-list_any p [] h = refl
find-list_any p (x ∷ xs) h = first_none (p x) x (list_any p xs) (find p xs) h (find-list_any p xs)

-- of a name and the sample there is exactly one
name_or_sample : (bad : Option (ℕ × ℕ)) (named sampled : Bool) (fault : ℕ × ℕ) (rest : Option (ℕ × ℕ))
    → option_or bad (if named && sampled || not (named || sampled) then Some fault else rest) ≡ None → sampled ≡ true → named ≡ false
name_or_sample (Some f) named sampled fault rest is h = cc
name_or_sample None true true fault rest is h = cc
name_or_sample None true false fault rest is h = cc
name_or_sample None false sampled fault rest is h = refl

pub name_of-sampled : (halvings : ℕ) (words : List (List ℕ)) → words_fault_within halvings words ≡ None → IsSome (sample_words words) → name_of words ≡ []
name_of-sampled halvings words is h =
    let none = find-list_any is_name words (name_or_sample (bad_word_from halvings 1 false words) (is_named words) (is_sampled words) (length words + 1, 1) (if are_at_odds words then Some (length words + 1, 2) else None) is h) in
    ap (λ (name : Option (List ℕ)). unwrap_or name []) none

-- ---- of the sample no file is stored

pub left_out : (asked sampled : Bool) → sampled ≡ true → asked || sampled ≡ true
left_out true sampled h = refl
left_out false sampled h = h

pub not_stored : (asked sampled : Bool) → sampled ≡ true → asked && not sampled ≡ false
not_stored true sampled h = ap not h
not_stored false sampled h = refl
