-- The words of the command line: their kinds, the numbers in them, and which letters and names they have.
use Rattle.std.specs.Prelude.{ℕ, Bool, not, length, take, drop, nat_eq, nat_le, ◌==◌, ◌&&◌, Option, Some, None, List, [], ◌∷◌, codes, find, position, unwrap_or, is_some, if◌then◌else◌}
use Rattle.std.specs.List.{list_any, starts_with}
use Rattle.std.specs.Option.{option_or}
use Rattle.std.specs.Char.{is_ascii_digit}
use Rattle.std.specs.Str.{bytes_eq}
use Rattle.tet_text.specs.Numbers.{number_of}

-- ---- the three kinds of words

abbrev pub has_hyphen : List ℕ → Bool
has_hyphen word = starts_with nat_eq word (codes "-")

-- a long word begins with two hyphens
abbrev pub is_long : List ℕ → Bool
is_long word = starts_with nat_eq word (codes "--")

-- a cluster of switches begins with one hyphen
abbrev pub is_cluster : List ℕ → Bool
is_cluster word = has_hyphen word && not (is_long word)

-- a name is not empty and begins with no hyphen
abbrev pub is_name : List ℕ → Bool
is_name word = not (length word == 0) && not (has_hyphen word)

-- ---- numbers

-- how many digits stand at the front
abbrev pub digit_count : List ℕ → ℕ
digit_count text = unwrap_or (position (λ byte. not (is_ascii_digit byte)) text) (length text)

abbrev pub within : ℕ → Option ℕ → Option ℕ
within most None = None
within most (Some n) = if nat_le n most then Some n else None

-- the number that all digits at the front write, where there are 1 to 9 of them and it is at most `most`
abbrev pub number_at_front : ℕ → List ℕ → Option ℕ
number_at_front most text = within most (number_of 9 (take (digit_count text) text))

-- the number of an S, where these bytes stand behind it: at most 100,000 points may be added
abbrev pub budget_at_front : List ℕ → Option ℕ
budget_at_front text = number_at_front 100000 text

-- the number of a long word with this front
abbrev pub number_in : List ℕ → ℕ → List ℕ → Option ℕ
number_in front most word = if starts_with nat_eq word front then number_at_front most (drop (length front) word) else None

-- what the last of the words gives for which this gives something, or else what stood before them
abbrev pub last_from : (List ℕ → Option ℕ) → Option ℕ → List (List ℕ) → Option ℕ
last_from number last [] = last
last_from number last (word ∷ more) = last_from number (option_or (number word) last) more

-- the last number counts
abbrev pub last_number : List ℕ → ℕ → List (List ℕ) → Option ℕ
last_number front most words = last_from (number_in front most) None words

abbrev pub sample_words : List (List ℕ) → Option ℕ
sample_words words = last_number (codes "--sample=") 10000 words

-- ---- names and letters

-- this word is among the words
abbrev pub has_word : List (List ℕ) → List ℕ → Bool
has_word words wanted = list_any (λ word. bytes_eq word wanted) words

-- the words have a name
abbrev pub is_named : List (List ℕ) → Bool
is_named words = list_any is_name words

-- the words ask for the sample
abbrev pub is_sampled : List (List ℕ) → Bool
is_sampled words = is_some (sample_words words)

-- the word is a cluster and has the letter
abbrev pub has_switch : List ℕ → ℕ → Bool
has_switch word letter = is_cluster word && list_any (λ l. l == letter) word

-- some cluster has the letter
abbrev pub is_switched : List (List ℕ) → ℕ → Bool
is_switched words letter = list_any (λ word. has_switch word letter) words

-- the first name among the words
abbrev pub name_of : List (List ℕ) → List ℕ
name_of words = unwrap_or (find is_name words) []
