-- The grammar of the words of the command line, and where words are against it. Words and places are counted from 1.
use Rattle.std.specs.Prelude.{◌≡◌, ℕ, ◌+◌, Bool, true, false, not, length, drop, nat_eq, nat_lt, ◌==◌, ◌&&◌, ◌||◌, Option, Some, None, List, [], ◌∷◌, codes, is_some, if◌then◌else◌}
use Rattle.std.specs.List.{starts_with}
use Rattle.std.specs.Option.{option_map_or, option_or}
use Rattle.std.specs.Char.{is_ascii_digit}
use Rattle.command_words.specs.Meaning.{is_letter}
use Rattle.command_words.specs.Names.{extension_of}
use Rattle.command_words.specs.Words.{budget_at_front, digit_count, is_cluster, is_long, is_name, is_named, is_sampled, is_switched, name_of, number_at_front}
use Rattle.command_words.specs.declared.options.Extension.{Extension}
use Rattle.command_words.specs.declared.options.Extension.TheVariants.{Node, Poly, Smesh, Off, Stl}

-- ---- clusters: a hyphen, then one or more switches, each of which is a letter of the table, or S (83) with its number

abbrev pub starts_with_digit : List ℕ → Bool
starts_with_digit [] = false
starts_with_digit (byte ∷ more) = is_ascii_digit byte

-- these bytes are switches: a letter, or S with a number, then the switches behind it and behind all its digits
pub data AreSwitches : List ℕ → Type 0 where
  nothing : AreSwitches []
  a_letter : (byte : ℕ) (more : List ℕ) → is_letter byte ≡ true → AreSwitches more → AreSwitches (byte ∷ more)
  a_number : (byte : ℕ) (more : List ℕ) → byte ≡ 83 → is_some (budget_at_front more) ≡ true
      → AreSwitches (drop (digit_count more) more) → AreSwitches (byte ∷ more)

-- The place of the first fault of switches, where the first of these bytes has this place: that of a byte that is no letter of the table,
-- or that behind an S with no number, where the number's first digit is wanted or stands. The digits of a number belong to its S:
-- `numbered` says that an S stands before these bytes, with at most digits between.
abbrev pub switches_fault : Bool → ℕ → List ℕ → Option ℕ
switches_fault numbered place [] = None
switches_fault numbered place (byte ∷ more) =
    if numbered && is_ascii_digit byte then switches_fault true (place + 1) more else
    if byte == 83 then (if is_some (budget_at_front more) then switches_fault true (place + 1) more else Some (place + 1)) else
    if is_letter byte then switches_fault false (place + 1) more else Some place

-- a hyphen alone is at fault past its end
abbrev pub cluster_fault : List ℕ → Option ℕ
cluster_fault word =
    if length word == 1 then Some 2 else switches_fault false 2 (drop 1 word)

-- ---- long words: a front, then a number

-- The place of the fault of a long word, where these bytes have this place and stand behind its front: at the first of them, where they
-- do not begin with a number up to `most`, and else at the first byte behind the digits.
abbrev pub number_fault : ℕ → ℕ → List ℕ → Option ℕ
number_fault place most text =
    if not (is_some (number_at_front most text)) then Some place else
    if nat_lt (digit_count text) (length text) then Some (digit_count text + place) else None

-- the place of the first fault in a long word, which may ask for at most `halvings` halvings, 20 decimals, and 10,000
-- points of the sample
abbrev pub long_fault : ℕ → List ℕ → Option ℕ
long_fault halvings word =
    if starts_with nat_eq word (codes "--halvings=") then number_fault 12 halvings (drop 11 word) else
    if starts_with nat_eq word (codes "--decimals=") then number_fault 12 20 (drop 11 word) else
    if starts_with nat_eq word (codes "--sample=") then number_fault 10 10000 (drop 9 word) else Some 3

-- ---- all words

-- the place of the fault of a word by itself, or None where it has none
abbrev pub word_fault : ℕ → List ℕ → Option ℕ
word_fault halvings word =
    if length word == 0 then Some 1 else
    if is_long word then long_fault halvings word else
    if is_cluster word then cluster_fault word else None

-- The first bad word and the place in it, where the first of these words has this number, and `named` says that a name stands before them:
-- a second name is bad.
abbrev pub bad_word_from : ℕ → ℕ → Bool → List (List ℕ) → Option (ℕ × ℕ)
bad_word_from halvings number named [] = None
bad_word_from halvings number named (word ∷ more) =
    if named && is_name word then Some (number, 1)
    else option_map_or (λ place. Some (number, place)) (word_fault halvings word)
    (bad_word_from halvings (number + 1) (named || is_name word) more)

-- ---- switches that do not go together

-- the extension is that of a complex
abbrev pub is_of_complex : Option Extension → Bool
is_of_complex None = false
is_of_complex (Some Node) = false
is_of_complex (Some Poly) = true
is_of_complex (Some Smesh) = true
is_of_complex (Some Off) = true
is_of_complex (Some Stl) = true

-- the words ask for a complex: by the letter p, 112, also where the extension of points puts it off, by the extension of a complex, or by
-- the sample
abbrev pub names_complex : List (List ℕ) → Bool
names_complex words = (is_switched words 112 || is_sampled words) || is_of_complex (extension_of (name_of words))

-- r, 114, and C, 67, go together only: a mesh is read to be checked. They do not go with a complex
abbrev pub is_no_check : List (List ℕ) → Bool
is_no_check words =
    if is_switched words 114 then not (is_switched words 67) || names_complex words else is_switched words 67

-- w, 119, goes neither with a mesh that is read nor with a complex: points alone have weights
abbrev pub are_not_weighted : List (List ℕ) → Bool
are_not_weighted words = is_switched words 119 && (is_switched words 114 || names_complex words)

-- the words have switches that do not go together
abbrev pub are_at_odds : List (List ℕ) → Bool
are_at_odds words = is_no_check words || are_not_weighted words

-- The first fault of the words: the number of the word and the place in it. All together they have a name or ask for
-- the sample, and not both; and their switches go together. A fault of these is placed after the last word. The words
-- ask for at most `halvings` halvings.
abbrev pub words_fault_within : ℕ → List (List ℕ) → Option (ℕ × ℕ)
words_fault_within halvings words =
    option_or (bad_word_from halvings 1 false words)
    (if is_named words && is_sampled words || not (is_named words || is_sampled words) then Some (length words + 1, 1) else
    (if are_at_odds words then Some (length words + 1, 2) else None))

-- the first fault of the words of `tetgen`, with at most 12 halvings
abbrev pub words_fault : List (List ℕ) → Option (ℕ × ℕ)
words_fault = words_fault_within 12
