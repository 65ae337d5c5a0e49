-- The words of `tetfit`.
use Rattle.std.specs.Prelude.{◌≡◌, ℕ, ◌+◌, ◌-◌, ◌*◌, ◌^◌, min, pos, unsigned_abs, int_lt, Bool, true, false, not, ◌||◌, ◌&&◌, ◌==◌, nat_eq, nat_le, nat_lt, length, position, take, drop, map, filter, List, [], ◌∷◌, ◌++◌, codes, Option, Some, None, IfSome, is_some, option_and_then, unwrap_or, if◌then◌else◌}
use Rattle.std.specs.List.{list_any, starts_with}
use Rattle.std.specs.Str.{bytes_eq, str_eq_ignore_ascii_case}
use Rattle.std.specs.Option.{option_map, option_map_or, option_or}
use Rattle.tet_text.specs.Decimals.{Scaled, decimal_of}
use Rattle.tet_text.specs.Numbers.{number_of}
use Rattle.refining.specs.Goals.{IsFineGoal}
use Rattle.refining.specs.declared.goal.Goal.{Goal}
use Rattle.refining.specs.declared.goal.Shape.{Shape}
use Rattle.tet_shapes.specs.declared.shape.Ratio.{Ratio}
use Rattle.tetfit_run.specs.declared.request.Request.{Request}
use Rattle.tetfit_run.specs.declared.wanted.Wanted.{Wanted}
use Rattle.tetfit_run.specs.declared.request.Request.TheVariants.{Page, Version, Check, Mesh}
use Rattle.command_words.specs.declared.fault.WordsFault.{WordsFault}
use Rattle.command_words.specs.declared.fault.WordsFault.TheVariants.{Usage, NoMemory}
use Rattle.command_words.specs.declared.options.Extension.{Extension}
use Rattle.command_words.specs.declared.options.Extension.TheVariants.{Off, Stl}
use Rattle.command_words.specs.Formats.{formats_of, is_format}
use Rattle.command_words.specs.declared.options.Options.{Options}
use Rattle.command_words.specs.Grammar.{words_fault_within}
use Rattle.command_words.specs.Words.{has_word, is_cluster, name_of, within}
use Rattle.command_words.specs.Meaning.{options_within}
use Rattle.command_words.specs.Names.{file_name, text_of}

-- ---- words of their own: they ask for the page, for the version, for the stages to be said, and for a check

-- no word at all asks for the page too
abbrev pub asks_page : List (List ℕ) → Bool
asks_page words = length words == 0 || (has_word words (codes "-h") || has_word words (codes "--help"))

abbrev pub asks_version : List (List ℕ) → Bool
asks_version words = has_word words (codes "--version")

abbrev pub asks_stages : List (List ℕ) → Bool
asks_stages words = has_word words (codes "-V")

-- -rC, or -Cr, asks for the check of a mesh that is there
abbrev pub is_check : List ℕ → Bool
is_check word = bytes_eq word (codes "-rC") || bytes_eq word (codes "-Cr")

abbrev pub asks_check : List (List ℕ) → Bool
asks_check words = list_any is_check words

-- ---- words that bound the volumes of tetrahedra: -a, alone for the limits of regions, or with a decimal behind it

abbrev pub is_volume : List ℕ → Bool
is_volume word = starts_with nat_eq word (codes "-a")

-- the word asks for the volume limits of regions alone
abbrev pub asks_limits : List ℕ → Bool
asks_limits word = bytes_eq word (codes "-a")

-- the number is above 0, and has at most 36 decimals
abbrev pub is_bound : Scaled → Bool
is_bound d = int_lt (pos 0) d.value && nat_le d.scale 36

abbrev pub if_bound : Scaled → Option Scaled
if_bound d = if is_bound d then Some d else None

-- the volume that the word gives
abbrev pub volume_in : List ℕ → Option Scaled
volume_in word = if is_volume word then option_and_then if_bound (decimal_of (drop 2 word)) else None

-- the last volume counts
abbrev pub last_volume : Option Scaled → List (List ℕ) → Option Scaled
last_volume last [] = last
last_volume last (word ∷ more) = last_volume (option_or (volume_in word) last) more

abbrev pub fit_volume : List (List ℕ) → Option Scaled
fit_volume words = last_volume None words

-- a volume is given, or the limits of regions are asked for
abbrev pub bounds_volumes : List (List ℕ) → Bool
bounds_volumes words = is_some (fit_volume words) || list_any asks_limits words

-- ---- words that bound the shape of tetrahedra: -q, then the ratio of the circumradius to the shortest edge, a decimal, where it is
-- given, and where a slash is behind that, the least dihedral angle that is aimed at, in whole degrees

abbrev pub is_shape : List ℕ → Bool
is_shape word = starts_with nat_eq word (codes "-q")

-- the number is from 1 to 100, and has at most 4 decimals
abbrev pub is_ratio_bound : Scaled → Bool
is_ratio_bound d =
    (nat_le d.scale 4 && int_lt (pos 0) d.value)
    && (nat_le (10 ^ d.scale) (unsigned_abs d.value) && nat_le (unsigned_abs d.value) (100 * 10 ^ d.scale))

unfoldable pub if_ratio_bound : Scaled → Option Ratio
if_ratio_bound d = if is_ratio_bound d then Some (record { over = unsigned_abs d.value; under = 10 ^ d.scale }) else None

-- the ratio of a word without a number
abbrev pub plain_ratio : Ratio
plain_ratio = record { over = 2; under = 1 }

-- the ratio that this text behind -q gives
abbrev pub ratio_behind : List ℕ → Option Ratio
ratio_behind text = if length text == 0 then Some plain_ratio else option_and_then if_ratio_bound (decimal_of text)

-- the degrees that this text behind a slash gives: a whole number of at most 30
abbrev pub degrees_behind : List ℕ → Option ℕ
degrees_behind text = within 30 (number_of 2 text)

-- an angle of 0 degrees is no aim
abbrev pub angle_of : ℕ → Option ℕ
angle_of degrees = if degrees == 0 then None else Some degrees

-- the byte is a slash
abbrev pub is_slash : ℕ → Bool
is_slash byte = byte == 47

-- the shape that a ratio and degrees give, where both are there
abbrev pub shape_of : Option Ratio → Option ℕ → Option Shape
shape_of (Some ratio) (Some degrees) = Some (record { ratio = ratio; angle = angle_of degrees })
shape_of ratio degrees = None

-- the shape that this text behind -q gives, where its first slash has this place; without one 20 degrees are aimed at
unfoldable pub shape_around : List ℕ → Option ℕ → Option Shape
shape_around text None = shape_of (ratio_behind text) (Some 20)
shape_around text (Some i) = shape_of (ratio_behind (take i text)) (degrees_behind (drop (i + 1) text))

-- the shape that the word gives
abbrev pub shape_in : List ℕ → Option Shape
shape_in word = if is_shape word then shape_around (drop 2 word) (position is_slash (drop 2 word)) else None

-- the last shape counts
abbrev pub last_shape : Option Shape → List (List ℕ) → Option Shape
last_shape last [] = last
last_shape last (word ∷ more) = last_shape (option_or (shape_in word) last) more

abbrev pub fit_shape : List (List ℕ) → Option Shape
fit_shape words = last_shape None words

-- ---- words that say what tetrahedra are to be like: those that bound volumes or shapes, and -Y

-- the word bounds volumes or shapes
abbrev pub is_bounding : List ℕ → Bool
is_bounding word = is_volume word || is_shape word

-- the word bounds volumes by something that is no volume
abbrev pub is_bad_volume : List ℕ → Bool
is_bad_volume word = (is_volume word && not (asks_limits word)) && not (is_some (volume_in word))

-- the word bounds volumes or shapes, and gives no bound
abbrev pub is_bad_bound : List ℕ → Bool
is_bad_bound word = is_bad_volume word || (is_shape word && not (is_some (shape_in word)))

-- the word asks that no points be added on segments and in facets
abbrev pub keeps_boundary : List ℕ → Bool
keeps_boundary word = bytes_eq word (codes "-Y")

abbrev pub is_of_goal : List ℕ → Bool
is_of_goal word = is_bounding word || keeps_boundary word

-- what the tetrahedra are to be like, where volumes or shapes are bounded
abbrev pub fit_goal : List (List ℕ) → Option Goal
fit_goal words =
    if bounds_volumes words || is_some (fit_shape words) then
    Some (record {
      bounds_volumes = bounds_volumes words;
      volume = fit_volume words;
      shape = fit_shape words;
      splits_boundary = not (list_any keeps_boundary words);
    }) else None

-- ---- words that give the unit to whose multiples coordinates are rounded: --unit= with a decimal behind it

abbrev pub is_unit : List ℕ → Bool
is_unit word = starts_with nat_eq word (codes "--unit=")

-- the number has from one to three digits, without zeros at its ends, is above 0, and has at most 20 decimals
abbrev pub is_unit_number : Scaled → Bool
is_unit_number d = (int_lt (pos 0) d.value && nat_le (unsigned_abs d.value) 999) && nat_le d.scale 20

abbrev pub if_unit : Scaled → Option Scaled
if_unit d = if is_unit_number d then Some d else None

-- the unit that the word gives
abbrev pub unit_in : List ℕ → Option Scaled
unit_in word = if is_unit word then option_and_then if_unit (decimal_of (drop 7 word)) else None

-- the last unit counts
abbrev pub last_unit : Option Scaled → List (List ℕ) → Option Scaled
last_unit last [] = last
last_unit last (word ∷ more) = last_unit (option_or (unit_in word) last) more

abbrev pub fit_unit : List (List ℕ) → Option Scaled
fit_unit words = last_unit None words

-- so many decimals are tried where this unit is given, in place of this number
abbrev pub decimals_of_unit : Option Scaled → Option ℕ → Option ℕ
decimals_of_unit None decimals = decimals
decimals_of_unit (Some u) decimals = Some u.scale

-- a unit of 1 in its last decimal asks for the decimals alone
abbrev pub more_than_one : Option Scaled → Option Scaled
more_than_one None = None
more_than_one (Some u) = if nat_lt 1 (unsigned_abs u.value) then Some u else None

abbrev pub is_bad_unit : List ℕ → Bool
is_bad_unit word = is_unit word && not (is_some (unit_in word))

-- the word gives a bound or a unit in a form that is none
abbrev pub is_bad : List ℕ → Bool
is_bad word = is_bad_bound word || is_bad_unit word

-- a word of this program alone that is not about the stages
abbrev pub is_own : List ℕ → Bool
is_own word = (is_of_goal word || is_unit word) || is_format word

-- ---- the other words are those of the program that meshes exact texts, but for three things, which this program does not do

-- the word is of that grammar
abbrev pub is_plain : List ℕ → Bool
is_plain word = not (is_own word) && not (bytes_eq word (codes "-V"))

abbrev pub plain_words : List (List ℕ) → List (List ℕ)
plain_words words = filter is_plain words

-- the words without those that ask for the stages: plain words, and behind them those of this program alone
abbrev pub others : List (List ℕ) → List (List ℕ)
others words = plain_words words ++ filter is_own words

-- ---- the name of the model: the extension of a surface may have letters of either case, and the file is the one with that very name

-- the extension of a surface that these bytes are, in letters of either case
abbrev pub surface_of_end : List ℕ → Option Extension
surface_of_end tail =
    if str_eq_ignore_ascii_case tail (text_of Off) then Some Off else
    if str_eq_ignore_ascii_case tail (text_of Stl) then Some Stl else None

-- the word with this extension in place of its last four bytes
abbrev pub respelled : List ℕ → Option Extension → List ℕ
respelled word None = word
respelled word (Some form) = file_name (take (length word - 4) word) form

-- the word, with the extension of a surface at its end in small letters: `part.STL` as `part.stl`
unfoldable pub in_small : List ℕ → List ℕ
in_small word = respelled word (surface_of_end (drop (length word - 4) word))

-- the plain words as that grammar takes them
abbrev pub grammar_words : List (List ℕ) → List (List ℕ)
grammar_words words = map in_small (plain_words words)

-- the name of the model, as it was written
abbrev pub fit_name : List (List ℕ) → List ℕ
fit_name words = name_of words

-- weights, a check and the sample
abbrev pub asks_elsewhere : Options → Bool
asks_elsewhere options = (options.weighted || options.check) || is_some options.sample

-- a letter that asks for weights, 119, or for a check, 114 and 67
abbrev pub is_letter_elsewhere : ℕ → Bool
is_letter_elsewhere byte = byte == 119 || (byte == 114 || byte == 67)

-- the place in a word, from 1, at which it asks for weights, a check or the sample
abbrev pub elsewhere_in : List ℕ → Option ℕ
elsewhere_in word =
    if is_cluster word then option_map (λ i. i + 1) (position is_letter_elsewhere word) else
    if starts_with nat_eq word (codes "--sample=") then Some 3 else None

-- the first such word and the place in it, where the first of these words has this number
abbrev pub first_elsewhere : ℕ → List (List ℕ) → Option (ℕ × ℕ)
first_elsewhere number [] = None
first_elsewhere number (word ∷ more) = option_map_or (λ place. Some (number, place)) (elsewhere_in word) (first_elsewhere (number + 1) more)

-- how often the words may ask that the grid be halved
abbrev pub most_halvings : ℕ
most_halvings = 18

-- the options that plain words ask for, with at most `most_halvings` halvings, and that number where they name none
abbrev pub plain_options : List (List ℕ) → Options
plain_options = options_within most_halvings

-- how often the grid of a model may be halved: not at all of points alone, to which no midpoint is added, and once less for second order,
-- whose midpoints are printed with one halving more
abbrev pub halvings_for : Bool → Options → ℕ
halvings_for second_order options =
    if not options.piecewise then 0 else if second_order then min options.halvings 17 else options.halvings

-- the options that words ask for; the limits of regions need the regions of tetrahedra
abbrev pub fit_options : List (List ℕ) → Options
fit_options words =
    let plain = plain_options (grammar_words words) in
    let formats = formats_of words in
    record plain {
      formats = formats;
      halvings = halvings_for formats.second_order plain;
      regions = plain.regions || list_any asks_limits words;
      decimals = decimals_of_unit (fit_unit words) plain.decimals;
      unit = more_than_one (fit_unit words);
    }

-- and with them the name of the model, and what the tetrahedra are to be like
abbrev pub fit_wanted : List (List ℕ) → Wanted
fit_wanted words = record { name = fit_name words; options = fit_options words; goal = fit_goal words }

-- a fault of the grammar, told by its word and the place in it; in place of one behind the last word, the first word that asks for one of
-- the three
abbrev pub named_fault : List (List ℕ) → ℕ × ℕ → ℕ × ℕ
named_fault words fault = if nat_lt (length words) fault.0 then unwrap_or (first_elsewhere 1 words) fault else fault

-- the fault that is reported for words with this fault by the grammar
abbrev pub told_fault : List (List ℕ) → WordsFault → WordsFault
told_fault words (Usage word place) = let fault = named_fault words (word, place) in Usage fault.0 fault.1
told_fault words NoMemory = NoMemory

-- the first fault of plain words: one of their grammar, or else the first word that asks for one of the three
abbrev pub plain_fault : List (List ℕ) → Option (ℕ × ℕ)
plain_fault words =
    option_or (option_map (named_fault words) (words_fault_within most_halvings words))
    (if asks_elsewhere (plain_options words) then Some (unwrap_or (first_elsewhere 1 words) (1, 1)) else None)

-- a fault of plain words, which are the first of these words; one behind the last plain word is one behind all words
abbrev pub among_all : List (List ℕ) → ℕ × ℕ → ℕ × ℕ
among_all words fault = (if nat_le fault.0 (length (plain_words words)) then fault.0 else length words + 1, fault.1)

-- the first word that bounds volumes or shapes
abbrev pub first_bounding : List (List ℕ) → ℕ
first_bounding words = unwrap_or (position is_bounding words) 0 + 1

-- the fault of words that say what tetrahedra are to be like, each of which is understood: the first that bounds volumes or shapes, where
-- the model has no facets, and the first -Y, where there is no bound
unfoldable pub goal_fault : List (List ℕ) → Bool → Option (ℕ × ℕ)
goal_fault words piecewise =
    if is_some (fit_goal words) then (if piecewise then None else Some (first_bounding words, 3))
    else option_map (λ i. (i + 1, 2)) (position keeps_boundary words)

-- The first fault of these words: a word that gives a bound or a unit in a form that is none, else one of the plain words,
-- else one of those that say what tetrahedra are to be like
abbrev pub fit_fault : List (List ℕ) → Option (ℕ × ℕ)
fit_fault words =
    option_or (option_map (λ i. (i + 1, 3)) (position is_bad words))
    (option_or (option_map (among_all words) (plain_fault (grammar_words words)))
    (goal_fault words (fit_options words).piecewise))

-- the tetrahedra are to be like something only where the model has facets, and then the bounds are numbers of a few digits
pub record IsRefinable (wanted : Wanted) : Type 0 where
  pub fine : IfSome wanted.goal IsFineGoal
  pub complex : IfSome wanted.goal (λ goal. wanted.options.piecewise ≡ true)

-- the words ask neither for weights nor for a check, and give no sample
pub record IsPlainRequest (options : Options) : Type 0 where
  pub weighted : options.weighted ≡ false
  pub check : options.check ≡ false
  pub sample : options.sample ≡ None

-- ---- what is asked for

abbrev pub request_of : List (List ℕ) → Request
request_of words = if asks_page words then Page else if asks_version words then Version else if asks_check words then Check else Mesh
