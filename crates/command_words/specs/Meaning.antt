-- The letters of the command line, and what its words ask for.
use Rattle.std.specs.Prelude.{ℕ, ◌≡◌, ◌≤◌, Bool, false, true, ◌==◌, ◌&&◌, ◌||◌, not, Option, Some, None, IfSome, List, [], ◌∷◌, codes, unwrap_or, unsigned_abs, if◌then◌else◌}
use Rattle.std.specs.List.{list_any}
use Rattle.std.specs.Option.{option_or}
use Rattle.grid_coords.specs.Origins.{IsNearBy}
use Rattle.tet_text.specs.Decimals.{Scaled}
use Rattle.command_words.specs.Formats.{no_formats}
use Rattle.command_words.specs.Names.{extension_of, base_of}
use Rattle.command_words.specs.Words.{budget_at_front, is_cluster, is_sampled, is_switched, last_from, last_number, name_of, sample_words}
use Rattle.command_words.specs.declared.options.Options.{Options}
use Rattle.command_words.specs.declared.options.Extension.{Extension}
use Rattle.command_words.specs.declared.options.Extension.TheVariants.{Node, Poly, Smesh, Off, Stl}

-- ---- the letters

-- the letters of the table that have no number
abbrev pub is_letter : ℕ → Bool
is_letter byte = list_any (λ known. known == byte) (codes "pnfezcAQNEFMrCw")

-- ---- the number of S

-- the number of the last S among these bytes, or else what stood before them
abbrev pub budget_from : Option ℕ → List ℕ → Option ℕ
budget_from last [] = last
budget_from last (byte ∷ more) = budget_from (if byte == 83 then option_or (budget_at_front more) last else last) more

abbrev pub budget_in : List ℕ → Option ℕ
budget_in word = if is_cluster word then budget_from None word else None

-- the last number counts
abbrev pub last_budget : List (List ℕ) → Option ℕ
last_budget words = last_from budget_in None words

-- Whether a complex is meshed, where `asked` says that the words ask for it: the extension of a complex puts it on, and that of points off.
abbrev pub is_piecewise : Bool → Option Extension → Bool
is_piecewise asked None = asked
is_piecewise asked (Some Node) = false
is_piecewise asked (Some Poly) = true
is_piecewise asked (Some Smesh) = true
is_piecewise asked (Some Off) = true
is_piecewise asked (Some Stl) = true

-- ---- the options

-- What the words ask for; 112 is p, 110 n, 102 f, 101 e, 122 z, 99 c, 65 A, 81 Q, 78 N, 69 E, 70 F, 77 M, 114 r and 119
-- w. For the sample no file is stored. The words ask for at most `halvings` halvings, and for that number where they
-- name none.
abbrev pub options_within : ℕ → List (List ℕ) → Options
options_within halvings words = record {
  piecewise = is_piecewise (is_switched words 112 || is_sampled words) (extension_of (name_of words));
  neighbors = is_switched words 110 && not (is_sampled words);
  all_faces = is_switched words 102;
  edges = is_switched words 101;
  from_zero = is_switched words 122;
  keep_hull = is_switched words 99;
  regions = is_switched words 65;
  quiet = is_switched words 81;
  no_node = is_switched words 78 || is_sampled words;
  no_ele = is_switched words 69 || is_sampled words;
  no_face = is_switched words 70 || is_sampled words;
  formats = no_formats;
  keep_facets = is_switched words 77;
  check = is_switched words 114;
  weighted = is_switched words 119;
  budget = unwrap_or (last_budget words) 100000;
  halvings = unwrap_or (last_number (codes "--halvings=") halvings words) halvings;
  decimals = last_number (codes "--decimals=") 20 words;
  unit = None;
  origin = None;
  sample = sample_words words;
  base = base_of (name_of words);
  extension = extension_of (name_of words);
}

-- the options that the words of `tetgen` ask for, with at most 12 halvings
abbrev pub options_of : List (List ℕ) → Options
options_of = options_within 12

-- coordinates may be rounded to multiples of the number: of one to three digits, over 1 in units of its last decimal
pub record IsUnit (u : Scaled) : Type 0 where
  pub least : 2 ≤ unsigned_abs u.value
  pub most : unsigned_abs u.value ≤ 999
  pub fine : u.scale ≤ 20

-- the numbers of options are in their ranges, and the origin is near with the decimals
pub record AreInRange (options : Options) : Type 0 where
  pub budget : options.budget ≤ 100000
  pub halvings : options.halvings ≤ 18
  pub decimals : IfSome options.decimals (λ n. n ≤ 20)
  pub unit : IfSome options.unit IsUnit
  pub sample : IfSome options.sample (λ n. n ≤ 10000)
  pub near : IfSome options.origin (IsNearBy options.decimals)

-- the options of words that ask for the sample name no file to read and none to store, and a complex is meshed
pub record AreOfSample (options : Options) : Type 0 where
  pub base : options.base ≡ []
  pub extension : options.extension ≡ None
  pub piecewise : options.piecewise ≡ true
  pub no_node : options.no_node ≡ true
  pub no_ele : options.no_ele ≡ true
  pub no_face : options.no_face ≡ true
  pub no_neighbors : options.neighbors ≡ false
