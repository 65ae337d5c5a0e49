-- The bytes of numbers, coordinates and attributes.
use Rattle.std.proofs.Common.{◌≢◌, ℕ, zero, suc, ◌+◌, ◌-◌, ◌/◌, ◌%◌, ◌≤◌, ◌==◌, ℤ, pos, negsuc, unsigned_abs, Bool, true, false, List, [], ◌∷◌, ◌++◌, length, map, take, drop, Option, Some, None, inl, inr, subst, arith}
use Rattle.std.specs.Prelude.{All, Contains, if◌then◌else◌, int_lt, is_some, replicate}
use Rattle.std.specs.Fmt.{decimal, digits, digits_onto, digit_glyph, signed_decimal}
use Rattle.std.specs.Int.Digits.{digits_of}
use Rattle.std.proofs.lemmas.Bool.{cases_lt}
use Rattle.std.proofs.lemmas.Bool.Decides.{nat_tests}
use Rattle.std.proofs.lemmas.List.{get_or_past}
use Rattle.std.proofs.lemmas.List.Elements.{All-nil, All-cons, All-append, All-take, All-drop, All-replicate, All-weaker, All-map, All-contains_itself}
use Rattle.sign_predicates.specs.Point.{Point}
use Rattle.tet_text.specs.Decimals.{Scaled, decimal_of}
use Rattle.tet_text.specs.Printing.{glyphs, numeral, with_zeros, size_text, sign_text, decimal_text}
use Rattle.grid_coords.specs.declared.grid.Grid.{Grid}
use Rattle.grid_coords.specs.declared.origin.WholePoint.{WholePoint}
use Rattle.grid_coords.specs.Origins.{decimal_from}
use Rattle.grid_coords.specs.Units.{decimal_of_units}
use Rattle.geo_laws.specs.declared.complex.Region.{Region}
use Rattle.mesh_files.specs.Laws.{AreInOneLine}
use Rattle.mesh_files.specs.Texts.{attribute_of}
use Rattle.node_files.specs.Writing.{fields_from}
use Rattle.solver_files.specs.Mesh.{spaced, scalar_of}

-- digits, a point and a minus stand past the space and the line feed
abbrev pub IsInField : ℕ → Type 0
IsInField c = 45 ≤ c

-- no line feed
abbrev pub IsInLine : ℕ → Type 0
IsInLine c = c ≢ 10

in_line : (text : List ℕ) → All IsInField text → All IsInLine text
in_line text all = All-weaker IsInField IsInLine (λ c le e. omega (arith, le, e)) text all

-- ---- numbers

glyph : (d : ℕ) → IsInField (digit_glyph false d)
glyph d = grind (arith, nat_tests)

glyphs_onto : (k n : ℕ) (acc : List ℕ) → All IsInField acc → All IsInField (digits_onto k 10 false n acc)
glyphs_onto zero n acc all = all
glyphs_onto (suc k) n acc all =
    let c = digit_glyph false (n % 10) in
    let more = All-cons IsInField c acc (glyph (n % 10)) all in
    elim (n / 10 == 0) as (λ b. All IsInField (if b then c ∷ acc else digits_onto k 10 false (n / 10) (c ∷ acc))) [
      | true ↦ more
      | false ↦ glyphs_onto k (n / 10) (c ∷ acc) more
    ]

pub decimal_in : (n : ℕ) → All IsInField (decimal n)
unfolding digits
decimal_in n = glyphs_onto 64 n [] (All-nil IsInField)

pub signed_in : (z : ℤ) → All IsInField (signed_decimal z)
signed_in (pos n) = decimal_in n
signed_in (negsuc n) = All-cons IsInField 45 (decimal (suc n)) (omega arith) (decimal_in (suc n))

pub signed_line : (z : ℤ) → All IsInLine (signed_decimal z)
signed_line z = in_line (signed_decimal z) (signed_in z)

-- ---- coordinates

glyphs_in : (ds : List ℕ) → All IsInField (map (λ (d : ℕ). 48 + d) ds)
glyphs_in [] = All-nil IsInField
glyphs_in (d ∷ ds) = All-cons IsInField (48 + d) (map (λ (d : ℕ). 48 + d) ds) (omega arith) (glyphs_in ds)

numeral_in : (n : ℕ) → All IsInField (numeral n)
unfolding numeral
numeral_in n =
    elim (n == 0) as (λ b. All IsInField (if b then 48 ∷ [] else glyphs n)) [
      | true ↦ All-cons IsInField 48 [] (omega arith) (All-nil IsInField)
      | false ↦ glyphs_in (digits_of 10 n)
    ]

size_in : (n scale : ℕ) → All IsInField (size_text n scale)
size_in n scale =
    let digits = with_zeros scale (numeral n) in
    let zeros = scale + 1 - length (numeral n) in
    let all = All-append IsInField (replicate zeros 48) (numeral n) (All-replicate IsInField zeros 48 (omega arith)) (numeral_in n) in
    let k = length digits - scale in
    All-append IsInField (take k digits) _ (All-take IsInField k digits all) (tail (scale == 0) (drop k digits) (All-drop IsInField k digits all))
  where
    tail : (b : Bool) (w : List ℕ) → All IsInField w → All IsInField (if b then [] else 46 ∷ w)
    tail true w all = All-nil IsInField
    tail false w all = All-cons IsInField 46 w (omega arith) all

text_in : (d : Scaled) → All IsInField (decimal_text d)
text_in d =
    All-append IsInField (sign_text (int_lt d.value (pos 0))) (size_text (unsigned_abs d.value) d.scale) (sign (int_lt d.value (pos 0))) (size_in (unsigned_abs d.value) d.scale)
  where
    sign : (b : Bool) → All IsInField (sign_text b)
    sign true = All-cons IsInField 45 [] (omega arith) (All-nil IsInField)
    sign false = All-nil IsInField

spaced_line : (x y z : Scaled) → All IsInLine (spaced (decimal_text x ∷ decimal_text y ∷ decimal_text z ∷ []))
spaced_line x y z =
    let line = λ (d : Scaled). in_line (decimal_text d) (text_in d) in
    let space : IsInLine 32 = λ e. omega (arith, e) in
    let last = All-cons IsInLine 32 (decimal_text z) space (line z) in
    let both = All-append IsInLine (decimal_text y) (32 ∷ decimal_text z) (line y) last in
    All-append IsInLine (decimal_text x) (32 ∷ (decimal_text y ++ (32 ∷ decimal_text z))) (line x) (All-cons IsInLine 32 (decimal_text y ++ (32 ∷ decimal_text z)) space both)

-- the coordinates of a point have no line feed in them
pub place_line : (o : Option WholePoint) (g : Grid) (p : Point) → All IsInLine (spaced (fields_from o g p))
place_line None g p = spaced_line (decimal_of_units g p.x) (decimal_of_units g p.y) (decimal_of_units g p.z)
place_line (Some o) g p = spaced_line (decimal_from o.x g p.x) (decimal_from o.y g p.y) (decimal_from o.z g p.z)

-- ---- attributes

pub attribute_line : (regions : List Region) → AreInOneLine regions → (mark : Option ℕ) → All IsInLine (attribute_of regions mark)
attribute_line regions lines None = All-cons IsInLine 48 [] (λ e. omega (arith, e)) (All-nil IsInLine)
attribute_line regions lines (Some k) =
    let texts = map (λ (r : Region). r.attribute) regions in
    let each : All (λ text. All IsInLine text) texts =
    All-map (λ text. All IsInLine text) (λ (r : Region). r.attribute) regions
    (All-weaker (λ (r : Region). ¬ Contains r.attribute 10) (λ r. All IsInLine r.attribute) (λ r. none r.attribute) regions lines) in
    elim (cases_lt k (length texts)) [
      | inl lt ↦ each k [] lt
      | inr past ↦ rw (get_or_past texts k [] past) (All-nil IsInLine)
    ]
  where
    none : (text : List ℕ) → ¬ Contains text 10 → All IsInLine text
    none text absent = All-weaker (Contains text) IsInLine (λ c has e. absent (subst (Contains text) e has)) text (All-contains_itself text)

-- the scalar of an attribute has no line feed in it
pub scalar_in_line : (regions : List Region) → AreInOneLine regions → (mark : Option ℕ) → All IsInLine (scalar_of (attribute_of regions mark))
scalar_in_line regions lines mark =
    let text = attribute_of regions mark in
    elim (is_some (decimal_of text)) as (λ b. All IsInLine (if b then text else 48 ∷ [])) [
      | true ↦ attribute_line regions lines mark
      | false ↦ All-cons IsInLine 48 [] (λ e. omega (arith, e)) (All-nil IsInLine)
    ]
