-- Delaunay tetrahedra and the Delaunay list of points: of all points of a list, or of those whose numbers stand in a list of numbers.
-- A tetrahedron is Delaunay where no other point is inside its circumsphere (Delaunay, 1934); ties are broken by the points' numbers
-- (simulation of simplicity), so the list is unique for every input. A row is a tetrahedron by the numbers of its corners.
use Rattle.std.specs.Prelude.{◌≡◌, ◌≢◌, ◌↔◌, ◌⊎◌, ℕ, ◌+◌, ◌-◌, ◌<◌, Bool, ◌&&◌, ◌||◌, ◌==◌, IsTrue, pos, int_lt, List, [], ◌∷◌, map, filter, flat_map, length, All, AllPairs, Contains}
use Rattle.std.specs.List.{list_all, list_any, range_with_len, slice_index_or}
use Rattle.sign_predicates.specs.Point.{Point, origin}
use Rattle.sign_predicates.specs.Orientation.{orient, volume, IsPositive}
use Rattle.sign_predicates.specs.declared.tetrahedron.Corners.{Corners}
use Rattle.sign_predicates.specs.Sphere.{is_outside}
use Rattle.sign_predicates.specs.declared.tetrahedron.Numbers.{Numbers}
use Rattle.geo_laws.specs.declared.tetrahedra.Tet.{Tet}

-- the point with this number
abbrev pub point : List Point → ℕ → Point
point ps i = slice_index_or ps i origin

-- the row at a place of a list
abbrev pub row_at : List Tet → ℕ → Tet
row_at rows k = slice_index_or rows k (record { a = 0; b = 0; c = 0; d = 0 })

-- any two points differ
abbrev pub HasDistinctPoints : List Point → Type 0
HasDistinctPoints ps = (i j : ℕ) → i < j → j < length ps → point ps i ≢ point ps j

-- any four of the points lie in one plane, and so all do
abbrev pub AreCoplanar : List Point → Type 0
AreCoplanar ps =
    (i j k l : ℕ) → i < length ps → j < length ps → k < length ps → l < length ps
    → orient (point ps i) (point ps j) (point ps k) (point ps l) ≡ pos 0

-- the corners of a row
abbrev pub corners : List Point → Tet → Corners
corners ps t = record { a = point ps t.a; b = point ps t.b; c = point ps t.c; d = point ps t.d }

-- and their numbers
abbrev pub numbers : Tet → List ℕ
numbers t = t.a ∷ t.b ∷ t.c ∷ t.d ∷ []

-- the corners' numbers as the insphere test takes them
abbrev pub as_numbers : Tet → Numbers
as_numbers t = record { a = t.a; b = t.b; c = t.c; d = t.d }

-- whether the point with the number e is outside of the sphere round the row, ties included
abbrev pub is_outside_of : List Point → Tet → ℕ → Bool
is_outside_of ps t e = is_outside (corners ps t) (as_numbers t) (point ps e) e

-- the row's corners are points of the list
abbrev pub IsOn : List Point → Tet → Type 0
IsOn ps t = All (λ i. i < length ps) (numbers t)

-- the row's corners are among the numbers
abbrev pub IsAmong : List ℕ → Tet → Type 0
IsAmong ms t = (i : ℕ) → Contains (numbers t) i → Contains ms i

-- the numbers are those of points
abbrev pub AreNumbersOf : List Point → List ℕ → Type 0
AreNumbersOf ps ms = (i : ℕ) → Contains ms i → i < length ps

-- the numbers below n
abbrev pub numbers_below : ℕ → List ℕ
numbers_below n = range_with_len 0 n

-- the numbers of all the points
abbrev pub all_numbers : List Point → List ℕ
all_numbers ps = numbers_below (length ps)

-- A positive row is the least even arrangement of its corners, `a b c d` or `a b d c` for rising a, b, c, d: the two
-- least numbers come first, in order, and the orientation decides which of the other two comes next
pub record IsArranged (t : Tet) : Type 0 where
  pub first : t.a < t.b
  pub second : t.b < t.c
  pub second' : t.b < t.d

-- the row is on the numbers, positive, in the least even arrangement, and every other point of the numbers is outside of it
pub record IsDelaunayAmong (ps : List Point) (ms : List ℕ) (t : Tet) : Type 0 where
  pub is_on : IsAmong ms t
  pub is_positive : IsPositive (corners ps t)
  pub is_arranged : IsArranged t
  pub others : (i : ℕ) → Contains ms i → ¬ Contains (numbers t) i → IsTrue (is_outside_of ps t i)

-- and where these are all points of the list
abbrev pub IsDelaunay : List Point → Tet → Type 0
IsDelaunay ps t = IsDelaunayAmong ps (all_numbers ps) t

-- one row stands before another, by the first number in which they differ
abbrev pub RowBefore : Tet → Tet → Type 0
RowBefore s t = (s.a < t.a) ⊎ (s.a ≡ t.a) × ((s.b < t.b) ⊎ (s.b ≡ t.b) × ((s.c < t.c) ⊎ (s.c ≡ t.c) × (s.d < t.d)))

-- the list has exactly the Delaunay rows of the numbers, strictly ascending
pub record IsDelaunayListAmong (ps : List Point) (ms : List ℕ) (rows : List Tet) : Type 0 where
  pub exactly : (t : Tet) → Contains rows t ↔ IsDelaunayAmong ps ms t
  pub ascending : AllPairs RowBefore rows

-- and where these are all points of the list
abbrev pub IsDelaunayList : List Point → List Tet → Type 0
IsDelaunayList ps rows = IsDelaunayListAmong ps (all_numbers ps) rows

-- ---- the list as it computes: a filter over all fours of points

-- the numbers from low up to high
abbrev pub numbers_from : ℕ → ℕ → List ℕ
numbers_from low high = range_with_len low (high - low)

-- all arranged fours of numbers below n, ascending, some with their last two numbers equal
abbrev pub fours : ℕ → List Tet
fours n =
    flat_map (λ a. flat_map (λ b. flat_map (λ c. map (λ d. record { a = a; b = b; c = c; d = d })
    (numbers_from (b + 1) n)) (numbers_from (b + 1) n)) (numbers_from (a + 1) n)) (numbers_below n)

-- whether a point is a corner of the row
abbrev pub has_corner : Tet → ℕ → Bool
has_corner t i = list_any (λ j. j == i) (numbers t)

-- whether one of `fours` is a Delaunay row
abbrev pub is_delaunay : List Point → Tet → Bool
is_delaunay ps t =
    int_lt (pos 0) (volume (corners ps t))
    && list_all (λ i. has_corner t i || is_outside_of ps t i) (numbers_below (length ps))

-- the Delaunay list of the points
abbrev pub delaunay_rows : List Point → List Tet
delaunay_rows ps = filter (is_delaunay ps) (fours (length ps))
