-- Points that may be appended to a list.
use Rattle.std.specs.Prelude.{◌≡◌, ◌≢◌, ℕ, ◌+◌, ◌<◌, ◌≤◌, ◌%◌, ◌^◌, ◌==◌, ◌&&◌, Bool, true, false, List, ◌++◌, length, unsigned_abs}
use Rattle.sign_predicates.specs.Point.{Point}
use Rattle.geo_laws.specs.Delaunay.{point, HasDistinctPoints}
use Rattle.segment_protect.specs.Protection.{IsMultiple}
use Rattle.refining.specs.declared.add_fault.AddFault.{AddFault}
use Rattle.refining.specs.declared.add_fault.AddFault.TheVariants.{TooMany, Coarse, Repeated, NoMemory}

-- whether each coordinate is a multiple of `unit` grid units
abbrev pub is_multiple : ℕ → Point → Bool
is_multiple unit p = (unsigned_abs p.x % unit == 0) && (unsigned_abs p.y % unit == 0) && (unsigned_abs p.z % unit == 0)

-- each coordinate of each of the points is a multiple of `unit` grid units
abbrev pub AreMultiples : ℕ → List Point → Type 0
AreMultiples unit ps = (i : ℕ) → i < length ps → is_multiple unit (point ps i) ≡ true

-- the first point with a coordinate that is no multiple of `unit` grid units is at this place
pub record IsFirstCoarse (unit : ℕ) (ps : List Point) (place : ℕ) : Type 0 where
  pub within : place < length ps
  pub coarse : is_multiple unit (point ps place) ≡ false
  pub before : (i : ℕ) → i < place → is_multiple unit (point ps i) ≡ true

-- the first point that is equal to an earlier one is at this place
pub record IsFirstRepeated (ps : List Point) (place : ℕ) : Type 0 where
  pub within : place < length ps
  pub first : ℕ
  pub earlier : first < place
  pub equal : point ps first ≡ point ps place
  pub before : (i j : ℕ) → i < j → j < place → point ps i ≢ point ps j

-- Points that may be appended to others, with coordinates that can be halved `halvings` times: any two of all differ,
-- and the coordinates of the new ones are multiples of 2^halvings
pub record AreAddable (halvings : ℕ) (ps qs : List Point) : Type 0 where
  pub distinct : HasDistinctPoints (ps ++ qs)
  pub multiples : (i : ℕ) → i < length qs → IsMultiple (2 ^ halvings) (point qs i)

-- the points with others behind them
pub record IsJoined (halvings most : ℕ) (ps qs all : List Point) : Type 0 where
  pub is : all ≡ ps ++ qs
  pub few : length ps + length qs ≤ most
  pub addable : AreAddable halvings ps qs

-- Why points may not be appended to others. Each cause comes before the later ones
abbrev pub IsAddFault : ℕ → ℕ → List Point → List Point → AddFault → Type 0
IsAddFault halvings most ps qs (TooMany count limit) = (count ≡ length ps + length qs) × (limit ≡ most) × (most < count)
IsAddFault halvings most ps qs (Coarse place) = (length ps + length qs ≤ most) × IsFirstCoarse (2 ^ halvings) qs place
IsAddFault halvings most ps qs (Repeated place) =
    (length ps + length qs ≤ most) × AreMultiples (2 ^ halvings) qs × IsFirstRepeated (ps ++ qs) place
IsAddFault halvings most ps qs NoMemory = Unit {0}
