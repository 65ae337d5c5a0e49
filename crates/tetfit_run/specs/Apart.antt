-- Segments that cross once coordinates are rounded, and do not cross in the file.
use Rattle.std.specs.Prelude.{◌≡◌, ◌≢◌, ◌↔◌, ℕ, ◌==◌, nat_lt, Bool, true, false, length, drop, slice_get, slice_index, List, [], ◌∷◌, ◌++◌, codes, Option, Some, None, Ok, if◌then◌else◌}
use Rattle.sign_predicates.specs.Point.{Point}
use Rattle.geo_laws.specs.Delaunay.{point}
use Rattle.geo_laws.specs.Simplex.{ProperlyMet}
use Rattle.geo_laws.specs.declared.complex.Piece.{Piece}
use Rattle.grid_coords.specs.declared.points.DecimalPoint.{DecimalPoint}
use Rattle.mesh_check.specs.Steps.{AndThen}
use Rattle.mesh_check.specs.Centering.{CenteredAnswer, PlacedAnswer}
use Rattle.run_steps.specs.declared.numbering.Numbering.{Numbering}
use Rattle.tet_text.specs.Decimals.{◌>>=◌}

-- a point as the file has it, by its number on the grid; None for an added point
abbrev pub file_point : List DecimalPoint → Numbering → ℕ → Option DecimalPoint
file_point points by n = if nat_lt n (length by.names) then slice_get (drop (slice_index by.names n) points) 0 else None

-- the ends of two segments as the file has them; None where one is an added point
abbrev pub ends_in_file : List DecimalPoint → Numbering → Piece → Piece → Option (List DecimalPoint)
ends_in_file points by one two = do
  a ← file_point points by one.a
  b ← file_point points by one.b
  c ← file_point points by two.a
  d ← file_point points by two.b
  Some (a ∷ b ∷ c ∷ d ∷ [])

-- the place of an end of the second segment: that of the same end of the first, or else its own
abbrev pub end_place : Piece → ℕ → ℕ → ℕ
end_place one n own = if n == one.a then 0 else if n == one.b then 1 else own

-- two segments whose ends are placed so have two ends each, and no common point but a common end
pub record AreSegmentsMet (one two : Piece) (placed : List Point) : Type 0 where
  pub one_long : point placed 0 ≢ point placed 1
  pub two_long : point placed (end_place one two.a 2) ≢ point placed (end_place one two.b 3)
  pub met : ProperlyMet placed (0 ∷ 1 ∷ []) (end_place one two.a 2 ∷ end_place one two.b 3 ∷ [])

-- the four points have exactly these places on their least grid, measured from the middle of their box
abbrev pub ArePlaced : List DecimalPoint → List Point → Type 0
ArePlaced ends placed = AndThen (CenteredAnswer ends) PlacedAnswer (Ok placed)

-- the two segments do not cross in the file
pub record AreApart (points : List DecimalPoint) (by : Numbering) (one two : Piece) : Type 0 where
  pub ends : List DecimalPoint
  pub in_file : ends_in_file points by one two ≡ Some ends
  pub placed : List Point
  pub on_grid : ArePlaced ends placed
  pub met : AreSegmentsMet one two placed

-- the advice on two segments that cross once coordinates are rounded: apart in the file, and not known to be
abbrev pub crossing_help : Bool → List ℕ
crossing_help true =
    codes "tetfit: they do not cross in the file, rounding made them: move them apart, or try coarser coordinates by --unit=U\n"
crossing_help false =
    codes "tetfit: give both segments the point at which they cross, "
    ++ codes "or where the last digits alone make them cross, try coarser coordinates by --unit=U\n"

-- the line on what would help two segments that cross once coordinates are rounded
pub record TellsHelp (points : List DecimalPoint) (by : Numbering) (one two : Piece) (line : List ℕ) : Type 0 where
  pub apart : Bool
  pub is : (apart ≡ true) ↔ AreApart points by one two
  pub told : line ≡ crossing_help apart
