-- The lines that follow the message on a refused model.
use Rattle.std.specs.Prelude.{◌≡◌, ℕ, zero, suc, ◌+◌, ◌-◌, ◌*◌, min, max, unsigned_abs, nat_lt, nat_le, ◌==◌, ◌&&◌, ◌||◌, Bool, true, false, length, position, find, map, unwrap_or, slice_index, List, [], ◌∷◌, ◌++◌, codes, Option, Some, None, is_some, Ok, Err, IfSome, if◌then◌else◌}
use Rattle.std.specs.Fmt.{decimal}
use Rattle.std.specs.List.{list_any}
use Rattle.std.specs.Option.{option_map_or}
use Rattle.simplex_meets.specs.declared.complex_parts.Part.{Part}
use Rattle.simplex_meets.specs.declared.complex_parts.Part.TheVariants.{Triangle, Segment as SegmentPart}
use Rattle.command_words.specs.declared.options.Options.{Options}
use Rattle.geo_laws.specs.Complex.{Complex, corner_lists}
use Rattle.geo_laws.specs.Delaunay.{point}
use Rattle.geo_laws.specs.Segment.{segments}
use Rattle.geo_laws.specs.declared.complex.Facet.{Facet}
use Rattle.geo_laws.specs.declared.complex.Piece.{Piece}
use Rattle.geo_laws.specs.declared.tetrahedra.Tet.{Tet}
use Rattle.grid_coords.specs.Choice.{is_over, most_decimals}
use Rattle.grid_coords.specs.declared.grid.Grid.{Grid as ModelGrid}
use Rattle.grid_coords.specs.declared.points.DecimalPoint.{DecimalPoint}
use Rattle.grid_coords.specs.declared.origin.WholePoint.{WholePoint}
use Rattle.tetfit_run.specs.Apart.{file_point, TellsHelp}
use Rattle.tetfit_run.specs.Coordinates.{on_grid_text}
use Rattle.tetfit_run.specs.Grids.{point_at}
use Rattle.node_files.specs.declared.limits.Limits.{Limits}
use Rattle.run_steps.specs.Numbering.{number_by}
use Rattle.run_steps.specs.declared.input.Input.{Input}
use Rattle.run_steps.specs.declared.mesh.Bound.{Bound}
use Rattle.run_steps.specs.declared.numbering.Numbering.{Numbering}
use Rattle.run_steps.specs.declared.status.LimitKind.TheVariants.{Grid}
use Rattle.run_steps.specs.declared.status.Status.{Status}
use Rattle.run_steps.specs.declared.status.Status.TheVariants.{Limit, Flat, NotFlat, SegmentsCross, Crossing, GridEnd, BudgetEnd}
use Rattle.tet_shapes.specs.Nearest.{IsNear}
use Rattle.tet_shapes.specs.Narrow.{IsNarrow}
use Rattle.tet_shapes.specs.declared.narrow.NarrowCorner.{NarrowCorner}
use Rattle.tet_shapes.specs.declared.nearest.Near.{Near}
use Rattle.tet_text.specs.Decimals.{Scaled, lowest}
use Rattle.tet_text.specs.Printing.{decimal_text, sign_text, size_text}
use Rattle.tetfit_run.specs.Measured.{BoundTried, MeshedTried}
use Rattle.tetfit_run.specs.Placed.{IsPlaced}
use Rattle.tetfit_run.specs.declared.placed.Placed.{Placed}
use Rattle.tetfit_run.specs.declared.model.Stated.{Stated}
use Rattle.tetfit_run.specs.declared.model.Stated.TheVariants.{Lines, Facets}

-- ---- the points of the file

-- the number that the file gives a point, behind a space; empty for an added point
abbrev pub number_text : Numbering → ℕ → List ℕ
number_text by n = if nat_lt n (length by.names) then codes " " ++ decimal (slice_index by.names n + by.first) else []

-- the coordinates of a point as the file has them
unfoldable pub at_text : DecimalPoint → List ℕ
at_text p = codes " (" ++ decimal_text p.x ++ codes " " ++ decimal_text p.y ++ codes " " ++ decimal_text p.z ++ codes ")"

-- the coordinates of an added point, where the points are placed on their grid
abbrev pub added_text : Option Placed → ℕ → List ℕ
added_text None n = []
added_text (Some placed) n = if nat_lt n (length placed.points) then on_grid_text placed.frame (point placed.points n) else []

-- the coordinates of a point: of one of the file as the file has them, and of an added one on the grid
abbrev pub place_text : List DecimalPoint → Numbering → Option Placed → ℕ → List ℕ
place_text points by placed n = option_map_or at_text (file_point points by n) (added_text placed n)

-- a number of units of the last of so many decimals
unfoldable pub units_text : ℕ → ℕ → List ℕ
units_text decimals units =
    let low = lowest units decimals in
    sign_text false ++ size_text low.0 low.1

-- the number of a point and its coordinates
abbrev pub corner_text : List DecimalPoint → Numbering → Option Placed → ℕ → List ℕ
corner_text points by placed n = codes " " ++ decimal (number_by by n) ++ place_text points by placed n

abbrev pub corners_text : List DecimalPoint → Numbering → Option Placed → Part → List ℕ
corners_text points by placed (Triangle t) =
    corner_text points by placed t.a ++ corner_text points by placed t.b ++ corner_text points by placed t.c
corners_text points by placed (SegmentPart p) = corner_text points by placed p.a ++ corner_text points by placed p.b

-- the line of a triangle or a segment: its corners
abbrev pub part_line : List DecimalPoint → Numbering → Option Placed → Part → List ℕ
part_line points by placed part = codes "tetfit: points" ++ corners_text points by placed part ++ codes "\n"

-- the line of the four corners of a facet that are in no plane
abbrev pub four_line : List DecimalPoint → Numbering → Tet → List ℕ
four_line points by t =
    codes "tetfit: points" ++ (corner_text points by None t.a ++ corner_text points by None t.b)
    ++ (corner_text points by None t.c ++ corner_text points by None t.d) ++ codes "\n"

-- that a point is at most so many units away
unfoldable pub away_text : ℕ → ℕ → List ℕ
away_text decimals units = codes ", on the grid at most " ++ units_text decimals units ++ codes " away\n"

-- the line on the point that is nearest to a segment
abbrev pub near_line : List DecimalPoint → Numbering → ℕ → Near → List ℕ
near_line points by decimals near =
    codes "tetfit: nearest to it is point" ++ corner_text points by None near.point ++ away_text decimals near.units

-- that line where there is such a point
abbrev pub near_text : List DecimalPoint → Numbering → ℕ → Option Near → List ℕ
near_text points by decimals None = []
near_text points by decimals (Some near) = near_line points by decimals near

-- the line on the corner in which a segment meets another at the smallest angle
abbrev pub narrow_line : List DecimalPoint → Numbering → NarrowCorner → List ℕ
narrow_line points by narrow =
    codes "tetfit: in point" ++ number_text by narrow.corner.at ++ codes " it meets the segment to point"
    ++ corner_text points by None narrow.corner.other ++ codes " at less than " ++ decimal narrow.degrees ++ codes " degrees\n"

-- that line where there is such a corner
abbrev pub narrow_text : List DecimalPoint → Numbering → Option NarrowCorner → List ℕ
narrow_text points by None = []
narrow_text points by (Some narrow) = narrow_line points by narrow

-- ---- the segment that a piece lies on

-- the options, with at most `added` points added
abbrev pub with_budget : ℕ → Options → Options
with_budget added options = record options { budget = added }

-- the subsegment that is no edge of the mesh and is not halved again
abbrev pub missing_in : Status → Option Piece
missing_in (GridEnd piece) = Some piece
missing_in (BudgetEnd made piece) = Some piece
missing_in status = None

-- the input is refused since the subsegment p is no edge of its mesh
pub record IsMissing (limits : Limits) (options : Options) (input : Input) (p : Piece) : Type 0 where
  pub status : Status
  pub answer : MeshedTried limits options input (Err status)
  pub missing : missing_in status ≡ Some p

-- once `added` points are added the subsegment p is missing, so that the next point is added to halve it
abbrev pub IsHalvedAfter : Limits → Options → Input → ℕ → Piece → Type 0
IsHalvedAfter limits options input added p = IsMissing limits (with_budget added options) input p

-- the input is on its grid, where it has `count` points
pub record HasPoints (limits : Limits) (options : Options) (input : Input) (count : ℕ) : Type 0 where
  pub bound : Bound
  pub on_grid : BoundTried limits options input (Ok bound)
  pub counted : count ≡ length bound.table.points

-- A subsegment that was halved *n* times, of a model with a number of points, is a part of the whole: its later end was
-- added to halve the subsegment before it
abbrev pub IsHalvedPartOf : Limits → Options → Input → ℕ → ℕ → Piece → Piece → Type 0
IsHalvedPartOf limits options input count zero p whole = whole ≡ p
IsHalvedPartOf limits options input count (suc n) p whole =
    (before : Piece) × IsHalvedAfter limits options input (max p.a p.b - count) before
    × IsHalvedPartOf limits options input count n before whole

-- both ends of the subsegment are corners of the polygon
abbrev pub has_both : Piece → List ℕ → Bool
has_both p corners = list_any (λ c. c == p.a) corners && list_any (λ c. c == p.b) corners

-- the facet has the polygon
abbrev pub has_polygon : ℕ → Facet → Bool
has_polygon i f = nat_le f.first i && nat_lt i f.past

-- the first facet that has the polygon
abbrev pub first_facet_of : Complex → Option ℕ → Option ℕ
first_facet_of c None = None
first_facet_of c (Some i) = position (has_polygon i) c.facets

-- the first facet with the first polygon that has both ends of the subsegment
abbrev pub first_facet : Complex → Piece → Option ℕ
first_facet c p = first_facet_of c (position (λ g. has_both p g.corners) c.polygons)

-- facets count from 1
abbrev pub hinted_facet_text : Option ℕ → List ℕ
hinted_facet_text None = []
hinted_facet_text (Some k) = codes " of facet " ++ decimal (k + 1)

abbrev pub segment_line : Numbering → Piece → Option ℕ → List ℕ
segment_line by p facet =
    codes "tetfit: it lies on segment" ++ number_text by (min p.a p.b) ++ number_text by (max p.a p.b) ++ hinted_facet_text facet
    ++ codes "\n"

-- the line that names a segment, and that with the coordinates of its ends
abbrev pub segment_lines : List DecimalPoint → Numbering → Piece → Option ℕ → List ℕ
segment_lines points by p facet = segment_line by p facet ++ part_line points by None (SegmentPart p)

-- the lines name a segment of points on their grid, the point that is nearest to it, and a segment that meets it at a small angle
pub record IsLineIn (bound : Bound) (points : List DecimalPoint) (by : Numbering) (whole : Piece) (line : List ℕ) : Type 0 where
  pub near : Option Near
  pub nearest : IfSome near (IsNear bound.table.grid bound.table.points whole)
  pub narrow : Option NarrowCorner
  pub narrowest : IfSome narrow (IsNarrow bound.table.points (segments (corner_lists bound.complex.polygons)) whole)
  pub is : line ≡ segment_lines points by whole (first_facet bound.complex whole)
      ++ near_text points by bound.table.grid.decimals near ++ narrow_text points by narrow

-- the lines name a segment of the input, and what is near it
abbrev pub IsLineOf : Limits → Options → Input → Numbering → Piece → List ℕ → Type 0
IsLineOf limits options input by whole line =
    (bound : Bound) × BoundTried limits options input (Ok bound) × IsLineIn bound input.nodes.decimals by whole line

-- the lines name the segment of which the subsegment is a part
pub record TellsSegment (limits : Limits) (options : Options) (input : Input) (by : Numbering) (p : Piece) (line : List ℕ) : Type 0 where
  pub whole : Piece
  pub part : IsHalvedPartOf limits options input (length by.names) p.halvings p whole
  pub told : IsLineOf limits options input by whole line

-- ---- rounded coordinates

abbrev pub rounded_line : ℕ → ℕ → List ℕ
rounded_line m most =
    codes "tetfit: coordinates were rounded to " ++ decimal m ++ codes " decimals, of " ++ decimal most ++ codes " that the file has\n"

-- the line where there are m decimals and the file has more
abbrev pub rounded_text : Option ℕ → ℕ → List ℕ
rounded_text None most = []
rounded_text (Some m) most = if nat_lt m most then rounded_line m most else []

-- the text of a unit
abbrev pub unit_text : Scaled → List ℕ
unit_text u = units_text u.scale (unsigned_abs u.value)

abbrev pub multiples_line : Scaled → List ℕ
multiples_line u = codes "tetfit: coordinates were rounded to multiples of " ++ unit_text u ++ codes "\n"

-- the line on the unit of the options, or, where they have none, that where the points of the file have more decimals than the options
abbrev pub rounding_text : Options → List DecimalPoint → List ℕ
rounding_text options points = option_map_or multiples_line options.unit (rounded_text options.decimals (most_decimals points))

-- the line on points that span no tetrahedron: all lie in one plane, or the file has none
abbrev pub flat_line : List DecimalPoint → List ℕ
flat_line [] = codes "tetfit: nothing to mesh: the file has no points and no facets\n"
flat_line (p ∷ ps) = codes "tetfit: all points lie in one plane\n"

-- and the line that their coordinates were rounded, where they were
abbrev pub flat_text : Options → List DecimalPoint → List ℕ
flat_text options points = flat_line points ++ rounding_text options points

-- half a unit of the last of m decimals
unfoldable pub half_unit : ℕ → List ℕ
half_unit m = sign_text false ++ size_text 5 (m + 1)

-- the line that coordinates moved by at most so much
abbrev pub moved_line : ℕ → List ℕ
moved_line m = codes "tetfit: rounding moved each coordinate by at most " ++ half_unit m ++ codes "\n"

-- the line where the points of the file have more than m decimals
abbrev pub decimals_moved : ℕ → List DecimalPoint → List ℕ
decimals_moved m points = if nat_lt m (most_decimals points) then moved_line m else []

-- half the unit: five times as many tenths
abbrev pub half_of : Scaled → List ℕ
half_of u = units_text (u.scale + 1) (5 * unsigned_abs u.value)

-- the line that rounding to multiples of the unit moved coordinates by at most half of it
abbrev pub unit_moved : Scaled → List ℕ
unit_moved u =
    codes "tetfit: rounding to multiples of " ++ unit_text u ++ codes " moved each coordinate by at most " ++ half_of u ++ codes "\n"

-- the line on the unit of the options, where they have one, and that where the points have more than m decimals
abbrev pub moved_text : Options → ℕ → List DecimalPoint → List ℕ
moved_text options m points = option_map_or unit_moved options.unit [] ++ decimals_moved m points

-- ---- the lines

-- fewer decimals may help where the grid of a model has some, and fewer halvings than it may have
abbrev pub grid_help : ℕ → ModelGrid → List ℕ
grid_help most grid = if nat_lt 0 grid.decimals && nat_lt grid.halvings most then codes ": try fewer decimals by --unit=U" else []

-- how many decimals and halvings the grid of a model has
abbrev pub grid_front : ModelGrid → List ℕ
grid_front grid =
    codes "tetfit: the grid has " ++ decimal grid.decimals ++ codes " decimals and " ++ decimal grid.halvings ++ codes " halvings"

-- the line on the grid of a model, which may have at most so many halvings
unfoldable pub grid_line : ℕ → ModelGrid → List ℕ
grid_line most grid = grid_front grid ++ grid_help most grid ++ codes "\n"

-- the grid on which the points of the input are
pub record IsGridOf (limits : Limits) (options : Options) (input : Input) (grid : ModelGrid) : Type 0 where
  pub bound : Bound
  pub on_grid : BoundTried limits options input (Ok bound)
  pub is : grid ≡ bound.table.grid

-- the line on the segment, that on the grid, and that on rounded coordinates
pub record TellsRounded (limits : Limits) (options : Options) (input : Input) (by : Numbering) (piece : Piece) (lines : List ℕ)
    : Type 0 where
  pub line : List ℕ
  pub segment : TellsSegment limits options input by piece line
  pub grid : ModelGrid
  pub of_model : IsGridOf limits options input grid
  pub is : lines ≡ line ++ grid_line options.halvings grid ++ rounding_text options input.nodes.decimals

-- the line of four corners of a facet, and the line on rounded coordinates
abbrev pub uneven_text : Options → List DecimalPoint → Numbering → Tet → List ℕ
uneven_text options points by four = four_line points by four ++ rounding_text options points

-- the lines of two parts, and the line on rounded coordinates
abbrev pub parts_text : Options → List DecimalPoint → Numbering → Option Placed → Part → Part → List ℕ
parts_text options points by placed one two =
    part_line points by placed one ++ part_line points by placed two ++ rounding_text options points

-- the points have more decimals than the coordinates were rounded to
abbrev pub has_more_decimals : Option ℕ → ℕ → Bool
has_more_decimals None most = false
has_more_decimals (Some m) most = nat_lt m most

-- coordinates were rounded to multiples of a unit, or the points have more decimals
abbrev pub is_rounded : Options → ℕ → Bool
is_rounded options most = is_some options.unit || has_more_decimals options.decimals most

-- what would help two parts that cross once coordinates are rounded, or as they are in the file
abbrev pub parts_help : Bool → List ℕ
parts_help false = codes "tetfit: give both parts the points in which they meet, or drop one of equal ones\n"
parts_help true =
    codes "tetfit: if they meet in the file, give both the points in which they do, or drop one of equal ones\n"
    ++ codes "tetfit: if not, rounding made them meet: move them apart, or try another rounding by --unit=U\n"

-- the lines of two parts that cross, with what would help
abbrev pub crossing_text : Options → List DecimalPoint → Numbering → Option Placed → Part → Part → List ℕ
crossing_text options points by placed one two =
    parts_text options points by placed one two ++ parts_help (is_rounded options (most_decimals points))

-- such lines, with the coordinates of added points
pub record TellsCrossing (limits : Limits) (options : Options) (input : Input) (by : Numbering) (one two : Part) (lines : List ℕ)
    : Type 0 where
  pub placed : Placed
  pub of_model : IsPlaced limits options input placed
  pub is : lines ≡ crossing_text options input.nodes.decimals by (Some placed) one two

-- the lines of two segments, with what would help
abbrev pub TellsSegments : Options → List DecimalPoint → Numbering → Piece → Piece → List ℕ → Type 0
TellsSegments options points by one two lines =
    (help : List ℕ) × TellsHelp points by one two help
    × (lines ≡ parts_text options points by None (SegmentPart one) (SegmentPart two) ++ help)

-- the lines that follow the message on an input with these options, refused with the status, its points numbered by
-- `by`
abbrev pub IsHintBy : Limits → Options → Input → Numbering → Status → List ℕ → Type 0
IsHintBy limits options input by Flat lines = lines ≡ flat_text options input.nodes.decimals
IsHintBy limits options input by (NotFlat facet four) lines = lines ≡ uneven_text options input.nodes.decimals by four
IsHintBy limits options input by (SegmentsCross one two) lines = TellsSegments options input.nodes.decimals by one two lines
IsHintBy limits options input by (Crossing one two) lines = TellsCrossing limits options input by one two lines
IsHintBy limits options input by (GridEnd piece) lines = TellsRounded limits options input by piece lines
IsHintBy limits options input by (BudgetEnd made piece) lines = TellsSegment limits options input by piece lines
IsHintBy limits options input by status lines = lines ≡ []

-- ---- a point off the grid

abbrev pub front_of : Stated → List ℕ
front_of Lines = codes "tetfit: line "
front_of Facets = codes "tetfit: facet "

-- a place in the file
abbrev pub front_text : Stated → ℕ → List ℕ
front_text stated place = front_of stated ++ decimal place

-- the line that the point at a place is off the grid
abbrev pub refusal_line : Stated → ℕ → List ℕ
refusal_line stated place = front_text stated place ++ codes ": coordinate off the grid\n"

-- the beginning of the line on its coordinates
abbrev pub has_text : Stated → ℕ → List ℕ
has_text stated place = front_text stated place ++ codes " has"

-- the rest of that line
abbrev pub at_line : DecimalPoint → List ℕ
at_line p = at_text p ++ codes "\n"

abbrev pub point_line : Stated → DecimalPoint → List ℕ
point_line stated p = has_text stated p.line ++ at_line p

-- the line on a point off the grid, and that on its coordinates
abbrev pub point_lines : Stated → DecimalPoint → List ℕ
point_lines stated p = refusal_line stated p.line ++ point_line stated p

-- what would help where coordinates are rounded to m decimals
abbrev pub help_of_grid : ℕ → List ℕ
help_of_grid m =
    if m == 0 then codes "tetfit: no coordinate may be over 536870912 from the middle: scale the model down\n" else
    codes "tetfit: no coordinate may be over 536870912 units of the last decimal from the middle: round to fewer decimals\n"

-- the lines on a point off the grid at m decimals: its place, its coordinates, and what would help
abbrev pub off_grid_lines : ℕ → Stated → DecimalPoint → List ℕ
off_grid_lines m stated p = point_lines stated p ++ help_of_grid m

-- the most decimals of the points once they are rounded to m decimals, and measured from the origin
abbrev pub finest_at : Option WholePoint → ℕ → List DecimalPoint → ℕ
finest_at origin m points = most_decimals (map (point_at origin m) points)

-- the point has a coordinate over `wide` units of 10^-finest from the origin, where coordinates are rounded to m decimals
abbrev pub is_off_at : ℕ → ℕ → Option WholePoint → ℕ → DecimalPoint → Bool
is_off_at wide finest origin m p = is_over wide finest (point_at origin m p)

-- the text on the first of the points that is off the grid, once all are rounded to m decimals
abbrev pub off_grid_text : ℕ → Option WholePoint → ℕ → Stated → List DecimalPoint → List ℕ
off_grid_text wide origin m stated points =
    option_map_or (off_grid_lines m stated) (find (is_off_at wide (finest_at origin m points) origin m) points) []

-- the text on an input that is on no grid at m decimals
abbrev pub grid_hint : Limits → Option WholePoint → ℕ → Stated → Input → Status → List ℕ
grid_hint limits origin m stated input (Limit (Grid line)) = off_grid_text limits.grid origin m stated input.nodes.decimals
grid_hint limits origin m stated input status = []

abbrev pub IsHint : Limits → Stated → Options → Input → Option Numbering → Status → List ℕ → Type 0
IsHint limits stated options input None status lines = lines ≡ grid_hint limits options.origin (unwrap_or options.decimals 0) stated input
    status
IsHint limits stated options input (Some by) status lines = IsHintBy limits options input by status lines
