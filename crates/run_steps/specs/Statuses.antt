-- How a run ends, by its status: the code with which the program exits, the line that it puts, behind its name, and what `tetfit` puts
-- behind that line. Points have their numbers in the input, added ones behind them, and facets are numbered from 1.
use Rattle.std.specs.Prelude.{ℕ, Bool, true, false, ◌+◌, List, [], ◌++◌, nat_lt, Option, Some, None, codes, if◌then◌else◌}
use Rattle.std.specs.Fmt.{decimal}
use Rattle.mesh_check.specs.Messages.{file_message, line, text_message, usage_message}
use Rattle.mesh_check.specs.Telling.{defect_text}
use Rattle.run_steps.specs.LineParts.{anomaly_text, at_most, ends_text, facet_text, part_text, tetrahedron_text}
use Rattle.run_steps.specs.declared.numbering.Numbering.{Numbering}
use Rattle.run_steps.specs.declared.status.LimitKind.{LimitKind}
use Rattle.run_steps.specs.declared.status.LimitKind.TheVariants.{Bytes, Points, Facets, Corners, Grid, Weight}
use Rattle.run_steps.specs.declared.status.Status.{Status}
use Rattle.run_steps.specs.declared.status.Status.TheVariants.{Done, Usage, Missing, ReadFault, BadText, Limit, Flat, NotFlat, SegmentsCross, Crossing, GridEnd, BudgetEnd, NoFill, Empty, NoMemory, WriteFault, Unsound}

-- the code with which the program exits
abbrev pub code_of : Status → ℕ
code_of Done = 0
code_of (Usage word place) = 1
code_of (Missing name) = 2
code_of (ReadFault name) = 3
code_of (BadText name fault) = 4
code_of (Limit what) = 5
code_of Flat = 6
code_of (NotFlat facet four) = 6
code_of (SegmentsCross one two) = 6
code_of (Crossing one two) = 6
code_of (GridEnd piece) = 7
code_of (BudgetEnd made piece) = 8
code_of (NoFill anomaly) = 9
code_of NoMemory = 10
code_of (WriteFault name) = 11
code_of (Unsound defect first) = 13
code_of Empty = 14

-- ---- the line

-- the line has numbers of points
abbrev pub names_points : Status → Bool
names_points (NotFlat facet four) = true
names_points (SegmentsCross one two) = true
names_points (Crossing one two) = true
names_points (GridEnd piece) = true
names_points (BudgetEnd made piece) = true
names_points (NoFill anomaly) = true
names_points status = false

-- the line on a limit
abbrev pub limit_message : List ℕ → LimitKind → List ℕ
limit_message program (Bytes name most) = file_message program name (codes "over " ++ decimal most ++ codes " bytes")
limit_message program (Points count most) = line program (decimal count ++ codes " points" ++ at_most most)
limit_message program (Facets count most) = line program (decimal count ++ codes " facets" ++ at_most most)
limit_message program (Corners place count most) =
    line program (codes "line " ++ decimal place ++ codes ": " ++ decimal count ++ codes " corners" ++ at_most most)
limit_message program (Grid place) = line program (codes "line " ++ decimal place ++ codes ": coordinate off the grid")
limit_message program (Weight place) = line program (codes "line " ++ decimal place ++ codes ": weight off the grid")

-- the message of a refusal; a run that is done has none
abbrev pub message_of : List ℕ → Option Numbering → Status → List ℕ
message_of program by Done = []
message_of program by (Usage word place) = usage_message program word place
message_of program by (Missing name) = file_message program name (codes "not found")
message_of program by (ReadFault name) = file_message program name (codes "read failed")
message_of program by (BadText name fault) = text_message program name fault
message_of program by (Limit what) = limit_message program what
message_of program by (Unsound defect first) = line program (defect_text first defect)
message_of program by Flat = line program (codes "all points lie in one plane")
message_of program by (NotFlat facet four) =
    line program (codes "facet " ++ facet_text facet ++ codes " is not flat: points" ++ tetrahedron_text by four)
message_of program by (SegmentsCross one two) =
    line program (codes "segments" ++ ends_text by one ++ codes " and" ++ ends_text by two ++ codes " cross")
message_of program by (Crossing one two) = line program (codes "crossing: " ++ part_text by one ++ codes " and " ++ part_text by two)
message_of program by (GridEnd piece) = line program (codes "segment" ++ ends_text by piece ++ codes " needs a finer grid")
message_of program by (BudgetEnd made piece) =
    line program (decimal made ++ codes " splits used, segment" ++ ends_text by piece ++ codes " is missing")
message_of program by (NoFill anomaly) = line program (anomaly_text by anomaly)
message_of program by Empty = line program (codes "nothing is enclosed")
message_of program by NoMemory = line program (codes "out of memory")
message_of program by (WriteFault None) = line program (codes "summary: write failed")
message_of program by (WriteFault (Some name)) = file_message program name (codes "write failed")

-- ---- what tetfit puts behind the line

-- lines on the model follow: on a keyword, on a segment, on crossing parts, on a point off the grid, on points in one plane, on
-- rounded coordinates, or on an open side
abbrev pub has_hint : Status → Bool
has_hint (BadText name fault) = true
has_hint (Limit (Grid line)) = true
has_hint Flat = true
has_hint Empty = true
has_hint (NotFlat facet four) = true
has_hint (SegmentsCross one two) = true
has_hint (Crossing one two) = true
has_hint (GridEnd piece) = true
has_hint (BudgetEnd made piece) = true
has_hint status = false

-- what would help where a limit is passed; for a point off the grid the lines on it tell that
abbrev pub help_of_limit : LimitKind → List ℕ
help_of_limit (Grid line) = []
help_of_limit (Corners line count most) = codes "cut the facet in parts"
help_of_limit what = codes "cut the model in parts"

-- what would help where all points that were allowed were added: -S allows 100,000 at most
abbrev pub help_of_budget : ℕ → List ℕ
help_of_budget made =
    if nat_lt made 100000 then codes "allow more added points by -S" else
    codes "cut the model in parts"

-- one more line, on what would help; empty where nothing is known to, or where the lines before it say it
abbrev pub help_of : Status → List ℕ
help_of (Missing name) = codes "the file of a model is .node, .poly, .smesh, .off or .stl: give its name whole"
help_of (Limit what) = help_of_limit what
help_of Flat = codes "four points that are not in one plane are wanted"
help_of (NotFlat facet four) = codes "cut the facet in triangles"
help_of (GridEnd piece) = codes "move apart what is near the segment, or turn sharp corners wider"
help_of (BudgetEnd made piece) = help_of_budget made
help_of (NoFill anomaly) = codes "move the points of these facets apart"
help_of status = []
