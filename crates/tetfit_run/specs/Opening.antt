-- What is told of a model whose mesh has no tetrahedron: where the surface is open, or that hole points carve all of it.
use Rattle.std.specs.Prelude.{◌≡◌, ◌≢◌, ℕ, ◌+◌, ◌==◌, min, max, true, false, not, Bool, length, List, ◌++◌, codes, Option, Some, None, Result, Ok, Err, if◌then◌else◌}
use Rattle.std.specs.Fmt.{decimal}
use Rattle.command_words.specs.declared.options.Options.{Options}
use Rattle.geo_laws.specs.declared.complex.Piece.{Piece}
use Rattle.node_files.specs.declared.limits.Limits.{Limits}
use Rattle.run_steps.specs.Numbering.{numbering_of}
use Rattle.run_steps.specs.declared.input.Input.{Input}
use Rattle.run_steps.specs.declared.mesh.Bound.{Bound}
use Rattle.run_steps.specs.declared.numbering.Numbering.{Numbering}
use Rattle.run_steps.specs.declared.outputs.Outputs.{Outputs}
use Rattle.run_steps.specs.declared.status.Status.{Status}
use Rattle.run_steps.specs.declared.status.Status.TheVariants.{NoMemory}
use Rattle.tetfit_run.specs.Hints.{number_text}
use Rattle.tetfit_run.specs.Holes.{without_holes, without_hole_points}
use Rattle.tetfit_run.specs.Measured.{BoundTried, MeshedTried}
use Rattle.tetfit_run.specs.Sides.{first_open}
use Rattle.tetfit_run.specs.Trying.{MadeAnswer}
use Rattle.tetfit_run.specs.declared.sides.FacetSide.{FacetSide}

-- ---- an open side

-- facets count from 1
abbrev pub open_line : Numbering → Piece → ℕ → List ℕ
open_line by p k =
    codes "tetfit: the surface is open: only facet " ++ decimal (k + 1) ++ codes " has the side"
    ++ number_text by (min p.a p.b) ++ number_text by (max p.a p.b) ++ codes "\n"

abbrev pub shared_line : List ℕ
shared_line = codes "tetfit: each side of a facet is shared, at least in part\n"

-- the line names the open side, where there is one
abbrev pub side_line : Numbering → Option FacetSide → List ℕ
side_line by None = shared_line
side_line by (Some s) = open_line by s.side s.facet

-- the line on a complex that encloses nothing
abbrev pub surface_line : Bound → List ℕ
surface_line bound = side_line (numbering_of bound.table) (first_open bound.table.points bound.complex)

-- ---- hole points

-- the mesh has no tetrahedron
abbrev pub is_empty : Outputs → Bool
is_empty outputs = outputs.tetrahedra == 0

abbrev pub carved_line : List ℕ
carved_line = codes "tetfit: hole points carve all of it\n"

abbrev pub either_line : List ℕ
either_line = codes "tetfit: the facets enclose nothing, or hole points carve all of it\n"

abbrev pub has_holes : Bound → Bool
has_holes bound = not (length bound.complex.holes == 0)

-- The line where there are hole points, by the answer for the input without them: `surface` where its mesh has no tetrahedron either, and
-- that hole points carve all of it where it has one. Where the input is refused without them, either may be
abbrev pub TellsCarved : List ℕ → Result Outputs Status → List ℕ → Type 0
TellsCarved surface (Ok outputs) line = line ≡ (if is_empty outputs then surface else carved_line)
TellsCarved surface (Err status) line = (status ≢ NoMemory) × (line ≡ either_line)

-- the line on an input whose mesh has no tetrahedron, by whether there are hole points
abbrev pub TellsOpeningIf : Bool → Limits → Options → Input → Bound → List ℕ → Type 0
TellsOpeningIf false limits options input bound line = line ≡ surface_line bound
TellsOpeningIf true limits options input bound line =
    (answer : Result Outputs Status) × MeshedTried limits options (without_holes input) answer
    × TellsCarved (surface_line bound) answer line

-- and by the input on its grid
abbrev pub TellsOpening : Limits → Options → Input → List ℕ → Type 0
TellsOpening limits options input line =
    (bound : Bound) × BoundTried limits options input (Ok bound) × TellsOpeningIf (has_holes bound) limits options input bound line

-- ---- by the points and the complex on their grid

-- where there are hole points
abbrev pub TellsCarvedBy : Options → Bound → List ℕ → Type 0
TellsCarvedBy options bound line =
    (answer : Result Outputs Status) × MadeAnswer options (without_hole_points bound) answer × TellsCarved (surface_line bound) answer line

abbrev pub TellsOpeningBy : Bool → Options → Bound → List ℕ → Type 0
TellsOpeningBy false options bound line = line ≡ surface_line bound
TellsOpeningBy true options bound line = TellsCarvedBy options bound line
