-- What is shown of the rounds of a refinement.
use Rattle.std.specs.Prelude.{◌≡◌, ◌≤◌, List, All, length}
use Rattle.command_words.specs.declared.options.Options.{Options}
use Rattle.complex_mesh.specs.declared.mesh.ComplexMesh.{ComplexMesh}
use Rattle.node_files.specs.Writing.{IsNearGrid}
use Rattle.run_steps.specs.declared.mesh.Bound.{Bound}
use Rattle.refining.specs.Counts.{counts_of}
use Rattle.refining.specs.Refining.{IsTakenMesh}
use Rattle.refining.specs.Worst.{IsWorst}
use Rattle.refining.specs.declared.goal.ShapeBounds.{ShapeBounds}
use Rattle.refining.specs.declared.refining.Taken.{Taken}
use Rattle.refining.specs.declared.watch.Frame.{Frame}
use Rattle.refining.specs.declared.watch.Round.{Round}

-- the unit of the coordinates of a mesh, and the origin from which they are measured, as its files have them
abbrev pub frame_of : Options → Bound → Frame
frame_of options bound = record { grid = bound.table.grid; origin = options.origin }

-- coordinates can be printed: the grid is halved at most 18 times, and the origin is near it, where there is one
pub record IsPrintable (frame : Frame) : Type 0 where
  pub halvings : frame.grid.halvings ≤ 18
  pub near : IsNearGrid frame.origin frame.grid

-- the round has the numbers of a mesh, and tells where it is worst
pub record IsRoundIn (shapes : ShapeBounds) (of_files : Frame) (made : ComplexMesh) (round : Round) : Type 0 where
  pub points : round.points ≡ length made.points
  pub tetrahedra : round.tetrahedra ≡ length made.tetrahedra
  pub counts : round.counts ≡ counts_of shapes made.points made.tetrahedra made.marks
  pub frame : round.frame ≡ of_files
  pub worst : IsWorst shapes made.points made.tetrahedra round.worst

-- the round is that of a mesh of the complex with points behind its own
abbrev pub IsRoundOf : ShapeBounds → Options → Bound → Round → Type 0
IsRoundOf shapes options bound round =
    (taken : Taken) × IsTakenMesh options bound taken × IsRoundIn shapes (frame_of options bound) taken.made round

-- such rounds were shown from one state to another
abbrev pub AreShown : {S : Type 0} → (List Round → S → S → Type 0) → ShapeBounds → Options → Bound → S → S → Type 0
AreShown shown shapes options bound s t =
    (rounds : List Round) × All (IsRoundOf shapes options bound) rounds × shown rounds s t
