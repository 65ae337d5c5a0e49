-- Meshes of a complex with more and more points behind its own.
use Rattle.std.specs.Prelude.{◌≡◌, ◌≤◌, true, [], length, Ok}
use Rattle.command_words.specs.declared.options.Options.{Options}
use Rattle.run_steps.specs.Meshing.{MeshOf}
use Rattle.run_steps.specs.declared.mesh.Bound.{Bound}
use Rattle.run_steps.specs.declared.meshed.Meshed.{Meshed}
use Rattle.refining.specs.Corners.{AreCorners}
use Rattle.refining.specs.Refined.{IsFewWith, MeshAnswerWith}
use Rattle.refining.specs.declared.refining.Bounds.{Bounds}
use Rattle.refining.specs.declared.refining.Refined.{Refined}
use Rattle.refining.specs.declared.refining.Taken.{Taken}
use Rattle.refining.specs.declared.refining.Turn.{Turn}
use Rattle.refining.specs.declared.refining.Turn.TheVariants.{More}

-- A mesh that was made with points behind those of the complex, each of which is a corner; without any, with as many halvings
-- as the grid allows
pub record IsTakenMesh (options : Options) (bound : Bound) (taken : Taken) : Type 0 where
  pub made : IsFewWith options bound taken.added taken.halvings taken.made
  pub corners : AreCorners (length bound.table.points) (length taken.added) taken.made.tetrahedra
  pub bare : taken.added ≡ [] → taken.halvings ≡ bound.table.grid.halvings

-- a round comes to such a mesh, or to none
abbrev pub IsTurn : Options → Bound → Turn → Type 0
IsTurn options bound (More taken) = IsTakenMesh options bound taken
IsTurn options bound turn = Unit {0}

-- A mesh of the complex with the points that were added, each of which is a corner; without any it is that of a run
pub record IsRefinedBehind (options : Options) (bound : Bound) (refined : Refined) : Type 0 where
  pub answer : MeshAnswerWith refined.added refined.halvings options bound refined.mesh
  pub corners : AreCorners (length bound.table.points) (length refined.added) refined.mesh.tetrahedra
  pub same : refined.added ≡ [] → MeshOf true options bound (Ok refined.mesh)

-- The complex has a mesh without further points. The answer is one with the points that were added, and without any where
-- none was
pub record IsRefinedTo (options : Options) (bound : Bound) (bounds : Bounds) (refined : Refined) : Type 0 where
  pub plain : Meshed
  pub plain_is : MeshOf true options bound (Ok plain)
  pub behind : IsRefinedBehind options bound refined
  pub rounds : refined.rounds ≤ bounds.rounds
