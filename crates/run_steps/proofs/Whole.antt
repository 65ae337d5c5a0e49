-- A mesh that can be written, with its faces, as one file has it whole, and with its edges in second order.
use Rattle.std.proofs.Common.{◌<◌, Bool, List, Option, arith}
use Rattle.std.specs.Prelude.{All}
use Rattle.geo_laws.specs.Faces.{AreSidesOf}
use Rattle.geo_laws.specs.declared.faces.Side.{Side}
use Rattle.grid_coords.specs.declared.origin.WholePoint.{WholePoint}
use Rattle.mesh_files.specs.FaceRows.{AreFaceRowsOf}
use Rattle.mesh_files.specs.Texts.{marked_corners, AreNamed}
use Rattle.mesh_files.specs.declared.markers.FaceRow.{FaceRow}
use Rattle.node_files.specs.Writing.{IsNearGrid}
use Rattle.solver_files.specs.Mesh.{IsWritten}
use Rattle.solver_files.specs.Second.{IsSecond}
use Rattle.run_steps.proofs.Named.{faces_named}
use Rattle.run_steps.specs.Outputs.{second_in, whole_of, IsWritable}
use Rattle.run_steps.specs.declared.meshed.Meshed.{Meshed}

pub written_of : (origin : Option WholePoint) (mesh : Meshed) (faces : List FaceRow) → IsWritable mesh → IsNearGrid origin mesh.table.grid
    → All (λ face. AreNamed mesh.names (marked_corners face)) faces → IsWritten (whole_of origin mesh faces)
written_of origin mesh faces can near named =
    let few = can.few in
    record {
      table = can.table;
      near = near;
      few = omega arith;
      few_added = omega arith;
      named = can.named;
      faces_named = named;
      long = can.marks_long;
      regions = can.marks_there;
    }

pub second_of_written : (origin : Option WholePoint) (mesh : Meshed) (all : Bool) (faces : List FaceRow) (sides : List Side) → IsWritable mesh → IsNearGrid origin mesh.table.grid
    → mesh.table.grid.halvings < 18 → AreFaceRowsOf mesh.points mesh.tetrahedra mesh.complex mesh.triangles all faces → AreSidesOf mesh.tetrahedra sides → IsSecond (second_in origin mesh faces sides)
second_of_written origin mesh all faces sides can near few are_faces are_sides = record {
  written = written_of origin mesh faces can near (faces_named mesh.names mesh.points mesh.tetrahedra mesh.complex mesh.triangles all faces can.named are_faces);
  ascending = are_sides.ascending;
  halvings = omega arith;
}
