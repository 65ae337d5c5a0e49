use Rattle.std.proofs.Common.{◌≡◌, ◌++◌, drop}
use Rattle.std.specs.Prelude.{flat_map}
use Rattle.geo_laws.specs.declared.faces.Side.{Side}
use Rattle.solver_files.specs.Second.{middle_number, number_field, second_of}
use Rattle.solver_files.proofs.second_mesh.put_middles.Given as goal

-- the text so far, and the numbers that are left, make up the whole
abbrev pub invariant-loop-edge : goal.invariant-loop-edge
invariant-loop-edge l =
    let field = λ (s : Side). number_field (middle_number (second_of l.mesh) l.first s) in
    l.out ++ flat_map field (drop l.edge-index l.edges) ≡ l.fn.out ++ flat_map field l.edges
