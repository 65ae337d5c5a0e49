use Rattle.std.proofs.Common.{◌≡◌, ℕ, ◌++◌, drop}
use Rattle.std.specs.Prelude.{flat_map}
use Rattle.solver_files.specs.Second.{corner_number, number_field, second_of}
use Rattle.solver_files.proofs.second_mesh.put_corners.Given as goal

-- the text so far, and the numbers that are left, make up the whole
abbrev pub invariant-loop-corner : goal.invariant-loop-corner
invariant-loop-corner l =
    let field = λ (v : ℕ). number_field (corner_number (second_of l.mesh) l.first v) in
    l.out ++ flat_map field (drop l.corner-index l.corners) ≡ l.fn.out ++ flat_map field l.corners
