use Rattle.std.proofs.Common.{ℕ}
use Rattle.std.specs.Prelude.{flat_map}
use Rattle.geo_laws.specs.declared.faces.Side.{Side}
use Rattle.solver_files.specs.Second.{corner_number, middle_number, number_field, second_of}
use Rattle.solver_files.proofs.Parts.{last_part}
use Rattle.solver_files.proofs.second_mesh.put_corner_fields.Goals as goal

pub returns : goal.returns
returns c =
    let m = second_of c.args.mesh.now in
    let corners = flat_map (λ (v : ℕ). number_field (corner_number m c.args.first v)) c.args.corners.now in
    let middles = flat_map (λ (s : Side). number_field (middle_number m c.args.first s)) c.args.edges.now in
    last_part c.put_middles.result c.args.out.now corners c.put_corners.new.out c.put_middles.new.out middles c.in_ok-put_corners.ensures c.put_middles.ensures
