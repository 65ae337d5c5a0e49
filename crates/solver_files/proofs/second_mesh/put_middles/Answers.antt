use Rattle.std.proofs.Common.{◌≡◌, ◌++◌, get_or, refl, arith, rules}
use Rattle.std.specs.Prelude.{flat_map}
use Rattle.std.proofs.lemmas.List.{get_or_default}
use Rattle.geo_laws.specs.declared.faces.Side.{Side}
use Rattle.solver_files.specs.Second.{middle_number, number_field, second_of}
use Rattle.solver_files.proofs.Parts.{next_item, all_items}
use Rattle.solver_files.proofs.second_mesh.put_middles.Goals as goal

pub loop-edge-preserved : goal.loop-edge-preserved
loop-edge-preserved c =
    let field = λ (s : Side). number_field (middle_number (second_of c.args.mesh.now) c.args.first s) in
    let xs = c.args.edges.now in
    let i = c.loop-edge.edge-index in
    let none : Side = record { a = 0; b = 0 } in
    let s = get_or xs i none in
    let written : c.put_middle.new.out ≡ c.loop-edge.out ++ field s = search rules in
    next_item field i xs s c.loop-edge.out _ _ c.loop-edge-test.true (get_or_default xs i s none c.loop-edge-test.true) written c.loop-edge.invariant

pub returns : goal.returns
returns c =
    let field = λ (s : Side). number_field (middle_number (second_of c.args.mesh.now) c.args.first s) in
    all_items (flat_map field) c.loop-edge.edge-index c.args.edges.now c.loop-edge.out _ refl (omega arith) c.loop-edge.invariant
