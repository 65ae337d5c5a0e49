use Rattle.std.proofs.Common.{◌≡◌, ℕ, ◌++◌, get_or, refl, arith, rules}
use Rattle.std.specs.Prelude.{flat_map}
use Rattle.std.proofs.lemmas.List.{get_or_default}
use Rattle.solver_files.specs.Second.{corner_number, number_field, second_of}
use Rattle.solver_files.proofs.Parts.{next_item, all_items}
use Rattle.solver_files.proofs.second_mesh.put_corners.Goals as goal

pub loop-corner-preserved : goal.loop-corner-preserved
loop-corner-preserved c =
    let field = λ (v : ℕ). number_field (corner_number (second_of c.args.mesh.now) c.args.first v) in
    let xs = c.args.corners.now in
    let i = c.loop-corner.corner-index in
    let v = get_or xs i 0 in
    let written : c.put_corner.new.out ≡ c.loop-corner.out ++ field v = search rules in
    next_item field i xs v c.loop-corner.out _ _ c.loop-corner-test.true (get_or_default xs i v 0 c.loop-corner-test.true) written c.loop-corner.invariant

pub returns : goal.returns
returns c =
    let field = λ (v : ℕ). number_field (corner_number (second_of c.args.mesh.now) c.args.first v) in
    all_items (flat_map field) c.loop-corner.corner-index c.args.corners.now c.loop-corner.out _ refl (omega arith) c.loop-corner.invariant
