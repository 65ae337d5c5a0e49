use Rattle.std.proofs.Common.{◌≡◌, [], ◌∷◌, w32, to_z, of_z, FitsSigned, rules}
use Rattle.std.proofs.lemmas.Int.{to_z-of_z}
use Rattle.grid_coords.specs.Units.{grid_text}
use Rattle.grid_coords.proofs.Printed.{ok_same}
use Rattle.node_files.specs.Writing.{place_fields}
use Rattle.solver_files.specs.Mesh.{spaced}
use Rattle.solver_files.specs.Second.{point_of}
use Rattle.solver_files.proofs.Parts.{place_part}
use Rattle.solver_files.proofs.middle.put_grid_middle.Goals as goal

pub returns : goal.returns
returns c =
    let g = c.args.grid.now in
    let m = c.args.m in
    let x-fits : FitsSigned w32 m.x = search rules in
    let y-fits : FitsSigned w32 m.y = search rules in
    let z-fits : FitsSigned w32 m.z = search rules in
    let x = to_z-of_z w32 m.x x-fits in
    let y = to_z-of_z w32 m.y y-fits in
    let z = to_z-of_z w32 m.z z-fits in
    let x-text = grid_text g (to_z w32 (of_z w32 m.x)) in
    let y-text = grid_text g (to_z w32 (of_z w32 m.y)) in
    let z-text = grid_text g (to_z w32 (of_z w32 m.z)) in
    let last = c.print_grid-3.new.out in
    let all = place_part c.print_grid-3.result c.args.out.now c.print_grid.new.out c.push.new.self c.print_grid-2.new.out c.push-2.new.self last x-text y-text z-text
    c.in_ok-print_grid.ensures.ok c.in_ok-push.ensures.ok c.in_ok-print_grid-2.ensures.ok c.in_ok-push-2.ensures.ok c.print_grid-3.ensures.ok in
    let kept-text : spaced (x-text ∷ y-text ∷ z-text ∷ []) ≡ spaced (place_fields g (point_of m)) = λ t. spaced (grid_text g (x t) ∷ grid_text g (y t) ∷ grid_text g (z t) ∷ []) in
    ok_same c.print_grid-3.result c.args.out.now last _ (spaced (place_fields g (point_of m))) kept-text all
