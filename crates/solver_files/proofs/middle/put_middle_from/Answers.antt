use Rattle.std.proofs.Common.{◌≡◌, [], ◌∷◌, w32, w64, to_z, of_z, FitsSigned, rules, Some}
use Rattle.std.proofs.lemmas.Int.{to_z-of_z}
use Rattle.grid_coords.specs.Origins.{text_from}
use Rattle.grid_coords.proofs.Printed.{ok_same}
use Rattle.node_files.specs.Writing.{fields_from}
use Rattle.solver_files.specs.Mesh.{spaced}
use Rattle.solver_files.specs.Second.{point_of}
use Rattle.solver_files.proofs.Parts.{place_part}
use Rattle.solver_files.proofs.middle.put_middle_from.Goals as goal

pub returns : goal.returns
returns c =
    let g = c.args.grid.now in
    let o = c.args.o.now in
    let m = c.args.m in
    let x-fits : FitsSigned w64 o.x = search rules in
    let y-fits : FitsSigned w64 o.y = search rules in
    let z-fits : FitsSigned w64 o.z = search rules in
    let from-x = to_z-of_z w64 o.x x-fits in
    let from-y = to_z-of_z w64 o.y y-fits in
    let from-z = to_z-of_z w64 o.z z-fits in
    let mx-fits : FitsSigned w32 m.x = search rules in
    let my-fits : FitsSigned w32 m.y = search rules in
    let mz-fits : FitsSigned w32 m.z = search rules in
    let x = to_z-of_z w32 m.x mx-fits in
    let y = to_z-of_z w32 m.y my-fits in
    let z = to_z-of_z w32 m.z mz-fits in
    let x-text = text_from (to_z w64 (of_z w64 o.x)) g (to_z w32 (of_z w32 m.x)) in
    let y-text = text_from (to_z w64 (of_z w64 o.y)) g (to_z w32 (of_z w32 m.y)) in
    let z-text = text_from (to_z w64 (of_z w64 o.z)) g (to_z w32 (of_z w32 m.z)) in
    let last = c.print_from-3.new.out in
    let all = place_part c.print_from-3.result c.args.out.now c.print_from.new.out c.push.new.self c.print_from-2.new.out c.push-2.new.self last x-text y-text z-text
    c.in_ok-print_from.ensures.ok c.in_ok-push.ensures.ok c.in_ok-print_from-2.ensures.ok c.in_ok-push-2.ensures.ok c.print_from-3.ensures.ok in
    let kept-text : spaced (x-text ∷ y-text ∷ z-text ∷ []) ≡ spaced (fields_from (Some o) g (point_of m)) =
    λ t. spaced (text_from (from-x t) g (x t) ∷ text_from (from-y t) g (y t) ∷ text_from (from-z t) g (z t) ∷ []) in
    ok_same c.print_from-3.result c.args.out.now last _ (spaced (fields_from (Some o) g (point_of m))) kept-text all
