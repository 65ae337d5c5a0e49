use Rattle.std.proofs.Common.{◌≡◌, ◌∙◌, [], ◌∷◌, w32, to_z, of_z}
use Rattle.grid_coords.specs.Units.{grid_text}
use Rattle.grid_coords.proofs.HalfSums.{kept, on_grid}
use Rattle.grid_coords.proofs.Printed.{ok_same}
use Rattle.node_files.specs.Writing.{place_fields}
use Rattle.solver_files.specs.Mesh.{spaced}
use Rattle.solver_files.proofs.Parts.{place_part}
use Rattle.solver_files.proofs.place.put_grid_place.Goals as goal

pub returns : goal.returns
returns c =
    let g = c.args.grid.now in
    let p = c.p.inside in
    let bounds = c.p.invariant in
    let x = kept p.x (on_grid p.x bounds.x_low bounds.x_high) in
    let y = kept p.y (on_grid p.y bounds.y_low bounds.y_high) in
    let z = kept p.z (on_grid p.z bounds.z_low bounds.z_high) in
    let x-text = grid_text g (to_z w32 (of_z w32 p.x)) in
    let y-text = grid_text g (to_z w32 (of_z w32 p.y)) in
    let z-text = grid_text g (to_z w32 (of_z w32 p.z)) in
    let last = c.print_grid-3.new.out in
    let all = place_part c.print_grid-3.result c.args.out.now c.print_grid.new.out c.push.new.self c.print_grid-2.new.out c.push-2.new.self last x-text y-text z-text
    c.in_ok-print_grid.ensures.ok c.in_ok-push.ensures.ok c.in_ok-print_grid-2.ensures.ok c.in_ok-push-2.ensures.ok c.print_grid-3.ensures.ok in
    let kept-text : spaced (x-text ∷ y-text ∷ z-text ∷ []) ≡ spaced (grid_text g p.x ∷ grid_text g p.y ∷ grid_text g p.z ∷ []) =
    λ t. spaced (grid_text g (x t) ∷ grid_text g (y t) ∷ grid_text g (z t) ∷ []) in
    let seen : spaced (grid_text g p.x ∷ grid_text g p.y ∷ grid_text g p.z ∷ []) ≡ spaced (place_fields g c.args.p) = λ t. spaced (place_fields g (c.p.view_is t)) in
    ok_same c.print_grid-3.result c.args.out.now last _ (spaced (place_fields g c.args.p)) (kept-text ∙ seen) all
