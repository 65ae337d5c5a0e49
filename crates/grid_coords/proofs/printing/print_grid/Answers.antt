use Rattle.std.proofs.Common.{ℕ, ℤ, w32, ◌+◌, ◌*◌, ◌^◌, ◌++◌, sym, ap, ◌∙◌, arith, pos}
use Rattle.std.specs.Prelude.{int_lt, unsigned_abs}
use Rattle.std.proofs.lemmas.Int.{to_z-of_z}
use Rattle.tet_text.specs.Decimals.{lowest}
use Rattle.tet_text.specs.Printing.{sign_text, size_text}
use Rattle.tet_text.proofs.Scaling.{lowest_le}
use Rattle.grid_coords.specs.Units.{grid_text}
use Rattle.grid_coords.proofs.Printed.{ok_same, printed, number_at}
use Rattle.grid_coords.proofs.printing.print_grid.Goals as goal

pub returns-clause-ok : goal.returns-clause-ok
returns-clause-ok c =
    let g = c.args.grid.now in
    let n = unsigned_abs c.args.coordinate * 5 ^ g.halvings in
    let s = c.lowest-size.result in
    let back = to_z-of_z w32 c.args.coordinate c.ranges.coordinate in
    let negative = int_lt c.args.coordinate (pos 0) in
    let fives = c.with_fives-size.ensures.value ∙ ap (λ (size : ℕ). size * 5 ^ g.halvings) c.unsigned_abs.ensures.value ∙ ap (λ (z : ℤ). unsigned_abs z * 5 ^ g.halvings) back in
    let low = c.lowest-size.ensures.value ∙ ap (λ (m : ℕ). lowest m (c.from.result + c.from-2.result)) fives ∙ ap (λ (d : ℕ). lowest n (d + c.from-2.result)) c.from.ensures ∙ ap (λ (k : ℕ). lowest n (g.decimals + k)) c.from-2.ensures in
    ok_same c.print_scaled.result c.args.out.now c.print_scaled.new.out _ (grid_text g c.args.coordinate)
    (ap (λ (z : ℤ). sign_text (int_lt z (pos 0)) ++ size_text s.0 s.1) back ∙ printed g c.args.coordinate s (sym low)) c.print_scaled.ensures.ok

pub print_scaled-requires : goal.print_scaled-requires
print_scaled-requires c =
    let le = lowest_le c.with_fives-size.result (c.from.result + c.from-2.result) in
    rw c.lowest-size.ensures.value (omega arith)

pub returns-clause-exact : goal.returns-clause-exact
returns-clause-exact c = number_at c.args.grid.now c.args.coordinate
