use Rattle.std.specs.Int.{w128}
use Rattle.std.proofs.Common.{◌≡◌, ℕ, ℤ, ◌+◌, ◌++◌, ap, ◌∙◌, arith, pos, w32, w64}
use Rattle.std.specs.Prelude.{int_lt, unsigned_abs}
use Rattle.std.proofs.lemmas.Int.{to_z-of_z, fits_signed_from_abs}
use Rattle.tet_text.specs.Decimals.{lowest}
use Rattle.tet_text.specs.Printing.{sign_text, size_text}
use Rattle.tet_text.proofs.Scaling.{lowest_le}
use Rattle.grid_coords.specs.Origins.{text_from, parts_from}
use Rattle.grid_coords.proofs.Printed.{ok_same}
use Rattle.grid_coords.proofs.Moved.{printed_from}
use Rattle.grid_coords.proofs.printing.print_from.Goals as goal

pub print_scaled-requires : goal.print_scaled-requires
print_scaled-requires c =
    let n = c.parts_from-parts.result in
    let back = to_z-of_z w128 n (fits_signed_from_abs w128 n (omega (arith, c.parts_from-parts.ensures.small))) in
    let size : c.unsigned_abs.result ≡ unsigned_abs n = c.unsigned_abs.ensures.value ∙ ap unsigned_abs back in
    let le = lowest_le c.unsigned_abs.result (c.from.result + c.from-2.result) in
    rw c.lowest-size.ensures.value (omega (arith, c.parts_from-parts.ensures.small))

pub returns-clause-ok : goal.returns-clause-ok
returns-clause-ok c =
    let g = c.args.grid.now in
    let n = c.parts_from-parts.result in
    let back = to_z-of_z w128 n (fits_signed_from_abs w128 n (omega (arith, c.parts_from-parts.ensures.small))) in
    let same-c = to_z-of_z w32 c.args.coordinate c.ranges.coordinate in
    let same-w = to_z-of_z w64 c.args.w c.ranges.w in
    let value = c.parts_from-parts.ensures.value ∙ (λ j. parts_from (same-w j) g (same-c j)) in
    let low = c.lowest-size.ensures.value ∙ ap (λ (m : ℕ). lowest m (c.from.result + c.from-2.result)) (c.unsigned_abs.ensures.value ∙ ap unsigned_abs back)
    ∙ ap (λ (d : ℕ). lowest (unsigned_abs n) (d + c.from-2.result)) c.from.ensures ∙ ap (λ (k : ℕ). lowest (unsigned_abs n) (g.decimals + k)) c.from-2.ensures in
    let s = c.lowest-size.result in
    ok_same c.print_scaled.result c.args.out.now c.print_scaled.new.out _ (text_from c.args.w g c.args.coordinate)
    (ap (λ (z : ℤ). sign_text (int_lt z (pos 0)) ++ size_text s.0 s.1) back ∙ printed_from c.args.w g c.args.coordinate n s value low)
    c.print_scaled.ensures.ok
