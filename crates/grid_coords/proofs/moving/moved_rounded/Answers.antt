use Rattle.std.proofs.Common.{◌^◌, arith, w64}
use Rattle.std.specs.Prelude.{unsigned_abs}
use Rattle.std.proofs.lemmas.Int.{to_z-of_z}
use Rattle.grid_coords.proofs.Moved.{fewer_tens, rounded_scale}
use Rattle.grid_coords.proofs.moving.moved_rounded.Goals as goal

pub moved-requires-clause-fine : goal.moved-requires-clause-fine
moved-requires-clause-fine c =
    let le = rounded_scale c.args.decimals c.args.d.now in
    rw c.round_to.ensures (omega arith)

pub moved-requires-clause-near : goal.moved-requires-clause-near
moved-requires-clause-near c =
    let back = to_z-of_z w64 c.args.w c.ranges.w in
    let le = rounded_scale c.args.decimals c.args.d.now in
    rw (c.round_to.ensures, back) (fewer_tens (unsigned_abs c.args.w) _ c.args.decimals (10 ^ 23) le c.requires.near)
