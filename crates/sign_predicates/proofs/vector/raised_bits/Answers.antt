use Rattle.std.proofs.Common.{◌^◌, ◌<◌, ◌≤◌, subst, bit_or, unsigned_abs, ℤ}
use Rattle.sign_predicates.specs.Vector.{IsShort}
use Rattle.sign_predicates.proofs.Short.{first_below, second_below}
use Rattle.sign_predicates.proofs.Vectors.{coordinate_back}
use Rattle.sign_predicates.proofs.vector.raised_bits.Goals as goal

pub returns : goal.returns
returns c = λ h.
    let v = c.v.inside in
    let g = c.v.invariant in
    let x = c.raised.result in
    let y = c.raised-2.result in
    let z = c.raised-3.result in
    let n = 2 ^ 21 in
    let xy : bit_or x y < n = first_below (bit_or x y) z n h in
    let short = λ (k : ℤ). unsigned_abs k ≤ 2 ^ 20 in
    subst IsShort c.v.view_is (record {
      x_short = subst short (coordinate_back v.x g.x_small) (c.raised.ensures (first_below x y n xy));
      y_short = subst short (coordinate_back v.y g.y_small) (c.raised-2.ensures (second_below x y n xy));
      z_short = subst short (coordinate_back v.z g.z_small) (c.raised-3.ensures (second_below (bit_or x y) z n h));
    })
