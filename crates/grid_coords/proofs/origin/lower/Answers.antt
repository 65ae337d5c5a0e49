use Rattle.std.proofs.Common.{arith}
use Rattle.std.proofs.lemmas.Int.{ints}
use Rattle.grid_coords.specs.Origins.{most_whole}
use Rattle.grid_coords.proofs.origin.lower.Goals as goal

pub returns-clause-small : goal.returns-clause-small
returns-clause-small c =
    let a = c.requires.a_small in
    let b = c.requires.b_small in
    let x = c.lesser.ensures.small most_whole (omega (arith, ints, a.x)) (omega (arith, ints, b.x)) in
    let y = c.lesser-2.ensures.small most_whole (omega (arith, ints, a.y)) (omega (arith, ints, b.y)) in
    let z = c.lesser-3.ensures.small most_whole (omega (arith, ints, a.z)) (omega (arith, ints, b.z)) in
    record { x = omega (arith, ints, x); y = omega (arith, ints, y); z = omega (arith, ints, z) }
