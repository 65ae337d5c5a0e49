use Rattle.std.proofs.Common.{◌*◌, ◌^◌, arith}
use Rattle.std.proofs.lemmas.Nat.{mul-le}
use Rattle.tet_shapes.proofs.shape.sum_of_squares.Goals as goal

pub returns-clause-size : goal.returns-clause-size
returns-clause-size c =
    let n = c.args.n in
    let most = 9 * 2 ^ 121 in
    let xx = mul-le n.x n.x most most c.requires.x c.requires.x in
    let yy = mul-le n.y n.y most most c.requires.y c.requires.y in
    let zz = mul-le n.z n.z most most c.requires.z c.requires.z in
    omega (arith, xx, yy, zz, c.product.ensures, c.product-2.ensures, c.product-3.ensures, c.plus.ensures, c.plus-2.ensures)
