use Rattle.tet_shapes.specs.Shape.{shortest_square}
use Rattle.tet_shapes.proofs.Numbers.{least_is}
use Rattle.tet_shapes.proofs.shape.shortest_square.Goals as goal

pub returns-clause-value : goal.returns-clause-value
unfolding shortest_square
returns-clause-value c =
    let two = least_is c.square_between.result c.square_between-2.result c.min.result _ _ c.min.ensures c.square_between.ensures.value c.square_between-2.ensures.value in
    let three = least_is c.min.result c.square_between-3.result c.min-2.result _ _ c.min-2.ensures two c.square_between-3.ensures.value in
    let four = least_is c.min-2.result c.square_between-4.result c.min-3.result _ _ c.min-3.ensures three c.square_between-4.ensures.value in
    let five = least_is c.min-3.result c.square_between-5.result c.min-4.result _ _ c.min-4.ensures four c.square_between-5.ensures.value in
    least_is c.min-4.result c.square_between-6.result c.min-5.result _ _ c.min-5.ensures five c.square_between-6.ensures.value
