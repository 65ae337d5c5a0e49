use Rattle.std.proofs.Common.{arith}
use Rattle.tangle_fill.proofs.Spheres.{place_of}
use Rattle.tangle_fill.proofs.Trees.{point_tree_had}
use Rattle.tangle_fill.proofs.search.emptiest_near.Goals as goal

pub overflow_cast-j : goal.overflow_cast-j
overflow_cast-j c = omega (arith, c.args.complex.now.few, place_of c.args.complex.now.points.now c.args.complex.now.point_tree c.loop-k.k c.get.result.now c.args.complex.now.over_points (omega arith) c.get.ensures)

pub is_untried-requires-clause-is_there : goal.is_untried-requires-clause-is_there
is_untried-requires-clause-is_there c = place_of c.args.complex.now.points.now c.args.complex.now.point_tree c.loop-k.k c.get.result.now c.args.complex.now.over_points (omega arith) c.get.ensures

pub try_point-requires-clause-is_there : goal.try_point-requires-clause-is_there
try_point-requires-clause-is_there c = place_of c.args.complex.now.points.now c.args.complex.now.point_tree c.loop-k.k c.get.result.now c.args.complex.now.over_points (omega arith) c.get.ensures

pub next_meeting-k-requires-clause-tree : goal.next_meeting-k-requires-clause-tree
next_meeting-k-requires-clause-tree c = (point_tree_had _ _ c.args.complex.now.over_points).tree

pub next_meeting-k-requires-in-loop-k-clause-tree : goal.next_meeting-k-requires-in-loop-k-clause-tree
next_meeting-k-requires-in-loop-k-clause-tree c = (point_tree_had _ _ c.args.complex.now.over_points).tree
