use Rattle.std.proofs.Common.{arith}
use Rattle.box_tree.proofs.Trees.{place_there}
use Rattle.tangle_fill.proofs.crossed.crossing_of.Goals as goal

pub next_meeting-i-requires-clause-tree : goal.next_meeting-i-requires-clause-tree
next_meeting-i-requires-clause-tree c = c.requires.tree.tree

pub at-requires : goal.at-requires
at-requires c = place_there c.args.tree.now c.loop-i.i c.get.result.now c.requires.tree (omega arith) c.get.ensures

pub next_meeting-i-requires-in-loop-i-clause-tree : goal.next_meeting-i-requires-in-loop-i-clause-tree
next_meeting-i-requires-in-loop-i-clause-tree c = c.requires.tree.tree
