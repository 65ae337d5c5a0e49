use Rattle.box_tree.proofs.Trees.{same_keyed, tree_of_boxes}
use Rattle.box_tree.proofs.Lists.{if_ok}
use Rattle.box_tree.proofs.tree.tree_of.Goals as goal

pub keep_distinct-requires : goal.keep_distinct-requires
keep_distinct-requires c x y e = same_keyed x y e

pub returns : goal.returns
returns c =
    if_ok c.nodes_of.result
    (λ nodes h. tree_of_boxes c.args.boxes c.in_ok-keyed.keyed c.keep_distinct.new.self nodes c.in_ok-keyed.ensures c.keep_distinct.ensures.exactly h)
    c.nodes_of.ensures
