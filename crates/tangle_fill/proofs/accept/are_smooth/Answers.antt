use Rattle.tangle_fill.proofs.Changes.{near_paired, added_near, all_smooth}
use Rattle.tangle_fill.proofs.accept.are_smooth.Goals as goal

pub are_even-requires-clause-paired : goal.are_even-requires-clause-paired
are_even-requires-clause-paired c = near_paired c.args.points.now c.args.list.now c.args.change.now c.requires.delaunay c.requires.change

pub are_even-requires-clause-rows : goal.are_even-requires-clause-rows
are_even-requires-clause-rows c = added_near c.args.points.now c.args.list.now c.args.change.now c.requires.delaunay c.requires.change

pub returns : goal.returns
returns c h =
    all_smooth c.args.points.now c.args.list.now c.args.change.now c.requires.delaunay c.requires.change c.args.triangles.now c.in_ok-faces.faces c.requires.ascending c.in_ok-faces.ensures (c.are_even.ensures h)
