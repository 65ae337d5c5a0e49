use Rattle.std.proofs.Common.{arith}
use Rattle.facet_recover.specs.Cavity.{IsRowOn}
use Rattle.box_tree.proofs.Lists.{all_at}
use Rattle.facet_recover.proofs.Stars.{rows_one, rows_more}
use Rattle.facet_recover.proofs.cavity.star_bounds.Goals as goal

pub tet_bounds-bounds-requires : goal.tet_bounds-bounds-requires
tet_bounds-bounds-requires c = (all_at (IsRowOn c.args.points.now) c.args.list.now c.args.from c.at.result c.requires.rows (omega arith) c.at.ensures).0

pub loop-i-init : goal.loop-i-init
loop-i-init c = rows_one c.args.points.now c.args.list.now c.args.from c.at.result c.tet_bounds-bounds.result c.at.ensures c.tet_bounds-bounds.ensures

pub tet_bounds-requires : goal.tet_bounds-requires
tet_bounds-requires c = (all_at (IsRowOn c.args.points.now) c.args.list.now c.loop-i.i c.at-tet.result c.requires.rows (omega arith) c.at-tet.ensures).0

pub loop-i-preserved : goal.loop-i-preserved
loop-i-preserved c =
    rows_more c.args.points.now c.args.list.now c.args.from c.loop-i.i c.at-tet.result c.loop-i.bounds c.tet_bounds.result c.joined-bounds.result c.loop-i.invariant c.joined-bounds.ensures.first c.at-tet.ensures c.tet_bounds.ensures c.joined-bounds.ensures.second
