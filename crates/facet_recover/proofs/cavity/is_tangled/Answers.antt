use Rattle.std.proofs.Common.{◌*◌, arith}
use Rattle.facet_recover.specs.Cavity.{IsRowOn}
use Rattle.box_tree.proofs.Lists.{all_at}
use Rattle.facet_recover.proofs.cavity.is_tangled.Goals as goal

pub find_owner-requires-clause-on : goal.find_owner-requires-clause-on
find_owner-requires-clause-on c = (all_at (IsRowOn c.args.points.now) c.args.list.now (c.loop-i.i * 64) c.at-tet.result c.requires.rows (omega arith) c.at-tet.ensures).0

pub find_owner-requires-clause-positive : goal.find_owner-requires-clause-positive
find_owner-requires-clause-positive c = (all_at (IsRowOn c.args.points.now) c.args.list.now (c.loop-i.i * 64) c.at-tet.result c.requires.rows (omega arith) c.at-tet.ensures).1

pub returns-in-More : goal.returns-in-More
returns-in-More c is = record {
  row = c.at-tet.result;
  is_row = (c.loop-i.i * 64, omega arith, c.at-tet.ensures c.at-tet.result);
  is_tangled = c.in-More.ensures;
}
