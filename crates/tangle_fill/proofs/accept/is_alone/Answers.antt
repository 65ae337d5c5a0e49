use Rattle.tangle_fill.proofs.Changes.{row_at, all_rows, alone_in}
use Rattle.tangle_fill.proofs.accept.is_alone.Goals as goal

pub is_alone_among-requires-clause-on : goal.is_alone_among-requires-clause-on
is_alone_among-requires-clause-on c k d l = (c.requires.change.added_rows k d l).0

pub is_alone_among-requires-clause-row : goal.is_alone_among-requires-clause-row
is_alone_among-requires-clause-row c = (row_at c.args.points.now c.args.list.now c.args.change.now c.requires.delaunay c.requires.change c.args.row c.requires.row).0

pub is_alone_among-requires-else-holds_row-clause-on : goal.is_alone_among-requires-else-holds_row-clause-on
is_alone_among-requires-else-holds_row-clause-on c k d l = (all_rows c.args.points.now c.args.list.now c.args.change.now c.requires.delaunay c.requires.change k d l).0

pub is_alone_among-requires-else-holds_row-clause-row : goal.is_alone_among-requires-else-holds_row-clause-row
is_alone_among-requires-else-holds_row-clause-row c = (row_at c.args.points.now c.args.list.now c.args.change.now c.requires.delaunay c.requires.change c.args.row c.requires.row).0

pub returns-then-holds_row : goal.returns-then-holds_row
returns-then-holds_row c h =
    alone_in c.args.points.now c.args.list.now c.args.change.now c.requires.delaunay c.requires.change c.args.row (c.holds_row.ensures c.if-holds_row.true) (c.is_alone_among.ensures h)
