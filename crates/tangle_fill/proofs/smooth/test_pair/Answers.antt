use Rattle.std.proofs.Common.{subst}
use Rattle.geo_laws.specs.Delaunay.{IsOn}
use Rattle.tangle_fill.proofs.Joined.{bent_rows}
use Rattle.tangle_fill.proofs.smooth.test_pair.Goals as goal

pub are_bent-requires-clause-first : goal.are_bent-requires-clause-first
are_bent-requires-clause-first c = let m = c.requires.first in subst (IsOn c.args.points.now) m.2 (c.requires.whole.admissible m.0 c.args.s m.1).is_on

pub are_bent-requires-clause-second : goal.are_bent-requires-clause-second
are_bent-requires-clause-second c = let m = c.requires.second in subst (IsOn c.args.points.now) m.2 (c.requires.whole.admissible m.0 c.args.t m.1).is_on

pub returns-then-are_bent : goal.returns-then-are_bent
returns-then-are_bent c =
    bent_rows c.args.points.now c.args.triangles.now c.args.growth.now.rows c.args.s c.args.t c.requires.facets c.requires.whole c.requires.first c.requires.second (c.are_bent.ensures.bent c.if-are_bent.true)
