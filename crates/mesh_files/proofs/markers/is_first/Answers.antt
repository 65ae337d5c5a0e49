use Rattle.incidence.proofs.Halves.{run_marked, follows_unmarked}
use Rattle.mesh_files.proofs.markers.is_first.Goals as goal

pub returns-clause-first : goal.returns-clause-first
returns-clause-first c h = run_marked c.args.list.now c.args.uses.now c.args.at c.at.result c.requires.uses c.requires.there c.at.ensures h

pub returns-clause-later : goal.returns-clause-later
returns-clause-later c h = follows_unmarked c.args.list.now c.args.uses.now c.args.at c.at.result c.requires.uses c.requires.there c.at.ensures h
