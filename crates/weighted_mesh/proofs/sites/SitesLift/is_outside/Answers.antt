use Rattle.std.proofs.Common.{sym, subst, ◌∙◌}
use Rattle.point_locate.specs.Place.{AreOn, row_corners}
use Rattle.weighted_mesh.specs.Regular.{is_weighted_outside}
use Rattle.weighted_mesh.specs.Sites.{Weighted}
use Rattle.weighted_mesh.proofs.Above.{above_of}
use Rattle.weighted_mesh.proofs.sites.SitesLift.is_outside.Goals as goal

pub is_outside-requires-clause-on : goal.is_outside-requires-clause-on
is_outside-requires-clause-on c = subst (λ (v : Weighted). AreOn v.points (row_corners c.args.row)) (sym c.self.view_is) c.requires.on

pub returns : goal.returns
returns c = above_of c.args.self.now.points c.args.self.now.weights c.args.row c.args.number c.is_outside.result c.requires
    (c.is_outside.ensures ∙ (λ i. is_weighted_outside (c.self.view_is i).points (c.self.view_is i).weights c.args.row c.args.number))
