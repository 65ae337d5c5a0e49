use Rattle.std.proofs.Common.{sym, subst, ◌∙◌}
use Rattle.std.proofs.lemmas.Bool.{true≢false}
use Rattle.sign_predicates.specs.Orientation.{IsPositive, InClosed}
use Rattle.geo_laws.specs.declared.tetrahedra.Tet.{Tet}
use Rattle.geo_laws.specs.Delaunay.{corners}
use Rattle.hole_carve.specs.Seeds.{RowHolds}
use Rattle.hole_carve.proofs.Seeding.{added, unadded}
use Rattle.hole_carve.proofs.seeds.add_holder.Goals as goal

pub holds-requires-clause-positive : goal.holds-requires-clause-positive
holds-requires-clause-positive c =
    let d : Tet = record { a = 0; b = 0; c = 0; d = 0 } in
    subst (λ t. IsPositive (corners c.args.points.now t)) (sym c.row_on.ensures.is) (c.requires.positive c.args.at d c.requires.there)

pub returns-then-holds : goal.returns-then-holds
returns-then-holds c =
    added (RowHolds c.args.points.now c.args.list.now c.args.x) c.args.holders.now.items c.push.new.self.items c.args.at c.in_ok-push.ensures.items
    (c.requires.there, subst (λ t. InClosed (corners c.args.points.now t) c.args.x) c.row_on.ensures.is (c.holds.ensures.0 c.if-holds.true))

pub returns : goal.returns
returns c =
    unadded (RowHolds c.args.points.now c.args.list.now c.args.x) c.args.holders.now.items c.args.at
    (λ h. true≢false (sym (c.holds.ensures.1 (subst (λ t. InClosed (corners c.args.points.now t) c.args.x) (sym c.row_on.ensures.is) h.1)) ∙ c.if-holds.false))
