use Rattle.std.proofs.Common.{◌≡◌, ◌↔◌, true, false, IsTrue, List, sym, subst, ◌∙◌}
use Rattle.sign_predicates.specs.Point.{Point}
use Rattle.geo_laws.specs.Delaunay.{point}
use Rattle.point_locate.specs.Place.{IsPlace, IsSomePlace}
use Rattle.mesh_laws.specs.LowestRule.{IsLowestTaken}
use Rattle.mesh_laws.specs.LowestLaws.{IsLowestWholeFrom}
use Rattle.cavity_insert.proofs.LiftedRows.{corners_on, same_zone, same_grown}
use Rattle.cavity_insert.proofs.Insertion.{somewhere, hidden_at, whole_at, cavity_for}
use Rattle.cavity_insert.proofs.insert.grow_at.Goals as goal

pub point_at-p-requires : goal.point_at-p-requires
point_at-p-requires g c = rw c.points-points.ensures c.requires.ready.1.is_new.on

pub locate-requires-clause-corners : goal.locate-requires-clause-corners
locate-requires-clause-corners g c =
    rw c.points-points.ensures (corners_on (g.H.Lift.heights c.args.lift.now) c.args.arena.now.slots (g.H.Lift.points c.args.lift.now) c.requires.ready.0 c.args.number c.tet.ensures.mesh c.requires.ready.1)

pub locate-requires-clause-somewhere : goal.locate-requires-clause-somewhere
locate-requires-clause-somewhere g c =
    let ps = g.H.Lift.points c.args.lift.now in
    let q : c.point_at-p.result ≡ point ps c.args.number = rw c.points-points.ensures at c.point_at-p.ensures in
    subst (λ (xs : List Point). IsSomePlace c.args.arena.now.slots xs c.point_at-p.result) (sym c.points-points.ensures)
    (subst (IsSomePlace c.args.arena.now.slots ps) (sym q)
    (somewhere (g.H.Lift.heights c.args.lift.now) _ ps c.requires.ready.0 c.args.number c.tet.ensures.mesh c.requires.ready.1 c.args.near.index c.requires.near))

pub grow-requires-clause-start : goal.grow-requires-clause-start
grow-requires-clause-start g c = rw c.begin.ensures.start_is (c.test.ensures.0 c.if-not-test.false)

pub returns-then-not-test-clause-hidden : goal.returns-then-not-test-clause-hidden
returns-then-not-test-clause-hidden g c ms ready =
    let slots = c.args.arena.now.slots in
    let ps = g.H.Lift.points c.args.lift.now in
    let heights = g.H.Lift.heights c.args.lift.now in
    let q : c.point_at-p.result ≡ point ps c.args.number = rw c.points-points.ensures at c.point_at-p.ensures in
    let place : IsPlace slots ps c.point_at-p.result c.locate.result = subst (λ (xs : List Point). IsPlace slots xs c.point_at-p.result c.locate.result) c.points-points.ensures c.locate.ensures in
    let zone : IsTrue c.test.result ↔ IsLowestTaken heights slots ps c.args.number c.slot_of-first.result.index =
    same_zone g.H.Lift.heights g.H.Lift.points _ _ c.new-search.ensures c.test.result c.slot_of-first.result.index c.test.ensures in
    hidden_at heights slots ps ms c.args.number c.tet.ensures.mesh ready c.point_at-p.result c.locate.result c.slot_of-first.result.index q c.slot_of-first.ensures place
    (λ t. never (sym c.if-not-test.true ∙ zone.1 t))
  where
    never : false ≡ true → ⊥
    never e = cc

pub returns-clause-grown : goal.returns-clause-grown
returns-clause-grown g c =
    let slots = c.args.arena.now.slots in
    let ps = g.H.Lift.points c.args.lift.now in
    let heights = g.H.Lift.heights c.args.lift.now in
    let q : c.point_at-p.result ≡ point ps c.args.number = rw c.points-points.ensures at c.point_at-p.ensures in
    let place : IsPlace slots ps c.point_at-p.result c.locate.result = subst (λ (xs : List Point). IsPlace slots xs c.point_at-p.result c.locate.result) c.points-points.ensures c.locate.ensures in
    let zone : IsTrue c.test.result ↔ IsLowestTaken heights slots ps c.args.number c.slot_of-first.result.index =
    same_zone g.H.Lift.heights g.H.Lift.points _ _ c.new-search.ensures c.test.result c.slot_of-first.result.index c.test.ensures in
    let whole : IsLowestWholeFrom heights slots ps c.args.number c.slot_of-first.result.index =
    whole_at heights slots ps c.requires.ready.0 c.args.number c.tet.ensures.mesh c.requires.ready.1 c.point_at-p.result c.locate.result c.slot_of-first.result.index q c.slot_of-first.ensures place
    (zone.0 c.if-not-test.false) in
    cavity_for heights slots ps _ _ _ _ _ c.begin.ensures.start_is c.tet.ensures.mesh whole
    (same_grown g.H.Lift.heights g.H.Lift.points _ _ c.new-search.ensures _ _ _ c.in_ok-grow.ensures.grown)
