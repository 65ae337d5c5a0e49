use Rattle.std.proofs.Common.{◌≡◌, pos, ◌<ℤ◌, false, true, rules}
use Rattle.sign_predicates.specs.Orientation.{volume}
use Rattle.geo_laws.specs.Delaunay.{point}
use Rattle.point_locate.specs.Place.{placed}
use Rattle.cavity_insert.proofs.LiftedRows.{corners_on, not_seen}
use Rattle.cavity_insert.proofs.search.is_seen.Goals as goal

pub ghost_sign-requires-clause-on : goal.ghost_sign-requires-clause-on
ghost_sign-requires-clause-on g c =
    corners_on (g.H.Lift.heights c.args.lift.now) c.args.arena.now.slots (g.H.Lift.points c.args.lift.now) c.requires.ready.0 c.args.number c.tet.ensures.mesh c.requires.ready.1 _ _ c.tet.ensures.corners

pub ghost_sign-requires-clause-inside : goal.ghost_sign-requires-clause-inside
ghost_sign-requires-clause-inside g c = c.requires.ready.1.is_new.on

pub returns-in-Below : goal.returns-in-Below
returns-in-Below g c =
    let below : volume (placed (g.H.Lift.points c.args.lift.now) (point (g.H.Lift.points c.args.lift.now) c.args.number) c.tet.result) <ℤ pos 0 = search rules in (
      λ h. absurd (never h),
      λ seen. absurd (not_seen (g.H.Lift.heights c.args.lift.now) c.args.arena.now.slots (g.H.Lift.points c.args.lift.now) c.args.number c.args.s.index c.args.place c.tet.result c.tet.ensures.corners below seen),
    )
  where
    never : false ≡ true → ⊥
    never e = cc
