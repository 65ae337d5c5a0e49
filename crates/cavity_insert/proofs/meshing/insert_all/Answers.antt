use Rattle.std.proofs.Common.{◌∙◌, sym}
use Rattle.cavity_insert.proofs.SlotSides.{corner_found}
use Rattle.cavity_insert.proofs.Building.{no_turn, begun, passed, added, ready, finished, has_corner_not}
use Rattle.cavity_insert.proofs.meshing.insert_all.Goals as goal
use Rattle.cavity_insert.proofs.meshing.insert_all.Goals.{then-not-has_corner+in_ok-last, else-not-has_corner}

pub loop-turn-init : goal.loop-turn-init
loop-turn-init g c = record { inserted = begun (g.H.Lift.heights c.args.lift.now) (g.H.Lift.points c.args.lift.now) c.args.first c.args.turns.now _ c.requires.mesh; live = c.requires.near }

pub insert_point-requires-clause-ready : goal.insert_point-requires-clause-ready
insert_point-requires-clause-ready g c = (
  c.loop-turn.invariant.inserted.ms,
  ready (g.H.Lift.heights c.args.lift.now) (g.H.Lift.points c.args.lift.now) c.args.first c.args.turns.now c.loop-turn.turn-index no_turn c.loop-turn-test.true _ c.requires.order c.loop-turn.invariant.inserted
      (has_corner_not c.args.first _ (sym c.has_corner.ensures ∙ c.if-not-has_corner.true)),
)

pub loop-turn-preserved : goal.loop-turn-preserved
loop-turn-preserved g c =
    let now = c.loop-turn.invariant.inserted in
    elim c.if-not-has_corner.branch [
      | then-not-has_corner+in_ok-last w ↦
          let is_ready = ready (g.H.Lift.heights c.args.lift.now) (g.H.Lift.points c.args.lift.now) c.args.first c.args.turns.now c.loop-turn.turn-index no_turn c.loop-turn-test.true _ c.requires.order now (has_corner_not c.args.first _ (sym c.has_corner.ensures ∙ w.if-not-has_corner.true)) in
          record {
            inserted = rw w.built-is (added (g.H.Lift.heights c.args.lift.now) (g.H.Lift.points c.args.lift.now) c.args.first c.args.turns.now c.loop-turn.turn-index no_turn c.loop-turn-test.true _ _ now (w.in_ok-last.ensures.mesh now.ms is_ready));
            live = rw (w.built-is) w.in_ok-last.ensures.live;
          }
      | else-not-has_corner w ↦
          record {
            inserted = rw w.built-is (passed (g.H.Lift.heights c.args.lift.now) (g.H.Lift.points c.args.lift.now) c.args.first c.args.turns.now c.loop-turn.turn-index no_turn c.loop-turn-test.true _ now (corner_found c.args.first _ (sym c.has_corner.ensures ∙ w.if-not-has_corner.false)));
            live = rw (w.built-is) c.loop-turn.invariant.live;
          }
    ]

pub returns-clause-mesh : goal.returns-clause-mesh
returns-clause-mesh g c = finished (g.H.Lift.heights c.args.lift.now) (g.H.Lift.points c.args.lift.now) c.args.first c.args.turns.now _ c.requires.order c.loop-turn.turn-index c.loop-turn-test.false c.loop-turn.invariant.inserted
