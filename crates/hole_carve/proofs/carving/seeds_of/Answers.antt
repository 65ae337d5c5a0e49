use Rattle.std.proofs.Common.{◌≡◌, ◌⊎◌, ◌+◌, ℕ, Bool, true, List, subst, arith}
use Rattle.std.specs.Prelude.{◌↔◌}
use Rattle.geo_laws.specs.Marks.{is_marked}
use Rattle.sign_predicates.specs.Point.{as_rational, origin}
use Rattle.hole_carve.specs.Seeds.{IsSeedAt}
use Rattle.hole_carve.proofs.Begun.{AreBegun, begins_none, begins_next, written}
use Rattle.hole_carve.proofs.carving.seeds_of.Goals as goal

pub loop-at-init : goal.loop-at-init
loop-at-init c =
    let mesh = c.args.mesh.now in
    let marks = c.mark_hull.new.seeds in
    written (AreBegun c.args.keep_hull mesh.points.now mesh.closed mesh.list.now c.args.holes.now 0) marks _ _ (omega (arith, c.deref_mut.ensures.len, c.mark_hull.auto.seeds))
    (record { long = c.mark_hull.ensures.long; marked = begins_none c.args.keep_hull mesh.points.now mesh.closed mesh.list.now c.args.holes.now marks c.mark_hull.ensures.marked })

pub loop-at-preserved : goal.loop-at-preserved
loop-at-preserved c =
    let mesh = c.args.mesh.now in
    let at = c.loop-at.at in
    let marks = c.mark_seeds.new.seeds in
    let marked = subst (λ (was : List Bool). (i : ℕ) → (is_marked marks i ≡ true) ↔ ((is_marked was i ≡ true) ⊎ IsSeedAt mesh.points.now mesh.closed mesh.list.now c.at.result i)) c.deref_mut-in-loop-at.ensures.value c.in_ok-mark_seeds.ensures.marked in
    written (AreBegun c.args.keep_hull mesh.points.now mesh.closed mesh.list.now c.args.holes.now (at + 1)) marks _ _ (omega (arith, c.deref_mut-in-loop-at.ensures.len, c.mark_seeds.auto.seeds))
    (record {
      long = c.in_ok-mark_seeds.ensures.long;
      marked = begins_next c.args.keep_hull mesh.points.now mesh.closed mesh.list.now c.args.holes.now at c.at.result c.loop-at.seeds.items marks (c.at.ensures (as_rational origin)) c.loop-at.invariant.marked marked;
    })
