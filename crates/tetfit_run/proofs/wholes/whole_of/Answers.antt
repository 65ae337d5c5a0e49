use Rattle.std.proofs.Common.{◌≡◌, ◌≢◌, ◌<◌, ◌-◌, ℕ, max, refl, arith}
use Rattle.tetfit_run.proofs.Missing.{halved_here, step_of}
use Rattle.tetfit_run.proofs.PartsBefore.{part_before, part_whole}
use Rattle.tetfit_run.proofs.wholes.whole_of.Goals as goal

above : (n m : ℕ) → m ≡ n → 0 < m → n ≢ 0
above n m e h z = absurd (omega arith)

pub loop-left-init : goal.loop-left-init
loop-left-init c = record { part = λ w h. h; missing = (c.args.trial.now.options.budget, c.requires.few, c.requires.missing); left = refl }

pub halved_after-requires : goal.halved_after-requires
halved_after-requires c =
    let t = c.args.trial.now in
    let whole = c.loop-left.whole in
    let inv = c.loop-left.invariant in
    let at : c.saturating_sub-added.result ≡ max whole.a whole.b - c.args.count = grind (arith, c.saturating_sub-added.ensures, c.max.ensures) in
    let h = halved_here t.limits t.options t.input c.args.count inv.missing.0 c.saturating_sub-added.result whole c.requires.points inv.missing.1 inv.missing.2 (above whole.halvings c.loop-left.left inv.left c.loop-left-test.true) at in
    record { few = h.0; halved = h.1 }

pub loop-left-preserved : goal.loop-left-preserved
loop-left-preserved c =
    let t = c.args.trial.now in
    let whole = c.loop-left.whole in
    let before = c.in_ok-before.before in
    let inv = c.loop-left.invariant in
    let at : c.saturating_sub-added.result ≡ max whole.a whole.b - c.args.count = grind (arith, c.saturating_sub-added.ensures, c.max.ensures) in
    let s = step_of t.limits t.options t.input c.args.count inv.missing.0 c.saturating_sub-added.result whole before c.requires.points inv.missing.1 inv.missing.2
    (above whole.halvings c.loop-left.left inv.left c.loop-left-test.true) at c.in_ok-before.ensures in
    record {
      part = λ w h. inv.part w (part_before t.limits t.options t.input c.args.count whole.halvings before.halvings whole before w s.halved s.after h);
      missing = (max whole.a whole.b - c.args.count, s.few, s.after);
      left = omega (arith, inv.left, s.halved);
    }

pub returns : goal.returns
returns c =
    let t = c.args.trial.now in
    let whole = c.loop-left.whole in
    let inv = c.loop-left.invariant in
    let none : whole.halvings ≡ 0 = omega (arith, inv.left) in
    inv.part whole (part_whole t.limits t.options t.input c.args.count whole.halvings whole none)
