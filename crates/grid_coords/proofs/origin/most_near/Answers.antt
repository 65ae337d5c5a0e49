use Rattle.std.proofs.Common.{◌≡◌, ◌∙◌, sym, ap, arith, ◌*◌, ◌^◌, ℕ, true, false}
use Rattle.std.specs.Prelude.{nat_le}
use Rattle.grid_coords.specs.Origins.{most_whole}
use Rattle.grid_coords.proofs.Origins.{near_here, far_here, near_none}
use Rattle.grid_coords.proofs.origin.most_near.Goals as goal

pub loop-decimals-preserved : goal.loop-decimals-preserved
loop-decimals-preserved c =
    let n = c.loop-decimals.decimals in
    let is : c.is_near.result ≡ false = search (arith, c.if-not-is_near.ensures) in
    let far = sym (c.is_near.ensures ∙ ap (λ (r : ℕ). nat_le (r * 10 ^ n) most_whole) c.loop-decimals.invariant.reach) ∙ is in
    record {
      so_far = sym (far_here c.args.w n c.loop-decimals-test.true far) ∙ c.loop-decimals.invariant.so_far;
      fine = omega arith;
      reach = c.loop-decimals.invariant.reach;
    }

pub returns-else-not-is_near-clause-value : goal.returns-else-not-is_near-clause-value
returns-else-not-is_near-clause-value c =
    let n = c.loop-decimals.decimals in
    let is : c.is_near.result ≡ true = search (arith, c.if-not-is_near.ensures) in
    let near = sym (c.is_near.ensures ∙ ap (λ (r : ℕ). nat_le (r * 10 ^ n) most_whole) c.loop-decimals.invariant.reach) ∙ is in
    sym (near_here c.args.w n near) ∙ c.loop-decimals.invariant.so_far

pub returns-after-loop-decimals-clause-value : goal.returns-after-loop-decimals-clause-value
returns-after-loop-decimals-clause-value c =
    sym (near_none c.args.w c.loop-decimals.decimals (omega arith)) ∙ c.loop-decimals.invariant.so_far
