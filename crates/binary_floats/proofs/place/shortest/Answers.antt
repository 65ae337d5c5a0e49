use Rattle.std.proofs.Common.{◌≡◌, ◌∙◌, ℕ, suc, ◌+◌, ◌-◌, ◌^◌, ◌≤◌, None, Some, refl, sym, ap, arith}
use Rattle.std.proofs.Math.Pow.{pow_mono}
use Rattle.binary_floats.specs.Nearest.{at_places}
use Rattle.binary_floats.specs.Shortest.{least_places}
use Rattle.binary_floats.proofs.Places.{at_place, goes_on, skipped, nothing_before, not_yet, here, never}
use Rattle.binary_floats.proofs.place.shortest.Goals as goal

pub loop-places-init : goal.loop-places-init
loop-places-init c =
    let s = c.args.steps.now in
    let first = c.saturating_sub-first.result in
    record {
      place = c.start-place.ensures;
      left = skipped s (s.halvings + 1) first (omega arith)
          (λ i less. nothing_before s i (omega arith) (omega arith) (omega arith) (omega arith) (omega arith));
    }

pub returns-in-Some-clause-value : goal.returns-in-Some-clause-value
returns-in-Some-clause-value c =
    let s = c.args.steps.now in
    let i = c.loop-places.places in
    let p = c.loop-places.place in
    let e : s.halvings + 1 - i ≡ suc (s.halvings - i) = omega arith in
    let found : at_places s i ≡ Some c.in-Some.number = at_place s i p c.loop-places.invariant.place (omega arith) ∙ sym c.in-Some.ensures.value in
    sym (here s (s.halvings - i) i c.in-Some.number found) ∙ ap (λ (n : ℕ). least_places n i s) (sym e) ∙ c.loop-places.invariant.left

pub advance-place-requires-clause-unit : goal.advance-place-requires-clause-unit
advance-place-requires-clause-unit c =
    let s = c.args.steps.now in
    let i = c.loop-places.places in
    let some : 1 ≤ s.halvings + 2 - i = omega arith in
    let h : 2 ^ 1 ≤ 2 ^ (s.halvings + 2 - i) = pow_mono some in
    omega (arith, h, c.loop-places.invariant.place.unit)

pub loop-places-preserved : goal.loop-places-preserved
loop-places-preserved c =
    let s = c.args.steps.now in
    let i = c.loop-places.places in
    let p = c.loop-places.place in
    let inv = c.loop-places.invariant in
    let e : s.halvings + 1 - i ≡ suc (s.halvings + 1 - (i + 1)) = omega arith in
    let none : at_places s i ≡ None = at_place s i p inv.place (omega arith) ∙ sym c.in_default.ensures.value in
    record {
      place = goes_on s i p c.advance-place.result inv.place (omega arith) (omega arith) (c.in_default.ensures.none refl) c.advance-place.ensures;
      left = sym (not_yet s (s.halvings + 1 - (i + 1)) i none) ∙ ap (λ (n : ℕ). least_places n i s) (sym e) ∙ inv.left;
    }

pub returns-clause-value : goal.returns-clause-value
returns-clause-value c =
    let s = c.args.steps.now in
    let i = c.loop-places.places in
    let e : s.halvings + 1 - i ≡ 0 = omega arith in
    sym (never s i) ∙ ap (λ (n : ℕ). least_places n i s) (sym e) ∙ c.loop-places.invariant.left
