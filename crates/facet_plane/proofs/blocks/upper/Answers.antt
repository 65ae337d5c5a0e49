use Rattle.std.proofs.Common.{◌≤ℤ◌, subst, sym, ◌∙◌}
use Rattle.sign_predicates.specs.Point.{Point, IsOnGrid}
use Rattle.sign_predicates.proofs.Vectors.{grid_back}
use Rattle.facet_plane.proofs.Runs.{stored}
use Rattle.facet_plane.specs.Blocks.{IsBelow}
use Rattle.facet_plane.proofs.blocks.upper.Goals as goal

pub invariant_of-result : goal.invariant_of-result
invariant_of-result c =
    let p : Point = record { x = c.greatest.result; y = c.greatest-2.result; z = c.greatest-3.result } in
    let grid : IsOnGrid p = record { x_low = c.greatest.ensures.low; x_high = c.greatest.ensures.high; y_low = c.greatest-2.ensures.low; y_high = c.greatest-2.ensures.high; z_low = c.greatest-3.ensures.low; z_high = c.greatest-3.ensures.high } in
    subst IsOnGrid (sym (stored p grid)) grid

pub returns-clause-first : goal.returns-clause-first
returns-clause-first c =
    let a = c.a.inside in
    let g = c.a.invariant in
    let p : Point = record { x = c.greatest.result; y = c.greatest-2.result; z = c.greatest-3.result } in
    let grid : IsOnGrid p = record { x_low = c.greatest.ensures.low; x_high = c.greatest.ensures.high; y_low = c.greatest-2.ensures.low; y_high = c.greatest-2.ensures.high; z_low = c.greatest-3.ensures.low; z_high = c.greatest-3.ensures.high } in
    subst (λ p. IsBelow c.args.a p) (sym (stored p grid))
    (record {
      x = subst (λ z. z ≤ℤ c.greatest.result) (grid_back a.x g.x_low g.x_high ∙ (λ t. (c.a.view_is t).x)) c.greatest.ensures.first;
      y = subst (λ z. z ≤ℤ c.greatest-2.result) (grid_back a.y g.y_low g.y_high ∙ (λ t. (c.a.view_is t).y)) c.greatest-2.ensures.first;
      z = subst (λ z. z ≤ℤ c.greatest-3.result) (grid_back a.z g.z_low g.z_high ∙ (λ t. (c.a.view_is t).z)) c.greatest-3.ensures.first;
    })

pub returns-clause-second : goal.returns-clause-second
returns-clause-second c =
    let a = c.b.inside in
    let g = c.b.invariant in
    let p : Point = record { x = c.greatest.result; y = c.greatest-2.result; z = c.greatest-3.result } in
    let grid : IsOnGrid p = record { x_low = c.greatest.ensures.low; x_high = c.greatest.ensures.high; y_low = c.greatest-2.ensures.low; y_high = c.greatest-2.ensures.high; z_low = c.greatest-3.ensures.low; z_high = c.greatest-3.ensures.high } in
    subst (λ p. IsBelow c.args.b p) (sym (stored p grid))
    (record {
      x = subst (λ z. z ≤ℤ c.greatest.result) (grid_back a.x g.x_low g.x_high ∙ (λ t. (c.b.view_is t).x)) c.greatest.ensures.second;
      y = subst (λ z. z ≤ℤ c.greatest-2.result) (grid_back a.y g.y_low g.y_high ∙ (λ t. (c.b.view_is t).y)) c.greatest-2.ensures.second;
      z = subst (λ z. z ≤ℤ c.greatest-3.result) (grid_back a.z g.z_low g.z_high ∙ (λ t. (c.b.view_is t).z)) c.greatest-3.ensures.second;
    })
