use Rattle.std.proofs.Common.{◌≡◌, ℤ, ◌+ℤ◌, ◌≤◌, unsigned_abs, w32, to_z, of_z, refl, ap, ◌∙◌, arith}
use Rattle.std.proofs.lemmas.Int.{ints}
use Rattle.exact_algebra.proofs.Size.{back}
use Rattle.sign_predicates.specs.Point.{Point}
use Rattle.grid_coords.proofs.HalfSums.{back_sum, on_grid}
use Rattle.solver_files.specs.Second.{sum_of}
use Rattle.solver_files.proofs.middle.sum_of.Goals as goal

points_same : (a b : Point) → a.x ≡ b.x → a.y ≡ b.y → a.z ≡ b.z → a ≡ b
points_same a b x y z = λ t. record { x = x t; y = y t; z = z t }

-- a sum of two coordinates comes back from its 32 bits
sum_kept : (a b : ℤ) → unsigned_abs a ≤ 536870912 → unsigned_abs b ≤ 536870912 → to_z w32 (of_z w32 (to_z w32 (of_z w32 a) +ℤ to_z w32 (of_z w32 b))) ≡ a +ℤ b
sum_kept a b a-small b-small =
    let small : unsigned_abs (a +ℤ b) ≤ 1073741824 = omega (arith, ints) in
    ap (λ s. to_z w32 (of_z w32 s)) (back_sum a b _ a-small b-small refl) ∙ back w32 1073741824 (a +ℤ b) tt small

pub returns : goal.returns
returns c =
    let p = c.p.inside in
    let q = c.q.inside in
    let g = c.p.invariant in
    let h = c.q.invariant in
    let from : Point = record { x = p.x; y = p.y; z = p.z } in
    let to : Point = record { x = q.x; y = q.y; z = q.z } in
    points_same _ (sum_of from to)
    (sum_kept p.x q.x (on_grid p.x g.x_low g.x_high) (on_grid q.x h.x_low h.x_high))
    (sum_kept p.y q.y (on_grid p.y g.y_low g.y_high) (on_grid q.y h.y_low h.y_high))
    (sum_kept p.z q.z (on_grid p.z g.z_low g.z_high) (on_grid q.z h.z_low h.z_high))
    ∙ (λ t. sum_of (c.p.view_is t) (c.q.view_is t))
