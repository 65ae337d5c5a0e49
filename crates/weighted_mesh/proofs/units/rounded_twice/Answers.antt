use Rattle.std.proofs.Common.{◌≡◌, ℕ, ◌*◌, ap, ◌∙◌, arith}
use Rattle.std.specs.Prelude.{min}
use Rattle.tet_text.specs.Decimals.{Scaled}
use Rattle.grid_coords.specs.Rounding.{rounded}
use Rattle.grid_coords.proofs.Coordinates.{rounded_least}
use Rattle.weighted_mesh.proofs.units.rounded_twice.Goals as goal

pub returns : goal.returns
returns c =
    let d = c.args.d.now in
    let twice : c.args.grid.now.decimals * 2 ≡ 2 * c.args.grid.now.decimals = omega arith in
    let most = c.saturating_mul.ensures in
    let least = c.min.ensures in
    let scale = ap (λ (s : Scaled). s.scale) c.d.view_is in
    let inside = c.d.inside.scale in
    c.round_to.ensures
    ∙ ap (λ (n : ℕ). rounded n d) (least ∙ ap (λ (n : ℕ). min n inside) most ∙ ap (λ (n : ℕ). min (min (c.args.grid.now.decimals * 2) 4294967295) n) scale)
    ∙ rounded_least (c.args.grid.now.decimals * 2) 4294967295 d (omega arith) ∙ ap (λ (n : ℕ). rounded n d) twice
