use Rattle.std.proofs.Common.{List, [], ◌∷◌, arith, ℤ, w64}
use Rattle.exact_algebra.proofs.Size.{machine_cast, raw_fits_cast, AllWithin}
use Rattle.facet_plane.proofs.Sums.{two_products, minor_bounds}
use mir.Syntax.{w128}
use Rattle.facet_plane.proofs.vectors.sum_of_two_products.Goals as goal

pub overflow_add-result : goal.overflow_add-result
overflow_add-result c = raw_fits_cast w128 w64 minor_bounds (c.args.a ∷ c.args.b ∷ c.args.c ∷ c.args.d ∷ []) two_products (omega arith) tt tt

pub returns : goal.returns
returns c =
    let ρ : List ℤ = c.args.a ∷ c.args.b ∷ c.args.c ∷ c.args.d ∷ [] in
    let h : AllWithin minor_bounds ρ = omega arith in
    machine_cast w128 w64 minor_bounds ρ two_products h tt tt
