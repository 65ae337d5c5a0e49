use Rattle.std.proofs.Common.{List, [], ◌∷◌, arith, ℤ, w64}
use Rattle.exact_algebra.proofs.Size.{machine_cast, raw_fits_cast, AllWithin}
use Rattle.sign_predicates.proofs.Products.{sum_of_two_products, sum_of_three_products, normal_bounds}
use mir.Syntax.{w128}
use Rattle.sign_predicates.proofs.vector.sum_of_products.Goals as goal

pub overflow_add-result : goal.overflow_add-result
overflow_add-result c = raw_fits_cast w128 w64 normal_bounds (c.args.a ∷ c.args.x ∷ c.args.b ∷ c.args.y ∷ []) sum_of_two_products (omega arith) tt tt

pub overflow_add-result-2 : goal.overflow_add-result-2
overflow_add-result-2 c =
    raw_fits_cast w128 w64 normal_bounds (c.args.a ∷ c.args.x ∷ c.args.b ∷ c.args.y ∷ c.args.c ∷ c.args.z ∷ []) sum_of_three_products (omega arith) tt tt

pub returns : goal.returns
returns c =
    let ρ : List ℤ = c.args.a ∷ c.args.x ∷ c.args.b ∷ c.args.y ∷ c.args.c ∷ c.args.z ∷ [] in
    let h : AllWithin normal_bounds ρ = omega arith in
    machine_cast w128 w64 normal_bounds ρ sum_of_three_products h tt tt
