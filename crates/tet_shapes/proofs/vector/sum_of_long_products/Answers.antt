use Rattle.std.proofs.Common.{◌≡◌, ℕ, ◌*◌, ◌^◌, ◌≤◌, List, [], ◌∷◌, arith, ℤ, w64, unsigned_abs, subst, sym}
use Rattle.exact_algebra.proofs.Ring.{eval}
use Rattle.exact_algebra.proofs.Size.{machine_cast, machine, cast, raw_fits_cast, eval_within, AllWithin, bound}
use Rattle.sign_predicates.proofs.Products.{sum_of_two_products, sum_of_three_products}
use mir.Syntax.{w128}
use Rattle.tet_shapes.proofs.vector.sum_of_long_products.Goals as goal

abbrev bounds : List ℕ
bounds = 2 ^ 61 ∷ 2 ^ 61 ∷ 2 ^ 61 ∷ 2 ^ 61 ∷ 2 ^ 61 ∷ 2 ^ 61 ∷ []

pub overflow_add-result : goal.overflow_add-result
overflow_add-result c = raw_fits_cast w128 w64 bounds (c.args.a ∷ c.args.x ∷ c.args.b ∷ c.args.y ∷ []) sum_of_two_products (omega arith) tt tt

pub overflow_add-result-2 : goal.overflow_add-result-2
overflow_add-result-2 c =
    raw_fits_cast w128 w64 bounds (c.args.a ∷ c.args.x ∷ c.args.b ∷ c.args.y ∷ c.args.c ∷ c.args.z ∷ []) sum_of_three_products (omega arith) tt tt

pub returns : goal.returns
returns c =
    let ρ : List ℤ = c.args.a ∷ c.args.x ∷ c.args.b ∷ c.args.y ∷ c.args.c ∷ c.args.z ∷ [] in
    let h : AllWithin bounds ρ = omega arith in
    let e : machine w128 (cast w64 ρ) sum_of_three_products ≡ eval ρ sum_of_three_products = machine_cast w128 w64 bounds ρ sum_of_three_products h tt tt in
    let s : unsigned_abs (eval ρ sum_of_three_products) ≤ bound bounds sum_of_three_products = eval_within bounds ρ sum_of_three_products h in
    record { value = e; size = subst (λ z. unsigned_abs z ≤ 3 * 2 ^ 122) (sym e) (omega (arith, s)) }
