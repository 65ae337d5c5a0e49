use Rattle.std.proofs.Common.{◌≡◌, ℕ, ◌*◌, ◌^◌, ◌≤◌, List, [], ◌∷◌, arith, ℤ, w64, unsigned_abs, subst, sym}
use Rattle.exact_algebra.proofs.Ring.{eval}
use Rattle.exact_algebra.proofs.Size.{machine, machine_is, raw_fits, eval_within, AllWithin}
use Rattle.sign_predicates.proofs.Products.{one_product, two_products, three_products}
use Rattle.sign_predicates.proofs.vector.short_sum_of_three.Goals as goal

abbrev bounds : List ℕ
bounds = 2 ^ 41 ∷ 2 ^ 20 ∷ 2 ^ 41 ∷ 2 ^ 20 ∷ 2 ^ 41 ∷ 2 ^ 20 ∷ []

pub overflow_sub-result : goal.overflow_sub-result
overflow_sub-result c = raw_fits w64 bounds (c.args.a ∷ c.args.x ∷ c.args.b ∷ c.args.y ∷ []) two_products (omega arith) tt

pub overflow_mul-result-3 : goal.overflow_mul-result-3
overflow_mul-result-3 c = raw_fits w64 bounds (c.args.c ∷ c.args.z ∷ []) one_product (omega arith) tt

pub overflow_add-result : goal.overflow_add-result
overflow_add-result c = raw_fits w64 bounds (c.args.a ∷ c.args.x ∷ c.args.b ∷ c.args.y ∷ c.args.c ∷ c.args.z ∷ []) three_products (omega arith) tt

pub returns : goal.returns
returns c =
    let ρ : List ℤ = c.args.a ∷ c.args.x ∷ c.args.b ∷ c.args.y ∷ c.args.c ∷ c.args.z ∷ [] in
    let h : AllWithin bounds ρ = omega arith in
    let e : machine w64 ρ three_products ≡ eval ρ three_products = machine_is w64 bounds ρ three_products h tt in
    record { value = e; size = subst (λ z. unsigned_abs z ≤ 3 * 2 ^ 61) (sym e) (eval_within bounds ρ three_products h) }
