use Rattle.std.proofs.Common.{◌≡◌, ◌≤◌, ℕ, ◌*◌, ◌^◌, List, [], ◌∷◌, arith, ℤ, w64, unsigned_abs, subst, sym}
use Rattle.exact_algebra.proofs.Ring.{eval}
use Rattle.exact_algebra.proofs.Size.{machine_cast, machine, cast, raw_fits_cast, eval_within, AllWithin, bound}
use Rattle.sign_predicates.proofs.Products.{two_products, three_products, four_products}
use mir.Syntax.{w128}
use Rattle.sign_predicates.proofs.sphere.short_sum_of_four.Goals as goal

abbrev bounds : List ℕ
bounds = 7 * 2 ^ 59 ∷ 3 * 2 ^ 61 ∷ 7 * 2 ^ 59 ∷ 3 * 2 ^ 61 ∷ 7 * 2 ^ 59 ∷ 3 * 2 ^ 61 ∷ 7 * 2 ^ 59 ∷ 3 * 2 ^ 61 ∷ []

pub overflow_sub-result : goal.overflow_sub-result
overflow_sub-result c = raw_fits_cast w128 w64 bounds (c.args.a ∷ c.args.p ∷ c.args.b ∷ c.args.q ∷ []) two_products (omega arith) tt tt

pub overflow_add-result : goal.overflow_add-result
overflow_add-result c =
    raw_fits_cast w128 w64 bounds (c.args.a ∷ c.args.p ∷ c.args.b ∷ c.args.q ∷ c.args.c ∷ c.args.r ∷ []) three_products (omega arith) tt tt

pub overflow_sub-result-2 : goal.overflow_sub-result-2
overflow_sub-result-2 c =
    raw_fits_cast w128 w64 bounds (c.args.a ∷ c.args.p ∷ c.args.b ∷ c.args.q ∷ c.args.c ∷ c.args.r ∷ c.args.d ∷ c.args.s ∷ []) four_products (omega arith) tt tt

pub returns : goal.returns
returns c =
    let ρ : List ℤ = c.args.a ∷ c.args.p ∷ c.args.b ∷ c.args.q ∷ c.args.c ∷ c.args.r ∷ c.args.d ∷ c.args.s ∷ [] in
    let h : AllWithin bounds ρ = omega arith in
    let e : machine w128 (cast w64 ρ) four_products ≡ eval ρ four_products = machine_cast w128 w64 bounds ρ four_products h tt tt in
    let s : unsigned_abs (eval ρ four_products) ≤ bound bounds four_products = eval_within bounds ρ four_products h in
    record { value = e; size = subst (λ z. unsigned_abs z ≤ 84 * 2 ^ 120) (sym e) (omega (arith, s)) }
