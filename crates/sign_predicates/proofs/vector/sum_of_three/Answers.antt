use Rattle.std.proofs.Common.{◌≡◌, ℕ, ◌+◌, ◌*◌, ◌^◌, ◌≤◌, List, [], ◌∷◌, arith, ℤ, w64, unsigned_abs, subst, sym}
use Rattle.exact_algebra.proofs.Ring.{eval}
use Rattle.exact_algebra.proofs.Size.{machine_cast, machine, cast, raw_fits_cast, eval_within, AllWithin, bound}
use Rattle.sign_predicates.proofs.Products.{two_products, three_products, three_bounds}
use mir.Syntax.{w128}
use Rattle.sign_predicates.proofs.vector.sum_of_three.Goals as goal

pub overflow_sub-result : goal.overflow_sub-result
overflow_sub-result c = raw_fits_cast w128 w64 three_bounds (c.args.a ∷ c.args.x ∷ c.args.b ∷ c.args.y ∷ []) two_products (omega arith) tt tt

pub overflow_add-result : goal.overflow_add-result
overflow_add-result c =
    raw_fits_cast w128 w64 three_bounds (c.args.a ∷ c.args.x ∷ c.args.b ∷ c.args.y ∷ c.args.c ∷ c.args.z ∷ []) three_products (omega arith) tt tt

pub returns : goal.returns
returns c =
    let ρ : List ℤ = c.args.a ∷ c.args.x ∷ c.args.b ∷ c.args.y ∷ c.args.c ∷ c.args.z ∷ [] in
    let h : AllWithin three_bounds ρ = omega arith in
    let e : machine w128 (cast w64 ρ) three_products ≡ eval ρ three_products = machine_cast w128 w64 three_bounds ρ three_products h tt tt in
    let β : List ℕ = 2 ^ 61 ∷ unsigned_abs c.args.x ∷ 2 ^ 61 ∷ unsigned_abs c.args.y ∷ 2 ^ 61 ∷ unsigned_abs c.args.z ∷ [] in
    let k : AllWithin β ρ = omega arith in
    let s : unsigned_abs (eval ρ three_products) ≤ bound β three_products = eval_within β ρ three_products k in
    record {
      value = e;
      size = subst (λ z. unsigned_abs z ≤ 2 ^ 61 * (unsigned_abs c.args.x + unsigned_abs c.args.y + unsigned_abs c.args.z)) (sym e) (omega (arith, s));
    }
