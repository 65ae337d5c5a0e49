use Rattle.std.proofs.Common.{◌≡◌, ℕ, ◌*◌, ◌^◌, ◌≤◌, List, [], ◌∷◌, arith, ℤ, w64, unsigned_abs, subst, sym}
use Rattle.exact_algebra.proofs.Ring.{eval}
use Rattle.exact_algebra.proofs.Size.{machine_cast, machine, cast, raw_fits_cast, eval_within, AllWithin, bound}
use Rattle.sign_predicates.proofs.Products.{two_products, three_products}
use mir.Syntax.{w128}
use Rattle.tet_shapes.proofs.vector.combined.Goals as goal

abbrev bounds : List ℕ
bounds = 3 * 2 ^ 60 ∷ 2 ^ 61 ∷ 3 * 2 ^ 60 ∷ 2 ^ 61 ∷ 3 * 2 ^ 60 ∷ 2 ^ 61 ∷ []

pub overflow_sub-result : goal.overflow_sub-result
overflow_sub-result c = raw_fits_cast w128 w64 bounds (c.args.k ∷ c.args.x ∷ c.args.m ∷ c.args.y ∷ []) two_products (omega arith) tt tt

pub overflow_add-result : goal.overflow_add-result
overflow_add-result c = raw_fits_cast w128 w64 bounds (c.args.k ∷ c.args.x ∷ c.args.m ∷ c.args.y ∷ c.args.n ∷ c.args.z ∷ []) three_products (omega arith) tt tt

pub returns : goal.returns
returns c =
    let ρ : List ℤ = c.args.k ∷ c.args.x ∷ c.args.m ∷ c.args.y ∷ c.args.n ∷ c.args.z ∷ [] in
    let h : AllWithin bounds ρ = omega arith in
    let e : machine w128 (cast w64 ρ) three_products ≡ eval ρ three_products = machine_cast w128 w64 bounds ρ three_products h tt tt in
    let s : unsigned_abs (eval ρ three_products) ≤ bound bounds three_products = eval_within bounds ρ three_products h in
    record { value = e; size = subst (λ z. unsigned_abs z ≤ 9 * 2 ^ 121) (sym e) (omega (arith, s)) }
