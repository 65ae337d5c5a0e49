use Rattle.std.proofs.Common.{◌≡◌, ◌*◌, ◌^◌, ◌≤◌, List, [], ◌∷◌, arith, ℤ, w32, w64, unsigned_abs, subst, sym}
use Rattle.exact_algebra.proofs.Ring.{eval}
use Rattle.exact_algebra.proofs.Size.{machine_cast, machine, cast, raw_fits_cast, eval_within, AllWithin}
use Rattle.sign_predicates.proofs.Products.{two_squares, three_squares, squares_bounds}
use Rattle.tet_shapes.proofs.vector.sum_of_squares.Goals as goal

pub overflow_add-result : goal.overflow_add-result
overflow_add-result c = raw_fits_cast w64 w32 squares_bounds (c.args.x ∷ c.args.y ∷ c.args.z ∷ []) two_squares (omega arith) tt tt

pub overflow_add-result-2 : goal.overflow_add-result-2
overflow_add-result-2 c = raw_fits_cast w64 w32 squares_bounds (c.args.x ∷ c.args.y ∷ c.args.z ∷ []) three_squares (omega arith) tt tt

pub returns : goal.returns
returns c =
    let ρ : List ℤ = c.args.x ∷ c.args.y ∷ c.args.z ∷ [] in
    let h : AllWithin squares_bounds ρ = omega arith in
    let e : machine w64 (cast w32 ρ) three_squares ≡ eval ρ three_squares = machine_cast w64 w32 squares_bounds ρ three_squares h tt tt in
    record { value = e; size = subst (λ z. unsigned_abs z ≤ 3 * 2 ^ 60) (sym e) (eval_within squares_bounds ρ three_squares h) }
