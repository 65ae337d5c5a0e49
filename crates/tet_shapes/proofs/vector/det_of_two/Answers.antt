use Rattle.std.proofs.Common.{◌≡◌, ◌^◌, ◌≤◌, List, [], ◌∷◌, arith, ℤ, w32, w64, unsigned_abs, subst, sym}
use Rattle.exact_algebra.proofs.Ring.{eval}
use Rattle.exact_algebra.proofs.Size.{machine_cast, machine, cast, raw_fits_cast, eval_within, AllWithin}
use Rattle.sign_predicates.specs.Vector.{det_of_two}
use Rattle.sign_predicates.proofs.Products.{two_by_two, two_by_two_bounds}
use Rattle.tet_shapes.proofs.vector.det_of_two.Goals as goal

pub overflow_sub-result : goal.overflow_sub-result
overflow_sub-result c = raw_fits_cast w64 w32 two_by_two_bounds (c.args.a ∷ c.args.b ∷ c.args.c ∷ c.args.d ∷ []) two_by_two (omega arith) tt tt

pub returns : goal.returns
unfolding det_of_two
returns c =
    let ρ : List ℤ = c.args.a ∷ c.args.b ∷ c.args.c ∷ c.args.d ∷ [] in
    let h : AllWithin two_by_two_bounds ρ = omega arith in
    let e : machine w64 (cast w32 ρ) two_by_two ≡ eval ρ two_by_two = machine_cast w64 w32 two_by_two_bounds ρ two_by_two h tt tt in
    record {
      value = e;
      size = subst (λ z. unsigned_abs z ≤ 2 ^ 61) (sym e) (eval_within two_by_two_bounds ρ two_by_two h);
    }
