use Rattle.std.proofs.Common.{◌≡◌, ℕ, ◌*◌, ◌^◌, ◌≤◌, List, [], ◌∷◌, refl, arith, ℤ, w32, w64, to_z, of_z, unsigned_abs, subst, sym}
use Rattle.exact_algebra.proofs.Ring.{Expr, var, sub, mul, eval}
use Rattle.exact_algebra.proofs.Size.{machine, machine_at, back, eval_within, AllWithin}
use Rattle.sign_predicates.proofs.orientation.scaled_difference.Goals as goal

abbrev term : Expr
term = sub (var 0) (mul (var 1) (var 2))

abbrev bounds : List ℕ
bounds = 536870913 * 1000000 ∷ 2 ^ 29 ∷ 1000000 ∷ []

pub returns : goal.returns
returns c =
    let ρ : List ℤ = c.args.x ∷ to_z w32 (of_z w32 c.args.a) ∷ c.args.w ∷ [] in
    let σ : List ℤ = c.args.x ∷ c.args.a ∷ c.args.w ∷ [] in
    let h : AllWithin bounds σ = omega arith in
    let e : machine w64 ρ term ≡ eval σ term = machine_at w64 bounds ρ σ term (refl, (back w32 (2 ^ 29) c.args.a tt c.requires.a_small, (refl, tt))) h tt in
    record { value = e; size = subst (λ z. unsigned_abs z ≤ 2 ^ 50) (sym e) (omega (arith, eval_within bounds σ term h)) }
