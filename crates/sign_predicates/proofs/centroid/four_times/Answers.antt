use Rattle.std.proofs.Common.{◌≡◌, ℕ, ◌^◌, ◌≤◌, List, [], ◌∷◌, arith, ℤ, pos, w32, w64, to_z, of_z, unsigned_abs, subst, sym}
use Rattle.exact_algebra.proofs.Ring.{Expr, num, var, add, sub, mul, eval}
use Rattle.exact_algebra.proofs.Size.{machine, machine_at, raw_fits_at, back, eval_within, AllWithin}
use Rattle.sign_predicates.proofs.centroid.four_times.Goals as goal

abbrev four : Expr
four = add (add (add (var 1) (var 2)) (var 3)) (var 4)

abbrev term : Expr
term = sub four (mul (var 0) (num (pos 4)))

abbrev bounds : List ℕ
bounds = 2 ^ 29 ∷ 2 ^ 29 ∷ 2 ^ 29 ∷ 2 ^ 29 ∷ 2 ^ 29 ∷ []

abbrev read_as : ℤ → ℤ
read_as z = to_z w32 (of_z w32 z)

pub overflow_add-result-3 : goal.overflow_add-result-3
overflow_add-result-3 c =
    let σ : List ℤ = c.args.a ∷ c.args.p ∷ c.args.q ∷ c.args.r ∷ c.args.s ∷ [] in
    let ρ : List ℤ = read_as c.args.a ∷ read_as c.args.p ∷ read_as c.args.q ∷ read_as c.args.r ∷ read_as c.args.s ∷ [] in
    let h : AllWithin bounds σ = omega arith in
    raw_fits_at w64 bounds ρ σ four (back w32 (2 ^ 29) c.args.a tt h.0, (back w32 (2 ^ 29) c.args.p tt h.1.0, (back w32 (2 ^ 29) c.args.q tt h.1.1.0, (back w32 (2 ^ 29) c.args.r tt h.1.1.1.0, (back w32 (2 ^ 29) c.args.s tt h.1.1.1.1.0, tt))))) h tt

pub overflow_sub-result : goal.overflow_sub-result
overflow_sub-result c =
    let σ : List ℤ = c.args.a ∷ c.args.p ∷ c.args.q ∷ c.args.r ∷ c.args.s ∷ [] in
    let ρ : List ℤ = read_as c.args.a ∷ read_as c.args.p ∷ read_as c.args.q ∷ read_as c.args.r ∷ read_as c.args.s ∷ [] in
    let h : AllWithin bounds σ = omega arith in
    raw_fits_at w64 bounds ρ σ term (back w32 (2 ^ 29) c.args.a tt h.0, (back w32 (2 ^ 29) c.args.p tt h.1.0, (back w32 (2 ^ 29) c.args.q tt h.1.1.0, (back w32 (2 ^ 29) c.args.r tt h.1.1.1.0, (back w32 (2 ^ 29) c.args.s tt h.1.1.1.1.0, tt))))) h tt

pub returns : goal.returns
returns c =
    let σ : List ℤ = c.args.a ∷ c.args.p ∷ c.args.q ∷ c.args.r ∷ c.args.s ∷ [] in
    let ρ : List ℤ = read_as c.args.a ∷ read_as c.args.p ∷ read_as c.args.q ∷ read_as c.args.r ∷ read_as c.args.s ∷ [] in
    let h : AllWithin bounds σ = omega arith in
    let e : machine w64 ρ term ≡ eval σ term = machine_at w64 bounds ρ σ term (back w32 (2 ^ 29) c.args.a tt h.0, (back w32 (2 ^ 29) c.args.p tt h.1.0, (back w32 (2 ^ 29) c.args.q tt h.1.1.0, (back w32 (2 ^ 29) c.args.r tt h.1.1.1.0, (back w32 (2 ^ 29) c.args.s tt h.1.1.1.1.0, tt))))) h tt in
    record { value = e; size = subst (λ z. unsigned_abs z ≤ 2 ^ 32) (sym e) (omega (arith, eval_within bounds σ term h)) }
