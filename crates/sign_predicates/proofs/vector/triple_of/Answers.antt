use Rattle.std.proofs.Common.{◌^◌, ℕ, List, [], ◌∷◌, arith, ℤ, w64}
use Rattle.exact_algebra.proofs.Ring.{Expr, var, add, sub, mul}
use Rattle.exact_algebra.proofs.Size.{machine_cast, raw_fits_cast, AllWithin}
use mir.Syntax.{w128}
use Rattle.sign_predicates.proofs.vector.triple_of.Goals as goal

abbrev minor_yz : Expr
minor_yz = sub (mul (var 4) (var 8)) (mul (var 5) (var 7))

abbrev minor_zx : Expr
minor_zx = sub (mul (var 5) (var 6)) (mul (var 3) (var 8))

abbrev minor_xy : Expr
minor_xy = sub (mul (var 3) (var 7)) (mul (var 4) (var 6))

abbrev first : Expr
first = mul (var 0) minor_yz

abbrev second : Expr
second = mul (var 1) minor_zx

abbrev third : Expr
third = mul (var 2) minor_xy

abbrev bounds : List ℕ
bounds = 2 ^ 61 ∷ 2 ^ 61 ∷ 2 ^ 61 ∷ 2 ^ 30 ∷ 2 ^ 30 ∷ 2 ^ 30 ∷ 2 ^ 32 ∷ 2 ^ 32 ∷ 2 ^ 32 ∷ []

pub overflow_sub-result : goal.overflow_sub-result
overflow_sub-result c = raw_fits_cast w128 w64 bounds (c.args.n ∷ c.args.o ∷ c.args.p ∷ c.args.u ∷ c.args.v ∷ c.args.w ∷ c.args.x ∷ c.args.y ∷ c.args.z ∷ []) minor_yz (omega arith) tt tt

pub overflow_mul-result-3 : goal.overflow_mul-result-3
overflow_mul-result-3 c = raw_fits_cast w128 w64 bounds (c.args.n ∷ c.args.o ∷ c.args.p ∷ c.args.u ∷ c.args.v ∷ c.args.w ∷ c.args.x ∷ c.args.y ∷ c.args.z ∷ []) first (omega arith) tt tt

pub overflow_sub-result-2 : goal.overflow_sub-result-2
overflow_sub-result-2 c = raw_fits_cast w128 w64 bounds (c.args.n ∷ c.args.o ∷ c.args.p ∷ c.args.u ∷ c.args.v ∷ c.args.w ∷ c.args.x ∷ c.args.y ∷ c.args.z ∷ []) minor_zx (omega arith) tt tt

pub overflow_mul-result-6 : goal.overflow_mul-result-6
overflow_mul-result-6 c = raw_fits_cast w128 w64 bounds (c.args.n ∷ c.args.o ∷ c.args.p ∷ c.args.u ∷ c.args.v ∷ c.args.w ∷ c.args.x ∷ c.args.y ∷ c.args.z ∷ []) second (omega arith) tt tt

pub overflow_add-result : goal.overflow_add-result
overflow_add-result c = raw_fits_cast w128 w64 bounds (c.args.n ∷ c.args.o ∷ c.args.p ∷ c.args.u ∷ c.args.v ∷ c.args.w ∷ c.args.x ∷ c.args.y ∷ c.args.z ∷ []) (add first second) (omega arith) tt tt

pub overflow_sub-result-3 : goal.overflow_sub-result-3
overflow_sub-result-3 c = raw_fits_cast w128 w64 bounds (c.args.n ∷ c.args.o ∷ c.args.p ∷ c.args.u ∷ c.args.v ∷ c.args.w ∷ c.args.x ∷ c.args.y ∷ c.args.z ∷ []) minor_xy (omega arith) tt tt

pub overflow_mul-result-9 : goal.overflow_mul-result-9
overflow_mul-result-9 c = raw_fits_cast w128 w64 bounds (c.args.n ∷ c.args.o ∷ c.args.p ∷ c.args.u ∷ c.args.v ∷ c.args.w ∷ c.args.x ∷ c.args.y ∷ c.args.z ∷ []) third (omega arith) tt tt

pub overflow_add-result-2 : goal.overflow_add-result-2
overflow_add-result-2 c = raw_fits_cast w128 w64 bounds (c.args.n ∷ c.args.o ∷ c.args.p ∷ c.args.u ∷ c.args.v ∷ c.args.w ∷ c.args.x ∷ c.args.y ∷ c.args.z ∷ []) (add (add first second) third) (omega arith) tt tt

pub returns : goal.returns
returns c =
    let ρ : List ℤ = c.args.n ∷ c.args.o ∷ c.args.p ∷ c.args.u ∷ c.args.v ∷ c.args.w ∷ c.args.x ∷ c.args.y ∷ c.args.z ∷ [] in
    let h : AllWithin bounds ρ = omega arith in
    machine_cast w128 w64 bounds ρ (add (add first second) third) h tt tt
