-- The order in which the faces of a slot are looked over.
use Rattle.std.proofs.Common.{◌≡◌, ℕ, zero, suc, ◌<◌, refl, ap, sym, ◌∙◌, arith}
use Rattle.std.proofs.lemmas.Nat.{xor_lt}
use Rattle.cavity_insert.specs.Grow.{face_turn}

pub turn_back : (e m : ℕ) → e < 4 → m < 4 → face_turn e (face_turn e m) ≡ m
turn_back zero m _ _ = refl
turn_back (suc zero) zero _ _ = refl
turn_back (suc zero) (suc zero) _ _ = refl
turn_back (suc zero) (suc (suc zero)) _ _ = refl
turn_back (suc zero) (suc (suc (suc zero))) _ _ = refl
turn_back (suc zero) (suc (suc (suc (suc m)))) _ small = absurd (omega (arith, small))
turn_back (suc (suc zero)) zero _ _ = refl
turn_back (suc (suc zero)) (suc zero) _ _ = refl
turn_back (suc (suc zero)) (suc (suc zero)) _ _ = refl
turn_back (suc (suc zero)) (suc (suc (suc zero))) _ _ = refl
turn_back (suc (suc zero)) (suc (suc (suc (suc m)))) _ small = absurd (omega (arith, small))
turn_back (suc (suc (suc zero))) zero _ _ = refl
turn_back (suc (suc (suc zero))) (suc zero) _ _ = refl
turn_back (suc (suc (suc zero))) (suc (suc zero)) _ _ = refl
turn_back (suc (suc (suc zero))) (suc (suc (suc zero))) _ _ = refl
turn_back (suc (suc (suc zero))) (suc (suc (suc (suc m)))) _ small = absurd (omega (arith, small))
turn_back (suc (suc (suc (suc e)))) m small _ = absurd (omega (arith, small))

-- two faces with one turn are the same
pub turn_one : (e m k : ℕ) → e < 4 → m < 4 → k < 4 → face_turn e m ≡ face_turn e k → m ≡ k
turn_one e m k e4 m4 k4 same = sym (turn_back e m e4 m4) ∙ ap (face_turn e) same ∙ turn_back e k e4 k4

-- there are four turns
pub turn_small : (e m : ℕ) → e < 4 → m < 4 → face_turn e m < 4
turn_small e m = xor_lt 2 e m
