use Rattle.std.proofs.Common.{◌≡◌, ◌*◌, ◌^◌, ◌≤◌, List, [], ◌∷◌, refl, arith, ℤ, w32, w64, to_z, of_z, unsigned_abs, subst, sym}
use Rattle.exact_algebra.proofs.Ring.{eval}
use Rattle.exact_algebra.proofs.Size.{machine, machine_at, raw_fits_at, eval_within, AllWithin, back}
use Rattle.sign_predicates.proofs.Products.{two_squares, three_squares}
use Rattle.sign_predicates.proofs.WeightedTerms.{lowered, raised, rise_bounds}
use Rattle.sign_predicates.proofs.weighted.raised_squares.Goals as goal

abbrev read : ℤ → ℤ
read z = to_z w32 (of_z w32 z)

small_back : (z : ℤ) → unsigned_abs z ≤ 2 ^ 30 → read z ≡ z
small_back z h = back w32 (2 ^ 30) z tt h

pub overflow_add-result : goal.overflow_add-result
overflow_add-result c =
    raw_fits_at w64 rise_bounds (read c.args.x ∷ read c.args.y ∷ []) (c.args.x ∷ c.args.y ∷ []) two_squares
    (small_back c.args.x c.requires.x_small, (small_back c.args.y c.requires.y_small, tt)) (omega arith) tt

pub overflow_add-result-2 : goal.overflow_add-result-2
overflow_add-result-2 c =
    raw_fits_at w64 rise_bounds (read c.args.x ∷ read c.args.y ∷ read c.args.z ∷ []) (c.args.x ∷ c.args.y ∷ c.args.z ∷ []) three_squares
    (small_back c.args.x c.requires.x_small, (small_back c.args.y c.requires.y_small, (small_back c.args.z c.requires.z_small, tt))) (omega arith) tt

pub overflow_sub-result : goal.overflow_sub-result
overflow_sub-result c =
    raw_fits_at w64 rise_bounds (read c.args.x ∷ read c.args.y ∷ read c.args.z ∷ c.args.own ∷ []) (c.args.x ∷ c.args.y ∷ c.args.z ∷ c.args.own ∷ []) lowered
    (small_back c.args.x c.requires.x_small, (small_back c.args.y c.requires.y_small, (small_back c.args.z c.requires.z_small, (refl, tt)))) (omega arith) tt

pub overflow_add-result-3 : goal.overflow_add-result-3
overflow_add-result-3 c =
    raw_fits_at w64 rise_bounds (read c.args.x ∷ read c.args.y ∷ read c.args.z ∷ c.args.own ∷ c.args.other ∷ []) (c.args.x ∷ c.args.y ∷ c.args.z ∷ c.args.own ∷ c.args.other ∷ []) raised
    (small_back c.args.x c.requires.x_small, (small_back c.args.y c.requires.y_small, (small_back c.args.z c.requires.z_small, (refl, (refl, tt))))) (omega arith) tt

pub returns : goal.returns
returns c =
    let ρ : List ℤ = read c.args.x ∷ read c.args.y ∷ read c.args.z ∷ c.args.own ∷ c.args.other ∷ [] in
    let σ : List ℤ = c.args.x ∷ c.args.y ∷ c.args.z ∷ c.args.own ∷ c.args.other ∷ [] in
    let h : AllWithin rise_bounds σ = omega arith in
    let e : machine w64 ρ raised ≡ eval σ raised =
    machine_at w64 rise_bounds ρ σ raised
    (small_back c.args.x c.requires.x_small, (small_back c.args.y c.requires.y_small, (small_back c.args.z c.requires.z_small, (refl, (refl, tt))))) h tt in
    record { value = e; size = subst (λ z. unsigned_abs z ≤ 7 * 2 ^ 59) (sym e) (omega (arith, eval_within rise_bounds σ raised h)) }
