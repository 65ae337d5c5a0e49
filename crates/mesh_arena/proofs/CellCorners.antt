-- How a cell keeps the corners of a slot: the numbers of points, but where a link tells the point at infinity.
use Rattle.std.proofs.Common.{◌≡◌, ℕ, zero, suc, ◌<◌, true, false, List, [], ◌∷◌, length, get_or, refl, arith}
use Rattle.mesh_arena.specs.declared.slot.Corner.TheVariants.{Point as Numbered, Ghost}
use Rattle.mesh_arena.specs.Mesh.{numbered_corners}
use Rattle.mesh_arena.specs.Cells.{corner_with, corners_in, is_infinite}

finite_corner : (number link : ℕ) → is_infinite link ≡ false → corner_with number link ≡ Numbered number
finite_corner number link h = rw h refl

infinite_corner : (number link : ℕ) → is_infinite link ≡ true → corner_with number link ≡ Ghost
infinite_corner number link h = rw h refl

pub finite_corners : (numbers links : List ℕ) → length links ≡ length numbers → ((k : ℕ) → k < length links → is_infinite (get_or links k 0) ≡ false)
    → corners_in numbers links ≡ numbered_corners numbers
finite_corners [] [] len h = refl
finite_corners [] (x ∷ links) len h = absurd (omega arith)
finite_corners (n ∷ numbers) [] len h = absurd (omega arith)
finite_corners (n ∷ numbers) (x ∷ links) len h =
    let first = finite_corner n x (h 0 (omega arith)) in
    let rest = finite_corners numbers links (omega arith) (λ k below. h (suc k) (omega arith)) in
    λ i. first i ∷ rest i

pub infinite_corner_there : (numbers links : List ℕ) (k : ℕ) → k < length links → length links ≡ length numbers → is_infinite (get_or links k 0) ≡ true
    → (ns : List ℕ) → corners_in numbers links ≡ numbered_corners ns → ⊥
infinite_corner_there numbers [] k below len h ns e = absurd (omega arith)
infinite_corner_there [] (x ∷ links) k below len h ns e = absurd (omega arith)
infinite_corner_there (n ∷ numbers) (x ∷ links) k below len h [] e = cc
infinite_corner_there (n ∷ numbers) (x ∷ links) zero below len h (m ∷ ns) e = let first = infinite_corner n x h in cc
infinite_corner_there (n ∷ numbers) (x ∷ links) (suc k) below len h (m ∷ ns) e =
    infinite_corner_there numbers links k (omega arith) (omega arith) h ns cc

pub below_four : (P : ℕ → Type 0) → P 0 → P 1 → P 2 → P 3 → (k : ℕ) → k < 4 → P k
below_four P a b c d zero h = a
below_four P a b c d (suc zero) h = b
below_four P a b c d (suc (suc zero)) h = c
below_four P a b c d (suc (suc (suc zero))) h = d
below_four P a b c d (suc (suc (suc (suc k)))) h = absurd (omega arith)
