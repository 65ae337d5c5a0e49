-- The point of a list that is nearest to a segment, point after point.
use Rattle.std.proofs.Common.{◌≡◌, ◌≢◌, ℕ, ◌+◌, ◌<◌, ℤ, ◌≤ℤ◌, List, length, subst, arith, below_more}
use Rattle.std.proofs.lemmas.Int.{ints}
use Rattle.sign_predicates.specs.Point.{Point}
use Rattle.geo_laws.specs.declared.complex.Piece.{Piece}
use Rattle.tet_shapes.specs.Nearest.{gap_of, AreNoNearer}

-- the point is no end of the segment, and has this gap
abbrev pub IsNearestTo : List Point → Piece → ℤ → ℕ → Type 0
IsNearestTo ps s least q = (q < length ps) × ((q ≢ s.a) × (q ≢ s.b)) × (least ≡ gap_of ps s q)

below : (m n k : ℤ) → m ≤ℤ n → n ≤ℤ k → m ≤ℤ k
below m n k h i = omega (arith, ints)

level : (m n : ℤ) → m ≡ n → m ≤ℤ n
level m n e = omega (arith, ints)

-- the next point is nearer
pub nearer : (ps : List Point) (s : Piece) (i : ℕ) (least own : ℤ) → AreNoNearer ps s i least → own ≡ gap_of ps s i → own ≤ℤ least → AreNoNearer ps s (i + 1) own
nearer ps s i least own before is less =
    below_more (λ (k : ℕ). k ≢ s.a → k ≢ s.b → own ≤ℤ gap_of ps s k) i (λ k l a b. below own least (gap_of ps s k) less (before k l a b)) (λ a b. level own (gap_of ps s i) is)

-- and is not
pub no_nearer : (ps : List Point) (s : Piece) (i : ℕ) (least own : ℤ) → AreNoNearer ps s i least → own ≡ gap_of ps s i → (i ≢ s.a → i ≢ s.b → least ≤ℤ own)
    → AreNoNearer ps s (i + 1) least
no_nearer ps s i least own before is not =
    below_more (λ (k : ℕ). k ≢ s.a → k ≢ s.b → least ≤ℤ gap_of ps s k) i before (λ a b. subst (λ g. least ≤ℤ g) is (not a b))
