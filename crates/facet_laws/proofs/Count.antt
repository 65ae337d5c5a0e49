-- A polygon and a leg that passes through some of its sides: it is round the one end and not round the other where their number is odd.
use Rattle.std.proofs.Common.{◌≡◌, ℕ, Bool, true, false, List, [], ◌∷◌, refl, sym, ◌∙◌}
use Rattle.std.specs.Prelude.{not}
use Rattle.std.specs.List.{AllByRecursion}
use Rattle.geo_laws.specs.Segment.{sides}
use Rattle.geo_laws.specs.declared.complex.Piece.{Piece}
use Rattle.facet_laws.specs.Parity.{xor}
use Rattle.facet_laws.proofs.Chains.{odd, closed}

shuffle : (a b c d : Bool) → xor (xor a b) (xor c d) ≡ xor (xor a c) (xor b d)
shuffle true true true true = refl
shuffle true true true false = refl
shuffle true true false true = refl
shuffle true true false false = refl
shuffle true false true true = refl
shuffle true false true false = refl
shuffle true false false true = refl
shuffle true false false false = refl
shuffle false true true true = refl
shuffle false true true false = refl
shuffle false true false true = refl
shuffle false true false false = refl
shuffle false false true true = refl
shuffle false false true false = refl
shuffle false false false true = refl
shuffle false false false false = refl

odd_xor : {A : Type 0} (f g : A → Bool) (xs : List A) → odd (λ x. xor (f x) (g x)) xs ≡ xor (odd f xs) (odd g xs)
unfolding odd
odd_xor f g [] = refl
odd_xor f g (x ∷ xs) = (λ j. xor (xor (f x) (g x)) (odd_xor f g xs j)) ∙ shuffle (f x) (g x) (odd f xs) (odd g xs)

moved : (c f g : Bool) → xor c f ≡ g → xor f g ≡ c
moved true true g e = (λ j. not (sym e j))
moved true false g e = sym e
moved false true g e = (λ j. not (sym e j))
moved false false g e = sym e

-- what the ends say cancels, and the passed sides are left
pub closed_but : (c f g : Piece → Bool) (s : ℕ → Bool) (polygon : List ℕ)
    → AllByRecursion (λ t. xor (xor (c t) (f t)) (g t) ≡ xor (s t.a) (s t.b)) (sides polygon)
    → xor (odd f (sides polygon)) (odd g (sides polygon)) ≡ odd c (sides polygon)
closed_but c f g s polygon h =
    moved (odd c (sides polygon)) (odd f (sides polygon)) (odd g (sides polygon))
    (sym (odd_xor c f (sides polygon)) ∙ closed (λ t. xor (c t) (f t)) g s polygon h)
