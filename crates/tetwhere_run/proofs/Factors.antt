-- How far the factors 2 below coordinates outnumber the factors 5.
use Rattle.std.proofs.Common.{◌≡◌, ℕ, zero, suc, ◌+◌, ◌/◌, ◌%◌, ◌^◌, ◌<◌, ◌≤◌, unsigned_abs, List, [], ◌∷◌, Option, Some, None, Ok, refl, ap, eqb, arith, inl, inr}
use Rattle.std.specs.Prelude.{All}
use Rattle.std.proofs.lemmas.Bool.{eqb-true, cases_Bool}
use Rattle.std.proofs.lemmas.List.Recursion.{max_bounds, max_least}
use Rattle.std.proofs.Math.Nat.{pow-suc}
use Rattle.tet_text.specs.Decimals.{Scaled}
use Rattle.grid_coords.specs.Choice.{unless_over}
use Rattle.grid_coords.specs.declared.grid.Grid.{Grid}
use Rattle.grid_coords.specs.declared.points.DecimalPoint.{DecimalPoint}
use Rattle.node_files.specs.Terms.{divided_out, terms_of}
use Rattle.node_files.specs.LeastGrid.{twos_of, fives_of, greatest, coarsest, first_over_units, least_grid_of}
use Rattle.tetwhere_run.specs.Factors.{HasFewTwos}

-- at most as many factors are left as there were
left_few : (b n steps : ℕ) → (divided_out b n steps).1 ≤ steps
left_few b n zero = omega arith
left_few b n (suc steps) =
    elim (cases_Bool (eqb (n % b) 0)) [
      | inl is ↦ let less = left_few b (n / b) steps in rw is (omega arith)
      | inr is ↦ rw is (omega arith)
    ]

-- of 0 all factors are cancelled
nothing_left : (steps : ℕ) → (divided_out 2 0 steps).1 ≡ 0
nothing_left zero = omega arith
nothing_left (suc steps) = nothing_left steps

-- what is left of a number once 2s are cancelled
record IsLess (n m : ℕ) : Type 0 where
  some : 0 < m
  less : m ≤ n

halved_less : (n steps : ℕ) → 0 < n → IsLess n (divided_out 2 n steps).0
halved_less n zero some = record { some = some; less = omega arith }
halved_less n (suc steps) some =
    elim (cases_Bool (eqb (n % 2) 0)) [
      | inl is ↦
          let even = eqb-true (n % 2) 0 is in
          let rest = halved_less (n / 2) steps (omega arith) in
          let less = rest.less in
          rw is (record { some = rest.some; less = omega arith })
      | inr is ↦ rw is (record { some = some; less = omega arith })
    ]

-- of a number below 5^(k + 1) at most k factors 5 are cancelled
fives_few : (k n steps : ℕ) → 0 < n → n < 5 ^ suc k → steps ≤ (divided_out 5 n steps).1 + k
fives_few k n zero some small = omega arith
fives_few zero n (suc steps) some small =
    elim (cases_Bool (eqb (n % 5) 0)) [
      | inl is ↦ let whole = eqb-true (n % 5) 0 is in absurd (omega arith)
      | inr is ↦ rw is (omega arith)
    ]
fives_few (suc k) n (suc steps) some small =
    elim (cases_Bool (eqb (n % 5) 0)) [
      | inl is ↦
          let whole = eqb-true (n % 5) 0 is in
          let power = pow-suc 5 (suc k) in
          let rest = fives_few k (n / 5) steps (omega arith) (omega arith) in
          rw is (omega arith)
      | inr is ↦ rw is (omega arith)
    ]

-- in lowest terms a number with at most 36 digits has at most 51 more factors 2 below it than factors 5
pub few_twos : (d : Scaled) → unsigned_abs d.value < 10 ^ 36 → (terms_of d).twos ≤ (terms_of d).fives + 51
few_twos d small = go (unsigned_abs d.value) small
  where
    go : (n : ℕ) → n < 10 ^ 36 → (divided_out 2 n d.scale).1 ≤ (divided_out 5 (divided_out 2 n d.scale).0 d.scale).1 + 51
    go zero small = let none = nothing_left d.scale in omega arith
    go (suc n) small =
        let odd = halved_less (suc n) d.scale (omega arith) in
        let less = odd.less in
        let fives = fives_few 51 (divided_out 2 (suc n) d.scale).0 d.scale odd.some (omega arith) in
        let twos = left_few 2 (suc n) d.scale in
        omega arith

-- each point has few more factors 2 than factors 5, and so have all together
pub few_halvings : (ps : List DecimalPoint) → All HasFewTwos ps → greatest twos_of ps ≤ greatest fives_of ps + 51
unfolding greatest
few_halvings [] all = omega arith
few_halvings (p ∷ ps) all =
    max_least (greatest twos_of) twos_of refl (λ _ _. refl) (p ∷ ps) p (greatest fives_of (p ∷ ps) + 51)
    (λ i lt.
    let few = all i p lt in
    let most = max_bounds (greatest fives_of) fives_of refl (λ _ _. refl) (p ∷ ps) i p lt in
    omega arith)

-- the grid that is chosen
pub chosen : (o : Option DecimalPoint) (g h : Grid) → unless_over o g ≡ Ok h → (o ≡ None) × (g ≡ h)
chosen None g h e = (refl, cc)
chosen (Some p) g h e = absurd (cc)

-- the least grid has few halvings
pub least_halvings : (wide : ℕ) (ps : List DecimalPoint) (g : Grid) → least_grid_of wide ps ≡ Ok g → All HasFewTwos ps → g.halvings ≤ 64
unfolding least_grid_of
least_halvings wide ps g is all =
    let same = (chosen (first_over_units wide (coarsest ps) ps) (coarsest ps) g is).1 in
    let few = few_halvings ps all in
    let halved = ap (λ (h : Grid). h.halvings) same in
    omega arith
