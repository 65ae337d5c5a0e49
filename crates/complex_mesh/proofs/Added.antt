-- How many points protection adds.
use Rattle.std.proofs.Common.{◌≡◌, ◌≢◌, ℕ, zero, suc, ◌+◌, ◌≤◌, Bool, true, false, List, length, Option, None, Some, refl, ap, sym, ◌∙◌, arith, eqb-true, eq-eqb}
use Rattle.std.specs.Prelude.{◌==◌}
use Rattle.std.proofs.lemmas.List.{length_push}
use Rattle.sign_predicates.specs.Point.{Point}
use Rattle.geo_laws.specs.Delaunay.{point}
use Rattle.geo_laws.specs.Segment.{Protected, GridEnd, BudgetEnd, protect, first_missing, with_midpoint, with_halves, midpoint}
use Rattle.geo_laws.specs.declared.complex.Piece.{Piece}
use Rattle.segment_protect.proofs.Ends.{end_done, end_grid, end_budget, end_split}

module _ (depth : ℕ) (qs : List Point) (rest : List Piece) where
  no_grid : (p : Piece) → GridEnd p ≡ Protected qs rest → ⊥
  no_grid p e = cc

  no_budget : (p : Piece) → BudgetEnd p ≡ Protected qs rest → ⊥
  no_budget p e = cc

  the_points : (ps : List Point) (pieces : List Piece) → Protected ps pieces ≡ Protected qs rest → ps ≡ qs
  the_points ps pieces e = cc

  differs : (i j : ℕ) → (i == j) ≡ false → i ≢ j
  differs i j e d = clash (i == j) (eq-eqb i j d) e
    where
      clash : (b : Bool) → b ≡ true → b ≡ false → ⊥
      clash b e f = cc

  abbrev HasFewMore : ℕ → ℕ → Type 0
  HasFewMore n splits = (n ≤ length qs) × (length qs ≤ n + splits)

  same_long : (splits : ℕ) (ps : List Point) → ps ≡ qs → HasFewMore (length ps) splits
  same_long splits ps e = let l = ap (λ (xs : List Point). length xs) e in (omega arith, omega arith)

  -- each split adds one point, and none takes one away
  pub added : (splits : ℕ) (ps : List Point) (pieces : List Piece) → protect depth splits ps pieces ≡ Protected qs rest
      → (length ps ≤ length qs) × (length qs ≤ length ps + splits)
  added zero ps pieces e = go (first_missing ps pieces) refl
    where
      go : (o : Option Piece) → first_missing ps pieces ≡ o → HasFewMore (length ps) 0
      go None f = same_long 0 ps (the_points ps pieces (sym (end_done depth zero ps pieces f) ∙ e))
      go (Some p) f = by (p.halvings == depth) refl
        where
          by : (b : Bool) → (p.halvings == depth) ≡ b → HasFewMore (length ps) 0
          by true d = absurd (no_grid p (sym (end_grid depth zero ps pieces p f (eqb-true p.halvings depth d)) ∙ e))
          by false d = absurd (no_budget p (sym (end_budget depth zero ps pieces p refl f (differs p.halvings depth d)) ∙ e))
  added (suc splits) ps pieces e = go (first_missing ps pieces) refl (added splits)
    where
      go : (o : Option Piece) → first_missing ps pieces ≡ o
          → ((us : List Point) (more : List Piece) → protect depth splits us more ≡ Protected qs rest → HasFewMore (length us) splits)
          → HasFewMore (length ps) (suc splits)
      go None f later = same_long (suc splits) ps (the_points ps pieces (sym (end_done depth (suc splits) ps pieces f) ∙ e))
      go (Some p) f later = by (p.halvings == depth) refl
        where
          one_less : suc splits ≡ splits + 1
          one_less = omega arith

          step : (m : ℕ) → m ≡ length ps + 1 → HasFewMore m splits → HasFewMore (length ps) (suc splits)
          step m h l = let low = l.0 in let high = l.1 in (omega arith, omega arith)

          by : (b : Bool) → (p.halvings == depth) ≡ b → HasFewMore (length ps) (suc splits)
          by true d = absurd (no_grid p (sym (end_grid depth (suc splits) ps pieces p f (eqb-true p.halvings depth d)) ∙ e))
          by false d =
              step (length (with_midpoint ps p)) (length_push ps (midpoint (point ps p.a) (point ps p.b)))
              (later (with_midpoint ps p) (with_halves p (length ps) pieces) (sym (end_split depth (suc splits) splits ps pieces p one_less f (differs p.halvings depth d)) ∙ e))
