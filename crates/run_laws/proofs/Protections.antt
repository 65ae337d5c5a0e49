-- What protection keeps of its points.
use Rattle.std.proofs.Common.{◌≡◌, ◌≢◌, ℕ, zero, suc, ◌+◌, ◌+ℤ◌, ℤ, pos, Bool, true, false, List, [], ◌∷◌, ◌++◌, length, Option, None, Some, refl, sym, subst, ◌∙◌, arith, append_assoc, eqb-true, eq-eqb}
use Rattle.std.specs.Prelude.{◌==◌, ◌≤◌, All, int_div, unsigned_abs}
use Rattle.std.proofs.lemmas.Int.{ints}
use Rattle.std.proofs.lemmas.List.{append-nil}
use Rattle.std.proofs.lemmas.List.Elements.{All-push}
use Rattle.sign_predicates.specs.Point.{Point, origin}
use Rattle.geo_laws.specs.Delaunay.{point}
use Rattle.geo_laws.specs.Segment.{Protected, GridEnd, BudgetEnd, protect, first_missing, with_midpoint, with_halves, midpoint}
use Rattle.geo_laws.specs.declared.complex.Piece.{Piece}
use Rattle.run_laws.proofs.Grids.{IsWithin}
use Rattle.segment_protect.proofs.Ends.{end_done, end_grid, end_budget, end_split}

module _ (P : List Point → Type 0) (step : (ps : List Point) (p : Piece) → P ps → P (with_midpoint ps p)) (depth : ℕ) (qs : List Point) (rest : List Piece) where
  no_grid : (p : Piece) → GridEnd p ≡ Protected qs rest → ⊥
  no_grid p e = cc

  no_budget : (p : Piece) → BudgetEnd p ≡ Protected qs rest → ⊥
  no_budget p e = cc

  the_points : (ps : List Point) (pieces : List Piece) → Protected ps pieces ≡ Protected qs rest → ps ≡ qs
  the_points ps pieces e = cc

  differs : (i j : ℕ) → (i == j) ≡ false → i ≢ j
  differs i j d e = clash (i == j) (eq-eqb i j e) d
    where
      clash : (b : Bool) → b ≡ true → b ≡ false → ⊥
      clash b e f = cc

  -- what each midpoint keeps holds of the points at the end
  pub kept : (splits : ℕ) (ps : List Point) (pieces : List Piece) → protect depth splits ps pieces ≡ Protected qs rest → P ps → P qs
  kept zero ps pieces e holds = go (first_missing ps pieces) refl
    where
      go : (o : Option Piece) → first_missing ps pieces ≡ o → P qs
      go None f = subst P (the_points ps pieces (sym (end_done depth zero ps pieces f) ∙ e)) holds
      go (Some p) f = by (p.halvings == depth) refl
        where
          by : (b : Bool) → (p.halvings == depth) ≡ b → P qs
          by true d = absurd (no_grid p (sym (end_grid depth zero ps pieces p f (eqb-true p.halvings depth d)) ∙ e))
          by false d = absurd (no_budget p (sym (end_budget depth zero ps pieces p refl f (differs p.halvings depth d)) ∙ e))
  kept (suc splits) ps pieces e holds = go (first_missing ps pieces) refl (kept splits)
    where
      go : (o : Option Piece) → first_missing ps pieces ≡ o
          → ((us : List Point) (more : List Piece) → protect depth splits us more ≡ Protected qs rest → P us → P qs) → P qs
      go None f later = subst P (the_points ps pieces (sym (end_done depth (suc splits) ps pieces f) ∙ e)) holds
      go (Some p) f later = by (p.halvings == depth) refl
        where
          one_less : suc splits ≡ splits + 1
          one_less = omega arith

          by : (b : Bool) → (p.halvings == depth) ≡ b → P qs
          by true d = absurd (no_grid p (sym (end_grid depth (suc splits) ps pieces p f (eqb-true p.halvings depth d)) ∙ e))
          by false d =
              later (with_midpoint ps p) (with_halves p (length ps) pieces) (sym (end_split depth (suc splits) splits ps pieces p one_less f (differs p.halvings depth d)) ∙ e)
              (step ps p holds)

-- ---- points within the grid of the program

-- how large a coordinate may be
abbrev wide : ℕ
wide = 8388608

half_within : (a b : ℤ) → unsigned_abs a ≤ wide → unsigned_abs b ≤ wide → unsigned_abs (int_div (a +ℤ b) (pos 2)) ≤ wide
half_within a b h k = omega (arith, ints)

midpoint_within : (a b : Point) → IsWithin wide a → IsWithin wide b → IsWithin wide (midpoint a b)
midpoint_within a b h k = record {
  x_small = half_within a.x b.x h.x_small k.x_small;
  y_small = half_within a.y b.y h.y_small k.y_small;
  z_small = half_within a.z b.z h.z_small k.z_small;
}

origin_within : IsWithin wide origin
origin_within = record { x_small = omega (arith, ints); y_small = omega (arith, ints); z_small = omega (arith, ints) }

point_within : (ps : List Point) (i : ℕ) → All (IsWithin wide) ps → IsWithin wide (point ps i)
point_within [] i all = origin_within
point_within (p ∷ ps) zero all = all 0 p (omega arith)
point_within (p ∷ ps) (suc i) all = point_within ps i (λ k d lt. all (suc k) d (omega arith))

-- the points begin with the first ones, and all lie on the grid
pub record IsGrown (first : List Point) (ps : List Point) : Type 0 where
  pub more : List Point
  pub is : ps ≡ first ++ more
  pub on_grid : All (IsWithin wide) ps

pub grown_none : (first : List Point) → All (IsWithin wide) first → IsGrown first first
grown_none first all = record { more = []; is = sym (append-nil first); on_grid = all }

grown_more : (first ps : List Point) (p : Piece) → IsGrown first ps → IsGrown first (with_midpoint ps p)
grown_more first ps p g =
    let m = midpoint (point ps p.a) (point ps p.b) in
    let small = midpoint_within (point ps p.a) (point ps p.b) (point_within ps p.a g.on_grid) (point_within ps p.b g.on_grid) in
    record {
      more = g.more ++ m ∷ [];
      is = (λ j. g.is j ++ m ∷ []) ∙ append_assoc first g.more (m ∷ []);
      on_grid = All-push (IsWithin wide) ps m g.on_grid small;
    }

-- so it is after protection
pub grown : (depth splits : ℕ) (ps qs : List Point) (pieces rest : List Piece) → All (IsWithin wide) ps → protect depth splits ps pieces ≡ Protected qs rest → IsGrown ps qs
grown depth splits ps qs pieces rest all e = kept (IsGrown ps) (grown_more ps) depth qs rest splits ps pieces e (grown_none ps all)
