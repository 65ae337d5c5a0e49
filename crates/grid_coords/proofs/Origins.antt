-- The box of a list of points, front to back, and the decimals with which an origin is near.
use Rattle.std.proofs.Common.{◌≡◌, ℕ, zero, suc, ◌+◌, ◌-◌, ◌<◌, ◌≤◌, true, false, List, [], ◌∷◌, length, get_or, drop, Some, None, refl, sym, ap, arith}
use Rattle.std.specs.Prelude.{◌≢◌}
use Rattle.std.proofs.lemmas.List.{at_drop_all}
use Rattle.std.proofs.lemmas.Bool.{cond-true, cond-false, eq-eqb, ne_eqb}
use Rattle.grid_coords.specs.declared.origin.WholePoint.{WholePoint}
use Rattle.grid_coords.specs.declared.points.DecimalPoint.{DecimalPoint}
use Rattle.grid_coords.specs.Origins.{whole_point, lower, higher, low_corner, high_corner, middle_point, reach, if_some, origin_of, is_near, most_near}
use Rattle.grid_coords.proofs.Sizes.{from_here}

pub low_more : (w : WholePoint) (ps : List DecimalPoint) (i : ℕ) (p : DecimalPoint) → i < length ps → p ≡ get_or ps i p
    → low_corner (lower w (whole_point p)) (drop (i + 1) ps) ≡ low_corner w (drop i ps)
unfolding low_corner
low_more w ps i p lt is = sym (ap (low_corner w) (from_here ps i p lt is))

pub low_all : (w : WholePoint) (ps : List DecimalPoint) (i : ℕ) → length ps ≤ i → low_corner w (drop i ps) ≡ w
unfolding low_corner
low_all w ps i le = at_drop_all (low_corner w) ps i le

pub high_more : (w : WholePoint) (ps : List DecimalPoint) (i : ℕ) (p : DecimalPoint) → i < length ps → p ≡ get_or ps i p
    → high_corner (higher w (whole_point p)) (drop (i + 1) ps) ≡ high_corner w (drop i ps)
unfolding high_corner
high_more w ps i p lt is = sym (ap (high_corner w) (from_here ps i p lt is))

pub high_all : (w : WholePoint) (ps : List DecimalPoint) (i : ℕ) → length ps ≤ i → high_corner w (drop i ps) ≡ w
unfolding high_corner
high_all w ps i le = at_drop_all (high_corner w) ps i le

-- one number of decimals less
pub near_here : (w : WholePoint) (n : ℕ) → is_near n w ≡ true → most_near w n ≡ n
unfolding most_near
near_here w zero is = refl
near_here w (suc n) is = rw is refl

pub far_here : (w : WholePoint) (n : ℕ) → 0 < n → is_near n w ≡ false → most_near w n ≡ most_near w (n - 1)
unfolding most_near
far_here w zero some is = absurd (omega arith)
far_here w (suc n) some is = let e : suc n - 1 ≡ n = omega arith in rw (is, e) refl

pub near_none : (w : WholePoint) (n : ℕ) → n ≡ 0 → most_near w n ≡ n
unfolding most_near
near_none w zero is = refl
near_none w (suc n) is = absurd (omega arith)

pub origin_some : (ps : List DecimalPoint) (p : DecimalPoint) → 0 < length ps → p ≡ get_or ps 0 p
    → origin_of ps ≡ if_some (middle_point (low_corner (whole_point p) ps) (high_corner (whole_point p) ps))
unfolding origin_of
origin_some [] p some is = absurd (omega arith)
origin_some (q ∷ ps) p some is = λ j. if_some (middle_point (low_corner (whole_point (sym is j)) (q ∷ ps)) (high_corner (whole_point (sym is j)) (q ∷ ps)))

pub origin_none : (ps : List DecimalPoint) → length ps ≡ 0 → origin_of ps ≡ None
unfolding origin_of
origin_none [] none = refl
origin_none (p ∷ ps) none = absurd (omega arith)

pub at_zero : (w : WholePoint) → reach w ≡ 0 → if_some w ≡ None
at_zero w is = cond-true _ _ _ (eq-eqb (reach w) 0 is)

pub at_other : (w : WholePoint) → reach w ≢ 0 → if_some w ≡ Some w
at_other w is = cond-false _ _ _ (ne_eqb (reach w) 0 is)
