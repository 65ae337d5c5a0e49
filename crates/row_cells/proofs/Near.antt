-- A row that holds a point has the point's place in its box, and reaches into the point's cell.
use Rattle.std.proofs.Common.{◌≡◌, ℕ, ◌+◌, ◌<◌, ◌≤◌, pos, ◌<ℤ◌, Bool, true, ◌&&◌, inl, inr, sym, subst, arith}
use Rattle.std.specs.Prelude.{nat_le}
use Rattle.std.proofs.lemmas.Bool.{leb-true, le-leb, cases_lt}
use Rattle.sign_predicates.specs.Point.{RationalPoint}
use Rattle.sign_predicates.specs.declared.tetrahedron.Corners.{Corners}
use Rattle.sign_predicates.specs.Orientation.{volume, side_rational, opposite_a, opposite_b, opposite_c, opposite_d, IsPositive, InClosed}
use Rattle.geo_laws.proofs.Members.{both_true}
use Rattle.crossing_laws.proofs.Cramer.{weights-w, weights-x, weights-y, weights-z}
use Rattle.row_cells.specs.Boxes.{spans, box_of, cell_of, is_near, AreOnGrid}
use Rattle.row_cells.specs.Parts.{reaches, mark}
use Rattle.row_cells.specs.declared.boxes.Cell.{Cell}
use Rattle.row_cells.specs.declared.boxes.RowBox.{RowBox}
use Rattle.row_cells.specs.declared.boxes.Span.{Span}
use Rattle.row_cells.specs.declared.parts.Axis.TheVariants.{X, Y, Z}
use Rattle.row_cells.specs.declared.parts.Cut.{Cut}
use Rattle.row_cells.specs.declared.parts.Cuts.{Cuts}
use Rattle.row_cells.proofs.Along.{Weighs, in_span, edge}

two_true : (a b : Bool) → a ≡ true → b ≡ true → (a && b) ≡ true
two_true a b e f = λ i. e i && f i

pub near_of : (i : ℕ) (t : Corners) (x : RationalPoint) → pos 0 <ℤ x.w → IsPositive t → AreOnGrid t → InClosed t x → is_near (box_of i t) (cell_of x) ≡ true
near_of i t x w p grid inside =
    let wa = side_rational (opposite_a t) x in
    let wb = side_rational (opposite_b t) x in
    let wc = side_rational (opposite_c t) x in
    let wd = side_rational (opposite_d t) x in
    let along_x : Weighs wa wb wc wd t.a.x t.b.x t.c.x t.d.x (volume t) x.w x.x = record { a_least = inside.0; b_least = inside.1.0; c_least = inside.1.1.0; d_least = inside.1.1.1.0; whole = weights-w t x; sum = weights-x t x; positive = p } in
    let along_y : Weighs wa wb wc wd t.a.y t.b.y t.c.y t.d.y (volume t) x.w x.y = record { a_least = inside.0; b_least = inside.1.0; c_least = inside.1.1.0; d_least = inside.1.1.1.0; whole = weights-w t x; sum = weights-y t x; positive = p } in
    let along_z : Weighs wa wb wc wd t.a.z t.b.z t.c.z t.d.z (volume t) x.w x.z = record { a_least = inside.0; b_least = inside.1.0; c_least = inside.1.1.0; d_least = inside.1.1.1.0; whole = weights-w t x; sum = weights-z t x; positive = p } in
    two_true _ _ (two_true _ _
    (in_span wa wb wc wd t.a.y t.b.y t.c.y t.d.y (volume t) x.w x.y along_y w grid.a.y_low grid.b.y_low grid.c.y_low grid.d.y_low)
    (in_span wa wb wc wd t.a.z t.b.z t.c.z t.d.z (volume t) x.w x.z along_z w grid.a.z_low grid.b.z_low grid.c.z_low grid.d.z_low))
    (in_span wa wb wc wd t.a.x t.b.x t.c.x t.d.x (volume t) x.w x.x along_x w grid.a.x_low grid.b.x_low grid.c.x_low grid.d.x_low)

-- the least coordinate of a box lies on the grid
record IsLow (b : RowBox) : Type 0 where
  x : b.x.low ≤ 1073741824
  y : b.y.low ≤ 1073741824
  z : b.z.low ≤ 1073741824

low_of : (i : ℕ) (t : Corners) → AreOnGrid t → IsLow (box_of i t)
low_of i t grid = record {
  x = edge t.a.x t.b.x t.c.x t.d.x grid.a.x_low grid.a.x_high;
  y = edge t.a.y t.b.y t.c.y t.d.y grid.a.y_low grid.a.y_high;
  z = edge t.a.z t.b.z t.c.z t.d.z grid.a.z_low grid.a.z_high;
}

-- the part with this number holds a place
pub record IsPartAt (cut : Cut) (s at : ℕ) : Type 0 where
  pub there : s < 32
  pub left : mark cut s ≤ at
  pub right : s < 31 → at ≤ mark cut (s + 1)

last_mark : (cut : Cut) (s n : ℕ) → n ≤ 1073741824 → s ≡ 31 → n ≤ mark cut (s + 1)
last_mark cut s n h e = subst (λ (k : ℕ). n ≤ mark cut (k + 1)) (sym e) h

-- what has the place in it reaches into the part
in_part : (cut : Cut) (s at : ℕ) (span : Span) → IsPartAt cut s at → span.low ≤ 1073741824 → spans span at ≡ true → (nat_le span.low (mark cut (s + 1)) && nat_le (mark cut s) span.high) ≡ true
in_part cut s at span p on_grid h =
    let ends = both_true _ _ h in
    let low = leb-true span.low at ends.0 in
    let high = leb-true at span.high ends.1 in
    go (mark cut s) (mark cut (s + 1)) low high p.left (elim (cases_lt s 31) [
      | inl before ↦ let right = p.right before in omega arith
      | inr after ↦ let there = p.there in last_mark cut s span.low on_grid (omega arith)
    ])
  where
    go : (from to : ℕ) → span.low ≤ at → at ≤ span.high → from ≤ at → span.low ≤ to → (nat_le span.low to && nat_le from span.high) ≡ true
    go from to a b c d = two_true _ _ (le-leb span.low to d) (le-leb from span.high (omega arith))

-- the parts of a cell
pub record IsCellAt (cuts : Cuts) (s t u : ℕ) (at : Cell) : Type 0 where
  pub x : IsPartAt cuts.x s at.x
  pub y : IsPartAt cuts.y t at.y
  pub z : IsPartAt cuts.z u at.z

-- the box reaches into all three parts
abbrev pub reaches_cell : Cuts → ℕ → ℕ → ℕ → RowBox → Bool
reaches_cell cuts s t u b =
    (reaches X (mark cuts.x s) (mark cuts.x (s + 1)) b && reaches Y (mark cuts.y t) (mark cuts.y (t + 1)) b) && reaches Z (mark cuts.z u) (mark cuts.z (u + 1)) b

pub reach_of : (i : ℕ) (corners : Corners) (at : Cell) (cuts : Cuts) (s t u : ℕ) → AreOnGrid corners → IsCellAt cuts s t u at → is_near (box_of i corners) at ≡ true → reaches_cell cuts s t u (box_of i corners) ≡ true
reach_of i corners at cuts s t u grid c near =
    let low = low_of i corners grid in
    let outer = both_true _ _ near in
    let inner = both_true _ _ outer.0 in
    two_true _ _ (two_true _ _ (in_part cuts.x s at.x (box_of i corners).x c.x low.x outer.1) (in_part cuts.y t at.y (box_of i corners).y c.y low.y inner.0)) (in_part cuts.z u at.z (box_of i corners).z c.z low.z inner.1)
