-- Points with whole coordinates on the grid of whole numbers, and what folding says of all of them.
use Rattle.std.proofs.Common.{◌≡◌, ◌⊎◌, inl, inr, ℕ, zero, suc, ◌*◌, ◌^◌, ◌<◌, ◌≤◌, ℤ, pos, true, false, negsuc, unsigned_abs, List, [], ◌∷◌, length, map, Some, None, Ok, Err, refl, ap, sym, subst, ◌∙◌, arith, Bool, neg_ℤ, ◌*ℤ◌, mul-one, mul_comm}
use Rattle.std.specs.Prelude.{All, find, int_lt, min, slice_index}
use Rattle.sign_predicates.specs.Point.{Point}
use Rattle.std.proofs.lemmas.Bool.{cases_lt, cond-true, cond-false, lt-ltb, le-ltb}
use Rattle.std.proofs.lemmas.List.{length-map}
use Rattle.std.proofs.Math.IntN.{pos-*ℤ-pos}
use Rattle.exact_algebra.proofs.Ring.{var, neg, ring, same, ◌⊗◌}
use Rattle.geo_laws.specs.Delaunay.{AreCoplanar}
use Rattle.sign_predicates.specs.Orientation.{orient}
use Rattle.tet_text.specs.Decimals.{signed}
use Rattle.grid_coords.specs.Choice.{grid_of, most_decimals, greatest_size, first_over, is_over, size_of, halvings_for, most_halvings, unless_over}
use Rattle.grid_coords.specs.Units.{grid_coordinate, grid_point, limit, units}
use Rattle.grid_coords.specs.declared.grid.Grid.{Grid}
use Rattle.grid_coords.specs.declared.points.DecimalPoint.{DecimalPoint}
use Rattle.grid_coords.proofs.Sizes.{halvings_le, none_over}
use Rattle.node_files.specs.Folding.{IsFolded}
use Rattle.node_files.proofs.Folds.{folded_few}
use Rattle.node_files.specs.Settling.{IsOffGrid, IsSettled}
use Rattle.node_files.specs.declared.table.NodeTable.{NodeTable}
use Rattle.array_meshes.specs.Arrays.{IsArrayTable, IsMeshFault, IsNear, IsTableFault, array_limits, decimal_point, halved_grid, halved_point, halvings_of, point_of, points_of, text_of, whole, whole_units}
use Rattle.array_meshes.specs.declared.arrays.ArrayFault.{ArrayFault}
use Rattle.array_meshes.specs.declared.arrays.ArrayFault.TheVariants.{TooMany, OffGrid, Flat, NoRoom, NoMemory}
use Rattle.array_meshes.specs.declared.arrays.Place.{Place}

-- ---- the grid of whole numbers

abbrev pub whole_grid : Grid
whole_grid = halved_grid 0

no_decimals : (places : List Place) → most_decimals (map decimal_point places) ≡ 0
unfolding most_decimals
no_decimals [] = refl
no_decimals (p ∷ places) = omega (arith, no_decimals places)

whole_size : (n : ℤ) → units 0 0 (whole n) ≡ unsigned_abs n
unfolding units
whole_size n = omega arith

with_size : (n : ℤ) → signed (int_lt n (pos 0)) (unsigned_abs n) ≡ n
with_size (pos n) = ap (λ b. signed b n) (le-ltb n 0 (omega arith))
with_size (negsuc n) = refl

whole_coordinate : (n : ℤ) → grid_coordinate whole_grid (whole n) ≡ n
whole_coordinate n = ap (λ (k : ℕ). signed (int_lt n (pos 0)) k) (whole_size n) ∙ with_size n

whole_point : (p : Place) → grid_point whole_grid (decimal_point p) ≡ point_of p
whole_point p = λ t. record { x = whole_coordinate p.x t; y = whole_coordinate p.y t; z = whole_coordinate p.z t }

whole_points : (places : List Place) → map (grid_point whole_grid) (map decimal_point places) ≡ points_of places
whole_points [] = refl
whole_points (p ∷ places) =
    let first = whole_point p in
    let rest = whole_points places in
    λ t. first t ∷ rest t

-- ---- the grid of whole numbers, halved

signed_times : (b : Bool) (m n : ℕ) → signed b (m * n) ≡ pos m *ℤ signed b n
unfolding same
signed_times true m n = ap neg_ℤ (sym (pos-*ℤ-pos m n)) ∙ ring (neg (var 0 ⊗ var 1)) (var 0 ⊗ neg (var 1)) tt (pos m ∷ pos n ∷ [])
signed_times false m n = sym (pos-*ℤ-pos m n)

halved_size : (k : ℕ) (n : ℤ) → units 0 k (whole n) ≡ 2 ^ k * unsigned_abs n
unfolding units
halved_size k n = ap (λ (m : ℕ). m * 2 ^ k) (mul-one (unsigned_abs n)) ∙ mul_comm (unsigned_abs n) (2 ^ k)

halved_coordinate : (k : ℕ) (n : ℤ) → grid_coordinate (halved_grid k) (whole n) ≡ pos (2 ^ k) *ℤ n
halved_coordinate k n =
    ap (λ (m : ℕ). signed (int_lt n (pos 0)) m) (halved_size k n) ∙ signed_times (int_lt n (pos 0)) (2 ^ k) (unsigned_abs n)
    ∙ ap (λ (m : ℤ). pos (2 ^ k) *ℤ m) (with_size n)

halved_at : (k : ℕ) (p : Place) → grid_point (halved_grid k) (decimal_point p) ≡ halved_point k p
halved_at k p = λ t. record { x = halved_coordinate k p.x t; y = halved_coordinate k p.y t; z = halved_coordinate k p.z t }

halved_points : (k : ℕ) (places : List Place) → map (grid_point (halved_grid k)) (map decimal_point places) ≡ map (halved_point k) places
halved_points k [] = refl
halved_points k (p ∷ places) =
    let first = halved_at k p in
    let rest = halved_points k places in
    λ t. first t ∷ rest t

-- ---- points that are near

size_within : (p : Place) → size_of 0 (decimal_point p) ≤ limit → IsNear p
size_within p le = record {
  x = omega (arith, le, whole_size p.x);
  y = omega (arith, le, whole_size p.y);
  z = omega (arith, le, whole_size p.z);
}

within_size : (p : Place) → IsNear p → size_of 0 (decimal_point p) ≤ limit
within_size p near =
    let x = near.x in
    let y = near.y in
    let z = near.z in
    omega (arith, x, y, z, whole_size p.x, whole_size p.y, whole_size p.z)

-- where no point is found to be too large, each is near
none_found : (places : List Place) → find (is_over limit 0) (map decimal_point places) ≡ None → All IsNear places
none_found [] e i d lt = absurd (omega arith)
none_found (p ∷ places) e i d lt = go (cases_lt limit (size_of 0 (decimal_point p))) (none_found places) i d lt
  where
    over : Bool
    over = is_over limit 0 (decimal_point p)

    never : Some (decimal_point p) ≡ None → ⊥
    never e = cc

    go : (limit < size_of 0 (decimal_point p)) ⊎ (size_of 0 (decimal_point p) ≤ limit) → (find (is_over limit 0) (map decimal_point places) ≡ None → All IsNear places)
        → All IsNear (p ∷ places)
    go (inl far) later i d lt = absurd (never (sym (cond-true over (Some (decimal_point p)) (find (is_over limit 0) (map decimal_point places)) (lt-ltb limit (size_of 0 (decimal_point p)) far)) ∙ e))
    go (inr le) later zero d lt = size_within p le
    go (inr le) later (suc i) d lt =
        later (sym (cond-false over (Some (decimal_point p)) (find (is_over limit 0) (map decimal_point places)) (le-ltb limit (size_of 0 (decimal_point p)) le)) ∙ e) i d (omega arith)

-- and where each is near, none is found
near_none : (places : List Place) → All IsNear places → find (is_over limit 0) (map decimal_point places) ≡ None
near_none [] near = refl
near_none (p ∷ places) near =
    let le = within_size p (near zero p (omega arith)) in
    cond-false (is_over limit 0 (decimal_point p)) (Some (decimal_point p)) (find (is_over limit 0) (map decimal_point places)) (le-ltb limit (size_of 0 (decimal_point p)) le)
    ∙ near_none places (λ i d lt. near (suc i) d (omega arith))

-- ---- what settling says of an array

abbrev decimals : List Place → List DecimalPoint
decimals places = map decimal_point places

-- the grid is that of whole numbers, halved, and each point is near
on_halved : (most : ℕ) (places : List Place) (g : Grid) → grid_of limit most (decimals places) ≡ Ok g → All IsNear places × (g ≡ halved_grid (halvings_of most places))
unfolding grid_of first_over
on_halved most places g e =
    let n = most_decimals (decimals places) in
    let none = no_decimals places in
    let h : ℕ → ℕ = λ k. halvings_for limit (min most_halvings most) (greatest_size k (decimals places)) in
    let both = none_over (first_over limit n (decimals places)) (record { decimals = n; halvings = h n }) g e in
    let found : find (is_over limit 0) (decimals places) ≡ None = subst (λ (k : ℕ). find (is_over limit k) (decimals places) ≡ None) none both.0 in
    let same : record { decimals = n; halvings = h n } ≡ halved_grid (h 0) = λ t. record { decimals = none t; halvings = h (none t) } in
    (none_found places found, sym both.1 ∙ same)

pub array_table : (most : ℕ) (places : List Place) (table : NodeTable) → IsSettled array_limits (text_of places) (whole_units most) table → IsArrayTable most places table
array_table most places table is =
    let on = on_halved most places table.grid is.on.on in
    let few = is.on.few in
    let listed : table.listed ≡ map (grid_point table.grid) (decimals places) = ap (λ (t : NodeTable). t.listed) is.is in
    let halvings = halvings_of most places in
    let halved : table.listed ≡ map (halved_point halvings) places = listed ∙ ap (λ (g : Grid). map (grid_point g) (decimals places)) on.1 ∙ halved_points halvings places in
    record {
      few = omega (arith, few, length-map places decimal_point);
      near = on.0;
      grid_is = on.1;
      listed_are = halved ∙ ap (λ (g : Grid). map (halved_point g.halvings) places) (sym on.1);
      folding = is.folded;
    }

-- where nothing is halved, the points are listed as they are
pub whole_folding : (places : List Place) (table : NodeTable) → IsArrayTable 0 places table → IsFolded (points_of places) table.points table.names table.folded
whole_folding places table is =
    let le = halvings_le limit (min most_halvings 0) (greatest_size 0 (decimals places)) in
    let none : halvings_of 0 places ≡ 0 = omega (arith, le) in
    let unhalved : table.grid.halvings ≡ 0 = ap (λ (g : Grid). g.halvings) is.grid_is ∙ none in
    let listed : table.listed ≡ points_of places =
    is.listed_are ∙ ap (λ (k : ℕ). map (halved_point k) places) unhalved ∙ sym (halved_points 0 places) ∙ whole_points places in
    subst (λ ps. IsFolded ps table.points table.names table.folded) listed is.folding

-- where the grid refuses, a point is too far out
pub array_off : (most : ℕ) (places : List Place) (line : ℕ) → IsOffGrid array_limits (text_of places) (whole_units most) line → ¬ All IsNear places
unfolding grid_of first_over
array_off most places line off near =
    let n = most_decimals (decimals places) in
    let found : find (is_over limit n) (decimals places) ≡ None = subst (λ (k : ℕ). find (is_over limit k) (decimals places) ≡ None) (sym (no_decimals places)) (near_none places near) in
    let grid : Grid = record { decimals = n; halvings = halvings_for limit (min most_halvings most) (greatest_size n (decimals places)) } in
    never (sym (ap (λ o. unless_over o grid) found) ∙ off.off)
  where
    never : {X Y : Type 0} {x : X} {y : Y} → Ok x ≡ Err y → ⊥
    never e = cc

-- there are no more of them than 4,000,000
pub array_few : (most : ℕ) (places : List Place) (table : NodeTable) → IsArrayTable most places table → (length table.points ≤ 4000000) × (length table.listed ≡ length places)
array_few most places table is =
    let fewer = folded_few table.listed table.points table.names table.folded is.folding in
    let few = is.few in
    let long : length table.listed ≡ length places = ap (λ (ps : List Point). length ps) is.listed_are ∙ length-map places (halved_point table.grid.halvings) in
    (omega (arith, fewer, few, long), long)

-- what is no table of the points is no mesh of them
pub table_mesh : (places : List Place) (fault : ArrayFault) → IsTableFault places fault → IsMeshFault places fault
table_mesh places TooMany h = h
table_mesh places OffGrid h = h
table_mesh places NoMemory h = h
table_mesh places Flat h = absurd h
table_mesh places (NoRoom count) h = h

-- where all kept points lie in one plane, so do all that are listed
pub coplanar_listed : (listed points : List Point) (names folded : List ℕ) → IsFolded listed points names folded → AreCoplanar points → AreCoplanar listed
coplanar_listed listed points names folded f h = λ i j k l a b d e.
    let p = f.equal i a in
    let q = f.equal j b in
    let r = f.equal k d in
    let s = f.equal l e in
    let flat = h (slice_index folded i) (slice_index folded j) (slice_index folded k) (slice_index folded l) p.0 q.0 r.0 s.0 in
    sym (λ t. orient (p.1 t) (q.1 t) (r.1 t) (s.1 t)) ∙ flat
