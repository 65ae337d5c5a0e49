-- The corners of a cell, and how it is made from another, with a point in place of one corner.
use Rattle.std.proofs.Common.{◌≡◌, ◌≢◌, ℕ, zero, suc, ◌+◌, ◌/◌, ◌%◌, ◌<◌, ◌==◌, Bool, false, List, [], ◌∷◌, length, map, get_or, set, None, if◌then◌else◌, refl, sym, ap, ◌∙◌, arith}
use Rattle.std.proofs.lemmas.Bool.{ne_eqb, eq-eqb}
use Rattle.mesh_arena.specs.declared.slot.Corner.{Corner}
use Rattle.mesh_arena.specs.declared.slot.Corner.TheVariants.{Point, Ghost}
use Rattle.mesh_arena.specs.declared.cell.Cell.{Cell}
use Rattle.mesh_arena.specs.Cells.{corner_with, corners_in, cell_corners, is_infinite, link_face, side_to, IsUnlinked}
use Rattle.mesh_arena.specs.Edges.{corner_key}

-- links of the same corners
corners_in-same : (numbers us links : List ℕ) → map is_infinite us ≡ map is_infinite links → corners_in numbers us ≡ corners_in numbers links
corners_in-same [] us links e = refl
corners_in-same (n ∷ ns) [] [] e = refl
corners_in-same (n ∷ ns) [] (l ∷ ls) e = absurd (cc)
corners_in-same (n ∷ ns) (u ∷ us) [] e = absurd (cc)
corners_in-same (n ∷ ns) (u ∷ us) (l ∷ ls) e =
    let head : is_infinite u ≡ is_infinite l = cc in
    let tail : map is_infinite us ≡ map is_infinite ls = cc in
    let first : corner_with n u ≡ corner_with n l = ap (λ (b : Bool). if b then Ghost else Point n) head in
    rw (first, corners_in-same ns us ls tail) refl

-- a point in place of one corner
corners_in-point : (numbers links : List ℕ) (i point link : ℕ) → is_infinite link ≡ false → i < length numbers → i < length links → corners_in (set numbers i point) (set links i link) ≡ set (corners_in numbers links) i (Point point)
corners_in-point [] links i point link e h g = absurd (omega arith)
corners_in-point (n ∷ ns) [] i point link e h g = absurd (omega arith)
corners_in-point (n ∷ ns) (x ∷ xs) zero point link e h g = rw e refl
corners_in-point (n ∷ ns) (x ∷ xs) (suc i) point link e h g = ap (λ rest. corner_with n x ∷ rest) (corners_in-point ns xs i point link e (omega arith) (omega arith))

-- four numbers of which each is this one or stays
pub picked : (xs : List ℕ) (i to p q r s : ℕ) → length xs ≡ 4 → i < 4 → p ≡ (if i == 0 then to else get_or xs 0 0) → q ≡ (if i == 1 then to else get_or xs 1 0) → r ≡ (if i == 2 then to else get_or xs 2 0) → s ≡ (if i == 3 then to else get_or xs 3 0) → p ∷ q ∷ r ∷ s ∷ [] ≡ set xs i to
picked [] i to p q r s four below e f g h = absurd (omega arith)
picked (x ∷ []) i to p q r s four below e f g h = absurd (omega arith)
picked (x ∷ y ∷ []) i to p q r s four below e f g h = absurd (omega arith)
picked (x ∷ y ∷ z ∷ []) i to p q r s four below e f g h = absurd (omega arith)
picked (x ∷ y ∷ z ∷ w ∷ []) zero to p q r s four below e f g h = rw (e, f, g, h) refl
picked (x ∷ y ∷ z ∷ w ∷ []) (suc zero) to p q r s four below e f g h = rw (e, f, g, h) refl
picked (x ∷ y ∷ z ∷ w ∷ []) (suc (suc zero)) to p q r s four below e f g h = rw (e, f, g, h) refl
picked (x ∷ y ∷ z ∷ w ∷ []) (suc (suc (suc zero))) to p q r s four below e f g h = rw (e, f, g, h) refl
picked (x ∷ y ∷ z ∷ w ∷ []) (suc (suc (suc (suc i)))) to p q r s four below e f g h = absurd (omega arith)
picked (x ∷ y ∷ z ∷ w ∷ v ∷ rest) i to p q r s four below e f g h = absurd (omega arith)

pub same_lists : (points numbers links others : List ℕ) → points ≡ numbers → links ≡ others → corners_in points links ≡ corners_in numbers others
same_lists points numbers links others e f = rw (e, f) refl

-- the links of the same corners with nothing behind the faces
pub record Unlinked (links : List ℕ) (a b c d : ℕ) : Type 0 where
  pub first : is_infinite a ≡ is_infinite (get_or links 0 0)
  pub second : is_infinite b ≡ is_infinite (get_or links 1 0)
  pub third : is_infinite c ≡ is_infinite (get_or links 2 0)
  pub fourth : is_infinite d ≡ is_infinite (get_or links 3 0)

all_same : (links : List ℕ) (a b c d : ℕ) → length links ≡ 4 → Unlinked links a b c d → map is_infinite (a ∷ b ∷ c ∷ d ∷ []) ≡ map is_infinite links
all_same [] a b c d four u = absurd (omega arith)
all_same (x ∷ []) a b c d four u = absurd (omega arith)
all_same (x ∷ y ∷ []) a b c d four u = absurd (omega arith)
all_same (x ∷ y ∷ z ∷ []) a b c d four u = absurd (omega arith)
all_same (x ∷ y ∷ z ∷ w ∷ []) a b c d four u = rw (u.first, u.second, u.third, u.fourth) refl
all_same (x ∷ y ∷ z ∷ w ∷ v ∷ rest) a b c d four u = absurd (omega arith)

pub cone_corners : (cell : Cell) (a b c d i point : ℕ) → length cell.points ≡ 4 → length cell.links ≡ 4 → Unlinked cell.links a b c d → i < 4 → cell_corners (record { points = set cell.points i point; links = set (a ∷ b ∷ c ∷ d ∷ []) i 4 }) ≡ set (cell_corners cell) i (Point point)
cone_corners cell a b c d i point four_points four_links u below =
    corners_in-point cell.points (a ∷ b ∷ c ∷ d ∷ []) i point 4 refl (omega arith) below
    ∙ ap (λ (cs : List Corner). set cs i (Point point)) (corners_in-same cell.points _ cell.links (all_same cell.links a b c d four_links u))

-- four links with nothing behind the faces
pub record AreBare (a b c d : ℕ) : Type 0 where
  pub face : link_face a ≡ 4
  pub first : side_to a ≡ None
  pub second : side_to b ≡ None
  pub third : side_to c ≡ None
  pub fourth : side_to d ≡ None

pub bare_cell : (points : List ℕ) (a b c d : ℕ) → length points ≡ 4 → AreBare a b c d → IsUnlinked (record { points = points; links = a ∷ b ∷ c ∷ d ∷ [] })
bare_cell [] a b c d four bare = absurd (omega arith)
bare_cell (x ∷ []) a b c d four bare = absurd (omega arith)
bare_cell (x ∷ y ∷ []) a b c d four bare = absurd (omega arith)
bare_cell (x ∷ y ∷ z ∷ []) a b c d four bare = absurd (omega arith)
bare_cell (x ∷ y ∷ z ∷ w ∷ []) a b c d four bare =
    record {
      live = rw bare.face refl;
      corners = refl;
      sides = rw (bare.first, bare.second, bare.third, bare.fourth) refl;
    }
bare_cell (x ∷ y ∷ z ∷ w ∷ v ∷ rest) a b c d four bare = absurd (omega arith)

pub cone_bare : (points : List ℕ) (a b c d i : ℕ) → length points ≡ 4 → AreBare a b c d → i < 4 → IsUnlinked (record { points = points; links = set (a ∷ b ∷ c ∷ d ∷ []) i 4 })
cone_bare points a b c d zero four bare below = bare_cell points 4 b c d four (record { face = refl; first = refl; second = bare.second; third = bare.third; fourth = bare.fourth })
cone_bare points a b c d (suc zero) four bare below = bare_cell points a 4 c d four (record { face = bare.face; first = bare.first; second = refl; third = bare.third; fourth = bare.fourth })
cone_bare points a b c d (suc (suc zero)) four bare below = bare_cell points a b 4 d four (record { face = bare.face; first = bare.first; second = bare.second; third = refl; fourth = bare.fourth })
cone_bare points a b c d (suc (suc (suc zero))) four bare below = bare_cell points a b c 4 four (record { face = bare.face; first = bare.first; second = bare.second; third = bare.third; fourth = refl })
cone_bare points a b c d (suc (suc (suc (suc i)))) four bare below = absurd (omega arith)

-- the corner in a place
corner_read : (numbers links : List ℕ) (i : ℕ) → i < length numbers → i < length links → get_or (corners_in numbers links) i Ghost ≡ corner_with (get_or numbers i 0) (get_or links i 0)
corner_read [] links i h g = absurd (omega arith)
corner_read (n ∷ ns) [] i h g = absurd (omega arith)
corner_read (n ∷ ns) (x ∷ xs) zero h g = refl
corner_read (n ∷ ns) (x ∷ xs) (suc i) h g = corner_read ns xs i (omega arith) (omega arith)

-- its number
pub infinite_number : (numbers links : List ℕ) (i : ℕ) → i < length numbers → i < length links → (get_or links i 0 / 8) % 2 ≡ 1 → 0 ≡ corner_key (get_or (corners_in numbers links) i Ghost)
infinite_number numbers links i h g e =
    rw (corner_read numbers links i h g) (ap (λ (b : Bool). corner_key (if b then Ghost else Point (get_or numbers i 0))) (sym (eq-eqb _ 1 e)))

pub finite_number : (numbers links : List ℕ) (i : ℕ) → i < length numbers → i < length links → (get_or links i 0 / 8) % 2 ≢ 1 → get_or numbers i 0 + 1 ≡ corner_key (get_or (corners_in numbers links) i Ghost)
finite_number numbers links i h g e =
    rw (corner_read numbers links i h g) (ap (λ (b : Bool). corner_key (if b then Ghost else Point (get_or numbers i 0))) (sym (ne_eqb _ 1 e)))
