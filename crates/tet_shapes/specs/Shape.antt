-- How slim and how large a tetrahedron is.
use Rattle.std.specs.Prelude.{ℕ, ◌*◌, ◌≤◌, ◌^◌, Bool, List, [], ◌∷◌, fold, ℤ, pos, ◌*ℤ◌, int_lt, count_by}
use Rattle.std.specs.Int.{int_min}
use Rattle.sign_predicates.specs.Point.{Point, from_to}
use Rattle.sign_predicates.specs.Orientation.{volume}
use Rattle.sign_predicates.specs.Sphere.{square_length}
use Rattle.sign_predicates.specs.Reach.{pull}
use Rattle.sign_predicates.specs.declared.tetrahedron.Corners.{Corners}
use Rattle.geo_laws.specs.Delaunay.{corners}
use Rattle.geo_laws.specs.declared.tetrahedra.Tet.{Tet}
use Rattle.tet_shapes.specs.declared.shape.Ratio.{Ratio}

-- the vector from the first corner to the center of the sphere through the corners, times twice `volume`
abbrev pub to_center : Corners → Point
to_center t = pull (from_to t.a t.b) (from_to t.a t.c) (from_to t.a t.d)

-- the square of the distance of two points
abbrev pub square_between : Point → Point → ℤ
square_between a b = square_length (from_to a b)

-- the square of the length of the shortest edge
unfoldable pub shortest_square : Corners → ℤ
shortest_square t =
    fold int_min (square_between t.a t.b)
    (square_between t.a t.c ∷ square_between t.a t.d ∷ square_between t.b t.c ∷ square_between t.b t.d ∷ square_between t.c t.d ∷ [])

-- the numerator and the denominator are at most 2^20
pub record IsFine (r : Ratio) : Type 0 where
  pub over : r.over ≤ 2 ^ 20
  pub under : r.under ≤ 2 ^ 20

-- The radius of the sphere through the corners is over r times the shortest edge: its square is that of `to_center` over that of
-- twice `volume`.
unfoldable pub is_slim : Ratio → Corners → Bool
is_slim r t =
    int_lt (pos (4 * (r.over * r.over)) *ℤ (volume t *ℤ volume t) *ℤ shortest_square t)
    (pos (r.under * r.under) *ℤ square_length (to_center t))

-- six times the volume is over the bound
abbrev pub is_large : ℤ → Corners → Bool
is_large most t = int_lt most (volume t)

-- how many of the tetrahedra are slim
abbrev pub slim_count : Ratio → List Point → List Tet → ℕ
slim_count r ps rows = count_by (λ row. is_slim r (corners ps row)) rows
