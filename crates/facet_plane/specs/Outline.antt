-- Outlines of polygons: their sides by the ends, and tests of these.
use Rattle.std.specs.Prelude.{◌≡◌, ℕ, ◌<◌, pos, int_le, Bool, not, ◌&&◌, ◌==◌, nat_lt, List, [], ◌∷◌, map, filter, length, slice_index_or}
use Rattle.sign_predicates.specs.Point.{Point, RationalPoint, from_to_rational}
use Rattle.sign_predicates.specs.Orientation.{cross, dot}
use Rattle.geo_laws.specs.Delaunay.{point}
use Rattle.geo_laws.specs.Segment.{sides, is_zero, is_zero_vector}
use Rattle.geo_laws.specs.Facet.{Axis, cross_of_two, dot_of_two, second_of_two, crosses_ray}
use Rattle.geo_laws.specs.declared.complex.Piece.{Piece}
use Rattle.facet_plane.specs.Blocks.{IsHeld, AreBlocks}
use Rattle.facet_plane.specs.declared.blocks.Extent.{Extent}
use Rattle.facet_plane.specs.declared.outline.Outline.{Outline}
use Rattle.facet_plane.specs.declared.outline.Side.{Side}
use Rattle.facet_plane.specs.declared.outline.Reach.{Reach}
use Rattle.facet_plane.specs.declared.outline.Reach.TheVariants.{On, Over}

abbrev pub side_between : List Point → Piece → Side
side_between ps s = record { from = point ps s.a; to = point ps s.b }

-- the sides of those that have two ends
abbrev pub sides_between : List Point → List Piece → List Side
sides_between ps ss = map (side_between ps) (filter (λ s. not (s.a == s.b)) ss)

-- x lies on the side, or over it in the two coordinates
abbrev pub side_meets : Reach → Axis → RationalPoint → Side → Bool
side_meets On axis x s =
    is_zero_vector (cross (from_to_rational s.from x) (from_to_rational s.to x))
    && int_le (dot (from_to_rational s.from x) (from_to_rational s.to x)) (pos 0)
side_meets Over axis x s =
    is_zero (cross_of_two axis (from_to_rational s.from x) (from_to_rational s.to x))
    && int_le (dot_of_two axis (from_to_rational s.from x) (from_to_rational s.to x)) (pos 0)

-- the ray from x crosses the side
abbrev pub side_crosses : Axis → RationalPoint → Side → Bool
side_crosses axis x s = crosses_ray axis (from_to_rational s.from x) (from_to_rational s.to x)

-- the point is not above x
abbrev pub is_under : Axis → RationalPoint → Point → Bool
is_under axis x p = int_le (pos 0) (second_of_two axis (from_to_rational p x))

-- the sides lead from p to e, each from where the one before ends
abbrev pub IsChain : Point → List Side → Point → Type 0
IsChain p [] e = p ≡ e
IsChain p (s ∷ ss) e = (s.from ≡ p) × IsChain s.to ss e

-- the box holds the ends of the side at the place j
abbrev pub HoldsSide : List Side → ℕ → Extent → Type 0
HoldsSide ss j e = (d : Side) → IsHeld e (slice_index_or ss j d).from × IsHeld e (slice_index_or ss j d).to

-- the boxes are those of the first `done` sides
pub record AreBoxesTo (ss : List Side) (done : ℕ) (boxes : List Extent) : Type 0 where
  pub counted : length boxes ≡ done
  pub each : (j : ℕ) (d : Extent) → j < done → HoldsSide ss j (slice_index_or boxes j d)

-- the box holds the ends of all sides
abbrev pub HoldsSides : List Side → Extent → Type 0
HoldsSides ss e = (j : ℕ) → j < length ss → HoldsSide ss j e

-- the sides lead round, and the blocks are theirs
pub record IsBlocked (o : Outline) : Type 0 where
  pub around : (p : Point) × IsChain p o.sides p
  pub blocks : AreBlocks (HoldsSide o.sides) (length o.sides) o.blocks
  pub extent : HoldsSides o.sides o.extent

-- the outline of a polygon
pub record IsOutlineOf (ps : List Point) (polygon : List ℕ) (o : Outline) : Type 0 where
  pub area : o.is_area ≡ nat_lt 2 (length polygon)
  pub sides : o.sides ≡ map (side_between ps) (sides polygon)
  pub blocked : IsBlocked o
