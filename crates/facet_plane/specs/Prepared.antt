-- The region of a facet, as it is prepared for many points.
use Rattle.std.specs.Prelude.{◌≡◌, ℕ, ◌+◌, ◌<◌, Bool, true, false, not, ◌&&◌, ◌||◌, nat_lt, nat_eq, All, if◌then◌else◌, List, [], ◌∷◌, map, length, slice_index_or}
use Rattle.std.specs.List.{list_any}
use lib.Pointwise.{pointwise}
use Rattle.sign_predicates.specs.Point.{Point, RationalPoint, from_to_rational}
use Rattle.sign_predicates.specs.Orientation.{dot}
use Rattle.geo_laws.specs.Segment.{sides, is_zero}
use Rattle.geo_laws.specs.Facet.{Axis, Facet, in_region}
use Rattle.facet_plane.specs.Axes.{axis_is}
use Rattle.facet_plane.specs.Blocks.{AreBlocks}
use Rattle.facet_plane.specs.Outline.{side_between, side_meets, side_crosses, IsBlocked, HoldsSides}
use Rattle.facet_plane.specs.Walk.{is_odd}
use Rattle.facet_plane.specs.declared.blocks.Extent.{Extent}
use Rattle.facet_plane.specs.declared.outline.Outline.{Outline}
use Rattle.facet_plane.specs.declared.outline.Side.{Side}
use Rattle.facet_plane.specs.declared.outline.Reach.{Reach}
use Rattle.facet_plane.specs.declared.outline.Reach.TheVariants.{On, Over}
use Rattle.facet_plane.specs.declared.prepared.Outlines.{Outlines}
use Rattle.facet_plane.specs.declared.prepared.Prepared.{Prepared}

-- whether a polygon has three or more corners, and its sides
pub record Shape : Type 0 where
  pub is_area : Bool
  pub sides : List Side

abbrev pub shape : Outline → Shape
shape o = record { is_area = o.is_area; sides = o.sides }

abbrev pub shape_of : List Point → List ℕ → Shape
shape_of ps p = record { is_area = nat_lt 2 (length p); sides = map (side_between ps) (sides p) }

-- x lies on a side of a polygon with three or more corners, or over a side of any
abbrev pub shape_meets : Reach → Axis → RationalPoint → Shape → Bool
shape_meets On axis x s = s.is_area && list_any (side_meets On axis x) s.sides
shape_meets Over axis x s = list_any (side_meets Over axis x) s.sides

-- a polygon with three or more corners is round x
abbrev pub shape_round : Axis → RationalPoint → Shape → Bool
shape_round axis x s = s.is_area && is_odd (side_crosses axis x) s.sides

-- the places of those that pass the test, where the first one's place is n
abbrev pub passing_places : {X : Type 0} → (X → Bool) → ℕ → List X → List ℕ
passing_places test n [] = []
passing_places test n (x ∷ xs) = if test x then n ∷ passing_places test (n + 1) xs else passing_places test (n + 1) xs

abbrev pub is_none : List ℕ → Bool
is_none [] = true
is_none (x ∷ xs) = false

-- the box holds the sides of the outline at the place q
abbrev pub HoldsOutline : List Outline → ℕ → Extent → Type 0
HoldsOutline os q e = (d : Outline) → HoldsSides (slice_index_or os q d).sides e

-- the boxes are those of the first `done` outlines
pub record AreExtentsTo (os : List Outline) (done : ℕ) (boxes : List Extent) : Type 0 where
  pub counted : length boxes ≡ done
  pub each : (q : ℕ) (d : Extent) → q < done → HoldsOutline os q (slice_index_or boxes q d)

-- each outline has its blocks, and they have theirs
pub record AreBlocked (o : Outlines) : Type 0 where
  pub each : All IsBlocked o.each
  pub blocks : AreBlocks (HoldsOutline o.each) (length o.each) o.blocks

-- the outlines of these polygons
pub record AreOutlinesOf (ps : List Point) (polygons : List (List ℕ)) (o : Outlines) : Type 0 where
  pub shapes : map shape o.each ≡ map (shape_of ps) polygons
  pub blocked : AreBlocked o

-- the places of the polygons that are round x
abbrev pub places_round : Outlines → RationalPoint → List ℕ
places_round o x = passing_places (λ q. shape_round (axis_is o.axis) x (shape q)) 0 o.each

-- x is over a side of a polygon, or on one of those with three or more corners
abbrev pub outlines_meet : Reach → Outlines → RationalPoint → Bool
outlines_meet reach o x = list_any (λ q. shape_meets reach (axis_is o.axis) x (shape q)) o.each

-- the hole point counts, and the polygons at these places are round it
abbrev pub is_hole_at : Outlines → List ℕ → RationalPoint → Bool
is_hole_at o places h = not (outlines_meet Over o h) && pointwise nat_eq places (places_round o h)

-- the lists are those of the polygons round each of the hole points that count
abbrev pub AreHoles : Outlines → List RationalPoint → List (List ℕ) → Type 0
AreHoles o holes lists = (places : List ℕ) → list_any (pointwise nat_eq places) lists ≡ list_any (is_hole_at o places) holes

-- x lies on the plane and on a side, or in a polygon and in no hole
abbrev pub prepared_holds : Prepared → RationalPoint → Bool
prepared_holds r x =
    is_zero (dot r.normal (from_to_rational r.from x))
    && (outlines_meet On r.outlines x || not (is_none (places_round r.outlines x))
    && not (list_any (pointwise nat_eq (places_round r.outlines x)) r.holes))

-- the region of the facet
pub record IsPreparedOf (ps : List Point) (f : Facet) (r : Prepared) : Type 0 where
  pub blocked : AreBlocked r.outlines
  pub holds : (x : RationalPoint) → prepared_holds r x ≡ in_region ps f x
