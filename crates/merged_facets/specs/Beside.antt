-- Two polygons that are joined over a side.
use Rattle.std.specs.Prelude.{◌≡◌, ◌≢◌, ◌<◌, ℕ, pos, ◌≤ℤ◌, Bool, true, false, IsTrue, List, [], ◌∷◌, length, Contains}
use Rattle.sign_predicates.specs.Point.{Point}
use Rattle.sign_predicates.specs.Orientation.{orient}
use Rattle.sign_predicates.specs.declared.tetrahedron.Sign.{Sign}
use Rattle.sign_predicates.specs.declared.tetrahedron.Sign.TheVariants.{Below, Zero, Above}
use Rattle.geo_laws.specs.Delaunay.{point}
use Rattle.geo_laws.specs.Facet.{Facet, IsFlat, spans_plane}
use Rattle.geo_laws.specs.declared.complex.Piece.{Piece}
use Rattle.merged_facets.specs.declared.beside.Lie.{Lie}
use Rattle.merged_facets.specs.declared.beside.Lie.TheVariants.{InPlane, Beside, Across}
use Rattle.merged_facets.specs.Merged.{has_span, alike_turned, AreOnOneSideOf, AreOnEitherSide, places_of, MeetsOthers}

-- the facet of one polygon
abbrev pub one_facet : List ℕ → Facet
one_facet p = record { polygons = p ∷ []; holes = [] }

-- the facet of two polygons
abbrev pub two_facet : List ℕ → List ℕ → Facet
two_facet p q = record { polygons = p ∷ q ∷ []; holes = [] }

-- the ends of the side are two points of the list
pub record IsSideAmong (ps : List Point) (s : Piece) : Type 0 where
  pub a_there : s.a < length ps
  pub b_there : s.b < length ps
  pub two : s.a ≢ s.b

-- whether the corner is off the line of the side
abbrev pub is_off : List Point → Piece → ℕ → Bool
is_off ps s i = spans_plane ps s.a s.b i

-- a corner of the polygon that is off the line of the side
pub record IsOffCorner (ps : List Point) (s : Piece) (p : List ℕ) (i : ℕ) : Type 0 where
  pub there : i < length ps
  pub corner : Contains p i
  pub off : is_off ps s i ≡ true

-- the corner j lies in the plane of the side and the corner i
abbrev pub LieInPlane : List Point → Piece → ℕ → ℕ → Type 0
LieInPlane ps s i j = orient (point ps s.a) (point ps s.b) (point ps i) (point ps j) ≡ pos 0

-- the corner j lies on the line of the side, or on the same hand as the corner i
pub record LieBeside (ps : List Point) (s : Piece) (i j : ℕ) : Type 0 where
  pub beside : pos 0 ≤ℤ alike_turned ps s i j

-- the corner j lies on the line of the side, or on the other hand
pub record LieAcross (ps : List Point) (s : Piece) (i j : ℕ) : Type 0 where
  pub across : alike_turned ps s i j ≤ℤ pos 0

-- the corner j lies to the side as `lie` says, compared with the corner i
abbrev pub Lies : Lie → List Point → Piece → ℕ → ℕ → Type 0
Lies InPlane ps s i j = LieInPlane ps s i j
Lies Beside ps s i j = LieBeside ps s i j
Lies Across ps s i j = LieAcross ps s i j

abbrev pub not_below : Sign → Bool
not_below Below = false
not_below Zero = true
not_below Above = true

abbrev pub not_above : Sign → Bool
not_above Below = true
not_above Zero = true
not_above Above = false

-- the polygon has the side at one place, and its other sides are properly met with it
pub record HasSideOnce (ps : List Point) (s : Piece) (p : List ℕ) : Type 0 where
  pub once : places_of s p ≡ 1
  pub met : MeetsOthers ps s p

-- what two facets with these polygons and equal markers need to be joined over the side
pub record AreBeside (ps : List Point) (s : Piece) (p q : List ℕ) : Type 0 where
  pub first_spans : IsTrue (has_span ps p)
  pub second_spans : IsTrue (has_span ps q)
  pub flat : IsFlat ps (two_facet p q)
  pub once_in_first : places_of s p ≡ 1
  pub once_in_second : places_of s q ≡ 1
  pub first_beside : AreOnOneSideOf ps s p
  pub second_beside : AreOnOneSideOf ps s q
  pub either_side : AreOnEitherSide ps s p q
  pub first_met : MeetsOthers ps s p
  pub second_met : MeetsOthers ps s q
