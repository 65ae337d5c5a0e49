-- Merged facets: coplanar facets that are joined over a common side, directly or in a chain, are one facet, and the side is inner and no
-- segment.
use Rattle.std.specs.Prelude.{◌≡◌, ◌↔◌, ℕ, ◌<◌, ◌≤◌, ℤ, pos, ◌≤ℤ◌, Bool, false, IsTrue, not, ◌&&◌, ◌==◌, nat_lt, if◌then◌else◌, Option, None, List, [], ◌∷◌, ◌++◌, map, filter, flat_map, count_by, length, zip, Contains}
use Rattle.std.specs.List.{AllByRecursion, list_any, slice_index_or}
use Rattle.sign_predicates.specs.Point.{Point, from_to}
use Rattle.sign_predicates.specs.Orientation.{dot, cross}
use Rattle.geo_laws.specs.Delaunay.{point, numbers_below}
use Rattle.geo_laws.specs.Segment.{sides, same_ends, first_places}
use Rattle.geo_laws.specs.Simplex.{ProperlyMet}
use Rattle.geo_laws.specs.Facet.{Facet, IsFlat, spans_plane}
use Rattle.geo_laws.specs.Complex.{Complex, facets}
use Rattle.geo_laws.specs.declared.complex.Piece.{Piece}

-- ---- two joined facets

-- the facet's one polygon, where it has exactly one, of three or more corners, and no hole point; else no corners
abbrev pub only_polygon : Facet → List ℕ
only_polygon f = elim f.polygons [ [] ↦ [] | p ∷ ps ↦ if length ps == 0 && length f.holes == 0 && nat_lt 2 (length p) then p else [] ]

-- not all of the corners are on one line
abbrev pub has_span : List Point → List ℕ → Bool
has_span ps p = list_any (λ a. list_any (λ b. list_any (λ c. spans_plane ps a b c) p) p) p

-- Above 0 where i and j, in one plane with the side, lie on the same side of its line; below 0 where they lie on either side; 0 where one
-- is on it
abbrev pub alike_turned : List Point → Piece → ℕ → ℕ → ℤ
alike_turned ps s i j =
    let d = from_to (point ps s.a) (point ps s.b) in
    dot (cross d (from_to (point ps s.a) (point ps i))) (cross d (from_to (point ps s.a) (point ps j)))

-- the corners lie on one closed side of the line through the side's ends
abbrev pub AreOnOneSideOf : List Point → Piece → List ℕ → Type 0
AreOnOneSideOf ps s p = (i j : ℕ) → Contains p i → Contains p j → pos 0 ≤ℤ alike_turned ps s i j

-- the corners of p lie on the one and those of q on the other closed side
abbrev pub AreOnEitherSide : List Point → Piece → List ℕ → List ℕ → Type 0
AreOnEitherSide ps s p q = (i j : ℕ) → Contains p i → Contains q j → alike_turned ps s i j ≤ℤ pos 0

-- the number of places at which a polygon has the side, in either direction
abbrev pub places_of : Piece → List ℕ → ℕ
places_of s p = count_by (same_ends s) (sides p)

-- every other side of the polygon is properly met with the side
abbrev pub MeetsOthers : List Point → Piece → List ℕ → Type 0
MeetsOthers ps s p = AllByRecursion (λ r. same_ends s r ≡ false → ProperlyMet ps (s.a ∷ s.b ∷ []) (r.a ∷ r.b ∷ [])) (sides p)

-- the polygons of both facets
abbrev pub together : Facet → Facet → Facet
together f g = record { polygons = f.polygons ++ g.polygons; holes = [] }

-- Two facets with their markers are joined over a side: each has one polygon, not on a line, and no hole point; the
-- markers are alike; all corners lie in one plane; each has the side at one place, with the one facet on the one hand
-- of it and the other on the other; and it is properly met with the other sides
pub record AreJoinedOver (ps : List Point) (s : Piece) (f g : Facet) (m n : Option ℤ) : Type 0 where
  pub first_spans : IsTrue (has_span ps (only_polygon f))
  pub second_spans : IsTrue (has_span ps (only_polygon g))
  pub marked_alike : m ≡ n
  pub flat : IsFlat ps (together f g)
  pub once_in_first : places_of s (only_polygon f) ≡ 1
  pub once_in_second : places_of s (only_polygon g) ≡ 1
  pub first_beside : AreOnOneSideOf ps s (only_polygon f)
  pub second_beside : AreOnOneSideOf ps s (only_polygon g)
  pub either_side : AreOnEitherSide ps s (only_polygon f) (only_polygon g)
  pub first_met : MeetsOthers ps s (only_polygon f)
  pub second_met : MeetsOthers ps s (only_polygon g)

-- ---- groups

abbrev pub no_facet : Facet
no_facet = record { polygons = []; holes = [] }

-- a facet by its number
abbrev pub facet_at : Complex → ℕ → Facet
facet_at c f = slice_index_or (facets c) f no_facet

-- the marker of a facet
abbrev pub marker_at : Complex → ℕ → Option ℤ
marker_at c f = slice_index_or (map (λ g. g.marker) c.facets) f None

-- two facets of a complex are joined over the side
pub record AreJoined (ps : List Point) (c : Complex) (s : Piece) (f g : ℕ) : Type 0 where
  pub has_first : f < length c.facets
  pub has_second : g < length c.facets
  pub over : AreJoinedOver ps s (facet_at c f) (facet_at c g) (marker_at c f) (marker_at c g)

-- the side is inner in the facet
abbrev pub IsInner : List Point → Complex → ℕ → Piece → Type 0
IsInner ps c f s = (g : ℕ) × AreJoined ps c s f g

-- two facets are joined in a chain
pub data AreChained (ps : List Point) (c : Complex) : ℕ → ℕ → Type 0 where
  alone : (f : ℕ) → AreChained ps c f f
  onward : (f g h : ℕ) (s : Piece) → AreJoined ps c s f g → AreChained ps c g h → AreChained ps c f h

-- the least number of the facets that f is joined with in a chain: the number of the merged facet
pub record IsLeastOfGroup (ps : List Point) (c : Complex) (f least : ℕ) : Type 0 where
  pub chained : AreChained ps c f least
  pub below_all : (g : ℕ) → AreChained ps c f g → least ≤ g

-- What merging finds, for each facet its group and for each side of a facet whether it is inner
pub record IsMerging (ps : List Point) (c : Complex) (group : ℕ → ℕ) (inner : ℕ → Piece → Bool) : Type 0 where
  pub groups : (f : ℕ) → f < length c.facets → IsLeastOfGroup ps c f (group f)
  pub sides_of : (f : ℕ) (s : Piece) → f < length c.facets → IsTrue (inner f s) ↔ IsInner ps c f s

-- ---- segments and regions

-- the sides of a facet's polygons that are not inner in it
abbrev pub outer_sides : (ℕ → Piece → Bool) → ℕ × Facet → List Piece
outer_sides inner f = filter (λ s. not (inner f.0 s)) (flat_map sides f.1.polygons)

-- the distinct sides that are not inner in the polygon's facet, in file order of the first such place
abbrev pub merged_segments : (ℕ → Piece → Bool) → Complex → List Piece
merged_segments inner c = first_places (flat_map (outer_sides inner) (zip (numbers_below (length c.facets)) (facets c)))

-- the members of a merged facet
abbrev pub members : (ℕ → ℕ) → Complex → ℕ → List (ℕ × Facet)
members group c f = filter (λ g. group g.0 == f) (zip (numbers_below (length c.facets)) (facets c))

-- the merged facet at a number: the polygons and hole points of its members, and none where the number is not the least
-- of its group
abbrev pub merged_facet : (ℕ → ℕ) → Complex → ℕ → Facet
merged_facet group c f = record {
  polygons = flat_map (λ g. g.1.polygons) (members group c f);
  holes = flat_map (λ g. g.1.holes)
      (members group c f);
}
