-- The laws of joined facets.
use Rattle.std.specs.Prelude.{◌≡◌, ℕ, pos, ◌+ℤ◌, ◌≤ℤ◌, List, Contains}
use Rattle.sign_predicates.specs.Point.{Point, from_to}
use Rattle.sign_predicates.specs.Orientation.{Triangle, cross, side}
use Rattle.geo_laws.specs.Delaunay.{point}
use Rattle.geo_laws.specs.Complex.{Complex}
use Rattle.geo_laws.specs.declared.complex.Piece.{Piece}
use Rattle.merged_facets.specs.Merged.{alike_turned, AreOnOneSideOf, AreOnEitherSide, AreJoined, AreChained, IsLeastOfGroup}

-- the plane through the side that is upright on the plane of the side and a corner, with that corner on its positive side
abbrev pub wall : List Point → Piece → ℕ → Triangle
wall ps s i =
    let a = point ps s.a in
    let n = cross (from_to a (point ps s.b)) (from_to a (point ps i)) in
    record { a = a; b = record { x = a.x +ℤ n.x; y = a.y +ℤ n.y; z = a.z +ℤ n.z }; c = point ps s.b }

-- the plane upright on a side decides on which hand of the side a corner lies
abbrev pub WallLaw : Type 0
WallLaw = (ps : List Point) (s : Piece) (i j : ℕ) → side (wall ps s i) (point ps j) ≡ alike_turned ps s i j

-- facets are joined in either order
abbrev pub JoinedBackLaw : Type 0
JoinedBackLaw = (ps : List Point) (c : Complex) (s : Piece) (f g : ℕ) → AreJoined ps c s f g → AreJoined ps c s g f

-- facets that are joined in a chain have the same least number
abbrev pub GroupLaw : Type 0
GroupLaw = (ps : List Point) (c : Complex) (f g m n : ℕ) → AreChained ps c f g → IsLeastOfGroup ps c f m → IsLeastOfGroup ps c g n → m ≡ n

-- the wall of a side and a corner i of p, where p lies on one hand of the side and q on the other
pub record IsBetweenThem (ps : List Point) (s : Piece) (p q : List ℕ) (i : ℕ) : Type 0 where
  pub a_on : side (wall ps s i) (point ps s.a) ≡ pos 0
  pub b_on : side (wall ps s i) (point ps s.b) ≡ pos 0
  pub first : (j : ℕ) → Contains p j → pos 0 ≤ℤ side (wall ps s i) (point ps j)
  pub second : (j : ℕ) → Contains q j → side (wall ps s i) (point ps j) ≤ℤ pos 0

-- where two polygons lie on either hand of a side, a half space upright on it holds the one, and the other half space
-- the other
abbrev pub EitherHandLaw : Type 0
EitherHandLaw = (ps : List Point) (s : Piece) (p q : List ℕ) (i : ℕ) → AreOnOneSideOf ps s p → AreOnEitherSide ps s p q → Contains p i
    → IsBetweenThem ps s p q i
