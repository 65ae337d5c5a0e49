-- The signs that decide whether segments and triangles meet: each is that of a weight of a common point.
use Rattle.std.specs.Prelude.{◌≡◌, ℤ, pos, ◌<ℤ◌, ◌≤ℤ◌}
use Rattle.sign_predicates.specs.Point.{Point, from_to}
use Rattle.sign_predicates.specs.Orientation.{Triangle, dot, cross, normal, orient}

-- Seen against the direction n: above 0 where the way from a over b to p turns counterclockwise
unfoldable pub turn : Point → Point → Point → Point → ℤ
turn n a b p = dot n (cross (from_to a b) (from_to a p))

-- the numbers of the weights of p in its plane: none is below 0 where p lies in the triangle
pub record TurnsAbout (f : Triangle) (p : Point) : Type 0 where
  pub a_least : pos 0 ≤ℤ turn (normal f) f.b f.c p
  pub b_least : pos 0 ≤ℤ turn (normal f) f.c f.a p
  pub c_least : pos 0 ≤ℤ turn (normal f) f.a f.b p

-- p lies on the line through a and b, and between them: the vectors from p to the two are opposite
pub record IsBetween (a b p : Point) : Type 0 where
  pub x_is : (cross (from_to p a) (from_to p b)).x ≡ pos 0
  pub y_is : (cross (from_to p a) (from_to p b)).y ≡ pos 0
  pub z_is : (cross (from_to p a) (from_to p b)).z ≡ pos 0
  pub opposite : dot (from_to p a) (from_to p b) ≤ℤ pos 0

-- a vector at right angles to both segments, 0 where they are parallel
abbrev pub common_normal : Point → Point → Point → Point → Point
common_normal p q a b = cross (from_to p q) (from_to a b)

-- the numbers of the weights at the crossing of two segments that lie in one plane and aren't parallel
pub record TurnsAcross (p q a b : Point) : Type 0 where
  pub p_least : pos 0 ≤ℤ turn (common_normal p q a b) b a q
  pub q_least : pos 0 ≤ℤ turn (common_normal p q a b) a b p
  pub a_least : pos 0 ≤ℤ turn (common_normal p q a b) p q b
  pub b_least : pos 0 ≤ℤ turn (common_normal p q a b) q p a

-- the leg from q up to p passes the triangle's sides on their inner side
pub record PassesWithin (p q : Point) (f : Triangle) : Type 0 where
  pub a_least : pos 0 ≤ℤ orient f.b f.c q p
  pub b_least : pos 0 ≤ℤ orient f.c f.a q p
  pub c_least : pos 0 ≤ℤ orient f.a f.b q p

-- a vector of which each coordinate is 0
pub record IsZeroVector (v : Point) : Type 0 where
  pub x_is : v.x ≡ pos 0
  pub y_is : v.y ≡ pos 0
  pub z_is : v.z ≡ pos 0

-- three numbers are at most some number that is below three others
pub record AllBelow (a b c d e f : ℤ) : Type 0 where
  pub bound : ℤ
  pub a_within : a ≤ℤ bound
  pub b_within : b ≤ℤ bound
  pub c_within : c ≤ℤ bound
  pub d_past : bound <ℤ d
  pub e_past : bound <ℤ e
  pub f_past : bound <ℤ f
