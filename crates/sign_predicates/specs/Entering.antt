-- Whether a triangle enters an open tetrahedron: the tests that decide it.
use Rattle.std.specs.Prelude.{◌⊎◌, ◌↔◌, ℤ, pos, ◌<ℤ◌, ◌≤ℤ◌, Bool, IsTrue}
use Rattle.sign_predicates.specs.Point.{Point}
use Rattle.sign_predicates.specs.Orientation.{Triangle, orient, side, opposite_a, opposite_b, opposite_c, opposite_d}
use Rattle.sign_predicates.specs.Meeting.{segment, TriangleEnters}
use Rattle.sign_predicates.specs.Turns.{PassesWithin}
use Rattle.sign_predicates.specs.declared.tetrahedron.Corners.{Corners}
use Rattle.sign_predicates.specs.declared.entering.FaceLows.{FaceLows}
use Rattle.sign_predicates.specs.declared.entering.Lows.{Lows}
use Rattle.sign_predicates.specs.declared.entering.TriangleLows.{TriangleLows}
use Rattle.sign_predicates.specs.declared.entering.Spot.{Spot}
use Rattle.sign_predicates.specs.declared.entering.Spots.{Spots}

-- for each face of the tetrahedron: whether the point isn't strictly on the face's inner side
pub record AreLows (t : Corners) (p : Point) (lows : Lows) : Type 0 where
  pub a_low : IsTrue lows.a ↔ side (opposite_a t) p ≤ℤ pos 0
  pub b_low : IsTrue lows.b ↔ side (opposite_b t) p ≤ℤ pos 0
  pub c_low : IsTrue lows.c ↔ side (opposite_c t) p ≤ℤ pos 0
  pub d_low : IsTrue lows.d ↔ side (opposite_d t) p ≤ℤ pos 0

-- for each corner of the triangle f: whether it isn't strictly on the inner side of a face
pub record AreFaceLows (face f : Triangle) (lows : FaceLows) : Type 0 where
  pub a_low : IsTrue lows.a ↔ side face f.a ≤ℤ pos 0
  pub b_low : IsTrue lows.b ↔ side face f.b ≤ℤ pos 0
  pub c_low : IsTrue lows.c ↔ side face f.c ≤ℤ pos 0

-- for each face of the tetrahedron and each corner of the triangle f: whether the corner isn't strictly on the face's
-- inner side
pub record AreTriangleLows (t : Corners) (f : Triangle) (lows : TriangleLows) : Type 0 where
  pub a_lows : AreLows t f.a lows.a
  pub b_lows : AreLows t f.b lows.b
  pub c_lows : AreLows t f.c lows.c

-- each face has one of two points strictly on its inner side
pub record FacesOpen (p q : Lows) : Type 0 where
  pub a_open : ¬ (IsTrue p.a × IsTrue q.a)
  pub b_open : ¬ (IsTrue p.b × IsTrue q.b)
  pub c_open : ¬ (IsTrue p.c × IsTrue q.c)
  pub d_open : ¬ (IsTrue p.d × IsTrue q.d)

-- where the leg from p to q leaves the inner side of one face and comes to that of another, it passes their common edge, from u to v, on
-- the inner side
abbrev pub PassesEdge : Bool → Bool → Point → Point → Point → Point → Type 0
PassesEdge low_q low_p u v p q = IsTrue low_q → IsTrue low_p → pos 0 <ℤ orient u v q p

-- the leg from p to q passes each of the three edges of a face with the corners b, c and d on the inner side
-- (`PassesEdge`)
abbrev pub PassesFace : Bool → Bool → Bool → Bool → Point → Point → Point → Point → Point → Type 0
PassesFace low_q low_b low_c low_d b c d p q = PassesEdge low_q low_b d c p q × PassesEdge low_q low_c b d p q
    × PassesEdge low_q low_d c b p q

-- and at those of all faces
pub record EdgesOpen (t : Corners) (p q : Point) (low_p low_q : Lows) : Type 0 where
  pub from_a : PassesFace low_q.a low_p.b low_p.c low_p.d t.b t.c t.d p q
  pub from_b : PassesFace low_q.b low_p.a low_p.d low_p.c t.a t.d t.c p q
  pub from_c : PassesFace low_q.c low_p.d low_p.a low_p.b t.d t.a t.b p q
  pub from_d : PassesFace low_q.d low_p.c low_p.b low_p.a t.c t.b t.a p q

-- some side of the triangle has a point strictly inside
abbrev pub SideEnters : Corners → Triangle → Type 0
SideEnters t f = TriangleEnters t (segment f.a f.b) ⊎ (TriangleEnters t (segment f.b f.c) ⊎ TriangleEnters t (segment f.c f.a))

-- the point, and whether it is strictly above the triangle's plane
abbrev pub IsSpot : Triangle → Spot → Type 0
IsSpot f spot = IsTrue spot.above ↔ pos 0 <ℤ side f spot.at

-- the four corners of a tetrahedron, each with the mark whether it is strictly above the triangle's plane
pub record AreSpotsOver (f : Triangle) (spots : Spots) : Type 0 where
  pub a_spot : IsSpot f spots.a
  pub b_spot : IsSpot f spots.b
  pub c_spot : IsSpot f spots.c
  pub d_spot : IsSpot f spots.d

abbrev pub spot_corners : Spots → Corners
spot_corners spots = record { a = spots.a.at; b = spots.b.at; c = spots.c.at; d = spots.d.at }

-- where p is strictly above the triangle's plane and q isn't, the leg between them meets the plane within the triangle
abbrev pub CrossesWithin : Triangle → Point → Point → Type 0
CrossesWithin f p q = pos 0 <ℤ side f p → side f q ≤ℤ pos 0 → PassesWithin p q f

-- the edges from p to three corners do
abbrev pub CrossesFrom : Triangle → Point → Point → Point → Point → Type 0
CrossesFrom f p q r s = CrossesWithin f p q × CrossesWithin f p r × CrossesWithin f p s

-- all edges of the tetrahedron do: the plane cuts it within the triangle
pub record SectionWithin (t : Corners) (f : Triangle) : Type 0 where
  pub from_a : CrossesFrom f t.a t.b t.c t.d
  pub from_b : CrossesFrom f t.b t.a t.c t.d
  pub from_c : CrossesFrom f t.c t.d t.a t.b
  pub from_d : CrossesFrom f t.d t.c t.a t.b

-- some of four numbers is above 0, and some is below
abbrev pub SomeAbove : ℤ → ℤ → ℤ → ℤ → Type 0
SomeAbove a b c d = (pos 0 <ℤ a) ⊎ ((pos 0 <ℤ b) ⊎ ((pos 0 <ℤ c) ⊎ (pos 0 <ℤ d)))

abbrev pub SomeBelow : ℤ → ℤ → ℤ → ℤ → Type 0
SomeBelow a b c d = (a <ℤ pos 0) ⊎ ((b <ℤ pos 0) ⊎ ((c <ℤ pos 0) ⊎ (d <ℤ pos 0)))

-- the plane has a corner strictly above it and one strictly below it
abbrev pub Straddles : Corners → Triangle → Type 0
Straddles t f = SomeAbove (side f t.a) (side f t.b) (side f t.c) (side f t.d)
    × SomeBelow (side f t.a) (side f t.b) (side f t.c) (side f t.d)
