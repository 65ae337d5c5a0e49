-- The tetrahedra on a face of a list of points are a pencil, by the sides of the points and their residuals.
use Rattle.geo_laws.proofs.Corners.{IsCorner, corner_of}
use Rattle.sign_predicates.proofs.Places.{A, B, C, D, side-other}
use Rattle.std.proofs.Common.{◌≡◌, ◌≢◌, ℕ, suc, ℤ, neg_ℤ, List, length, ap, sym, ◌∙◌, arith}
use Rattle.sign_predicates.specs.Point.{Point}
use Rattle.sign_predicates.specs.Orientation.{volume, side}
use Rattle.geo_laws.specs.Delaunay.{point, corners, numbers_below}
use Rattle.geo_laws.specs.Height.{height, residual_at, places}
use Rattle.geo_laws.specs.declared.tetrahedra.Tet.{Tet}
use Rattle.geo_laws.proofs.Lexicographic.{zero_at}
use Rattle.geo_laws.proofs.Members.{there, in_map, in_range}
use Rattle.geo_laws.proofs.Lift.{vote, vote-own}
use Rattle.geo_laws.specs.OrientedFace.{Face, triangle, reversed, beside}
use Rattle.insert_laws.proofs.Identities as identity
use Rattle.insert_laws.proofs.Pencil.{IsPencil}

-- on which side of the face's plane a point lies
abbrev pub side_of : List Point → Face → ℕ → ℤ
side_of ps f o = side (triangle ps f) (point ps o)

-- how far e is above the row of o
abbrev pub gap_of : (ℕ → ℤ) → List Point → Face → ℕ → ℕ → ℕ → ℤ
gap_of lifts ps f o e k = residual_at ps lifts (beside f o) e k

-- at its own place another point's residual is the row's volume
residual-own_place : (ps : List Point) (first : ℕ → ℤ) (t : Tet) (e : ℕ) → e ≢ t.a → e ≢ t.b → e ≢ t.c → e ≢ t.d → residual_at ps first t e (suc e) ≡ volume (corners ps t)
unfolding vote
residual-own_place ps first t e ha hb hc hd = vote-own ps first t e (λ c. no (corner_of t e c))
  where
    no : IsCorner t e → ⊥
    no (A, h) = ha h
    no (B, h) = hb h
    no (C, h) = hc h
    no (D, h) = hd h

-- the relation of three tetrahedra on a face makes it one
pub face_pencil : (lifts : ℕ → ℤ) (ps : List Point) (f : Face) → IsPencil f (side_of ps f) (gap_of lifts ps f) (places (length ps)) (length ps)
face_pencil lifts ps f = record {
  relation = λ o q e k. identity.pencil (triangle ps f) (point ps o) (point ps q) (point ps e) (height lifts f.a k) (height lifts f.b k) (height lifts f.c k) (height lifts o k) (height lifts q k) (height lifts e k);
  opposite = λ o e k. identity.opposite (triangle ps f) (point ps o) (point ps e) (height lifts f.a k) (height lifts f.b k) (height lifts f.c k) (height lifts o k) (height lifts e k);
  other = λ e h. record {
    not_a = λ d. h (ap (side_of ps f) d ∙ side-other (corners ps (beside f e)) D A tt);
    not_b = λ d. h (ap (side_of ps f) d ∙ side-other (corners ps (beside f e)) D B tt);
    not_c = λ d. h (ap (side_of ps f) d ∙ side-other (corners ps (beside f e)) D C tt);
  };
  apart = λ o e l h d so z. so (sym (residual-own_place ps lifts (beside f o) e h.not_a h.not_b h.not_c d)
      ∙ zero_at (gap_of lifts ps f o e) (places (length ps)) (suc e) z (there (in_map suc e (numbers_below (length ps)) (in_range 0 (length ps) e (omega arith) (omega arith)))));
}

-- the face with its sides exchanged
pub side_of-reversed : (ps : List Point) (f : Face) (o : ℕ) → side_of ps (reversed f) o ≡ neg_ℤ (side_of ps f o)
side_of-reversed ps f o = identity.side-reverse (triangle ps f) (point ps o)

pub gap_of-reversed : (lifts : ℕ → ℤ) (ps : List Point) (f : Face) (o e k : ℕ) → gap_of lifts ps (reversed f) o e k ≡ neg_ℤ (gap_of lifts ps f o e k)
gap_of-reversed lifts ps f o e k = identity.residual-reverse (triangle ps f) (point ps o) (point ps e) (height lifts f.a k) (height lifts f.b k) (height lifts f.c k) (height lifts o k) (height lifts e k)
