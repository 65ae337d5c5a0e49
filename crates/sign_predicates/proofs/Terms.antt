-- The definitions on points and planes over terms of the ring normalizer, and the values of their variables.
use Rattle.std.proofs.Common.{ℕ, ◌+◌, ℤ, pos, List, ◌∷◌}
use Rattle.sign_predicates.specs.Point.{Point, RationalPoint}
use Rattle.sign_predicates.specs.Orientation.{Triangle}
use Rattle.sign_predicates.specs.declared.tetrahedron.Corners.{Corners}
use Rattle.exact_algebra.proofs.Ring.{Expr, num, var, ◌⊕◌, ◌⊖◌, ◌⊗◌}

pub record PointE : Type 0 where
  pub x : Expr
  pub y : Expr
  pub z : Expr

pub record RationalE : Type 0 where
  pub x : Expr
  pub y : Expr
  pub z : Expr
  pub w : Expr

pub record TriangleE : Type 0 where
  pub a : PointE
  pub b : PointE
  pub c : PointE

pub record CornersE : Type 0 where
  pub a : PointE
  pub b : PointE
  pub c : PointE
  pub d : PointE

-- ---- variables from a number on, and their values

abbrev pub pointE : ℕ → PointE
pointE k = record { x = var k; y = var (k + 1); z = var (k + 2) }

abbrev pub rationalE : ℕ → RationalE
rationalE k = record { x = var k; y = var (k + 1); z = var (k + 2); w = var (k + 3) }

abbrev pub triangleE : ℕ → TriangleE
triangleE k = record { a = pointE k; b = pointE (k + 3); c = pointE (k + 6) }

abbrev pub cornersE : ℕ → CornersE
cornersE k = record { a = pointE k; b = pointE (k + 3); c = pointE (k + 6); d = pointE (k + 9) }

abbrev pub of_point : Point → List ℤ → List ℤ
of_point p zs = p.x ∷ p.y ∷ p.z ∷ zs

abbrev pub of_rational : RationalPoint → List ℤ → List ℤ
of_rational p zs = p.x ∷ p.y ∷ p.z ∷ p.w ∷ zs

abbrev pub of_triangle : Triangle → List ℤ → List ℤ
of_triangle f zs = of_point f.a (of_point f.b (of_point f.c zs))

abbrev pub of_corners : Corners → List ℤ → List ℤ
of_corners t zs = of_point t.a (of_point t.b (of_point t.c (of_point t.d zs)))

-- ---- the definitions

abbrev pub from_toE : PointE → PointE → PointE
from_toE a b = record { x = b.x ⊖ a.x; y = b.y ⊖ a.y; z = b.z ⊖ a.z }

abbrev pub from_to_rationalE : PointE → RationalE → PointE
from_to_rationalE a p = record { x = p.x ⊖ a.x ⊗ p.w; y = p.y ⊖ a.y ⊗ p.w; z = p.z ⊖ a.z ⊗ p.w }

abbrev pub as_rationalE : PointE → RationalE
as_rationalE p = record { x = p.x; y = p.y; z = p.z; w = num (pos 1) }

abbrev pub dotE : PointE → PointE → Expr
dotE u v = u.x ⊗ v.x ⊕ u.y ⊗ v.y ⊕ u.z ⊗ v.z

abbrev pub crossE : PointE → PointE → PointE
crossE u v = record { x = u.y ⊗ v.z ⊖ u.z ⊗ v.y; y = u.z ⊗ v.x ⊖ u.x ⊗ v.z; z = u.x ⊗ v.y ⊖ u.y ⊗ v.x }

abbrev pub detE : PointE → PointE → PointE → Expr
detE u v w = u.x ⊗ (v.y ⊗ w.z ⊖ v.z ⊗ w.y) ⊖ u.y ⊗ (v.x ⊗ w.z ⊖ v.z ⊗ w.x) ⊕ u.z ⊗ (v.x ⊗ w.y ⊖ v.y ⊗ w.x)

abbrev pub orientE : PointE → PointE → PointE → PointE → Expr
orientE a b c d = detE (from_toE a b) (from_toE a c) (from_toE a d)

abbrev pub orient_rationalE : PointE → PointE → PointE → RationalE → Expr
orient_rationalE a b c p = detE (from_toE a b) (from_toE a c) (from_to_rationalE a p)

abbrev pub volumeE : CornersE → Expr
volumeE t = orientE t.a t.b t.c t.d

abbrev pub opposite_aE : CornersE → TriangleE
opposite_aE t = record { a = t.b; b = t.d; c = t.c }

abbrev pub opposite_bE : CornersE → TriangleE
opposite_bE t = record { a = t.a; b = t.c; c = t.d }

abbrev pub opposite_cE : CornersE → TriangleE
opposite_cE t = record { a = t.a; b = t.d; c = t.b }

abbrev pub opposite_dE : CornersE → TriangleE
opposite_dE t = record { a = t.a; b = t.b; c = t.c }

abbrev pub sideE : TriangleE → PointE → Expr
sideE f p = orientE f.a f.b f.c p

abbrev pub side_rationalE : TriangleE → RationalE → Expr
side_rationalE f p = orient_rationalE f.a f.b f.c p

abbrev pub normalE : TriangleE → PointE
normalE f = crossE (from_toE f.a f.b) (from_toE f.a f.c)

abbrev pub offsetE : TriangleE → Expr
offsetE f = num (pos 0) ⊖ dotE (normalE f) f.a

abbrev pub combinedE : Expr → RationalE → RationalE → RationalE
combinedE n x y = record { x = n ⊗ x.x ⊕ y.x; y = n ⊗ x.y ⊕ y.y; z = n ⊗ x.z ⊕ y.z; w = n ⊗ x.w ⊕ y.w }

abbrev pub middleE : CornersE → RationalE
middleE t = record { x = t.a.x ⊕ t.b.x ⊕ t.c.x ⊕ t.d.x; y = t.a.y ⊕ t.b.y ⊕ t.c.y ⊕ t.d.y; z = t.a.z ⊕ t.b.z ⊕ t.c.z ⊕ t.d.z; w = num (pos 4) }

abbrev pub off_planeE : TriangleE → RationalE
off_planeE f = record { x = f.a.x ⊕ (normalE f).x; y = f.a.y ⊕ (normalE f).y; z = f.a.z ⊕ (normalE f).z; w = num (pos 1) }

abbrev pub with_aE : CornersE → PointE → CornersE
with_aE t e = record { a = e; b = t.b; c = t.c; d = t.d }

abbrev pub with_bE : CornersE → PointE → CornersE
with_bE t e = record { a = t.a; b = e; c = t.c; d = t.d }

abbrev pub with_cE : CornersE → PointE → CornersE
with_cE t e = record { a = t.a; b = t.b; c = e; d = t.d }

abbrev pub with_dE : CornersE → PointE → CornersE
with_dE t e = record { a = t.a; b = t.b; c = t.c; d = e }

abbrev pub minorE : CornersE → PointE → RationalE → TriangleE → TriangleE → Expr
minorE t e x u v = side_rationalE u x ⊗ sideE v e ⊖ side_rationalE v x ⊗ sideE u e

abbrev pub square_lengthE : PointE → Expr
square_lengthE v = dotE v v

abbrev pub in_sphereE : CornersE → PointE → Expr
in_sphereE t e =
    let a = from_toE e t.a in
    let b = from_toE e t.b in
    let c = from_toE e t.c in
    let d = from_toE e t.d in
    square_lengthE a ⊗ detE b c d ⊖ square_lengthE b ⊗ detE a c d ⊕ square_lengthE c ⊗ detE a b d ⊖ square_lengthE d ⊗ detE a b c

abbrev pub turnedE : TriangleE → TriangleE
turnedE f = record { a = f.b; b = f.c; c = f.a }

abbrev pub swappedE : CornersE → CornersE
swappedE t = record { a = t.b; b = t.a; c = t.d; d = t.c }

abbrev pub crossedE : CornersE → CornersE
crossedE t = record { a = t.c; b = t.d; c = t.a; d = t.b }

abbrev pub rotatedE : CornersE → CornersE
rotatedE t = record { a = t.a; b = t.c; c = t.d; d = t.b }
