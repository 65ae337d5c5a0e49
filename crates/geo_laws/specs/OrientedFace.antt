-- Oriented faces by the numbers of their corners, and the rows on them.
use Rattle.std.specs.Prelude.{◌≢◌, ℕ, List}
use Rattle.sign_predicates.specs.Point.{Point}
use Rattle.sign_predicates.specs.Orientation.{Triangle}
use Rattle.geo_laws.specs.Delaunay.{point}
use Rattle.geo_laws.specs.declared.tetrahedra.Tet.{Tet}

-- the numbers of a triangle's corners, in an order that has a positive side
pub record Face : Type 0 where
  pub a : ℕ
  pub b : ℕ
  pub c : ℕ

-- the triangle of its points
abbrev pub triangle : List Point → Face → Triangle
triangle ps f = record { a = point ps f.a; b = point ps f.b; c = point ps f.c }

-- the face with its positive and negative sides exchanged
abbrev pub reversed : Face → Face
reversed f = record { a = f.a; b = f.c; c = f.b }

-- the row of the face and a point: it is positive where the point is on the face's positive side
abbrev pub beside : Face → ℕ → Tet
beside f o = record { a = f.a; b = f.b; c = f.c; d = o }

-- the number is no corner of the face
pub record IsOther (f : Face) (e : ℕ) : Type 0 where
  pub not_a : e ≢ f.a
  pub not_b : e ≢ f.b
  pub not_c : e ≢ f.c
