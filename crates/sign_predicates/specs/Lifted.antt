-- Points counted in steps from the corner of a frame, and how high the lifting map puts them.
use Rattle.std.specs.Prelude.{◌≡◌, ◌<◌, ℕ, ℤ, pos, ◌+ℤ◌, ◌-ℤ◌, ◌*ℤ◌, ◌≤ℤ◌, Bool}
use Rattle.sign_predicates.specs.Point.{Point}
use Rattle.sign_predicates.specs.Orientation.{orient}
use Rattle.sign_predicates.specs.Sphere.{square_length, in_sphere, is_outside}
use Rattle.sign_predicates.specs.Sign.{IsSignOf}
use Rattle.sign_predicates.specs.declared.tetrahedron.Corners.{Corners}
use Rattle.sign_predicates.specs.declared.tetrahedron.Sign.{Sign}
use Rattle.sign_predicates.specs.declared.tetrahedron.Numbers.{Numbers}
use Rattle.sign_predicates.specs.declared.lifted.Frame.{Frame}
use Rattle.sign_predicates.specs.declared.volumes.Volumes.{Volumes}

-- each coordinate is from 0 to 2^20
pub record IsNarrow (q : Point) : Type 0 where
  pub x_low : pos 0 ≤ℤ q.x
  pub x_high : q.x ≤ℤ pos 1048576
  pub y_low : pos 0 ≤ℤ q.y
  pub y_high : q.y ≤ℤ pos 1048576
  pub z_low : pos 0 ≤ℤ q.z
  pub z_high : q.z ≤ℤ pos 1048576

-- a point of a frame, and the height of its place on the paraboloid over the frame
pub record IsLifted (q : Point) (height : ℤ) : Type 0 where
  pub narrow : IsNarrow q
  pub height_is : square_length q ≡ height

-- how much higher b is lifted than a
abbrev pub lift_rise : Point → Point → ℤ
lift_rise a b = square_length b -ℤ square_length a

-- six times the signed volumes of e with each three of the corners, named after the corner left out
abbrev pub volumes_of : Corners → Point → Volumes
volumes_of t e = record { a = orient e t.b t.c t.d; b = orient e t.a t.c t.d; c = orient e t.a t.b t.d; d = orient e t.a t.b t.c }

-- x is q steps from the frame's corner, along one axis
abbrev pub IsStepsFrom : ℤ → ℤ → ℤ → ℤ → Type 0
IsStepsFrom corner step q x = x ≡ corner +ℤ step *ℤ q

-- the frame has the point p at q
pub record IsInFrame (f : Frame) (q p : Point) : Type 0 where
  pub x_is : IsStepsFrom f.corner.x (pos f.step) q.x p.x
  pub y_is : IsStepsFrom f.corner.y (pos f.step) q.y p.y
  pub z_is : IsStepsFrom f.corner.z (pos f.step) q.z p.z

-- and so the corners of a tetrahedron
pub record AreInFrame (f : Frame) (q t : Corners) : Type 0 where
  pub a_in : IsInFrame f q.a t.a
  pub b_in : IsInFrame f q.b t.b
  pub c_in : IsInFrame f q.c t.c
  pub d_in : IsInFrame f q.d t.d

-- the sign of the sphere's sum at any points that some frame has at these
abbrev pub IsSphereSign : Sign → Corners → Point → Type 0
IsSphereSign s q r = (f : Frame) (t : Corners) (e : Point) → 0 < f.step → AreInFrame f q t → IsInFrame f r e → IsSignOf s (in_sphere t e)

-- whether a point, with the number m, is outside, at any points that some frame has at these
abbrev pub IsOutsideInFrame : Bool → Corners → Numbers → Point → ℕ → Type 0
IsOutsideInFrame outside q n r m =
    (f : Frame) (t : Corners) (e : Point) → 0 < f.step → AreInFrame f q t → IsInFrame f r e → outside ≡ is_outside t n e m
