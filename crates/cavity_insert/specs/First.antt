-- Points on one line.
use Rattle.std.specs.Prelude.{◌≡◌, ◌*ℤ◌}
use Rattle.sign_predicates.specs.Point.{Point, from_to}

-- the three points lie on one line: the cross product of two of their differences is zero
abbrev pub IsOnLine : Point → Point → Point → Type 0
IsOnLine a b c =
    ((from_to a b).x *ℤ (from_to a c).y ≡ (from_to a b).y *ℤ (from_to a c).x)
    × ((from_to a b).x *ℤ (from_to a c).z ≡ (from_to a b).z *ℤ (from_to a c).x)
    × ((from_to a b).y *ℤ (from_to a c).z ≡ (from_to a b).z *ℤ (from_to a c).y)
