-- The sign of a number.
use Rattle.std.specs.Prelude.{◌≡◌, ℤ, pos, ◌<ℤ◌}
use Rattle.sign_predicates.specs.declared.tetrahedron.Sign.{Sign}
use Rattle.sign_predicates.specs.declared.tetrahedron.Sign.TheVariants.{Below, Zero, Above}

-- the sign of a number
abbrev pub IsSignOf : Sign → ℤ → Type 0
IsSignOf Below z = z <ℤ pos 0
IsSignOf Zero z = z ≡ pos 0
IsSignOf Above z = pos 0 <ℤ z

-- the least of two signs
abbrev pub least_sign : Sign → Sign → Sign
least_sign Below t = Below
least_sign Zero Below = Below
least_sign Zero Zero = Zero
least_sign Zero Above = Zero
least_sign Above t = t
