-- The determinants of each three of four vectors, and the minors of each two of them.
use Rattle.std.specs.Prelude.{◌≡◌, ℕ, ◌*◌, ◌^◌, ◌≤◌, unsigned_abs}
use Rattle.sign_predicates.specs.Point.{Point}
use Rattle.sign_predicates.specs.Orientation.{det}
use Rattle.sign_predicates.specs.Vector.{minor}
use Rattle.sign_predicates.specs.declared.volumes.Minors.{Minors}
use Rattle.sign_predicates.specs.declared.volumes.Volumes.{Volumes}
use Rattle.sign_predicates.specs.declared.volumes.WideVolumes.{WideVolumes}

-- named after their two vectors
pub record AreMinors (a b c d : Point) (m : Minors) : Type 0 where
  pub ab_is : m.ab ≡ minor a b
  pub ac_is : m.ac ≡ minor a c
  pub ad_is : m.ad ≡ minor a d
  pub bc_is : m.bc ≡ minor b c
  pub bd_is : m.bd ≡ minor b d
  pub cd_is : m.cd ≡ minor c d

-- each is at most the bound in size
pub record AreMinorsWithin (bound : ℕ) (m : Minors) : Type 0 where
  pub ab_within : unsigned_abs m.ab ≤ bound
  pub ac_within : unsigned_abs m.ac ≤ bound
  pub ad_within : unsigned_abs m.ad ≤ bound
  pub bc_within : unsigned_abs m.bc ≤ bound
  pub bd_within : unsigned_abs m.bd ≤ bound
  pub cd_within : unsigned_abs m.cd ≤ bound

-- named after the vector left out
abbrev pub volumes : Point → Point → Point → Point → Volumes
volumes a b c d = record { a = det b c d; b = det a c d; c = det a b d; d = det a b c }

-- each is that of three short vectors
pub record AreShortVolumes (v : Volumes) : Type 0 where
  pub a_short : unsigned_abs v.a ≤ 3 * 2 ^ 61
  pub b_short : unsigned_abs v.b ≤ 3 * 2 ^ 61
  pub c_short : unsigned_abs v.c ≤ 3 * 2 ^ 61
  pub d_short : unsigned_abs v.d ≤ 3 * 2 ^ 61

-- six times the signed volumes of any four vectors, three at a time, named after the vector left out
abbrev pub wide_volumes : Point → Point → Point → Point → WideVolumes
wide_volumes a b c d = record { a = det b c d; b = det a c d; c = det a b d; d = det a b c }

pub record AreWideVolumes (v : WideVolumes) : Type 0 where
  pub a_wide : unsigned_abs v.a ≤ 3 * 2 ^ 91
  pub b_wide : unsigned_abs v.b ≤ 3 * 2 ^ 91
  pub c_wide : unsigned_abs v.c ≤ 3 * 2 ^ 91
  pub d_wide : unsigned_abs v.d ≤ 3 * 2 ^ 91
