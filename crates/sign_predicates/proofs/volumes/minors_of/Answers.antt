use Rattle.std.proofs.Common.{◌^◌, ◌≤◌, ℤ, w64, to_z, of_z, unsigned_abs, subst, sym}
use Rattle.exact_algebra.proofs.Size.{back}
use Rattle.sign_predicates.proofs.volumes.minors_of.Goals as goal

kept : (z : ℤ) → unsigned_abs z ≤ 2 ^ 41 → unsigned_abs (to_z w64 (of_z w64 z)) ≤ 2 ^ 41
kept z h = subst (λ y. unsigned_abs y ≤ 2 ^ 41) (sym (back w64 (2 ^ 41) z tt h)) h

pub returns-clause-short : goal.returns-clause-short
returns-clause-short c h i j k = record {
  ab_within = kept c.minor.result (c.minor.ensures.short h i);
  ac_within = kept c.minor-2.result (c.minor-2.ensures.short h j);
  ad_within = kept c.minor-3.result (c.minor-3.ensures.short h k);
  bc_within = kept c.minor-4.result (c.minor-4.ensures.short i j);
  bd_within = kept c.minor-5.result (c.minor-5.ensures.short i k);
  cd_within = kept c.minor-6.result (c.minor-6.ensures.short j k);
}
