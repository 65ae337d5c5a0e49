use Rattle.std.proofs.Common.{sym, ◌∙◌, arith, ◌<ℤ◌, w32}
use Rattle.std.proofs.lemmas.Int.{ints}
use Rattle.exact_algebra.proofs.Size.{read}
use Rattle.sign_predicates.proofs.Apart.{lt_of}
use lib.Signed.{lt_z}
use Rattle.sign_predicates.proofs.boxes.all_below.Goals as goal

pub returns : goal.returns
returns c h =
    let l : c.max-2.result <ℤ c.min-2.result = lt_of c.max-2.result c.min-2.result ((λ t. lt_z (sym (read w32 c.max-2.result c.max-2.type_inv) t) (sym (read w32 c.min-2.result c.min-2.type_inv) t)) ∙ h) in
    record {
      bound = c.max-2.result;
      a_within = omega (arith, ints);
      b_within = omega (arith, ints);
      c_within = omega (arith, ints);
      d_past = omega (arith, ints);
      e_past = omega (arith, ints);
      f_past = omega (arith, ints);
    }
