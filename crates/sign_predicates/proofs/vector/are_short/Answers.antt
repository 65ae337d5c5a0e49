use Rattle.std.proofs.Common.{◌^◌, bit_or, ltb-true}
use Rattle.sign_predicates.proofs.Short.{first_below, second_below}
use Rattle.sign_predicates.proofs.vector.are_short.Goals as goal

pub returns : goal.returns
returns c =
    let a = c.raised_bits.result in
    let b = c.raised_bits-2.result in
    let r = c.raised_bits-3.result in
    let d = c.raised_bits-4.result in
    let n = 2 ^ 21 in
    let ab = bit_or a b in
    let abr = bit_or ab r in
    record {
      a = λ t. c.raised_bits.ensures (first_below a b n (first_below ab r n (first_below abr d n (ltb-true (bit_or abr d) n t))));
      b = λ t. c.raised_bits-2.ensures (second_below a b n (first_below ab r n (first_below abr d n (ltb-true (bit_or abr d) n t))));
      c = λ t. c.raised_bits-3.ensures (second_below ab r n (first_below abr d n (ltb-true (bit_or abr d) n t)));
      d = λ t. c.raised_bits-4.ensures (second_below abr d n (ltb-true (bit_or abr d) n t));
    }
