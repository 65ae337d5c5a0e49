use Rattle.std.proofs.Common.{pos, nat_lt, ◌<◌, ◌∙◌, arith}
use Rattle.std.specs.Prelude.{int_lt}
use Rattle.exact_algebra.proofs.Size.{read}
use Rattle.sign_predicates.specs.Sphere.{least_of}
use Rattle.sign_predicates.proofs.Ties.{ties}
use mir.Syntax.{w128}
use Rattle.sign_predicates.proofs.sphere.wins_by_sides.Goals as goal

pub returns : goal.returns
returns c = λ t e sides.
    let n = c.args.n in
    let m = c.args.m in
    let a_is = read w128 c.args.a c.ranges.a.sfits in
    let b_is = read w128 c.args.b c.ranges.b.sfits in
    let c_is = read w128 c.args.c c.ranges.c.sfits in
    let d_is = read w128 c.args.d c.ranges.d.sfits in
    let across_d = c.least_of-across.ensures ∙ (λ i. least_of ((c.is_below.ensures ∙ (λ j. int_lt (d_is j) (pos 0)) ∙ sides.d_side.below) i) n.d m) in
    let across_c = c.least_of-across-2.ensures ∙ (λ i. least_of ((c.is_below-2.ensures ∙ (λ j. int_lt (c_is j) (pos 0)) ∙ sides.c_side.below) i) n.c (across_d i)) in
    let across_b = c.least_of-across-3.ensures ∙ (λ i. least_of ((c.is_below-3.ensures ∙ (λ j. int_lt (b_is j) (pos 0)) ∙ sides.b_side.below) i) n.b (across_c i)) in
    let across_a = c.least_of-across-4.ensures ∙ (λ i. least_of ((c.is_below-4.ensures ∙ (λ j. int_lt (a_is j) (pos 0)) ∙ sides.a_side.below) i) n.a (across_b i)) in
    let alongside_d = c.least_of-alongside.ensures ∙ (λ i. least_of ((c.is_above.ensures ∙ (λ j. int_lt (pos 0) (d_is j)) ∙ sides.d_side.above) i) n.d 4294967296) in
    let alongside_c = c.least_of-alongside-2.ensures ∙ (λ i. least_of ((c.is_above-2.ensures ∙ (λ j. int_lt (pos 0) (c_is j)) ∙ sides.c_side.above) i) n.c (alongside_d i)) in
    let alongside_b = c.least_of-alongside-3.ensures ∙ (λ i. least_of ((c.is_above-3.ensures ∙ (λ j. int_lt (pos 0) (b_is j)) ∙ sides.b_side.above) i) n.b (alongside_c i)) in
    let alongside_a = c.least_of-alongside-4.ensures ∙ (λ i. least_of ((c.is_above-4.ensures ∙ (λ j. int_lt (pos 0) (a_is j)) ∙ sides.a_side.above) i) n.a (alongside_b i)) in
    let a_fits : n.a < 4294967296 = omega arith in
    let b_fits : n.b < 4294967296 = omega arith in
    let c_fits : n.c < 4294967296 = omega arith in
    let d_fits : n.d < 4294967296 = omega arith in
    let m_fits : m < 4294967296 = omega arith in
    (λ i. nat_lt (across_a i) (alongside_a i)) ∙ ties t n e m m_fits a_fits b_fits c_fits d_fits
