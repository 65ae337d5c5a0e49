use Rattle.std.proofs.Common.{◌≡◌, ◌+◌, ◌*◌, ◌^◌, sym, ap, ◌∙◌, arith}
use Rattle.std.proofs.lemmas.Grind.{pow_more}
use Rattle.tet_shapes.proofs.Volumes.{great}
use Rattle.tet_shapes.proofs.volume.raised.Goals as goal

pub returns-then-product-ge-GREATEST : goal.returns-then-product-ge-GREATEST
returns-then-product-ge-GREATEST c =
    let n = c.args.m.whole * c.args.under + c.args.m.rest in
    let p = c.loop.product in
    great c.args.under n c.args.base c.loop.counter c.args.steps p.whole p.rest c.loop.invariant.value (omega (arith, c.requires.base_some))
    (omega (arith, c.loop-test.true)) (omega (arith, c.if-product-ge-GREATEST.true))

pub loop-preserved : goal.loop-preserved
loop-preserved c =
    let n = c.args.m.whole * c.args.under + c.args.m.rest in
    let b = c.args.base in
    let power = b ^ c.loop.counter in
    let more = pow_more b c.loop.counter in
    let turned : n * power * b ≡ n * (power * b) = omega arith in
    record {
      value = c.times-product.ensures.value ∙ ap (λ x. x * b) c.loop.invariant.value ∙ turned ∙ ap (λ x. n * x) (sym more);
      rest = c.times-product.ensures.rest;
    }
