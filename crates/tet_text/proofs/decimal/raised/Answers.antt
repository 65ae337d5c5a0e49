use Rattle.std.proofs.Common.{sym, ◌∙◌, ap, ◌*◌, ℕ, arith}
use Rattle.tet_text.proofs.Scaling.{at_limit, times_ten_more}
use Rattle.tet_text.proofs.decimal.raised.Goals as goal

pub returns-then-product-ge-TENTH_OF_LIMIT-clause-value : goal.returns-then-product-ge-TENTH_OF_LIMIT-clause-value
returns-then-product-ge-TENTH_OF_LIMIT-clause-value c =
    sym (at_limit c.args.number c.loop.counter c.args.by c.loop.product c.loop.invariant.0 c.if-product-ge-TENTH_OF_LIMIT.true c.loop-test.true)

pub loop-preserved : goal.loop-preserved
loop-preserved c = (ap (λ (p : ℕ). p * 10) c.loop.invariant.0 ∙ sym (times_ten_more c.args.number c.loop.counter), omega arith)
