use Rattle.std.proofs.Common.{ℕ, ◌*◌, sym, ap, ◌∙◌, arith}
use Rattle.grid_coords.specs.Units.{limit}
use Rattle.grid_coords.proofs.Products.{within_passed, times_more}
use Rattle.node_files.proofs.grid.raised.Goals as goal

pub returns-then-product-from : goal.returns-then-product-from
returns-then-product-from c =
    sym (within_passed limit c.args.number c.args.base c.loop.counter c.args.steps c.loop.product (omega arith) c.loop.invariant (omega arith) (omega arith))

pub loop-preserved : goal.loop-preserved
loop-preserved c = rw c.from-product.ensures (ap (λ (p : ℕ). p * c.args.base) c.loop.invariant ∙ sym (times_more c.args.number c.args.base c.loop.counter))
