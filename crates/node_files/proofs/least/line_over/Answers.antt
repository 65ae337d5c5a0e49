use Rattle.std.proofs.Common.{sym, ap, ◌∙◌, arith}
use Rattle.std.specs.Prelude.{option_map}
use Rattle.grid_coords.specs.declared.points.DecimalPoint.{DecimalPoint}
use Rattle.node_files.proofs.Greatest.{first_more, first_here, first_all}
use Rattle.node_files.proofs.least.line_over.Goals as goal

pub returns-then-is_over : goal.returns-then-is_over
returns-then-is_over c =
    sym (ap (option_map (λ (p : DecimalPoint). p.line)) (sym c.loop-p.invariant ∙ first_here c.args.wide c.args.grid.now c.args.points.now c.loop-p.p-index c.p-item.result c.loop-p-test.true c.p-item.is (sym c.is_over.ensures ∙ c.if-is_over.true)))

pub loop-p-preserved : goal.loop-p-preserved
loop-p-preserved c =
    sym (first_more c.args.wide c.args.grid.now c.args.points.now c.loop-p.p-index c.p-item.result c.loop-p-test.true c.p-item.is (sym c.is_over.ensures ∙ c.if-is_over.false)) ∙ c.loop-p.invariant

pub returns : goal.returns
returns c =
    sym (ap (option_map (λ (p : DecimalPoint). p.line)) (sym c.loop-p.invariant ∙ first_all c.args.wide c.args.grid.now c.args.points.now c.loop-p.p-index (omega arith)))
