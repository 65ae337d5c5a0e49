use Rattle.std.proofs.Common.{sym, ap, ◌∙◌, arith, Option, refl}
use Rattle.grid_coords.specs.declared.points.DecimalPoint.{DecimalPoint}
use Rattle.grid_coords.specs.Choice.{size_of, greatest_size, unless_over}
use Rattle.grid_coords.proofs.Products.{over_within, kept_within}
use Rattle.grid_coords.proofs.Sizes.{greatest_more, greatest_all, first_more, first_here, first_all}
use Rattle.grid_coords.proofs.choice.greatest_size.Goals as goal

pub returns-in-None-clause-value : goal.returns-in-None-clause-value
returns-in-None-clause-value c =
    let over = over_within c.args.wide (size_of c.args.decimals c.p-item.result) (sym c.size_of.ensures ∙ c.in-None.is) in
    let first = sym c.loop-p.invariant.first ∙ first_here c.args.wide c.args.decimals c.args.points.now c.loop-p.p-index c.p-item.result c.loop-p-test.true c.p-item.is over in
    sym (ap (λ (o : Option DecimalPoint). unless_over o (greatest_size c.args.decimals c.args.points.now)) first)

pub loop-p-preserved : goal.loop-p-preserved
loop-p-preserved c =
    let ps = c.args.points.now in
    let i = c.loop-p.p-index in
    let p = c.p-item.result in
    let kept = kept_within c.args.wide (size_of c.args.decimals p) c.in-Some.size (sym c.size_of.ensures ∙ c.in-Some.is) in
    record {
      greatest = rw (c.max-greatest.ensures, ← kept.0) (greatest_more c.args.decimals ps i p c.loop-p.greatest c.loop-p-test.true c.p-item.is ∙ c.loop-p.invariant.greatest);
      first = sym (first_more c.args.wide c.args.decimals ps i p c.loop-p-test.true c.p-item.is (omega arith)) ∙ c.loop-p.invariant.first;
      small = omega arith;
    }

pub returns-clause-value : goal.returns-clause-value
returns-clause-value c =
    let ps = c.args.points.now in
    let first = sym c.loop-p.invariant.first ∙ first_all c.args.wide c.args.decimals ps c.loop-p.p-index (omega arith) in
    let greatest = sym c.loop-p.invariant.greatest ∙ greatest_all c.args.decimals ps c.loop-p.p-index c.loop-p.greatest (omega arith) in
    rw (first, greatest) refl
