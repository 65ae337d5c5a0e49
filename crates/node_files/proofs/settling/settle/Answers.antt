use Rattle.std.proofs.Common.{ℕ, ◌*◌, sym, ap, ◌∙◌}
use Rattle.node_files.specs.Writing.{mark_count}
use Rattle.node_files.proofs.Lengths.{settled_length, shares}
use Rattle.node_files.proofs.Folds.{folded_distinct}
use Rattle.node_files.proofs.settling.settle.Goals as goal

pub returns-clause-table : goal.returns-clause-table
returns-clause-table c = λ text.
    let count = settled_length c.args.options.now.decimals c.in_ok-grid.grid c.args.text.decimals c.in_ok-decimals.decimals c.as_slice.result.now c.in_ok-listed.listed c.in_ok-decimals.ensures c.as_slice.ensures c.in_ok-listed.ensures in
    record {
      attributes = text.attributes ∙ ap (λ (n : ℕ). c.args.text.attribute_count * n) (sym count);
      markers = text.markers ∙ shares c.args.text.flag _ ∙ ap (λ (n : ℕ). mark_count c.args.text.flag * n) (sym count);
      halvings = c.in_ok-grid.ensures.halvings;
      folded = c.in_ok-points.ensures;
    }

pub returns-clause-distinct : goal.returns-clause-distinct
returns-clause-distinct c = folded_distinct c.in_ok-listed.listed c.in_ok-points.field-0.points c.in_ok-points.field-0.names c.in_ok-points.field-0.folded c.in_ok-points.ensures
