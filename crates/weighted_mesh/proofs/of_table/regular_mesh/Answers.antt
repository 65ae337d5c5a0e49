use Rattle.std.proofs.Common.{arith}
use Rattle.node_files.proofs.Folds.{folded_distinct, folded_few}
use Rattle.weighted_mesh.proofs.Answering.{regular_list_law, list_without_weights, names_inside, kept_have_weights, no_weights}
use Rattle.weighted_mesh.proofs.of_table.regular_mesh.Goals as goal

pub kept_weights-requires : goal.kept_weights-requires
kept_weights-requires c = names_inside c.args.table.now c.in_ok-listed.listed c.requires.table.folded c.in_ok-listed.ensures.each

pub regular-requires-clause-distinct : goal.regular-requires-clause-distinct
regular-requires-clause-distinct c =
    let table = c.args.table.now in
    folded_distinct table.listed table.points table.names table.folded c.requires.table.folded

pub regular-requires-clause-few : goal.regular-requires-clause-few
regular-requires-clause-few c =
    let table = c.args.table.now in
    let fewer = folded_few table.listed table.points table.names table.folded c.requires.table.folded in
    let few = c.requires.few in
    omega arith

pub regular-requires-clause-weights : goal.regular-requires-clause-weights
regular-requires-clause-weights c =
    kept_have_weights c.args.table.now c.in_ok-listed.listed c.in_ok-weights.weights c.requires.table.folded c.in_ok-listed.ensures.small c.in_ok-weights.ensures

pub hidden_count-requires : goal.hidden_count-requires
hidden_count-requires c = λ k d lt j e less. let below = c.in_ok-rows.ensures.numbers k d lt j e less in omega arith

pub returns-clause-triangulation : goal.returns-clause-triangulation
returns-clause-triangulation c = regular_list_law.triangulation c.args.table.now.points c.in_ok-weights.weights c.in_ok-rows.rows c.in_ok-rows.ensures.list

pub returns-clause-bare : goal.returns-clause-bare
returns-clause-bare c = λ none.
    let table = c.args.table.now in
    let zeros = no_weights table c.in_ok-listed.listed c.in_ok-weights.weights none c.in_ok-listed.ensures.value c.in_ok-weights.ensures in
    list_without_weights table.points c.in_ok-weights.weights c.in_ok-rows.rows zeros c.in_ok-rows.ensures.list
