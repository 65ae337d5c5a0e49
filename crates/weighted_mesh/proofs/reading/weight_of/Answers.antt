use Rattle.std.proofs.Common.{◌≡◌, ◌*◌, length, get_or, sym, ap, ◌∙◌, arith, ne_eqb}
use Rattle.weighted_mesh.specs.Weights.{weight_in}
use Rattle.weighted_mesh.proofs.ListedWeights.{first_inside, weight_is}
use Rattle.weighted_mesh.proofs.reading.weight_of.Goals as goal

pub overflow_mul-first : goal.overflow_mul-first
overflow_mul-first c =
    let table = c.args.table.now in
    let inside = first_inside c.args.i (length table.listed) table.attribute_count (length table.attributes) c.requires.inside c.if-table-eq0.false c.requires.table.attributes in
    let long = ap (λ xs. length xs) c.as_slice-attributes.ensures in
    let small = c.as_slice-attributes.type_inv.0 in
    search (arith)

pub bounds-attributes-i : goal.bounds-attributes-i
bounds-attributes-i c =
    let table = c.args.table.now in
    let inside = first_inside c.args.i (length table.listed) table.attribute_count (length table.attributes) c.requires.inside c.if-table-eq0.false c.requires.table.attributes in
    let long = ap (λ xs. length xs) c.as_slice-attributes.ensures in
    omega arith

pub returns-clause-value : goal.returns-clause-value
returns-clause-value c =
    let table = c.args.table.now in
    let place = c.args.i * table.attribute_count in
    let inside = first_inside c.args.i (length table.listed) table.attribute_count (length table.attributes) c.requires.inside c.if-table-eq0.false c.requires.table.attributes in
    let first = c.index-attributes-i.result in
    let at : get_or table.attributes place first ≡ first = ap (λ xs. get_or xs place first) (sym c.as_slice-attributes.ensures) ∙ sym c.index-attributes-i.is in
    weight_is table c.args.i c.at-line.result first c.weight_in.result (omega arith) (c.at-line.ensures c.at-line.result) at inside (ne_eqb table.attribute_count 0 c.if-table-eq0.false)
    (c.weight_in.ensures.value ∙ ap (weight_in table.grid c.at-line.result.line) c.as_slice.ensures)
