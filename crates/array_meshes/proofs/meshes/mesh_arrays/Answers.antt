use Rattle.std.proofs.Common.{◌∙◌, ap, subst, sym}
use Rattle.std.proofs.lemmas.Result.{err_from_is_err_and}
use Rattle.node_files.specs.declared.table.NodeTable.{NodeTable}
use Rattle.array_meshes.specs.Arrays.{IsArrayTable}
use Rattle.array_meshes.specs.Complexes.{complex_on}
use Rattle.array_meshes.proofs.meshes.mesh_arrays.Goals as goal

pub lists_on-requires-clause-table : goal.lists_on-requires-clause-table
lists_on-requires-clause-table c =
    let complex = c.args.complex.now in
    subst (λ (t : NodeTable). IsArrayTable complex.options.halvings complex.points.now t) (sym c.in_ok-made.ensures.table) c.in_ok-table.ensures.table

pub lists_on-requires-clause-complex : goal.lists_on-requires-clause-complex
lists_on-requires-clause-complex c =
    c.in_ok-made.ensures.complex ∙ ap (λ (t : NodeTable). complex_on t c.args.complex.now) (sym c.in_ok-made.ensures.table)

pub returns-in_err-lists_on-clause-fault : goal.returns-in_err-lists_on-clause-fault
returns-in_err-lists_on-clause-fault c =
    let p = err_from_is_err_and c.from_residual-in_err-lists_on.result c.from_residual-in_err-lists_on.ensures.1 in
    rw (p.1, p.2) tt
