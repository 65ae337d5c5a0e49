use Rattle.std.proofs.Common.{sym, ap, subst, ◌∙◌, arith, rules}
use Rattle.std.specs.List.{prefix_len}
use Rattle.std.specs.List.Sorted.{IsPartitionedBy}
use Rattle.std.proofs.lemmas.List.Sorted.{IsPartitionPoint-from_clause}
use Rattle.std.proofs.lemmas.List.Sums.{prefix_len_is}
use Rattle.geo_laws.specs.declared.faces.Side.{Side}
use Rattle.solver_files.specs.Second.{is_before}
use Rattle.solver_files.proofs.Edges.{parted}
use Rattle.solver_files.proofs.second_mesh.place_of.Goals as goal

pub returns-clause-value : goal.returns-clause-value
returns-clause-value c =
    let s = c.args.edge in
    let xs = c.as_slice.result.now in
    let test = λ (t : Side). is_before t s in
    let split = subst (IsPartitionedBy test) (sym c.as_slice.ensures) (parted c.args.sides.now s c.requires) in
    let point = IsPartitionPoint-from_clause test xs c.partition_point.result c.partition_point.ensures.partitioned split (λ a r q k. search rules) in
    sym (prefix_len_is test xs c.partition_point.result s c.partition_point.ensures.bound (λ k l. point.0 k s (omega arith) l) (λ l. point.1 c.partition_point.result s (omega arith) l))
    ∙ ap (prefix_len test) c.as_slice.ensures
