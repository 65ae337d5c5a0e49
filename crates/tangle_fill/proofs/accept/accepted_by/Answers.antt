use Rattle.std.proofs.Common.{◌≡◌, Option, sym, subst}
use Rattle.std.specs.Prelude.{AllPairs, IfSome}
use Rattle.geo_laws.specs.Delaunay.{RowBefore}
use Rattle.tangle_fill.specs.declared.change.Change.{Change}
use Rattle.tangle_fill.proofs.Finish.{rows_ascend}
use Rattle.tangle_fill.proofs.accept.accepted_by.Goals as goal

pub is_constrained-requires-clause-ascending : goal.is_constrained-requires-clause-ascending
is_constrained-requires-clause-ascending c =
    let rows = c.keep_distinct.new.self in
    let same : c.in-Some.change.rows ≡ rows = subst (λ (x : Option Change). IfSome x (λ change. change.rows ≡ rows)) c.in-Some.is c.in_ok-change.ensures.rows in
    subst (AllPairs RowBefore) (sym same) (rows_ascend rows c.keep_distinct.ensures.ascending)
