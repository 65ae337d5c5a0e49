use Rattle.std.proofs.Common.{◌≡◌, ℕ, List, Option, Some, None, ap, subst, ◌∙◌, arith, length}
use Rattle.mesh_check.specs.Defects.{IsWrongNeighbor}
use Rattle.mesh_check.specs.Searches.{IsLeastOf}
use Rattle.incidence.specs.declared.pairs.Across.{Across}
use Rattle.mesh_check.proofs.Firsts.{pair_here, pairs_more}
use Rattle.mesh_check.proofs.Listed.{wrong_is}
use Rattle.mesh_check.proofs.Rows.{pairs_long}
use Rattle.mesh_check.proofs.neighbors.first_wrong_neighbor.Goals as goal

pub at-across-requires : goal.at-across-requires
at-across-requires c = let e = ap (λ (xs : List Across). length xs) c.requires.pairs ∙ pairs_long c.args.list.now in omega (arith, e)

pub returns-in-Some : goal.returns-in-Some
returns-in-Some c =
    let i = c.loop-i.i in
    let found = wrong_is c.args.list.now c.args.neighbors.now c.args.pairs.now i c.at-listed.result c.at-across.result c.wrong_corner.result c.requires.pairs (omega arith) c.at-listed.ensures c.at-across.ensures.same c.wrong_corner.ensures in
    let first = subst (λ (o : Option ℕ). IsLeastOf (IsWrongNeighbor c.args.list.now c.args.neighbors.now i) o) c.in-Some.is found in
    pair_here (IsWrongNeighbor c.args.list.now c.args.neighbors.now) i c.in-Some.corner c.loop-i.invariant first.0 first.1

pub loop-i-preserved : goal.loop-i-preserved
loop-i-preserved c =
    let i = c.loop-i.i in
    let found = wrong_is c.args.list.now c.args.neighbors.now c.args.pairs.now i c.at-listed.result c.at-across.result c.wrong_corner.result c.requires.pairs (omega arith) c.at-listed.ensures c.at-across.ensures.same c.wrong_corner.ensures in
    let first = subst (λ (o : Option ℕ). IsLeastOf (IsWrongNeighbor c.args.list.now c.args.neighbors.now i) o) c.in_default.is found in
    pairs_more (IsWrongNeighbor c.args.list.now c.args.neighbors.now) i c.loop-i.invariant first
