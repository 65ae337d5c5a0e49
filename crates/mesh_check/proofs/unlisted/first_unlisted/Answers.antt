use Rattle.std.proofs.Common.{◌≡◌, ℕ, List, Option, Some, None, ap, subst, ◌∙◌, arith, length}
use Rattle.mesh_check.specs.Defects.{IsUnlisted}
use Rattle.mesh_check.specs.Searches.{IsLeastOf}
use Rattle.incidence.specs.declared.pairs.Across.{Across}
use Rattle.mesh_check.proofs.Firsts.{pair_here, pairs_more}
use Rattle.mesh_check.proofs.Listed.{unlisted_is}
use Rattle.mesh_check.proofs.Rows.{pairs_long}
use Rattle.mesh_check.proofs.unlisted.first_unlisted.Goals as goal

pub at-across-requires : goal.at-across-requires
at-across-requires c = let e = ap (λ (xs : List Across). length xs) c.requires.pairs ∙ pairs_long c.args.list.now in omega (arith, e)

pub returns-in-Some : goal.returns-in-Some
returns-in-Some c =
    let i = c.loop-i.i in
    let found = unlisted_is c.args.list.now c.args.faces.now c.args.pairs.now c.args.listed.now i c.at-row.result c.at-across.result c.unlisted_corner.result c.requires.pairs (omega arith) c.at-row.ensures c.at-across.ensures.same c.requires.listed c.unlisted_corner.ensures in
    let first = subst (λ (o : Option ℕ). IsLeastOf (IsUnlisted c.args.list.now c.args.faces.now i) o) c.in-Some.is found in
    pair_here (IsUnlisted c.args.list.now c.args.faces.now) i c.in-Some.corner c.loop-i.invariant first.0 first.1

pub loop-i-preserved : goal.loop-i-preserved
loop-i-preserved c =
    let i = c.loop-i.i in
    let found = unlisted_is c.args.list.now c.args.faces.now c.args.pairs.now c.args.listed.now i c.at-row.result c.at-across.result c.unlisted_corner.result c.requires.pairs (omega arith) c.at-row.ensures c.at-across.ensures.same c.requires.listed c.unlisted_corner.ensures in
    let first = subst (λ (o : Option ℕ). IsLeastOf (IsUnlisted c.args.list.now c.args.faces.now i) o) c.in_default.is found in
    pairs_more (IsUnlisted c.args.list.now c.args.faces.now) i c.loop-i.invariant first
