use Rattle.std.proofs.Common.{◌≡◌, ◌<◌, ℕ, List, Option, Some, None, ap, subst, sym, ◌∙◌, arith, length}
use Rattle.incidence.specs.Pairs.{IsAcrossWithin}
use Rattle.incidence.specs.declared.pairs.Across.{Across}
use Rattle.mesh_check.specs.Defects.{IsBent}
use Rattle.mesh_check.specs.Searches.{IsLeastOf}
use Rattle.mesh_check.proofs.Bends.{bent_is}
use Rattle.mesh_check.proofs.Firsts.{pair_here, pairs_more, no_pair}
use Rattle.mesh_check.proofs.Rows.{across_is, pairs_long}
use Rattle.mesh_check.proofs.bent.first_bent.Goals as goal

pub at-across-requires : goal.at-across-requires
at-across-requires c = let e = ap (λ (xs : List Across). length xs) c.requires.pairs ∙ pairs_long c.args.mesh.list.now in omega (arith, e)

pub first_bent_with-requires-clause-within : goal.first_bent_with-requires-clause-within
first_bent_with-requires-clause-within c =
    let e = ap (λ (xs : List Across). length xs) c.requires.pairs ∙ pairs_long c.args.mesh.list.now in
    let lt : c.loop-i.i < length c.args.pairs.now = omega (arith, e) in
    subst (λ (n : ℕ). IsAcrossWithin n c.at-across.result) e (subst (λ (x : Across). IsAcrossWithin (length c.args.pairs.now) x) (c.at-across.ensures.same c.at-across.result) (c.requires.within c.loop-i.i c.at-across.result lt))

pub returns-in-Some : goal.returns-in-Some
returns-in-Some c =
    let m = c.args.mesh in
    let i = c.loop-i.i in
    let rows = m.list.now in
    let e = ap (λ (xs : List Across). length xs) c.requires.pairs ∙ pairs_long rows in
    let lt : i < length c.args.pairs.now = omega (arith, e) in
    let within = subst (λ (n : ℕ). IsAcrossWithin n c.at-across.result) e (subst (λ (x : Across). IsAcrossWithin (length c.args.pairs.now) x) (c.at-across.ensures.same c.at-across.result) (c.requires.within i c.at-across.result lt)) in
    let found = bent_is m.points.now m.listed.now rows c.args.faces.now i c.at-across.result c.first_bent_with.result c.requires.apart c.requires.listed (omega arith) within (across_is rows c.args.pairs.now i c.at-across.result c.requires.pairs (omega arith) c.at-across.ensures.same) c.first_bent_with.ensures in
    let first = subst (λ (o : Option ℕ). IsLeastOf (IsBent m.points.now rows c.args.faces.now i) o) c.in-Some.is found in
    pair_here (IsBent m.points.now rows c.args.faces.now) i c.in-Some.two c.loop-i.invariant first.0 first.1

pub loop-i-preserved : goal.loop-i-preserved
loop-i-preserved c =
    let m = c.args.mesh in
    let i = c.loop-i.i in
    let rows = m.list.now in
    let e = ap (λ (xs : List Across). length xs) c.requires.pairs ∙ pairs_long rows in
    let lt : i < length c.args.pairs.now = omega (arith, e) in
    let within = subst (λ (n : ℕ). IsAcrossWithin n c.at-across.result) e (subst (λ (x : Across). IsAcrossWithin (length c.args.pairs.now) x) (c.at-across.ensures.same c.at-across.result) (c.requires.within i c.at-across.result lt)) in
    let found = bent_is m.points.now m.listed.now rows c.args.faces.now i c.at-across.result c.first_bent_with.result c.requires.apart c.requires.listed (omega arith) within (across_is rows c.args.pairs.now i c.at-across.result c.requires.pairs (omega arith) c.at-across.ensures.same) c.first_bent_with.ensures in
    let first = subst (λ (o : Option ℕ). IsLeastOf (IsBent m.points.now rows c.args.faces.now i) o) c.in_default.is found in
    pairs_more (IsBent m.points.now rows c.args.faces.now) i c.loop-i.invariant first

pub returns : goal.returns
returns c =
    no_pair (IsBent c.args.mesh.points.now c.args.mesh.list.now c.args.faces.now) c.loop-i.i c.loop-i.invariant (λ a b h. let lt = h.0 in let mt = h.1 in omega arith)
