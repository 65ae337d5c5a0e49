use Rattle.std.proofs.Common.{◌+◌, ◌<◌, subst, arith}
use Rattle.std.specs.Prelude.{length}
use Rattle.merged_facets.specs.Merging.{group_of}
use Rattle.merged_facets.specs.MergedComplex.{IsFirstFrom}
use Rattle.merged_facets.proofs.Walk.{HasSome, found_at, some_first, some_more, some_all}
use Rattle.merged_facets.proofs.complex.add_members.Goals as goal

pub loop-member-init : goal.loop-member-init
loop-member-init c =
    some_first (group_of c.args.merging.now) c.args.complex.now c.args.group c.args.made.now c.index-member.result.now c.requires.making
    (subst (IsFirstFrom (group_of c.args.merging.now) (length c.args.complex.now.facets) c.args.group 0)
    (found_at c.args.chains.now.first.items c.args.group c.index-member.result.now (omega (arith, c.requires.there, c.requires.chains.first_long)) c.index-member.ensures)
    (c.requires.chains.first_is c.args.group c.requires.there))

pub loop-member-preserved : goal.loop-member-preserved
loop-member-preserved c =
    let group = group_of c.args.merging.now in
    let n = length c.args.complex.now.facets in
    let g = c.in-Some.facet in
    let some = subst (HasSome group c.args.complex.now c.args.group c.args.made.now c.loop-member.made) c.in-Some.is c.loop-member.invariant in
    let l : g < n = some.is_next.1 in
    some_more group c.args.complex.now c.args.group g c.facet.result.now c.args.made.now c.loop-member.made c.add_parts.new.made c.index-member-in-Some.result.now c.facet.ensures.value some c.in_ok-add_parts.ensures
    (subst (IsFirstFrom group n (group g) (g + 1))
    (found_at c.args.chains.now.next.items g c.index-member-in-Some.result.now (omega (arith, l, c.requires.chains.next_long)) c.index-member-in-Some.ensures)
    (c.requires.chains.next_is g (omega arith) l))

pub returns : goal.returns
returns c =
    some_all (group_of c.args.merging.now) c.args.complex.now c.args.group c.args.made.now c.loop-member.made
    (subst (HasSome (group_of c.args.merging.now) c.args.complex.now c.args.group c.args.made.now c.loop-member.made) c.in_default.is c.loop-member.invariant)
