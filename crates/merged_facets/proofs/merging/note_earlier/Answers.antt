use Rattle.std.proofs.Common.{ℕ, ◌<◌, length, subst, arith}
use Rattle.std.specs.Prelude.{Option, None}
use Rattle.geo_laws.specs.Segment.{piece}
use Rattle.merged_facets.specs.FacetSides.{facet_side, ends_at, IsLastBefore}
use Rattle.merged_facets.proofs.Notes.{HasNoting, IsAlikeBefore, noting_first, noting_more, noting_all, alike_first, alike_more, pair_of, rank_falls}
use Rattle.merged_facets.proofs.merging.note_earlier.Goals as goal

pub loop-next-init : goal.loop-next-init
loop-next-init c =
    let list = c.args.list.now in
    let i = c.args.i in
    let o = c.at-next.result in
    let last : IsLastBefore list i (ends_at list i) o =
    subst (λ (o : Option ℕ). IsLastBefore list i (ends_at list i) o) (c.at-next.ensures None) (c.requires.earlier.last i c.requires.there) in
    record {
      noting = noting_first c.args.points.now c.args.complex.now list i o c.args.found.now.down.items c.args.found.now.inner.keys last c.requires.found;
      alike = alike_first list i o last;
    }

pub note_pair-requires-clause-pair : goal.note_pair-requires-clause-pair
note_pair-requires-clause-pair c =
    let list = c.args.list.now in
    let i = c.args.i in
    let alike = subst (λ (o : Option ℕ). IsAlikeBefore list i o) c.in-Some.is c.loop-next.invariant.alike in
    pair_of c.args.complex.now list i c.in-Some.j c.at.result c.at-in-Some.result c.requires.sides c.requires.there alike.0
    (c.at.ensures (facet_side 0 (piece 0 0 0))) (c.at-in-Some.ensures (facet_side 0 (piece 0 0 0))) alike.1

pub loop-next-preserved : goal.loop-next-preserved
loop-next-preserved c =
    let ps = c.args.points.now in
    let cx = c.args.complex.now in
    let list = c.args.list.now in
    let i = c.args.i in
    let j = c.in-Some.j in
    let o = c.at-next-in-Some.result in
    let old = c.loop-next.found in
    let new = c.note_pair.new.found in
    let alike = subst (λ (o : Option ℕ). IsAlikeBefore list i o) c.in-Some.is c.loop-next.invariant.alike in
    let there : j < length list = omega (arith, alike.0, c.requires.there) in
    let last : IsLastBefore list j (ends_at list j) o =
    subst (λ (o : Option ℕ). IsLastBefore list j (ends_at list j) o) (c.at-next-in-Some.ensures None) (c.requires.earlier.last j there) in
    record {
      noting =
          noting_more ps cx list i j o c.at.result c.at-in-Some.result old.down.items new.down.items old.inner.keys new.inner.keys
          (c.at.ensures (facet_side 0 (piece 0 0 0))) (c.at-in-Some.ensures (facet_side 0 (piece 0 0 0))) alike.1 last c.in_ok-note_pair.ensures
          (subst (λ (o : Option ℕ). HasNoting ps cx list i o old.down.items old.inner.keys) c.in-Some.is c.loop-next.invariant.noting);
      alike = alike_more list i j o alike.0 alike.1 last;
    }

pub loop-next-smaller : goal.loop-next-smaller
loop-next-smaller c =
    let list = c.args.list.now in
    let j = c.in-Some.j in
    let o = c.at-next-in-Some.result in
    let alike = subst (λ (o : Option ℕ). IsAlikeBefore list c.args.i o) c.in-Some.is c.loop-next.invariant.alike in
    let there : j < length list = omega (arith, alike.0, c.requires.there) in
    rank_falls list j o c.loop-next.next c.in-Some.is
    (subst (λ (o : Option ℕ). IsLastBefore list j (ends_at list j) o) (c.at-next-in-Some.ensures None) (c.requires.earlier.last j there))

pub returns : goal.returns
returns c =
    let ps = c.args.points.now in
    let cx = c.args.complex.now in
    let list = c.args.list.now in
    let found = c.loop-next.found in
    noting_all ps cx list c.args.i found.down.items found.inner.keys
    (subst (λ (o : Option ℕ). HasNoting ps cx list c.args.i o found.down.items found.inner.keys) c.in_default.is c.loop-next.invariant.noting)
