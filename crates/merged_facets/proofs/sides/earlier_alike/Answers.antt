use Rattle.std.proofs.Common.{◌≡◌, ℕ, ap, sym, ◌∙◌, subst}
use Rattle.std.specs.Prelude.{Option}
use Rattle.indexmap.specs.IndexMap.{get}
use Rattle.geo_laws.specs.Segment.{piece}
use Rattle.merged_facets.specs.FacetSides.{facet_side, ends_of, ends_at, is_alike, IsLastBefore}
use Rattle.merged_facets.specs.declared.sides.FacetSide.{FacetSide}
use Rattle.merged_facets.proofs.Earlier.{last_more, earlier_more}
use Rattle.merged_facets.proofs.sides.earlier_alike.Goals as goal

pub loop-i-preserved : goal.loop-i-preserved
loop-i-preserved c =
    let list = c.args.list.now in
    let i = c.loop-i.i in
    let key = c.ends_of.result in
    let keyed : ends_at list i ≡ key = ap (λ (e : FacetSide). ends_of e.side) (c.at.ensures (facet_side 0 (piece 0 0 0))) ∙ sym c.ends_of.ensures in
    let old = c.in_ok-insert.field-0 in
    let last : IsLastBefore list i (ends_at list i) old =
    subst (λ (o : Option ℕ). IsLastBefore list i (ends_at list i) o) (ap (get is_alike c.loop-i.last) keyed ∙ sym c.in_ok-insert.ensures.old) (c.loop-i.invariant.last (ends_at list i)) in
    record {
      known = earlier_more list i c.loop-i.earlier c.push.new.self old c.loop-i.invariant.known last c.in_ok-push.ensures.ok;
      last = last_more list i key (get is_alike c.loop-i.last) (get is_alike c.insert.new.self) keyed c.loop-i.invariant.last c.in_ok-insert.ensures.updates.0;
    }
