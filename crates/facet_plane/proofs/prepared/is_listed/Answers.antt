use Rattle.std.proofs.Common.{ap, sym, ◌∙◌, arith}
use Rattle.std.specs.Prelude.{nat_eq}
use lib.Pointwise.{pointwise}
use Rattle.facet_plane.proofs.Around.{any_hit, any_miss}
use Rattle.facet_plane.proofs.prepared.is_listed.Goals as goal

pub returns-then-are_same : goal.returns-then-are_same
returns-then-are_same c =
    sym (any_hit (pointwise nat_eq c.args.places.now) c.args.lists.now c.loop-i.i c.get.result.now (omega arith) c.get.ensures
    (ap (pointwise nat_eq c.args.places.now) (sym c.as_slice.ensures) ∙ sym c.are_same.ensures ∙ c.if-are_same.true))
    ∙ c.loop-i.invariant

pub loop-i-preserved : goal.loop-i-preserved
loop-i-preserved c =
    sym (any_miss (pointwise nat_eq c.args.places.now) c.args.lists.now c.loop-i.i c.get.result.now (omega arith) c.get.ensures
    (ap (pointwise nat_eq c.args.places.now) (sym c.as_slice.ensures) ∙ sym c.are_same.ensures ∙ c.if-are_same.false))
    ∙ c.loop-i.invariant
