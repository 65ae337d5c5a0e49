use Rattle.std.proofs.Common.{subst, sym}
use Rattle.sign_predicates.specs.Point.{origin}
use Rattle.refill_laws.specs.Refill.{row_centroid}
use Rattle.box_tree.specs.Bounds.{HoldsRational}
use Rattle.facet_recover.proofs.fill.centroid_bounds.Goals as goal

pub returns : goal.returns
returns c =
    subst (HoldsRational c.round_centroid.result) (sym (λ j. row_centroid (record { a = c.at.ensures origin j; b = c.at-2.ensures origin j; c = c.at-3.ensures origin j; d = c.at-4.ensures origin j }))) c.round_centroid.ensures
