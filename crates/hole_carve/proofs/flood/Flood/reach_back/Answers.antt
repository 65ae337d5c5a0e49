use Rattle.std.proofs.Common.{Some, ap, sym, ◌∙◌}
use Rattle.hole_carve.specs.Flooding.{way, comes_in}
use Rattle.hole_carve.proofs.flood.Flood.reach_back.Goals as goal

pub reach-requires-clause-comes : goal.reach-requires-clause-comes
reach-requires-clause-comes c =
    let w = c.leads_to.ensures.0 c.if-leads_to.true in
    comes_in c.args.row c.requires.comes (w.0, w.1, ap (λ x. way x w.0) (sym c.at.ensures) ∙ w.2 ∙ ap Some c.len.ensures)
