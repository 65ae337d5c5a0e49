use Rattle.std.proofs.Common.{sym}
use Rattle.geo_laws.proofs.Members.{contains_of}
use Rattle.facet_laws.proofs.PlaneOf.{some_passes}
use Rattle.merged_facets.specs.Beside.{is_off}
use Rattle.merged_facets.proofs.Once.{refused}
use Rattle.merged_facets.proofs.BesideOf.{spans_some}
use Rattle.merged_facets.proofs.beside.are_beside.Goals as goal

pub are_on_either_hand-requires-clause-off : goal.are_on_either_hand-requires-clause-off
are_on_either_hand-requires-clause-off c =
    let r = some_passes (is_off c.args.points.now c.args.s) c.args.p.now c.in-Some.i (sym c.in-Some.ensures.first) in
    record { there = c.in-Some.ensures.there; corner = contains_of c.args.p.now c.in-Some.i r.1; off = r.0 }

pub returns-in-None : goal.returns-in-None
returns-in-None c = refused (λ h. spans_some c.args.points.now c.args.s c.args.p.now c.requires.distinct c.requires.there h.first_spans (sym c.in-None.ensures.first))
