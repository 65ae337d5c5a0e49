use Rattle.std.proofs.Common.{ap, ◌∙◌}
use Rattle.indexmap.specs.IndexSet.{insert_key}
use Rattle.merged_facets.specs.Merging.{inner_side}
use Rattle.merged_facets.specs.declared.sides.Ends.{Ends}
use Rattle.merged_facets.proofs.Notes.{inner_added, same_inner}
use Rattle.merged_facets.proofs.merging.note.Goals as goal

pub returns : goal.returns
returns c =
    inner_added c.args.inner.now.keys c.insert.new.self.keys (inner_side c.args.e)
    (c.in_ok-insert.ensures.keys ∙ ap (λ (ends : Ends). insert_key same_inner c.args.inner.now.keys (record { facet = c.args.e.facet; ends = ends })) c.ends_of.ensures)
