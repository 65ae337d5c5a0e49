use Rattle.merged_facets.proofs.merging.merge_facets.Goals as goal

pub merging_by-requires-clause-mergeable : goal.merging_by-requires-clause-mergeable
merging_by-requires-clause-mergeable c = record { corners = c.requires.corners; flat = c.requires.flat; distinct = c.requires.distinct }
