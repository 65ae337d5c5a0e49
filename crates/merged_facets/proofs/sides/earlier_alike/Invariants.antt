use Rattle.indexmap.specs.IndexMap.{get}
use Rattle.merged_facets.specs.FacetSides.{is_alike, IsLastBefore, AreEarlierBelow}
use Rattle.merged_facets.specs.declared.sides.Ends.{Ends}
use Rattle.merged_facets.proofs.sides.earlier_alike.Given as goal

-- what is known of the sides so far, and the last of them with each pair of ends
abbrev pub invariant-loop-i : goal.invariant-loop-i
invariant-loop-i l = record {
  known : AreEarlierBelow l.list l.i l.earlier;
  last : (q : Ends) → IsLastBefore l.list l.i q (get is_alike l.last q);
}
