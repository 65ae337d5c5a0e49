use Rattle.std.proofs.Common.{ℕ, ◌-◌, ◌<◌, ◌≤◌, length, slice_index_or}
use Rattle.geo_laws.specs.Faces.{FaceBefore}
use Rattle.mesh_files.specs.declared.facet_faces.FacetFace.{FacetFace}
use Rattle.mesh_files.proofs.facet_faces.first_facet.Given as goal

-- all before the part that is left stand before the face, and none behind it does
abbrev pub invariant-loop-low : goal.invariant-loop-low
invariant-loop-low l = record {
  order : l.low ≤ l.high;
  within : l.high ≤ length l.faces;
  before : (i : ℕ) (d : FacetFace) → i < l.low → FaceBefore (slice_index_or l.faces i d).face l.face;
  after : (i : ℕ) (d : FacetFace) → l.high ≤ i → i < length l.faces → ¬ FaceBefore (slice_index_or l.faces i d).face l.face;
}

abbrev pub decreases-loop-low : goal.decreases-loop-low
decreases-loop-low l = l.high - l.low
