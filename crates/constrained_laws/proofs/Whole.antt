-- Whole meshes and grown lists in which each point is a corner.
use Rattle.std.specs.List.{slice_index_or}
use Rattle.std.proofs.lemmas.List.Elements.{Contains-get_or}
use Rattle.constrained_laws.specs.Constrained.{WholeAdmissibleLaw}
use Rattle.constrained_laws.proofs.Sight.{uncrossed, law_hidden_corner}

pub law_whole_admissible : WholeAdmissibleLaw
law_whole_admissible ps ts rows spans whole each k d l = record {
  is_on = whole.filling.is_on k d l;
  is_positive = whole.filling.positive k d l;
  is_arranged = whole.arranged k d l;
  uncrossed = uncrossed ps ts rows whole.filling (slice_index_or rows k d) (Contains-get_or rows k d l);
  others = λ i within further not_outside. law_hidden_corner ps ts rows spans whole (slice_index_or rows k d) (Contains-get_or rows k d l) i (each i within) further not_outside;
}
