-- The Delaunay list of four points that are not coplanar. The tetrahedron has no further points among its own corners, so no lift is asked for.
use Rattle.std.proofs.Common.{List, sym, subst}
use Rattle.sign_predicates.specs.Point.{Point}
use Rattle.sign_predicates.specs.Orientation.{IsPositive}
use Rattle.geo_laws.specs.Delaunay.{corners, numbers, IsArranged, IsDelaunayAmong}
use Rattle.geo_laws.specs.declared.tetrahedra.Tet.{Tet}
use Rattle.insert_laws.proofs.LowestFirst.{only_row, none_beyond}
use Rattle.insert_laws.specs.Insertion.{FirstLaw}

first_row : (ps : List Point) (t : Tet) → IsPositive (corners ps t) → IsArranged t → IsDelaunayAmong ps (numbers t) t
first_row ps t p a = record { is_on = λ i c. c; is_positive = p; is_arranged = a; others = λ i c n. absurd (n c) }

pub law_first : FirstLaw
law_first ps t p a = record {
  only = λ s. (λ d. only_row ps t p a s d.is_on d.is_positive d.is_arranged, λ e. subst (IsDelaunayAmong ps (numbers t)) (sym e) (first_row ps t p a));
  hull = λ f face. record { behind = t; is_row = first_row ps t p a; is_face = face; none_beyond = none_beyond ps f t face };
}
