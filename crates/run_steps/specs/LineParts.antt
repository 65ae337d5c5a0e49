-- The parts of lines that name points, segments, facets and tetrahedra. Points have their numbers in the input, added ones behind them,
-- and facets are numbered from 1.
use Rattle.std.specs.Prelude.{ℕ, ◌+◌, List, [], ◌++◌, Option, Some, None, codes, min, max}
use Rattle.std.specs.Fmt.{decimal}
use Rattle.simplex_meets.specs.declared.complex_parts.Part.{Part}
use Rattle.simplex_meets.specs.declared.complex_parts.Part.TheVariants.{Triangle, Segment}
use Rattle.geo_laws.specs.declared.complex.FacetTriangle.{FacetTriangle}
use Rattle.geo_laws.specs.declared.complex.Piece.{Piece}
use Rattle.geo_laws.specs.declared.tetrahedra.Tet.{Tet}
use Rattle.tangle_laws.specs.declared.anomaly.Anomaly.{Anomaly}
use Rattle.tangle_laws.specs.declared.anomaly.Anomaly.TheVariants.{Bare, Doubled, Bent}
use Rattle.run_steps.specs.Numbering.{told_number}
use Rattle.run_steps.specs.declared.numbering.Numbering.{Numbering}

-- the number of a point, behind a space
abbrev pub point_text : Option Numbering → ℕ → List ℕ
point_text by n = codes " " ++ decimal (told_number by n)

-- the two ends of a subsegment, the lesser place first
abbrev pub ends_text : Option Numbering → Piece → List ℕ
ends_text by p = point_text by (min p.a p.b) ++ point_text by (max p.a p.b)

abbrev pub triangle_text : Option Numbering → FacetTriangle → List ℕ
triangle_text by t = point_text by t.a ++ point_text by t.b ++ point_text by t.c

abbrev pub tetrahedron_text : Option Numbering → Tet → List ℕ
tetrahedron_text by t = point_text by t.a ++ point_text by t.b ++ point_text by t.c ++ point_text by t.d

abbrev pub two_tetrahedra_text : Option Numbering → Tet → Tet → List ℕ
two_tetrahedra_text by s t = tetrahedron_text by s ++ codes " and" ++ tetrahedron_text by t

-- the text on an anomaly
abbrev pub anomaly_text : Option Numbering → Anomaly → List ℕ
anomaly_text by (Bare f) = codes "no filling at face" ++ point_text by f.a ++ point_text by f.b ++ point_text by f.c
anomaly_text by (Doubled one two) = codes "two fillings" ++ two_tetrahedra_text by one two
anomaly_text by (Bent one two) = codes "bent fillings" ++ two_tetrahedra_text by one two

-- a facet by its number
abbrev pub facet_text : ℕ → List ℕ
facet_text facet = decimal (facet + 1)

abbrev pub part_text : Option Numbering → Part → List ℕ
part_text by (Triangle t) = codes "facet " ++ facet_text t.facet ++ codes " triangle" ++ triangle_text by t
part_text by (Segment p) = codes "segment" ++ ends_text by p

-- the greatest number that is allowed
abbrev pub at_most : ℕ → List ℕ
at_most most = codes ", at most " ++ decimal most
