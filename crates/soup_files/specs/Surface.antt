-- Complexes that are given by their points and by faces: each face is a facet of one polygon.
use Rattle.std.specs.Prelude.{ℤ, false, Option, List, [], ◌∷◌, ◌++◌, map, fold, Some, None, Result, Ok}
use Rattle.tet_text.specs.declared.fault.TextFault.{TextFault}
use Rattle.tet_text.specs.Reading.{◌>>=◌}
use Rattle.grid_coords.specs.declared.points.DecimalPoint.{DecimalPoint}
use Rattle.node_files.specs.declared.node_text.NodeText.{NodeText}
use Rattle.plc_files.specs.declared.parts.CornerText.{CornerText}
use Rattle.plc_files.specs.declared.parts.PolygonText.{PolygonText}
use Rattle.plc_files.specs.Text.{ReadFacet, Plc, with_corner}

-- a facet of one polygon, with no hole and this marker
abbrev pub marked_face : Option ℤ → PolygonText → ReadFacet
marked_face marker face = record { polygons = face ∷ []; holes = []; marker = marker }

abbrev pub facet_of_one : PolygonText → ReadFacet
facet_of_one = marked_face None

-- points numbered from 0, with no attribute and no marker
abbrev pub nodes_at : List DecimalPoint → NodeText
nodes_at points = record { first = 0; attribute_count = 0; flag = false; decimals = points; attributes = []; markers = [] }

-- the complex of these points and faces; its point list is there also where it has no point
abbrev pub surface_of : List DecimalPoint → List PolygonText → Plc
surface_of points faces = record { nodes = Some (nodes_at points); facets = map facet_of_one faces; holes = []; regions = [] }

-- ---- face by face

abbrev pub plus_facet : ReadFacet → Plc → Plc
plus_facet f t = record t { facets = t.facets ++ f ∷ [] }

abbrev pub plus_face : PolygonText → Plc → Plc
plus_face face = plus_facet (facet_of_one face)

abbrev pub plus_faces : List PolygonText → Plc → Plc
plus_faces faces t = record t { facets = t.facets ++ map facet_of_one faces }

-- with further corners of the last polygon
abbrev pub plus_corners : List CornerText → Plc → Plc
plus_corners corners t = fold (λ u c. with_corner c.number c.line u) t corners

-- the complex before, with what is read now
abbrev pub corners_onto : {R : Type 0} → Plc → Result (List CornerText × R) TextFault → Result (Plc × R) TextFault
corners_onto t read = read >>= λ x. Ok (plus_corners x.0 t, x.1)

abbrev pub face_onto : {R : Type 0} → Plc → Result (PolygonText × R) TextFault → Result (Plc × R) TextFault
face_onto t read = read >>= λ x. Ok (plus_face x.0 t, x.1)

abbrev pub faces_onto : {R : Type 0} → Plc → Result (List PolygonText × R) TextFault → Result (Plc × R) TextFault
faces_onto t read = read >>= λ x. Ok (plus_faces x.0 t, x.1)
