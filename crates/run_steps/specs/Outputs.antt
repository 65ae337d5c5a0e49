-- The files and the summary of a mesh.
use Rattle.std.specs.Prelude.{◌≡◌, ℕ, ◌+◌, ◌<◌, ◌^◌, nat_lt, Bool, true, false, ◌||◌, ◌&&◌, not, List, [], ◌++◌, length, map, All, AllPairs, Option, Some, None, IfSome, codes, if◌then◌else◌}
use Rattle.geo_laws.specs.Delaunay.{numbers, RowBefore}
use Rattle.geo_laws.specs.Faces.{AreFacesOf, AreHullFacesOf, AreSidesOf}
use Rattle.geo_laws.specs.declared.faces.Face.{Face}
use Rattle.geo_laws.specs.declared.faces.Side.{Side}
use Rattle.incidence.specs.Pairs.{pairs_of}
use Rattle.mesh_files.specs.FaceRows.{AreFaceRowsOf, AreTrianglesMetByFaces, AreFacetsThere}
use Rattle.mesh_files.specs.Texts.{ele_text_of, face_text, edge_text, neigh_text, AreNamed}
use Rattle.mesh_files.specs.declared.markers.FaceRow.{FaceRow}
use Rattle.node_files.specs.Writing.{node_text_from, IsNodeTable}
use Rattle.grid_coords.specs.declared.origin.WholePoint.{WholePoint}
use Rattle.solver_files.specs.Formats.{second_whole_text, whole_text}
use Rattle.solver_files.specs.Mesh.{Mesh as WholeMesh}
use Rattle.solver_files.specs.Second.{Second}
use Rattle.solver_files.specs.SecondTexts.{second_ele_text, second_face_text, second_node_text}
use Rattle.run_steps.specs.declared.meshed.Meshed.{Meshed}
use Rattle.run_steps.specs.declared.outputs.Outputs.{Outputs}
use Rattle.run_steps.specs.declared.outputs.FaceFiles.{FaceFiles}
use Rattle.run_steps.specs.declared.outputs.FaceOutputs.{FaceOutputs}
use Rattle.run_steps.specs.declared.outputs.SideOutputs.{SideOutputs}
use Rattle.run_steps.specs.declared.report.Report.{Report}
use Rattle.run_steps.specs.declared.report.Report.TheVariants.{Mesh}
use Rattle.run_steps.specs.declared.report.Summary.{Summary}
use Rattle.run_steps.specs.declared.store.NamedText.{NamedText}
use Rattle.run_steps.specs.declared.store.Texts.{Texts}
use Rattle.command_words.specs.Formats.{asked, asks_whole, ending_of}
use Rattle.command_words.specs.declared.formats.Format.{Format}
use Rattle.command_words.specs.declared.options.Options.{Options}

-- a text under the base with an extension
abbrev pub named : List ℕ → List ℕ → List ℕ → NamedText
named base extension content = record { name = base ++ extension; content = content }

-- the number of the first tetrahedron, face, edge and point in the files
abbrev pub first_of : Options → Meshed → ℕ
first_of options mesh = if options.from_zero then 0 else mesh.table.first

-- ---- the files that the options ask for

abbrev pub node_file : Options → Meshed → Option NamedText
node_file options mesh =
    if options.no_node then None else Some (named options.base (codes ".1.node")
    (node_text_from options.origin mesh.table mesh.added (first_of options mesh)))

abbrev pub ele_file : Options → Meshed → Option NamedText
ele_file options mesh =
    if options.no_ele then None
    else Some (named options.base (codes ".1.ele") (ele_text_of mesh.marks mesh.complex.regions mesh.names
    (first_of options mesh) mesh.tetrahedra))

abbrev pub face_file : Options → Meshed → List FaceRow → Option NamedText
face_file options mesh faces =
    if options.no_face then None else Some (named options.base (codes ".1.face") (face_text mesh.names (first_of options mesh) faces))

abbrev pub edge_file : Options → Meshed → List Side → Option NamedText
edge_file options mesh sides =
    if options.no_face || not options.edges then None else Some (named options.base (codes ".1.edge")
    (edge_text mesh.names (first_of options mesh) sides))

abbrev pub neigh_file : Options → Meshed → Option NamedText
neigh_file options mesh =
    if not options.neighbors then None
    else Some (named options.base (codes ".1.neigh") (neigh_text (first_of options mesh) (pairs_of mesh.tetrahedra)))

-- the mesh with these faces, as one file has it whole
abbrev pub whole_of : Option WholePoint → Meshed → List FaceRow → WholeMesh
whole_of origin mesh faces = record {
  origin = origin;
  table = mesh.table;
  added = mesh.added;
  rows = mesh.tetrahedra;
  marks = mesh.marks;
  regions = mesh.complex.regions;
  faces = faces;
  names = mesh.names;
}

-- the file of a whole mesh in a format, by its text in each
abbrev pub format_file : Options → (Format → List ℕ) → Format → NamedText
format_file options text format = named options.base (ending_of format) (text format)

-- the files of a whole mesh in the formats that are asked for
abbrev pub format_files : Options → (Format → List ℕ) → List NamedText
format_files options text = map (format_file options text) (asked options.formats)

-- and of this one, with these faces
abbrev pub mesh_format_files : Options → Meshed → List FaceRow → List NamedText
mesh_format_files options mesh faces = format_files options (whole_text (whole_of options.origin mesh faces))

-- the counts that sum up a mesh with these numbers of faces and edges
abbrev pub summary_of : Meshed → ℕ → ℕ → Summary
summary_of mesh faces edges = record {
  points = length mesh.table.listed;
  added = length mesh.added;
  tetrahedra = length mesh.tetrahedra;
  faces = faces;
  edges = edges;
  hidden = mesh.hidden;
  decimals = None;
  over = None;
  slim = None;
  flat = None;
}

-- the summary of a mesh, with no lines behind it, if it is asked for
abbrev pub report_of : Options → Meshed → ℕ → ℕ → Option Report
report_of options mesh faces edges = if options.quiet then None else Some (Mesh (summary_of mesh faces edges) [])

-- whether the edge file or the summary is asked for
abbrev pub names_sides : Options → Bool
names_sides options = not options.quiet || (not options.no_face && options.edges)

-- whether a file with faces is asked for: the face file, or one of the whole mesh
abbrev pub asks_faces : Options → Bool
asks_faces options = not options.no_face || asks_whole options.formats

-- whether the options ask for no faces but those on the hull and in facets
abbrev pub asks_hull_alone : Options → Bool
asks_hull_alone options = options.quiet && (asks_faces options && (not options.all_faces && not options.neighbors))

-- whether a file with faces, the neighbor file or the summary is asked for, which need the uses of faces
abbrev pub asks_uses : Options → Bool
asks_uses options = not options.quiet || (asks_faces options || options.neighbors)

-- ---- the outputs

-- A mesh that can be written: each corner of a tetrahedron has a name, its triangles are met by the faces of its tetrahedra and are of
-- facets of the complex, and its marks, where it has some, are one for each tetrahedron, of regions of the complex
pub record IsWritable (mesh : Meshed) : Type 0 where
  pub table : IsNodeTable mesh.table
  pub few : length mesh.table.listed + length mesh.added < 2 ^ 32
  pub named : All (λ t. AreNamed mesh.names (numbers t)) mesh.tetrahedra
  pub met : AreTrianglesMetByFaces mesh.points mesh.triangles mesh.tetrahedra
  pub there : AreFacetsThere mesh.triangles mesh.complex
  pub marks_long : IfSome mesh.marks (λ marks. length marks ≡ length mesh.tetrahedra)
  pub marks_there : IfSome mesh.marks (λ marks. All (λ mark. IfSome mark (λ region. region < length mesh.complex.regions)) marks)

-- the faces are those of the hull of a mesh without facets, whose tetrahedra ascend
pub record IsHullOf (mesh : Meshed) (hull : List Face) : Type 0 where
  pub bare : mesh.triangles ≡ []
  pub ascending : AllPairs RowBefore mesh.tetrahedra
  pub faces : AreHullFacesOf mesh.tetrahedra hull

-- the files of a mesh that list faces
pub record AreFaceFilesOf (options : Options) (mesh : Meshed) (files : FaceFiles) : Type 0 where
  pub marked : List FaceRow
  pub marked_are : asks_faces options ≡ true
      → AreFaceRowsOf mesh.points mesh.tetrahedra mesh.complex mesh.triangles options.all_faces marked
  pub face_is : files.face ≡ face_file options mesh marked
  pub whole_is : files.whole ≡ mesh_format_files options mesh marked

-- the face outputs of a mesh, where a file or the summary needs them
pub record AreFaceOutputsOf (options : Options) (mesh : Meshed) (outputs : FaceOutputs) : Type 0 where
  pub marked : List FaceRow
  pub marked_are : asks_faces options ≡ true
      → AreFaceRowsOf mesh.points mesh.tetrahedra mesh.complex mesh.triangles options.all_faces marked
  pub faces : List Face
  pub faces_are : options.quiet ≡ false → AreFacesOf mesh.tetrahedra faces
  pub face_is : outputs.files.face ≡ face_file options mesh marked
  pub whole_is : outputs.files.whole ≡ mesh_format_files options mesh marked
  pub neigh_is : outputs.neigh ≡ neigh_file options mesh
  pub count_is : outputs.count ≡ length faces

-- the edge outputs of a mesh, where a file or the summary needs them
pub record AreSideOutputsOf (options : Options) (mesh : Meshed) (outputs : SideOutputs) : Type 0 where
  pub sides : List Side
  pub sides_are : names_sides options ≡ true → AreSidesOf mesh.tetrahedra sides
  pub edge_is : outputs.edge ≡ edge_file options mesh sides
  pub count_is : outputs.count ≡ length sides

-- The files of first order and the summary of a mesh. Faces and edges are those of its tetrahedra, where a file or the
-- summary needs them
pub record AreFirstOutputsOf (options : Options) (mesh : Meshed) (outputs : Outputs) : Type 0 where
  pub marked : List FaceRow
  pub marked_are : asks_faces options ≡ true
      → AreFaceRowsOf mesh.points mesh.tetrahedra mesh.complex mesh.triangles options.all_faces marked
  pub faces : List Face
  pub faces_are : options.quiet ≡ false → AreFacesOf mesh.tetrahedra faces
  pub sides : List Side
  pub sides_are : names_sides options ≡ true → AreSidesOf mesh.tetrahedra sides
  pub node_is : outputs.texts.node ≡ node_file options mesh
  pub ele_is : outputs.texts.ele ≡ ele_file options mesh
  pub face_is : outputs.texts.face ≡ face_file options mesh marked
  pub edge_is : outputs.texts.edge ≡ edge_file options mesh sides
  pub neigh_is : outputs.texts.neigh ≡ neigh_file options mesh
  pub whole_is : outputs.texts.whole ≡ mesh_format_files options mesh marked
  pub report_is : outputs.report ≡ report_of options mesh (length faces) (length sides)
  pub count_is : outputs.tetrahedra ≡ length mesh.tetrahedra

-- ---- second order

-- the mesh with these faces and edges, as files of second order have it
abbrev pub second_in : Option WholePoint → Meshed → List FaceRow → List Side → Second
second_in origin mesh faces sides = record { mesh = whole_of origin mesh faces; sides = sides; points = mesh.points }

abbrev pub second_node_file : Options → ℕ → Second → Option NamedText
second_node_file options first m = if options.no_node then None else Some (named options.base (codes ".1.node") (second_node_text m first))

abbrev pub second_ele_file : Options → ℕ → Second → Option NamedText
second_ele_file options first m = if options.no_ele then None else Some (named options.base (codes ".1.ele") (second_ele_text m first))

abbrev pub second_face_file : Options → ℕ → Second → Option NamedText
second_face_file options first m = if options.no_face then None else Some (named options.base (codes ".1.face") (second_face_text m first))

-- The files of second order, with those of edges and of neighbors
abbrev pub second_texts : Options → ℕ → Option NamedText → Option NamedText → Second → Texts
second_texts options first edge neigh m = record {
  node = second_node_file options first m;
  ele = second_ele_file options first m;
  face = second_face_file options first m;
  edge = edge;
  neigh = neigh;
  whole = format_files options (second_whole_text m);
}

-- The files of second order and the summary of a mesh; those of edges and of neighbors are as ever. Faces and edges are
-- those of its tetrahedra
pub record AreSecondOutputsOf (options : Options) (mesh : Meshed) (outputs : Outputs) : Type 0 where
  pub marked : List FaceRow
  pub marked_are : AreFaceRowsOf mesh.points mesh.tetrahedra mesh.complex mesh.triangles options.all_faces marked
  pub faces : List Face
  pub faces_are : AreFacesOf mesh.tetrahedra faces
  pub sides : List Side
  pub sides_are : AreSidesOf mesh.tetrahedra sides
  pub texts_are : outputs.texts ≡ second_texts options (first_of options mesh) (edge_file options mesh sides) (neigh_file options mesh)
      (second_in options.origin mesh marked sides)
  pub report_is : outputs.report ≡ report_of options mesh (length faces) (length sides)
  pub count_is : outputs.tetrahedra ≡ length mesh.tetrahedra

-- ---- the order that is asked for

-- whether the files are of second order: the options ask for it, and the grid has a halving left for midpoints
abbrev pub is_second_order : Options → Meshed → Bool
is_second_order options mesh = options.formats.second_order && nat_lt mesh.table.grid.halvings 18

abbrev pub AreOutputsIn : Bool → Options → Meshed → Outputs → Type 0
AreOutputsIn false options mesh outputs = AreFirstOutputsOf options mesh outputs
AreOutputsIn true options mesh outputs = AreSecondOutputsOf options mesh outputs

-- the files and the summary of a mesh
abbrev pub AreOutputsOf : Options → Meshed → Outputs → Type 0
AreOutputsOf options mesh outputs = AreOutputsIn (is_second_order options mesh) options mesh outputs
