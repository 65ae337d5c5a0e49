-- The outputs of a mesh are a function of the options and of the mesh.
use Rattle.std.proofs.Common.{◌≡◌, ◌⊎◌, inl, inr, ℕ, suc, ◌<◌, Bool, true, false, not, ◌||◌, ◌&&◌, List, [], ◌∷◌, length, Some, None, if◌then◌else◌, refl, sym, ap, ◌∙◌, subst, arith}
use Rattle.std.specs.Prelude.{AllPairs, Contains, ◌↔◌, codes}
use Rattle.std.proofs.lemmas.Bool.{true≢false}
use Rattle.geo_laws.specs.Faces.{FaceBefore, SideBefore, faces_of_rows, sides_of_rows, AreFacesOf, AreSidesOf}
use Rattle.geo_laws.specs.declared.tetrahedra.Tet.{Tet}
use Rattle.geo_laws.specs.declared.faces.Face.{Face}
use Rattle.geo_laws.specs.declared.faces.Side.{Side}
use Rattle.geo_laws.proofs.Members.{contains_of, found_of, member_of}
use Rattle.geo_laws.proofs.Ascending.{Rises, none, more, rises-same}
use Rattle.mesh_files.specs.FaceRows.{corners_of, AreFaceRowsOf, IsFaceRow}
use Rattle.mesh_files.specs.Texts.{face_text, edge_text}
use Rattle.mesh_files.specs.declared.markers.FaceRow.{FaceRow}
use Rattle.run_steps.proofs.Asked.{asked_by_face, asked_by_whole, of_each}
use Rattle.run_steps.specs.Outputs.{named, first_of, face_file, edge_file, neigh_file, format_file, mesh_format_files, whole_of, summary_of, report_of, names_sides, asks_faces}
use Rattle.run_steps.specs.Outputs.{is_second_order, second_in, second_texts, AreFirstOutputsOf, AreOutputsIn, AreOutputsOf, AreSecondOutputsOf}
use Rattle.solver_files.specs.Formats.{whole_text}
use Rattle.command_words.specs.Formats.{asks_whole}
use Rattle.run_steps.specs.declared.meshed.Meshed.{Meshed}
use Rattle.run_steps.specs.declared.outputs.Outputs.{Outputs}
use Rattle.run_steps.specs.declared.store.Texts.{Texts}
use Rattle.run_steps.specs.declared.report.Report.TheVariants.{Mesh}
use Rattle.command_words.specs.declared.options.Options.{Options}

-- ---- ascending lists

rises : {X : Type 0} (R : X → X → Type 0) (xs : List X) → AllPairs R xs → Rises R xs
rises R [] h = none
rises R (x ∷ xs) h =
    more (λ y m. let f = found_of xs y m in let l = f.within in subst (R x) (f.is x) (h 0 (suc f.place) x (omega arith) (omega arith)))
    (rises R xs (λ i j d l k. h (suc i) (suc j) d (omega arith) (omega arith)))

lists_same : {X : Type 0} (R : X → X → Type 0) → ((x y : X) → R x y → R y x → ⊥) → (P : X → Type 0) (xs ys : List X) → AllPairs R xs → AllPairs R ys
    → ((x : X) → Contains xs x ↔ P x) → ((x : X) → Contains ys x ↔ P x) → xs ≡ ys
lists_same R never P xs ys h k a b =
    rises-same R never xs ys (rises R xs h) (rises R ys k) (λ x m. member_of ys x ((b x).1 ((a x).0 (contains_of xs x m)))) (λ x m. member_of xs x ((a x).1 ((b x).0 (contains_of ys x m))))

lex_never : {P Q : Type 0} (i j : ℕ) → (P → Q → ⊥) → (i < j) ⊎ (i ≡ j) × P → (j < i) ⊎ (j ≡ i) × Q → ⊥
lex_never i j never (inl h) (inl k) = omega arith
lex_never i j never (inl h) (inr k) = let e = k.0 in omega arith
lex_never i j never (inr h) (inl k) = let e = h.0 in omega arith
lex_never i j never (inr h) (inr k) = never h.1 k.1

faces_never : (f g : Face) → FaceBefore f g → FaceBefore g f → ⊥
faces_never f g h k = lex_never f.a g.a (lex_never f.b g.b (λ l m. omega arith)) h k

sides_never : (s t : Side) → SideBefore s t → SideBefore t s → ⊥
sides_never s t h k = lex_never s.a t.a (λ l m. omega arith) h k

-- ---- the outputs

-- what is not asked for does not matter
choice : {A : Type 0} (b : Bool) (x y z : A) → (b ≡ false → x ≡ y) → (if b then z else x) ≡ (if b then z else y)
choice true x y z h = refl
choice false x y z h = h refl

-- the edge file speaks of the sides, and so does the report
pub sides_in_file : (quiet no_face edges : Bool) → (no_face || not edges) ≡ false → (not quiet || (not no_face && edges)) ≡ true
sides_in_file quiet true edges h = absurd (true≢false h)
sides_in_file quiet false false h = absurd (true≢false h)
sides_in_file true false true h = refl
sides_in_file false false true h = refl

sides_in_report : (quiet no_face edges : Bool) → quiet ≡ false → (not quiet || (not no_face && edges)) ≡ true
sides_in_report true no_face edges h = absurd (true≢false h)
sides_in_report false no_face edges h = refl

face_rows_same : (mesh : Meshed) (all : Bool) (xs ys : List FaceRow) → AreFaceRowsOf mesh.points mesh.tetrahedra mesh.complex mesh.triangles all xs
    → AreFaceRowsOf mesh.points mesh.tetrahedra mesh.complex mesh.triangles all ys → xs ≡ ys
face_rows_same mesh all xs ys one two =
    lists_same (λ r s. FaceBefore (corners_of r) (corners_of s)) (λ r s. faces_never (corners_of r) (corners_of s))
    (IsFaceRow mesh.points mesh.tetrahedra mesh.complex mesh.triangles all) xs ys one.ascending two.ascending one.exactly two.exactly

faces_once : (rows : List Tet) (xs ys : List Face) → AreFacesOf rows xs → AreFacesOf rows ys → xs ≡ ys
faces_once rows xs ys one two = lists_same FaceBefore faces_never (Contains (faces_of_rows rows)) xs ys one.ascending two.ascending one.exactly two.exactly

sides_once : (rows : List Tet) (xs ys : List Side) → AreSidesOf rows xs → AreSidesOf rows ys → xs ≡ ys
sides_once rows xs ys one two = lists_same SideBefore sides_never (Contains (sides_of_rows rows)) xs ys one.ascending two.ascending one.exactly two.exactly

reports_same : (options : Options) (mesh : Meshed) (f g : List Face) (s t : List Side) → (options.quiet ≡ false → f ≡ g) → (options.quiet ≡ false → s ≡ t)
    → report_of options mesh (length f) (length s) ≡ report_of options mesh (length g) (length t)
reports_same options mesh f g s t faces sides = choice options.quiet _ _ None (λ e.
    ap (λ (f : List Face). Some (Mesh (summary_of mesh (length f) (length s)) [])) (faces e)
    ∙ ap (λ (s : List Side). Some (Mesh (summary_of mesh (length g) (length s)) [])) (sides e))

-- of first order
module _ (options : Options) (mesh : Meshed) (p q : Outputs) (a : AreFirstOutputsOf options mesh p) (b : AreFirstOutputsOf options mesh q) where
  marked_same : asks_faces options ≡ true → a.marked ≡ b.marked
  marked_same e = face_rows_same mesh options.all_faces a.marked b.marked (a.marked_are e) (b.marked_are e)

  faces_same : options.quiet ≡ false → a.faces ≡ b.faces
  faces_same e = faces_once mesh.tetrahedra a.faces b.faces (a.faces_are e) (b.faces_are e)

  sides_same : names_sides options ≡ true → a.sides ≡ b.sides
  sides_same e = sides_once mesh.tetrahedra a.sides b.sides (a.sides_are e) (b.sides_are e)

  face_files : face_file options mesh a.marked ≡ face_file options mesh b.marked
  face_files = choice options.no_face _ _ None (λ e. ap (λ (m : List FaceRow). Some (named options.base (codes ".1.face") (face_text mesh.names (first_of options mesh) m))) (marked_same (asked_by_face options.no_face (asks_whole options.formats) e)))

  whole_files : mesh_format_files options mesh a.marked ≡ mesh_format_files options mesh b.marked
  whole_files =
      of_each options.formats (format_file options (whole_text (whole_of options.origin mesh a.marked))) (format_file options (whole_text (whole_of options.origin mesh b.marked)))
      (λ e. ap (λ (m : List FaceRow). format_file options (whole_text (whole_of options.origin mesh m))) (marked_same (asked_by_whole options.no_face (asks_whole options.formats) e)))

  edge_files : edge_file options mesh a.sides ≡ edge_file options mesh b.sides
  edge_files =
      choice (options.no_face || not options.edges) _ _ None
      (λ e. ap (λ (s : List Side). Some (named options.base (codes ".1.edge") (edge_text mesh.names (first_of options mesh) s))) (sides_same (sides_in_file options.quiet options.no_face options.edges e)))

  reports : report_of options mesh (length a.faces) (length a.sides) ≡ report_of options mesh (length b.faces) (length b.sides)
  reports = reports_same options mesh a.faces b.faces a.sides b.sides faces_same (λ e. sides_same (sides_in_report options.quiet options.no_face options.edges e))

  first_same : p ≡ q
  first_same =
      let node = a.node_is ∙ sym b.node_is in
      let ele = a.ele_is ∙ sym b.ele_is in
      let face = a.face_is ∙ face_files ∙ sym b.face_is in
      let edge = a.edge_is ∙ edge_files ∙ sym b.edge_is in
      let neigh = a.neigh_is ∙ sym b.neigh_is in
      let whole = a.whole_is ∙ whole_files ∙ sym b.whole_is in
      let report = a.report_is ∙ reports ∙ sym b.report_is in
      let count = a.count_is ∙ sym b.count_is in
      λ i. record { texts = record { node = node i; ele = ele i; face = face i; edge = edge i; neigh = neigh i; whole = whole i }; report = report i; tetrahedra = count i }

-- of second order
module _ (options : Options) (mesh : Meshed) (p q : Outputs) (a : AreSecondOutputsOf options mesh p) (b : AreSecondOutputsOf options mesh q) where
  abbrev texts_by : List FaceRow → List Side → Texts
  texts_by m s = second_texts options (first_of options mesh) (edge_file options mesh s) (neigh_file options mesh) (second_in options.origin mesh m s)

  second_same : p ≡ q
  second_same =
      let sides = sides_once mesh.tetrahedra a.sides b.sides a.sides_are b.sides_are in
      let texts =
      a.texts_are ∙ ap (λ (m : List FaceRow). texts_by m a.sides) (face_rows_same mesh options.all_faces a.marked b.marked a.marked_are b.marked_are)
      ∙ ap (λ (s : List Side). texts_by b.marked s) sides ∙ sym b.texts_are in
      let faces = faces_once mesh.tetrahedra a.faces b.faces a.faces_are b.faces_are in
      let report = a.report_is ∙ reports_same options mesh a.faces b.faces a.sides b.sides (λ e. faces) (λ e. sides) ∙ sym b.report_is in
      let count = a.count_is ∙ sym b.count_is in
      λ i. record { texts = texts i; report = report i; tetrahedra = count i }

-- two outputs of one mesh are the same
pub outputs_same : (options : Options) (mesh : Meshed) (p q : Outputs) → AreOutputsOf options mesh p → AreOutputsOf options mesh q → p ≡ q
outputs_same options mesh p q a b = go (is_second_order options mesh) a b
  where
    go : (second_order : Bool) → AreOutputsIn second_order options mesh p → AreOutputsIn second_order options mesh q → p ≡ q
    go false a b = first_same options mesh p q a b
    go true a b = second_same options mesh p q a b
