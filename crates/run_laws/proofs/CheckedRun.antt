-- The check of the files that a run leaves.
use Rattle.std.proofs.Common.{◌≡◌, ◌⊎◌, inl, inr, ℕ, ◌+◌, ◌<◌, ◌≤◌, Bool, true, false, List, [], ◌∷◌, ◌++◌, length, Option, None, Some, Ok, map as mapped, refl, ap, sym, subst, ◌∙◌, arith, append_assoc}
use Rattle.std.specs.Prelude.{All, IfSome, codes, not, ◌||◌, ◌&&◌, if◌then◌else◌}
use Rattle.std.specs.List.{range_with_len}
use Rattle.std.proofs.lemmas.List.{append-nil}
use Rattle.std.specs.FinMap as map
use Rattle.sign_predicates.specs.Point.{Point}
use Rattle.geo_laws.specs.Delaunay.{IsOn}
use Rattle.tet_ports.specs.Seen.{FolderSeen}
use Rattle.tet_ports.specs.Files.{Files, Holds, IsAbsent}
use Rattle.incidence.specs.Pairs.{pairs_of}
use Rattle.mesh_files.specs.FaceRows.{AreFaceRowsOf}
use Rattle.mesh_files.specs.Texts.{ele_text_of, face_text, edge_text, neigh_text}
use Rattle.mesh_files.specs.declared.markers.FaceRow.{FaceRow}
use Rattle.node_files.specs.Limits.{tetgen_limits}
use Rattle.grid_coords.specs.declared.origin.WholePoint.{WholePoint}
use Rattle.node_files.specs.Writing.{node_text, node_text_from}
use Rattle.mesh_check.specs.Defects.{IsVerdict}
use Rattle.mesh_check.specs.declared.defect.Verdict.TheVariants.{Sound}
use Rattle.mesh_check.specs.Checking.{CheckAnswer}
use Rattle.mesh_check.specs.Reading.{IsRead, most_bytes}
use Rattle.run_laws.specs.WrittenMesh.{written_mesh}
use Rattle.run_laws.specs.Renamed.{AreNamesIn}
use Rattle.run_laws.specs.ReadBack.{IsReadable}
use Rattle.run_laws.specs.Reread.{IsShortNumber}
use Rattle.run_laws.specs.NodeRead.{IsLegiblePoint}
use Rattle.run_laws.specs.Checked.{AreThere}
use Rattle.run_laws.proofs.Listed.{listed_names}
use Rattle.run_laws.proofs.Checked.{checked_back}
use Rattle.command_words.specs.Formats.{asked, asks_whole, no_formats}
use Rattle.command_words.specs.Meaning.{options_of}
use Rattle.command_words.specs.declared.formats.Formats.{Formats}
use Rattle.command_words.specs.declared.options.Options.{Options}
use Rattle.run_steps.proofs.Asked.{asked_by_face}
use Rattle.run_steps.specs.Outputs.{AreFirstOutputsOf, first_of, format_file, named, whole_of}
use Rattle.run_steps.specs.Stores.{given, in_order, with_files}
use Rattle.solver_files.specs.Formats.{whole_text}
use Rattle.run_steps.specs.declared.meshed.Meshed.{Meshed}
use Rattle.run_steps.specs.declared.outputs.Outputs.{Outputs}
use Rattle.run_steps.specs.declared.store.NamedText.{NamedText}
use Rattle.run_steps.specs.declared.status.Status.TheVariants.{Done}
use Rattle.tetgen_run.specs.Run.{AnswerBy}
use Rattle.run_laws.proofs.SoundRun.{sound_run}
use Rattle.run_laws.specs.CheckedRun.{AreCheckable, CheckedRunLaw, CheckedAfterLaw}
use Rattle.run_laws.proofs.Lengths.{ele_long_of, face_long}
use Rattle.run_laws.proofs.Stored.{IsUnder, AreFiles, all_held, after, first_given, node_held, ele_held, face_held, neigh_held, neigh_kept}
use Rattle.run_laws.proofs.ReadInputs.{HasInputNumbers, input_numbers, plain_table}
use Rattle.run_laws.proofs.Tables.{IsOfTable, HasRegionMarks, of_table, region_marks, short_markers}

-- ---- the mesh can be read

short_count : (n : ℕ) → n ≤ most_bytes → (first : ℕ) → first ≤ 1 → IsShortNumber (first + n)
short_count n few first one = omega arith

first_small : (options : Options) (mesh : Meshed) → mesh.table.first ≤ 1 → first_of options mesh ≤ 1
first_small options mesh one = go options.from_zero
  where
    go : (b : Bool) → (if b then 0 else mesh.table.first) ≤ 1
    go true = omega arith
    go false = one

module _ (options : Options) (mesh : Meshed) (outputs : Outputs) (are : AreFirstOutputsOf options mesh outputs) (can : AreCheckable options mesh outputs)
    (table : IsOfTable mesh) (input : HasInputNumbers mesh) (marks : HasRegionMarks mesh) (on : All (IsOn mesh.points) mesh.tetrahedra) (unmoved : options.origin ≡ None) (alone : options.formats ≡ no_formats) where
  first : ℕ
  first = first_of options mesh

  one : first ≤ 1
  unfolding first
  one = first_small options mesh input.first

  qs : List Point
  qs = mesh.table.listed ++ mesh.added

  faces : List FaceRow
  faces = are.marked

  faces_are : AreFaceRowsOf mesh.points mesh.tetrahedra mesh.complex mesh.triangles options.all_faces faces
  unfolding faces
  faces_are = are.marked_are (asked_by_face options.no_face (asks_whole options.formats) can.faces_there)

  -- the files
  node_there : outputs.texts.node ≡ Some (named options.base (codes ".1.node") (node_text mesh.table mesh.added first))
  unfolding first
  node_there =
      are.node_is ∙ ap (λ (b : Bool). if b then None else Some (named options.base (codes ".1.node") (node_text_from options.origin mesh.table mesh.added (first_of options mesh)))) can.nodes_there
      ∙ ap (λ (o : Option WholePoint). Some (named options.base (codes ".1.node") (node_text_from o mesh.table mesh.added (first_of options mesh)))) unmoved

  ele_there : outputs.texts.ele ≡ Some (named options.base (codes ".1.ele") (ele_text_of mesh.marks mesh.complex.regions mesh.names first mesh.tetrahedra))
  unfolding first
  ele_there = are.ele_is ∙ ap (λ (b : Bool). if b then None else Some (named options.base (codes ".1.ele") (ele_text_of mesh.marks mesh.complex.regions mesh.names (first_of options mesh) mesh.tetrahedra))) can.rows_there

  face_there : outputs.texts.face ≡ Some (named options.base (codes ".1.face") (face_text mesh.names first faces))
  unfolding first faces
  face_there = are.face_is ∙ ap (λ (b : Bool). if b then None else Some (named options.base (codes ".1.face") (face_text mesh.names (first_of options mesh) are.marked))) can.faces_there

  no_whole : outputs.texts.whole ≡ []
  no_whole = are.whole_is ∙ ap (λ (f : Formats). mapped (format_file options (whole_text (whole_of options.origin mesh are.marked))) (asked f)) alone

  abbrev IsFewBytes : NamedText → Type 0
  IsFewBytes text = length text.content ≤ most_bytes

  texts_given : List (Option NamedText)
  texts_given = outputs.texts.node ∷ outputs.texts.ele ∷ outputs.texts.face ∷ outputs.texts.edge ∷ outputs.texts.neigh ∷ []

  few_given : All IsFewBytes (given texts_given)
  unfolding texts_given
  few_given =
      subst (All IsFewBytes) (ap (λ (whole : List NamedText). given texts_given ++ whole) no_whole ∙ append-nil (given texts_given)) can.few_bytes

  each_few : IfSome outputs.texts.node IsFewBytes × IfSome outputs.texts.ele IsFewBytes × IfSome outputs.texts.face IsFewBytes × IfSome outputs.texts.neigh IsFewBytes
  unfolding texts_given
  each_few =
      let a = first_given IsFewBytes outputs.texts.node _ few_given in
      let b = first_given IsFewBytes outputs.texts.ele _ a.1 in
      let c = first_given IsFewBytes outputs.texts.face _ b.1 in
      let d = first_given IsFewBytes outputs.texts.edge _ c.1 in
      let e = first_given IsFewBytes outputs.texts.neigh _ d.1 in
      (a.0, b.0, c.0, e.0)

  node_few : length (node_text mesh.table mesh.added first) ≤ most_bytes
  node_few = subst (λ o. IfSome o IsFewBytes) node_there each_few.0

  ele_few : length (ele_text_of mesh.marks mesh.complex.regions mesh.names first mesh.tetrahedra) ≤ most_bytes
  ele_few = subst (λ o. IfSome o IsFewBytes) ele_there each_few.1

  face_few : length (face_text mesh.names first faces) ≤ most_bytes
  face_few = subst (λ o. IfSome o IsFewBytes) face_there each_few.2

  legible : All (IsLegiblePoint tetgen_limits.grid mesh.table.grid) qs
  unfolding qs
  legible i d lt =
      let g = table.on_grid i d lt in
      let s = can.decimals i d lt in
      record {
        x = record { small = g.x_small; short = s.x };
        y = record { small = g.y_small; short = s.y };
        z = record { small = g.z_small; short = s.z };
      }

  names : AreNamesIn mesh.names mesh.points qs × All (λ n. n < length qs) mesh.names
  unfolding qs
  names =
      let h = listed_names mesh.table.listed mesh.table.points mesh.added mesh.table.names mesh.table.folded table.folded in
      let by_points = subst (λ ps. AreNamesIn (mesh.table.names ++ range_with_len (length mesh.table.listed) (length mesh.added)) ps (mesh.table.listed ++ mesh.added)) (sym table.points_are) h.0 in (
        subst (λ ns. AreNamesIn ns mesh.points (mesh.table.listed ++ mesh.added)) (sym table.names_are) by_points,
        subst (λ ns. All (λ n. n < length (mesh.table.listed ++ mesh.added)) ns) (sym table.names_are) h.1,
      )

  readable : IsReadable tetgen_limits.grid mesh.table mesh.added mesh.names first mesh.points mesh.marks mesh.complex.regions mesh.tetrahedra faces
  unfolding qs
  readable =
      let rows_few = ele_long_of mesh.marks mesh.complex.regions mesh.names first mesh.tetrahedra in
      let listed_few = face_long mesh.names first faces in
      let rows_bytes = ele_few in
      let listed_bytes = face_few in
      let points_few = input.few in
      record {
        on_grid = omega arith;
        plain = plain_table mesh.table input.points table.halvings;
        attributed = record { plain = input.regions; each = marks };
        legible = legible;
        one = one;
        named = names.0;
        within = names.1;
        on = on;
        points_short = short_count (length (mesh.table.listed ++ mesh.added)) (omega arith) first one;
        rows_short = short_count (length mesh.tetrahedra) (omega arith) first one;
        faces_short = short_count (length faces) (omega arith) first one;
        markers_short = short_markers mesh options.all_faces faces input.markers faces_are;
      }

  -- ---- the files

  abbrev text : NamedText
  text = named options.base (codes ".1.neigh") (neigh_text (first_of options mesh) (pairs_of mesh.tetrahedra))

  under : AreFiles options.base outputs.texts.node outputs.texts.ele outputs.texts.face outputs.texts.edge outputs.texts.neigh
  under = record {
    node_under = subst (IsUnder options.base (codes ".1.node")) (sym node_there) refl;
    ele_under = subst (IsUnder options.base (codes ".1.ele")) (sym ele_there) refl;
    face_under = subst (IsUnder options.base (codes ".1.face")) (sym face_there) refl;
    edge_under = subst (IsUnder options.base (codes ".1.edge")) (sym are.edge_is) (edge (options.no_face || not options.edges));
    neigh_under = subst (IsUnder options.base (codes ".1.neigh")) (sym are.neigh_is) (neigh (not options.neighbors));
  }
    where
      edge : (b : Bool) → IsUnder options.base (codes ".1.edge") (if b then None else Some (named options.base (codes ".1.edge") (edge_text mesh.names (first_of options mesh) are.sides)))
      edge true = tt
      edge false = refl

      neigh : (b : Bool) → IsUnder options.base (codes ".1.neigh") (if b then None else Some (named options.base (codes ".1.neigh") (neigh_text (first_of options mesh) (pairs_of mesh.tetrahedra))))
      neigh true = tt
      neigh false = refl

  module _ (before : Files) (fresh : (options.neighbors ≡ true) ⊎ (map.get before (options.base ++ codes ".1.neigh") ≡ None))
      (seen : FolderSeen) (left : seen.files_before ≡ with_files (Some before) (in_order outputs.texts)) where
    texts : List (Option NamedText)
    texts = outputs.texts.node ∷ outputs.texts.ele ∷ outputs.texts.face ∷ outputs.texts.edge ∷ outputs.texts.neigh ∷ []

    -- no file of the whole mesh is among them
    these_left : seen.files_before ≡ with_files (Some before) (given texts)
    unfolding texts
    these_left =
        left ∙ ap (λ (whole : List NamedText). with_files (Some before) (given texts ++ whole)) no_whole
        ∙ ap (λ (found : List NamedText). with_files (Some before) found) (append-nil (given texts))

    -- what a name holds in the end
    holds : (name content : List ℕ) → all_held name texts (map.get before name) ≡ Some content → Holds seen.files_before name content
    unfolding texts
    holds name content e = subst (λ o. Holds o name content) (sym (these_left ∙ (after before texts).is)) ((after before texts).holds name ∙ e)

    absent : (name : List ℕ) → all_held name texts (map.get before name) ≡ None → IsAbsent seen.files_before name seen.misses_before seen.misses_now
    unfolding texts
    absent name e = subst (λ o. IsAbsent o name seen.misses_before seen.misses_now) (sym (these_left ∙ (after before texts).is)) ((after before texts).holds name ∙ e)

    -- an extension behind the base of the outputs
    behind : (extension : List ℕ) → options.base ++ (codes ".1" ++ extension) ≡ (options.base ++ codes ".1") ++ extension
    behind extension = sym (append_assoc options.base (codes ".1") extension)

    read_under : (extension content : List ℕ) → Holds seen.files_before (options.base ++ (codes ".1" ++ extension)) content → length content ≤ most_bytes
        → IsRead seen.files_before ((options.base ++ codes ".1") ++ extension) content
    read_under extension content h few = (subst (λ n. Holds seen.files_before n content) (behind extension) h, few)

    neighbors : IsRead seen.files_before ((options.base ++ codes ".1") ++ codes ".neigh") (neigh_text first (pairs_of mesh.tetrahedra)) ⊎ IsAbsent seen.files_before ((options.base ++ codes ".1") ++ codes ".neigh") seen.misses_before seen.misses_now
    unfolding first texts
    neighbors = go options.neighbors refl
      where
        go : (b : Bool) → options.neighbors ≡ b → IsRead seen.files_before ((options.base ++ codes ".1") ++ codes ".neigh") (neigh_text (first_of options mesh) (pairs_of mesh.tetrahedra)) ⊎ IsAbsent seen.files_before ((options.base ++ codes ".1") ++ codes ".neigh") seen.misses_before seen.misses_now
        go true asked =
            let is : outputs.texts.neigh ≡ Some text = are.neigh_is ∙ ap (λ (b : Bool). if not b then None else Some text) asked in
            inl (read_under (codes ".neigh") _ (holds (options.base ++ codes ".1.neigh") _ (neigh_held options.base _ _ _ _ _ under (map.get before (options.base ++ codes ".1.neigh")) text is)) (subst (λ o. IfSome o IsFewBytes) is each_few.3))
        go false unasked =
            let is : outputs.texts.neigh ≡ None = are.neigh_is ∙ ap (λ (b : Bool). if not b then None else Some text) unasked in
            inr (subst (λ n. IsAbsent seen.files_before n seen.misses_before seen.misses_now) (behind (codes ".neigh"))
            (absent (options.base ++ codes ".1.neigh") (neigh_kept options.base _ _ _ _ _ under (map.get before (options.base ++ codes ".1.neigh")) is ∙ lacks fresh unasked)))
          where
            lacks : (options.neighbors ≡ true) ⊎ (map.get before (options.base ++ codes ".1.neigh") ≡ None) → options.neighbors ≡ false → map.get before (options.base ++ codes ".1.neigh") ≡ None
            lacks (inl asked) unasked = absurd (clash options.neighbors asked unasked)
              where
                clash : (b : Bool) → b ≡ true → b ≡ false → ⊥
                clash b e f = cc
            lacks (inr none) unasked = none

    there : AreThere seen (options.base ++ codes ".1") mesh.table mesh.added mesh.names first mesh.marks mesh.complex.regions mesh.tetrahedra faces
    unfolding texts
    there = record {
      node = read_under (codes ".node") _ (holds (options.base ++ codes ".1.node") _ (node_held options.base _ _ _ _ _ under (map.get before (options.base ++ codes ".1.node")) _ node_there)) node_few;
      ele = read_under (codes ".ele") _ (holds (options.base ++ codes ".1.ele") _ (ele_held options.base _ _ _ _ _ under (map.get before (options.base ++ codes ".1.ele")) _ ele_there)) ele_few;
      face = read_under (codes ".face") _ (holds (options.base ++ codes ".1.face") _ (face_held options.base _ _ _ _ _ under (map.get before (options.base ++ codes ".1.face")) _ face_there)) face_few;
      neigh = neighbors;
    }

    checked : IsVerdict (written_mesh mesh.points mesh.tetrahedra faces) Sound → CheckAnswer seen (options.base ++ codes ".1") None (Ok (length mesh.tetrahedra))
    unfolding qs
    checked sound = checked_back seen (options.base ++ codes ".1") mesh.table mesh.added mesh.names first mesh.points mesh.marks mesh.complex.regions mesh.tetrahedra faces readable sound table.some input.few there

-- ---- the run

plain_list : (piecewise weighted : Bool) → weighted ≡ false → (not piecewise && weighted) ≡ false
plain_list true weighted e = refl
plain_list false weighted e = e

pub checked_run : CheckedRunLaw
unfolding faces
checked_run words folder outputs run plain can before fresh seen left =
    let options = options_of words in
    let whole = run.whole (plain_list options.piecewise options.weighted plain) in
    let on : All (IsOn run.mesh.points) run.mesh.tetrahedra = λ k d lt. (whole.positive k d lt).0 in
    let table = of_table options run.input run.bound run.mesh plain run.on_grid run.made in
    let numbers = input_numbers words folder run.input run.bound run.mesh plain run.read run.on_grid run.made in
    let marks = region_marks options run.bound run.mesh plain run.made in
    checked options run.mesh outputs run.outputs_are can table numbers marks on refl refl before fresh seen left
    (sound_run options run.bound run.mesh plain run.made options.all_faces run.outputs_are.marked (run.outputs_are.marked_are (asked_by_face options.no_face (asks_whole options.formats) can.faces_there)))

-- what the later run answers
pub checked_after : CheckedAfterLaw
checked_after words folder outputs run plain can before held fresh stored later after out understood asks base exact kept =
    let left : after.files_before ≡ with_files (Some before) (in_order outputs.texts) = kept ∙ stored ∙ ap (λ files. with_files files (in_order outputs.texts)) held in
    let one = checked_run words folder outputs run plain can before fresh after left in
    let based = subst (λ name. CheckAnswer after name None (Ok (length run.mesh.tetrahedra))) (sym base) one in
    let whole = subst (λ decimals. CheckAnswer after (options_of later).base decimals (Ok (length run.mesh.tetrahedra))) (sym exact) based in
    subst (λ b. AnswerBy tetgen_limits b later after out Done) (sym asks) (length run.mesh.tetrahedra, understood, whole)
