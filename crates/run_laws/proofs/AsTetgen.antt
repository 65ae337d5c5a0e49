-- The outputs of `tetfit` are those of `tetgen` by words that ask for the same: both read one model, put it on one grid, and make one mesh.
use Rattle.std.proofs.Common.{◌≡◌, ◌⊎◌, inl, inr, ℕ, Bool, true, false, ◌||◌, List, [], ◌++◌, map, Option, None, Some, Result, Ok, refl, ap, sym, subst, ◌∙◌, if◌then◌else◌}
use Rattle.std.specs.Option.{option_map, option_map_or, option_or}
use Rattle.std.specs.Prelude.{is_some}
use Rattle.std.proofs.lemmas.Bool.{true≢false}
use Rattle.command_words.specs.Meaning.{options_of}
use Rattle.command_words.specs.Names.{file_name}
use Rattle.command_words.specs.declared.options.Extension.{Extension}
use Rattle.command_words.specs.declared.options.Extension.TheVariants.{Node, Poly, Smesh, Off, Stl}
use Rattle.command_words.specs.declared.options.Options.{Options}
use Rattle.grid_coords.proofs.Sizes.{none_over}
use Rattle.grid_coords.specs.Choice.{first_over, grid_of, most_decimals}
use Rattle.grid_coords.specs.Units.{grid_point}
use Rattle.grid_coords.specs.declared.grid.Grid.{Grid}
use Rattle.grid_coords.specs.declared.origin.WholePoint.{WholePoint}
use Rattle.grid_coords.specs.declared.points.DecimalPoint.{DecimalPoint}
use Rattle.node_files.proofs.Folds.{folded_once}
use Rattle.node_files.specs.Folding.{IsFolded}
use Rattle.node_files.specs.Limits.{tetgen_limits}
use Rattle.node_files.specs.Settling.{rounded_points, with_text, IsSettled}
use Rattle.node_files.specs.declared.limits.Limits.{Limits}
use Rattle.node_files.specs.declared.node_text.NodeText.{NodeText}
use Rattle.node_files.specs.declared.table.GridOptions.{GridOptions}
use Rattle.node_files.specs.declared.table.NodeTable.{NodeTable}
use Rattle.plc_files.specs.Binding.{complex_of}
use Rattle.plc_files.specs.Folding.{folded_complex}
use Rattle.plc_files.specs.Text.{Plc}
use Rattle.soup_files.proofs.Widening.{off_wider, stl_wider}
use Rattle.soup_files.specs.BinaryStl.{binary_stl_of, is_binary_stl}
use Rattle.soup_files.specs.Solids.{wide_stl_of}
use Rattle.tet_ports.specs.Files.{Files, Holds}
use Rattle.tet_ports.specs.Seen.{FolderSeen}
use Rattle.tet_text.specs.Lines.{content_lines, line_count_of}
use Rattle.run_steps.specs.Meshing.{BoundAnswer, MeshAnswer, MeshOf, OutputsOfRun, PointsMeshOf, grid_options}
use Rattle.run_steps.specs.Outputs.{is_second_order, AreFirstOutputsOf, AreOutputsIn, AreOutputsOf, AreSecondOutputsOf}
use Rattle.run_steps.specs.Reading.{complex_file, plc_text_of, BoundedAnswer, FetchAnswer, FormAnswer, InputAnswer, InputOf, NodesAnswer, SourceAnswer, TextAnswer}
use Rattle.run_steps.specs.Steps.{AndThen, Gives}
use Rattle.run_steps.specs.declared.input.ComplexFile.{ComplexFile}
use Rattle.run_steps.specs.declared.input.Input.{Input}
use Rattle.run_steps.specs.declared.mesh.Bound.{Bound}
use Rattle.run_steps.specs.declared.meshed.Meshed.{Meshed}
use Rattle.run_steps.specs.declared.outputs.Outputs.{Outputs}
use Rattle.run_steps.specs.declared.status.Status.{Status}
use Rattle.tetfit_run.specs.Measured.{complex_from, most_tried, moved_model, origin_in, tried}
use Rattle.tetfit_run.specs.Models.{named_surface, surface_form, surface_text_of, ModelBy, ReadAnswer, SurfaceAnswer, SurfaceInputAnswer}
use Rattle.tet_text.specs.Decimals.{Scaled}
use Rattle.tetfit_run.specs.Units.{input_by as in_unit}
use Rattle.tetfit_run.specs.Hints.{decimals_moved, moved_text, unit_moved}
use Rattle.tetfit_run.specs.Outputs.{fit_limits, outputs_at}
use Rattle.tetfit_run.specs.Run.{options_from, IsFinalMesh, IsMeshOfModel, IsTriedOf}
use Rattle.tetfit_run.specs.Trying.{at_decimals}
use Rattle.tetfit_run.specs.Words.{among_all, asks_elsewhere, fit_fault, fit_name, fit_options, grammar_words, plain_fault, plain_options}
use Rattle.run_laws.specs.AsTetgen.{with_halvings, FitAsTetgenLaw, IsAskedAlike}
use Rattle.run_laws.proofs.OneRun.{one_run}
use Rattle.run_laws.proofs.SameInputs.{and_then_give, fetch_give, gives_give, input_give, some_same, text_value, whole_give, GiveSame}

-- ---- the sample, for which no word of `tetfit` asks

some_none : {A : Type 0} (x : A) → Some x ≡ None → ⊥
some_none x e = cc

none_some : {A : Type 0} (x : A) → None ≡ Some x → ⊥
none_some x e = cc

first_none : {A : Type 0} (a b : Option A) → option_or a b ≡ None → a ≡ None
first_none None b e = refl
first_none (Some x) b e = absurd (some_none x e)

second_none : {A : Type 0} (a b : Option A) → option_or a b ≡ None → b ≡ None
second_none None b e = e
second_none (Some x) b e = absurd (some_none x e)

mapped_none : {A B : Type 0} (f : A → B) (a : Option A) → option_map f a ≡ None → a ≡ None
mapped_none f None e = refl
mapped_none f (Some x) e = absurd (some_none (f x) e)

unless_none : {A : Type 0} (b : Bool) (x : A) → (if b then Some x else None) ≡ None → b ≡ false
unless_none false x e = refl
unless_none true x e = absurd (some_none x e)

second_false : (a b : Bool) → (a || b) ≡ false → b ≡ false
second_false false b e = e
second_false true b e = absurd (true≢false e)

none_of : {A : Type 0} (a : Option A) → is_some a ≡ false → a ≡ None
none_of None e = refl
none_of (Some x) e = absurd (true≢false e)

no_sample : (words : List (List ℕ)) → fit_fault words ≡ None → (fit_options words).sample ≡ None
no_sample words e =
    let plain : plain_fault (grammar_words words) ≡ None = mapped_none (among_all words) (plain_fault (grammar_words words)) (first_none _ _ (second_none _ _ e)) in
    let options = plain_options (grammar_words words) in
    let elsewhere : asks_elsewhere options ≡ false = unless_none (asks_elsewhere options) _ (second_none _ _ plain) in
    none_of options.sample (second_false (options.weighted || options.check) (is_some options.sample) elsewhere)

-- ---- the model

-- a surface is named by a word for a complex, and by its extension
surface_of : (piecewise : Bool) (extension : Option Extension) (form : Extension) → (if piecewise then surface_form extension else None) ≡ Some form
    → (piecewise ≡ true) × (extension ≡ Some form) × ((form ≡ Off) ⊎ (form ≡ Stl))
surface_of false extension form e = absurd (none_some form e)
surface_of true (Some Off) form e = (refl, e, inl (sym (some_same Off form e)))
surface_of true (Some Stl) form e = (refl, e, inr (sym (some_same Stl form e)))
surface_of true (Some Node) form e = absurd (none_some form e)
surface_of true (Some Poly) form e = absurd (none_some form e)
surface_of true (Some Smesh) form e = absurd (none_some form e)
surface_of true None form e = absurd (none_some form e)

-- the wide grammar reads as the strict one does what that one takes, where the file is a text
abbrev IsText : FolderSeen → List ℕ → Type 0
IsText folder base = (bytes : List ℕ) → Holds folder.files_before (file_name base Stl) bytes → is_binary_stl bytes ≡ false

text_wider : (bytes : List ℕ) (text : Plc) (is_binary : Bool) → is_binary ≡ false → plc_text_of Stl bytes ≡ Ok text → (if is_binary then binary_stl_of bytes else wide_stl_of (line_count_of bytes) (content_lines bytes)) ≡ Ok text
text_wider bytes text true e h = absurd (true≢false e)
text_wider bytes text false e h = stl_wider (line_count_of bytes) (content_lines bytes) text h

-- the name of a surface has its extension in small letters
abbrev IsSmall : List ℕ → Options → Type 0
IsSmall name options = (form : Extension) → named_surface options ≡ Some form → name ≡ file_name options.base form

-- what is read of an input behind the complex of a file: its points
abbrev BehindFile : Limits → FolderSeen → List ℕ → ComplexFile → Result Input Status → Type 0
BehindFile limits folder base file = AndThen (NodesAnswer limits folder base file.text.nodes) (BoundedAnswer file)

module _ (told : Files) (folder : FolderSeen) (e : folder.files_before ≡ Some told) where
  surface_give_by : (base : List ℕ) (form : Extension) → ((bytes : List ℕ) (text : Plc) → FetchAnswer tetgen_limits folder (file_name base form) (Ok bytes) → plc_text_of form bytes ≡ Ok text → surface_text_of form bytes ≡ Ok text)
      → GiveSame (SurfaceAnswer fit_limits folder (file_name base form) form) (FormAnswer tetgen_limits folder base form)
  surface_give_by base form wider =
      let name = file_name base form in
      and_then_give (FetchAnswer fit_limits folder name) (FetchAnswer tetgen_limits folder name) (λ bytes. AndThen (TextAnswer name (surface_text_of form bytes)) (λ text. Gives (complex_file name text)))
      (λ bytes. AndThen (TextAnswer name (plc_text_of form bytes)) (λ text. Gives (complex_file name text))) (fetch_give fit_limits tetgen_limits told folder folder e e name)
      (λ bytes held. and_then_give (TextAnswer name (surface_text_of form bytes)) (TextAnswer name (plc_text_of form bytes)) (λ text. Gives (complex_file name text)) (λ text. Gives (complex_file name text))
      (λ a b h k. text_value a b (sym h ∙ wider bytes b held k)) (λ text read. gives_give (complex_file name text)))

  surface_give : (base : List ℕ) (form : Extension) → (form ≡ Off) ⊎ (form ≡ Stl) → (form ≡ Stl → IsText folder base) → GiveSame (SurfaceAnswer fit_limits folder (file_name base form) form) (FormAnswer tetgen_limits folder base form)
  surface_give base form (inl off) text =
      subst (λ x. GiveSame (SurfaceAnswer fit_limits folder (file_name base x) x) (FormAnswer tetgen_limits folder base x)) (sym off)
      (surface_give_by base Off (λ bytes t held h. off_wider (line_count_of bytes) (content_lines bytes) t h))
  surface_give base form (inr stl) text =
      subst (λ x. GiveSame (SurfaceAnswer fit_limits folder (file_name base x) x) (FormAnswer tetgen_limits folder base x)) (sym stl)
      (surface_give_by base Stl (λ bytes t held h. text_wider bytes t (is_binary_stl bytes) (text stl bytes held.0) h))

  -- a surface that both read
  source_of : (base : List ℕ) (form : Extension) (input : Input) → (form ≡ Off) ⊎ (form ≡ Stl) → AndThen (SourceAnswer tetgen_limits folder base (Some form) None) (BehindFile tetgen_limits folder base) (Ok input)
      → AndThen (FormAnswer tetgen_limits folder base form) (BehindFile tetgen_limits folder base) (Ok input)
  source_of base form input (inl off) =
      subst (λ x. AndThen (SourceAnswer tetgen_limits folder base (Some x) None) (BehindFile tetgen_limits folder base) (Ok input) → AndThen (FormAnswer tetgen_limits folder base x) (BehindFile tetgen_limits folder base) (Ok input)) (sym off) (λ h. h)
  source_of base form input (inr stl) =
      subst (λ x. AndThen (SourceAnswer tetgen_limits folder base (Some x) None) (BehindFile tetgen_limits folder base) (Ok input) → AndThen (FormAnswer tetgen_limits folder base x) (BehindFile tetgen_limits folder base) (Ok input)) (sym stl) (λ h. h)

  input_of_surface : (options : Options) (form : Extension) → options.sample ≡ None → (options.extension ≡ Some Stl → IsText folder options.base)
      → (options.piecewise ≡ true) × (options.extension ≡ Some form) × ((form ≡ Off) ⊎ (form ≡ Stl)) → GiveSame (SurfaceInputAnswer fit_limits folder (file_name options.base form) options.base form) (InputAnswer tetgen_limits folder options)
  input_of_surface options form unsampled text known a b h k =
      let base = options.base in
      let whole = subst (λ (piecewise : Bool). InputOf tetgen_limits piecewise folder options (Ok b)) known.0 k in
      let kept = subst (λ (sample : Option ℕ). AndThen (SourceAnswer tetgen_limits folder base options.extension sample) (BehindFile tetgen_limits folder base) (Ok b)) unsampled whole in
      let named = subst (λ (extension : Option Extension). AndThen (SourceAnswer tetgen_limits folder base extension None) (BehindFile tetgen_limits folder base) (Ok b)) known.1 kept in
      and_then_give (SurfaceAnswer fit_limits folder (file_name base form) form) (FormAnswer tetgen_limits folder base form) (BehindFile fit_limits folder base) (BehindFile tetgen_limits folder base)
      (surface_give base form known.2 (λ stl. text (known.1 ∙ ap (λ (x : Extension). Some x) stl))) (λ file read. whole_give fit_limits tetgen_limits told folder folder e e base file) a b h
      (source_of base form b known.2 named)

  read_by : (name : List ℕ) (options : Options) → options.sample ≡ None → (options.extension ≡ Some Stl → IsText folder options.base) → IsSmall name options → (named : Option Extension)
      → named_surface options ≡ named → GiveSame (ModelBy named fit_limits folder name options) (InputAnswer tetgen_limits folder options)
  read_by name options unsampled text small None is = input_give fit_limits tetgen_limits told folder folder e e options
  read_by name options unsampled text small (Some form) is =
      subst (λ (n : List ℕ). GiveSame (SurfaceInputAnswer fit_limits folder n options.base form) (InputAnswer tetgen_limits folder options)) (sym (small form is))
      (input_of_surface options form unsampled text (surface_of options.piecewise options.extension form is))

  -- what `tetfit` and `tetgen` read of one model
  read_give : (name : List ℕ) (options : Options) → options.sample ≡ None → (options.extension ≡ Some Stl → IsText folder options.base) → IsSmall name options
      → GiveSame (ReadAnswer fit_limits folder name options) (InputAnswer tetgen_limits folder options)
  read_give name options unsampled text small = read_by name options unsampled text small (named_surface options) refl

-- nothing is moved where there is no origin
unmoved : (input : Input) → origin_in input ≡ None → moved_model input ≡ input
unmoved input e = ap (λ (o : Option WholePoint). record input { complex = complex_from o (most_tried input) input.complex }) e

unmeasured : (options : Options) (input : Input) → options.origin ≡ None → tried options input ≡ input
unmeasured options input e = ap (λ (o : Option WholePoint). tried (record options { origin = o }) input) e

-- the model as it is tried is the one that is read
tried_read : (words : List (List ℕ)) (folder : FolderSeen) (options : Options) (input at : Input) → (fit_options words).unit ≡ None → options.origin ≡ None → IsTriedOf options words folder input at
    → (read : Input) × ReadAnswer fit_limits folder (fit_name words) (fit_options words) (Ok read) × (at ≡ read)
tried_read words folder options input at unitless e ((read, named, moved_in), origin, is) =
    let moved : input ≡ moved_model read = moved_in ∙ ap (λ (u : Option Scaled). moved_model (in_unit u read)) unitless in
    let still : origin_in read ≡ None = sym (ap origin_in moved) ∙ sym origin ∙ e in
    (read, named, is ∙ unmeasured options input e ∙ moved ∙ unmoved read still)

-- no line tells of a unit where there is none
line_without : (options : Options) (n : ℕ) (ps : List DecimalPoint) → options.unit ≡ None → moved_text options n ps ≡ decimals_moved n ps
line_without options n ps e = ap (λ (u : Option Scaled). option_map_or unit_moved u [] ++ decimals_moved n ps) e

-- ---- the grid

grid_decimals : (wide halvings : ℕ) (ps : List DecimalPoint) (g : Grid) → grid_of wide halvings ps ≡ Ok g → most_decimals ps ≡ g.decimals
unfolding grid_of
grid_decimals wide halvings ps g is = ap (λ (h : Grid). h.decimals) (none_over (first_over wide (most_decimals ps) ps) _ g is).1

-- the points of one text, rounded alike, on grids that are halved as often
tables_same : (limits limits' : Limits) (options other : GridOptions) (text : NodeText) (t u : NodeTable) → options.decimals ≡ other.decimals → t.grid.halvings ≡ u.grid.halvings
    → IsSettled limits text options t → IsSettled limits' text other u → t ≡ u
tables_same limits limits' options other text t u rounded halved a b =
    let ps = rounded_points options.decimals text.decimals in
    let qs = rounded_points other.decimals text.decimals in
    let points : ps ≡ qs = ap (λ (d : Option ℕ). rounded_points d text.decimals) rounded in
    let decimals : t.grid.decimals ≡ u.grid.decimals =
    sym (grid_decimals limits.grid options.halvings ps t.grid a.on.on) ∙ ap most_decimals points ∙ grid_decimals limits'.grid other.halvings qs u.grid b.on.on in
    let g : t.grid ≡ u.grid = λ i. record { decimals = decimals i; halvings = halved i } in
    let listed : t.listed ≡ u.listed =
    ap (λ (v : NodeTable). v.listed) a.is ∙ (λ i. map (grid_point (g i)) (points i)) ∙ sym (ap (λ (v : NodeTable). v.listed) b.is) in
    let one = folded_once t.listed t.points u.points t.names u.names t.folded u.folded a.folded (subst (λ ls. IsFolded ls u.points u.names u.folded) (sym listed) b.folded) in
    let same : with_text text ps t ≡ with_text text qs u = λ i. record {
      first = text.first;
      attribute_count = text.attribute_count;
      flag = text.flag;
      decimals = points i;
      attributes = text.attributes;
      markers = text.markers;
      grid = g i;
      listed = map (grid_point (g i)) (points i);
      points = one.0 i;
      names = one.1 i;
      folded = one.2 i;
    } in
    a.is ∙ same ∙ sym b.is

bounds_same : (limits limits' : Limits) (options other : Options) (input : Input) (t u : Bound) → options.decimals ≡ other.decimals → t.table.grid.halvings ≡ u.table.grid.halvings
    → BoundAnswer limits options input (Ok t) → BoundAnswer limits' other input (Ok u) → t ≡ u
bounds_same limits limits' options other input t u rounded halved a b =
    let tables = tables_same limits limits' (grid_options options) (grid_options other) input.nodes t.table u.table rounded halved a.0 b.0 in
    let complexes = a.1.is ∙ ap (λ (table : NodeTable). folded_complex table.folded (complex_of input.nodes.first table.grid input.complex)) tables ∙ sym b.1.is in
    λ i. record { table = tables i; complex = complexes i }

-- ---- the halvings that options allow, of which reading, meshing and writing know nothing

module _ (halvings : ℕ) (options : Options) where
  input_by : (piecewise : Bool) (limits : Limits) (folder : FolderSeen) (input : Input) → InputOf limits piecewise folder options (Ok input) → InputOf limits piecewise folder (with_halvings halvings options) (Ok input)
  input_by false limits folder input h = h
  input_by true limits folder input h = h

  input_halved : (limits : Limits) (folder : FolderSeen) (input : Input) → InputAnswer limits folder options (Ok input) → InputAnswer limits folder (with_halvings halvings options) (Ok input)
  input_halved limits folder input h = input_by options.piecewise limits folder input h

  points_by : (weighted : Bool) (bound : Bound) (mesh : Meshed) → PointsMeshOf weighted (with_halvings halvings options) bound (Ok mesh) → PointsMeshOf weighted options bound (Ok mesh)
  points_by false bound mesh h = h
  points_by true bound mesh h = h

  mesh_by : (piecewise : Bool) (bound : Bound) (mesh : Meshed) → MeshOf piecewise (with_halvings halvings options) bound (Ok mesh) → MeshOf piecewise options bound (Ok mesh)
  mesh_by false bound mesh h = points_by options.weighted bound mesh h
  mesh_by true bound mesh h = h

  mesh_unhalved : (bound : Bound) (mesh : Meshed) → MeshAnswer (with_halvings halvings options) bound (Ok mesh) → MeshAnswer options bound (Ok mesh)
  mesh_unhalved bound mesh h = mesh_by options.piecewise bound mesh h

  first_unhalved : (mesh : Meshed) (outputs : Outputs) → AreFirstOutputsOf (with_halvings halvings options) mesh outputs → AreFirstOutputsOf options mesh outputs
  first_unhalved mesh outputs h = record {
    marked = h.marked;
    marked_are = h.marked_are;
    faces = h.faces;
    faces_are = h.faces_are;
    sides = h.sides;
    sides_are = h.sides_are;
    node_is = h.node_is;
    ele_is = h.ele_is;
    face_is = h.face_is;
    edge_is = h.edge_is;
    neigh_is = h.neigh_is;
    whole_is = h.whole_is;
    report_is = h.report_is;
    count_is = h.count_is;
  }

  second_unhalved : (mesh : Meshed) (outputs : Outputs) → AreSecondOutputsOf (with_halvings halvings options) mesh outputs → AreSecondOutputsOf options mesh outputs
  second_unhalved mesh outputs h = record {
    marked = h.marked;
    marked_are = h.marked_are;
    faces = h.faces;
    faces_are = h.faces_are;
    sides = h.sides;
    sides_are = h.sides_are;
    texts_are = h.texts_are;
    report_is = h.report_is;
    count_is = h.count_is;
  }

  outputs_by : (second_order : Bool) (mesh : Meshed) (outputs : Outputs) → AreOutputsIn second_order (with_halvings halvings options) mesh outputs → AreOutputsIn second_order options mesh outputs
  outputs_by false mesh outputs h = first_unhalved mesh outputs h
  outputs_by true mesh outputs h = second_unhalved mesh outputs h

  outputs_unhalved : (mesh : Meshed) (outputs : Outputs) → AreOutputsOf (with_halvings halvings options) mesh outputs → AreOutputsOf options mesh outputs
  outputs_unhalved mesh outputs h = outputs_by (is_second_order options mesh) mesh outputs h

-- the options of `tetfit` without an origin and decimals are not changed where files are read
input_plain : (piecewise : Bool) (limits : Limits) (folder : FolderSeen) (words : List (List ℕ)) (decimals : ℕ) (input : Input) → InputOf limits piecewise folder (at_decimals decimals (options_from None words)) (Ok input)
    → InputOf limits piecewise folder (fit_options words) (Ok input)
input_plain false limits folder words decimals input h = h
input_plain true limits folder words decimals input h = h

-- ---- the run

module _ (words of_tetgen : List (List ℕ)) (told : Files) (folder : FolderSeen) (outputs : Outputs) (run : IsMeshOfModel words folder outputs) (files : folder.files_before ≡ Some told)
    (alike : IsAskedAlike words of_tetgen folder outputs run) where
  -- the options of the two runs
  same_options : at_decimals run.decimals (options_from run.origin words) ≡ with_halvings (fit_options words).halvings (options_of of_tetgen)
  same_options = ap (λ (o : Option WholePoint). at_decimals run.decimals (options_from o words)) alike.unmeasured ∙ alike.options

  -- they have no unit
  unitless : (fit_options words).unit ≡ None
  unitless = ap (λ (o : Options). o.unit) alike.options

  same_input : run.mesh.input ≡ alike.input
  same_input =
      let own = tried_read words folder (at_decimals run.decimals (options_from run.origin words)) run.mesh.read.0 run.mesh.input unitless alike.unmeasured run.mesh.read.1 in
      let halved = input_halved (fit_options words).halvings (options_of of_tetgen) tetgen_limits folder alike.input alike.read in
      let asked = subst (λ (o : Options). InputAnswer tetgen_limits folder o (Ok alike.input)) (sym alike.options) halved in
      let plain : InputAnswer tetgen_limits folder (fit_options words) (Ok alike.input) = input_plain (fit_options words).piecewise tetgen_limits folder words run.decimals alike.input asked in
      own.2 ∙ read_give told folder files (fit_name words) (fit_options words) (no_sample words run.mesh.understood) (λ stl bytes held. alike.text bytes stl held) alike.named own.0 alike.input own.1 plain

  same_bound : alike.bound ≡ run.mesh.bound
  same_bound =
      let rounded : (options_of of_tetgen).decimals ≡ Some run.decimals = sym (ap (λ (o : Options). o.decimals) alike.options) in
      bounds_same tetgen_limits fit_limits (options_of of_tetgen) (at_decimals run.decimals (options_from run.origin words)) alike.input alike.bound run.mesh.bound rounded alike.halved alike.on_grid
      (subst (λ (i : Input). BoundAnswer fit_limits (at_decimals run.decimals (options_from run.origin words)) i (Ok run.mesh.bound)) same_input run.mesh.on_grid)

  answer : OutputsOfRun tetgen_limits of_tetgen folder (Ok run.made)
  answer =
      let made : MeshAnswer (options_of of_tetgen) run.mesh.bound (Ok run.mesh.mesh) =
      mesh_unhalved (fit_options words).halvings (options_of of_tetgen) run.mesh.bound run.mesh.mesh (subst (λ (o : Options). MeshAnswer o run.mesh.bound (Ok run.mesh.mesh)) same_options run.mesh.made) in
      let are : AreOutputsOf (options_of of_tetgen) run.mesh.mesh run.made =
      outputs_unhalved (fit_options words).halvings (options_of of_tetgen) run.mesh.mesh run.made (subst (λ (o : Options). AreOutputsOf o run.mesh.mesh run.made) same_options run.mesh.outputs_are) in (
        options_of of_tetgen,
        (alike.understood, refl),
        (alike.input, alike.read, (alike.bound, alike.on_grid, (run.mesh.mesh, subst (λ (b : Bound). MeshAnswer (options_of of_tetgen) b (Ok run.mesh.mesh)) (sym same_bound) made, are))),
      )

  -- the model is measured from nowhere, and so tried as it is read
  same_model : run.mesh.read.0 ≡ alike.input
  same_model = sym (unmeasured (at_decimals run.decimals (options_from run.origin words)) run.mesh.read.0 alike.unmeasured) ∙ sym run.mesh.read.1.2 ∙ same_input

  -- no bounds on tetrahedra are given
  unbounded : (run.final_decimals ≡ run.decimals) × (run.final ≡ run.made)
  unbounded =
      subst (λ goal. IsFinalMesh goal (options_from run.origin words) words folder run.decimals run.made run.final_decimals run.final) alike.unbounded run.refined

  same_outputs : outputs ≡ outputs_at run.decimals (decimals_moved run.decimals alike.input.nodes.decimals) run.made
  same_outputs =
      let line : run.more ≡ decimals_moved run.decimals alike.input.nodes.decimals =
      run.mesh.read.3 ∙ line_without (options_from run.origin words) run.final_decimals run.mesh.read.0.nodes.decimals unitless
      ∙ ap (λ (n : ℕ). decimals_moved n run.mesh.read.0.nodes.decimals) unbounded.0 ∙ ap (λ (i : Input). decimals_moved run.decimals i.nodes.decimals) same_model in
      run.outputs_are ∙ ap (λ (n : ℕ). outputs_at n run.more run.final) unbounded.0 ∙ ap (λ (o : Outputs). outputs_at run.decimals run.more o) unbounded.1
      ∙ ap (λ (more : List ℕ). outputs_at run.decimals more run.made) line

pub fit_as_tetgen : FitAsTetgenLaw
fit_as_tetgen words of_tetgen told folder outputs run files alike =
    let made = answer words of_tetgen told folder outputs run files alike in record {
      made = run.made;
      answer = made;
      outputs_are = same_outputs words of_tetgen told folder outputs run files alike;
      only = λ other h. one_run of_tetgen told folder folder other run.made files files h made;
    }
