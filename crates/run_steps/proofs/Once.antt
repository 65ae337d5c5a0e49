-- Each step of a run answers in one way at most, where the files are told and no fault rose.
use Rattle.std.proofs.Common.{◌≡◌, ◌≤◌, ◌<◌, ℕ, Bool, true, false, List, [], length, Option, Some, None, Result, Ok, Err, refl, sym, ap, subst, ◌∙◌, arith}
use Rattle.std.specs.FinMap as map_of
use Rattle.std.specs.Prelude.{◌≢◌, map}
use Rattle.command_words.specs.Grammar.{words_fault}
use Rattle.command_words.specs.Names.{file_name}
use Rattle.command_words.specs.declared.options.Extension.{Extension}
use Rattle.command_words.specs.declared.options.Extension.TheVariants.{Node, Poly, Smesh, Off, Stl}
use Rattle.command_words.specs.declared.options.Options.{Options}
use Rattle.complex_mesh.proofs.OneAnswer.{law_one_fault, law_no_fault}
use Rattle.complex_mesh.specs.OneAnswer.{IsForcing}
use Rattle.complex_mesh.specs.declared.fault.MeshFault.{MeshFault}
use Rattle.complex_mesh.specs.declared.fault.MeshFault.TheVariants as mesh_faults
use Rattle.geo_laws.specs.Delaunay.{AreCoplanar}
use Rattle.grid_coords.specs.Units.{grid_point}
use Rattle.grid_coords.specs.declared.grid.Grid.{Grid}
use Rattle.grid_coords.specs.declared.grid.Range.{Range}
use Rattle.node_files.specs.Settling.{IsSettled, IsTooMany, IsOffGrid, rounded_points, with_text}
use Rattle.node_files.proofs.Folds.{folded_once}
use Rattle.node_files.specs.Folding.{IsFolded}
use Rattle.node_files.specs.declared.limits.Limits.{Limits}
use Rattle.node_files.specs.declared.node_text.NodeText.{NodeText}
use Rattle.node_files.specs.declared.table.NodeTable.{NodeTable}
use Rattle.plc_files.specs.Binding.{HasManyFacets, HasLongPolygon, complex_of}
use Rattle.plc_files.specs.Checks.{corners_check}
use Rattle.plc_files.specs.Folding.{folded_complex}
use Rattle.plc_files.specs.Sample.{sample_of}
use Rattle.plc_files.specs.declared.fault.PlcFault.{PlcFault}
use Rattle.plc_files.specs.declared.fault.PlcFault.TheVariants as plc_faults
use Rattle.tet_ports.specs.Counts.{Rose}
use Rattle.tet_ports.specs.Files.{Files}
use Rattle.tet_text.specs.declared.fault.TextFault.{TextFault}
use Rattle.run_steps.specs.Faults.{status_of_fault, status_of_weights}
use Rattle.run_steps.specs.Meshing.{grid_options, mesh_options, IsSmall, IsBoundOn, BoundAnswer, IsFlatRefusal, PointsMeshOf, MeshOf, MeshAnswer, OutputsAnswer, MeshedAnswer, OutputsOfRun}
use Rattle.run_steps.specs.Reading.{complex_file, points_alone, on_points, node_text_of, plc_text_of, IsUsage, WordsAnswer, FetchAnswer, IsBadText, TextAnswer, PointsAnswer, FormAnswer, ComplexFileAnswer, SourceAnswer, NodesAnswer, BoundedAnswer, InputOf, InputAnswer}
use Rattle.tet_ports.specs.Seen.{FolderSeen}
use Rattle.run_steps.specs.Steps.{AndThen, IfMissing, Gives, forced_answer}
use Rattle.run_steps.specs.declared.input.ComplexFile.{ComplexFile}
use Rattle.run_steps.specs.declared.input.Input.{Input}
use Rattle.run_steps.specs.declared.mesh.Bound.{Bound}
use Rattle.run_steps.specs.declared.status.LimitKind.TheVariants.{Bytes as TooLong, Points, Facets, Corners, Grid as OnGrid}
use Rattle.run_steps.specs.declared.status.Status.{Status}
use Rattle.run_steps.specs.declared.status.Status.TheVariants.{Done, Usage, Missing, ReadFault, BadText, Limit, Flat, NoMemory}
use Rattle.weighted_mesh.proofs.Answering.{one_answer_law}
use Rattle.weighted_mesh.specs.declared.regular_fault.RegularFault.{RegularFault}
use Rattle.weighted_mesh.specs.declared.regular_fault.RegularFault.TheVariants as regular_faults
use Rattle.weighted_mesh.specs.declared.of_table.RegularMesh.{RegularMesh}
use Rattle.run_steps.proofs.Steps.{IsDecided, IsOnce, IsSame, gives_once, if_missing_once, and_then_once, and_then_same, and_then_sure}

-- ---- the words

some_same : {A : Type 0} (a b : A) → Some a ≡ Some b → a ≡ b
some_same a b e = cc

usage_is : (words : List (List ℕ)) (s : Status) → s ≢ NoMemory → IsUsage words s → (p : ℕ × ℕ) × (words_fault words ≡ Some p) × (s ≡ Usage p.0 p.1)
usage_is words (Usage word place) n h = ((word, place), h, refl)
usage_is words NoMemory n h = absurd (n refl)
usage_is words s n h = absurd h

pub words_once : (words : List (List ℕ)) → IsOnce (WordsAnswer words)
words_once words (Ok o) (Ok q) n m h k = ap (λ x. Ok x) (h.1 ∙ sym k.1)
words_once words (Ok o) (Err t) n m h k = let u = usage_is words t m k in let e = u.1 in let f = h.0 in absurd (cc)
words_once words (Err s) (Ok q) n m h k = let u = usage_is words s n h in let e = u.1 in let f = k.0 in absurd (cc)
words_once words (Err s) (Err t) n m h k =
    let u = usage_is words s n h in
    let v = usage_is words t m k in
    ap (λ x. Err x) (u.2 ∙ ap (λ p. Usage p.0 p.1) (some_same u.0 v.0 (sym u.1 ∙ v.1)) ∙ sym v.2)

-- ---- the files

-- what a fetch from told files answers
data FetchCase (limits : Limits) (told : Files) (name : List ℕ) (r : Result (List ℕ) Status) : Type 0 where
  found : (bytes : List ℕ) → map_of.get told name ≡ Some bytes → length bytes ≤ limits.bytes → r ≡ Ok bytes → FetchCase limits told name r
  absent : map_of.get told name ≡ None → r ≡ Err (Missing name) → FetchCase limits told name r
  long : (bytes : List ℕ) → map_of.get told name ≡ Some bytes → limits.bytes < length bytes → r ≡ Err (Limit (TooLong name limits.bytes)) → FetchCase limits told name r

fetch_case : (limits : Limits) (told : Files) (seen : FolderSeen) (name : List ℕ) (r : Result (List ℕ) Status) → ¬ Rose seen.read_faults_before seen.read_faults_now → IsDecided r
    → FetchAnswer limits (record seen { files_before = Some told }) name r → FetchCase limits told name r
fetch_case limits told seen name (Ok bytes) f n h = found bytes h.0 h.1 refl
fetch_case limits told seen name (Err (Missing missing)) f n h = absent h.1 (ap (λ x. Err (Missing x)) h.0)
fetch_case limits told seen name (Err (ReadFault failed)) f n h = absurd (f h.1)
fetch_case limits told seen name (Err (Limit (TooLong large most))) f n h = long h.1.0 h.1.1 h.1.2 (ap (λ x. Err (Limit (TooLong x most))) h.0 ∙ ap (λ x. Err (Limit (TooLong name x))) h.2)
fetch_case limits told seen name (Err NoMemory) f n h = absurd (n refl)
fetch_case limits told seen name (Err s) f n h = absurd h

fetch_same : (limits : Limits) (told : Files) (name : List ℕ) (r s : Result (List ℕ) Status) → FetchCase limits told name r → FetchCase limits told name s → r ≡ s
fetch_same limits told name r s (found b e l h) (found c f m k) = h ∙ ap (λ x. Ok x) (some_same b c (sym e ∙ f)) ∙ sym k
fetch_same limits told name r s (found b e l h) (absent f k) = absurd (cc)
fetch_same limits told name r s (found b e l h) (long c f m k) = let same = ap (λ (x : List ℕ). length x) (some_same b c (sym e ∙ f)) in absurd (omega (arith, same))
fetch_same limits told name r s (absent e h) (found c f m k) = absurd (cc)
fetch_same limits told name r s (absent e h) (absent f k) = h ∙ sym k
fetch_same limits told name r s (absent e h) (long c f m k) = absurd (cc)
fetch_same limits told name r s (long b e l h) (found c f m k) = let same = ap (λ (x : List ℕ). length x) (some_same b c (sym e ∙ f)) in absurd (omega (arith, same))
fetch_same limits told name r s (long b e l h) (absent f k) = absurd (cc)
fetch_same limits told name r s (long b e l h) (long c f m k) = h ∙ sym k

pub fetch_once : (limits : Limits) (told : Files) (seen : FolderSeen) (name : List ℕ) → seen.files_before ≡ Some told → ¬ Rose seen.read_faults_before seen.read_faults_now → IsOnce (FetchAnswer limits seen name)
fetch_once limits told seen name e f = subst (λ files. IsOnce (FetchAnswer limits (record seen { files_before = files }) name)) (sym e)
    (λ r s n m h k. fetch_same limits told name r s (fetch_case limits told seen name r f n h) (fetch_case limits told seen name s f m k))

-- ---- the texts

bad_text_is : {A : Type 0} (name : List ℕ) (reading : Result A TextFault) (s : Status) → s ≢ NoMemory → IsBadText name reading s
    → (fault : TextFault) × (reading ≡ Err fault) × (s ≡ BadText name fault)
bad_text_is name reading (BadText bad fault) n h = (fault, h.1, ap (λ x. BadText x fault) h.0)
bad_text_is name reading NoMemory n h = absurd (n refl)
bad_text_is name reading s n h = absurd h

abbrev unread : (A : Type 0) → TextFault → Result A TextFault
unread A fault = Err fault

fault_same : (A : Type 0) (f g : TextFault) → unread A f ≡ unread A g → f ≡ g
fault_same A f g e = cc

pub text_once : {A : Type 0} (name : List ℕ) (reading : Result A TextFault) → IsOnce (TextAnswer name reading)
text_once name reading (Ok a) (Ok b) n m h k = cc
text_once name reading (Ok a) (Err t) n m h k = let v = bad_text_is name reading t m k in let e = v.1 in absurd (cc)
text_once name reading (Err s) (Ok b) n m h k = let u = bad_text_is name reading s n h in let e = u.1 in absurd (cc)
text_once {A = A} name reading (Err s) (Err t) n m h k =
    let u = bad_text_is name reading s n h in
    let v = bad_text_is name reading t m k in
    ap (λ x. Err x) (u.2 ∙ ap (λ f. BadText name f) (fault_same A u.0 v.0 (sym u.1 ∙ v.1)) ∙ sym v.2)

-- ---- the input

-- the files are told, and no fault rose
pub record IsTold (told : Files) (seen : FolderSeen) : Type 0 where
  pub files : seen.files_before ≡ Some told
  pub no_fault : ¬ Rose seen.read_faults_before seen.read_faults_now

points_once : (limits : Limits) (told : Files) (seen : FolderSeen) (base : List ℕ) → IsTold told seen → IsOnce (PointsAnswer limits seen base)
points_once limits told seen base h =
    let name = file_name base Node in
    and_then_once (FetchAnswer limits seen name) (λ bytes. TextAnswer name (node_text_of bytes)) (fetch_once limits told seen name h.files h.no_fault) (λ bytes. text_once name (node_text_of bytes))

form_once : (limits : Limits) (told : Files) (seen : FolderSeen) (base : List ℕ) (extension : Extension) → IsTold told seen → IsOnce (FormAnswer limits seen base extension)
form_once limits told seen base extension h =
    let name = file_name base extension in
    and_then_once (FetchAnswer limits seen name) (λ bytes. AndThen (TextAnswer name (plc_text_of extension bytes)) (λ text. Gives (complex_file name text)))
    (fetch_once limits told seen name h.files h.no_fault)
    (λ bytes. and_then_once (TextAnswer name (plc_text_of extension bytes)) (λ text. Gives (complex_file name text)) (text_once name (plc_text_of extension bytes)) (λ text. gives_once (complex_file name text)))

bare_once : (limits : Limits) (told : Files) (seen : FolderSeen) (base : List ℕ) → IsTold told seen → IsOnce (IfMissing (FormAnswer limits seen base Poly) (FormAnswer limits seen base Smesh))
bare_once limits told seen base h = if_missing_once (FormAnswer limits seen base Poly) (FormAnswer limits seen base Smesh) (form_once limits told seen base Poly h) (form_once limits told seen base Smesh h)

complex_file_once : (limits : Limits) (told : Files) (seen : FolderSeen) (base : List ℕ) (extension : Option Extension) → IsTold told seen → IsOnce (ComplexFileAnswer limits seen base extension)
complex_file_once limits told seen base (Some Smesh) h = form_once limits told seen base Smesh h
complex_file_once limits told seen base (Some Poly) h = form_once limits told seen base Poly h
complex_file_once limits told seen base (Some Off) h = form_once limits told seen base Off h
complex_file_once limits told seen base (Some Stl) h = form_once limits told seen base Stl h
complex_file_once limits told seen base (Some Node) h = bare_once limits told seen base h
complex_file_once limits told seen base None h = bare_once limits told seen base h

source_once : (limits : Limits) (told : Files) (seen : FolderSeen) (base : List ℕ) (extension : Option Extension) (sample : Option ℕ) → IsTold told seen → IsOnce (SourceAnswer limits seen base extension sample)
source_once limits told seen base extension (Some n) h = gives_once (complex_file [] (sample_of n))
source_once limits told seen base extension None h = complex_file_once limits told seen base extension h

pub nodes_once : (limits : Limits) (told : Files) (seen : FolderSeen) (base : List ℕ) (own : Option NodeText) → IsTold told seen → IsOnce (NodesAnswer limits seen base own)
nodes_once limits told seen base (Some nodes) h = gives_once nodes
nodes_once limits told seen base None h = points_once limits told seen base h

pub bounded_once : (file : ComplexFile) (nodes : NodeText) → IsOnce (BoundedAnswer file nodes)
bounded_once file nodes =
    let input = on_points file nodes in
    and_then_once (TextAnswer file.name (corners_check nodes.first (length nodes.decimals) file.text)) (λ checked. Gives input)
    (text_once file.name (corners_check nodes.first (length nodes.decimals) file.text)) (λ checked. gives_once input)

input_of_once : (limits : Limits) (told : Files) (seen : FolderSeen) (options : Options) (piecewise : Bool) → IsTold told seen → IsOnce (InputOf limits piecewise seen options)
input_of_once limits told seen options false h =
    and_then_once (PointsAnswer limits seen options.base) (λ nodes. Gives (points_alone nodes)) (points_once limits told seen options.base h) (λ nodes. gives_once (points_alone nodes))
input_of_once limits told seen options true h =
    and_then_once (SourceAnswer limits seen options.base options.extension options.sample) (λ file. AndThen (NodesAnswer limits seen options.base file.text.nodes) (BoundedAnswer file))
    (source_once limits told seen options.base options.extension options.sample h)
    (λ file. and_then_once (NodesAnswer limits seen options.base file.text.nodes) (BoundedAnswer file) (nodes_once limits told seen options.base file.text.nodes h) (bounded_once file))

pub input_once : (limits : Limits) (told : Files) (seen : FolderSeen) (options : Options) → IsTold told seen → IsOnce (InputAnswer limits seen options)
input_once limits told seen options h = input_of_once limits told seen options options.piecewise h

-- ---- the grid

-- what the binding of an input answers
data BoundCase (limits : Limits) (options : Options) (input : Input) (r : Result Bound Status) : Type 0 where
  fits : (bound : Bound) → IsSettled limits input.nodes (grid_options options) bound.table → IsBoundOn limits input.complex input.nodes.first bound.table bound.complex → r ≡ Ok bound → BoundCase limits options input r
  many : (count most : ℕ) → IsTooMany limits input.nodes count most → r ≡ Err (Limit (Points count most)) → BoundCase limits options input r
  facets : (count most : ℕ) → length input.nodes.decimals ≤ limits.points → HasManyFacets limits input.complex count most → r ≡ Err (Limit (Facets count most)) → BoundCase limits options input r
  corners : (line count most : ℕ) → length input.nodes.decimals ≤ limits.points → HasLongPolygon limits input.complex line count most → r ≡ Err (Limit (Corners line count most)) → BoundCase limits options input r
  off : (line : ℕ) → IsSmall limits input.complex → IsOffGrid limits input.nodes (grid_options options) line → r ≡ Err (Limit (OnGrid line)) → BoundCase limits options input r

bound_case : (limits : Limits) (options : Options) (input : Input) (r : Result Bound Status) → IsDecided r → BoundAnswer limits options input r → BoundCase limits options input r
bound_case limits options input (Ok bound) n h = fits bound h.0 h.1 refl
bound_case limits options input (Err (Limit (Points count most))) n h = many count most h refl
bound_case limits options input (Err (Limit (Facets count most))) n h = facets count most h.0 h.1 refl
bound_case limits options input (Err (Limit (Corners line count most))) n h = corners line count most h.0 h.1 refl
bound_case limits options input (Err (Limit (OnGrid line))) n h = off line h.0 h.1 refl
bound_case limits options input (Err NoMemory) n h = absurd (n refl)
bound_case limits options input (Err s) n h = absurd h

abbrev off_at : ℕ → Result Grid Range
off_at line = Err (record { line = line })

abbrev on_grid : Grid → Result Grid Range
on_grid g = Ok g

abbrev long_at : ℕ → ℕ → ℕ → Result (Unit {0}) PlcFault
long_at line count most = Err (plc_faults.Corners line count most)

abbrev corners_refused : ℕ → ℕ → ℕ → Result Bound Status
corners_refused line count most = Err (Limit (Corners line count most))

abbrev line_of : Result Grid Range → ℕ
line_of (Ok g) = 0
line_of (Err range) = range.line

off_same : (line other : ℕ) → off_at line ≡ off_at other → line ≡ other
off_same line other e = ap line_of e

grid_same : (g h : Grid) → on_grid g ≡ on_grid h → g ≡ h
grid_same g h e = cc

-- the points of a text are folded on their grid in one way
tables_same : (limits : Limits) (options : Options) (text : NodeText) (t u : NodeTable) → IsSettled limits text (grid_options options) t → IsSettled limits text (grid_options options) u → t ≡ u
tables_same limits options text t u a b =
    let ps = rounded_points options.decimals text.decimals in
    let g = grid_same t.grid u.grid (sym a.on.on ∙ b.on.on) in
    let listed : t.listed ≡ u.listed = ap (λ (v : NodeTable). v.listed) a.is ∙ ap (λ (grid : Grid). map (grid_point grid) ps) g ∙ sym (ap (λ (v : NodeTable). v.listed) b.is) in
    let one = folded_once t.listed t.points u.points t.names u.names t.folded u.folded a.folded (subst (λ ls. IsFolded ls u.points u.names u.folded) (sym listed) b.folded) in
    let same : with_text text ps t ≡ with_text text ps u = λ i. record {
      first = text.first;
      attribute_count = text.attribute_count;
      flag = text.flag;
      decimals = ps;
      attributes = text.attributes;
      markers = text.markers;
      grid = g i;
      listed = map (grid_point (g i)) ps;
      points = one.0 i;
      names = one.1 i;
      folded = one.2 i;
    } in
    a.is ∙ same ∙ sym b.is

corners_same : (i j m k l n : ℕ) → long_at i j m ≡ long_at k l n → corners_refused i j m ≡ corners_refused k l n
corners_same i j m k l n e = cc

bounds_same : (limits : Limits) (options : Options) (input : Input) (t u : Bound) → IsSettled limits input.nodes (grid_options options) t.table → IsSettled limits input.nodes (grid_options options) u.table
    → IsBoundOn limits input.complex input.nodes.first t.table t.complex → IsBoundOn limits input.complex input.nodes.first u.table u.complex → t ≡ u
bounds_same limits options input t u a b p q =
    let tables = tables_same limits options input.nodes t.table u.table a b in
    let complexes = p.is ∙ ap (λ (table : NodeTable). folded_complex table.folded (complex_of input.nodes.first table.grid input.complex)) tables ∙ sym q.is in
    λ i. record { table = tables i; complex = complexes i }

bound_same : (limits : Limits) (options : Options) (input : Input) (r s : Result Bound Status) → BoundCase limits options input r → BoundCase limits options input s → r ≡ s
bound_same limits options input r s (fits t a p e) (fits u b q h) = e ∙ ap (λ x. Ok x) (bounds_same limits options input t u a b p q) ∙ sym h
bound_same limits options input r s (fits t a p e) (many d w b h) = let v = a.on.few in let y = b.many in absurd (omega arith)
bound_same limits options input r s (fits t a p e) (facets d w g b h) = let v = b.many in let y = p.small.few in absurd (omega arith)
bound_same limits options input r s (fits t a p e) (corners m d w g b h) = let v = b.long in let y = p.small.short in absurd (cc)
bound_same limits options input r s (fits t a p e) (off m u b h) = let v = a.on.on in let y = b.off in absurd (cc)
bound_same limits options input r s (many c o a e) (fits u b q h) = let v = a.many in let y = b.on.few in absurd (omega arith)
bound_same limits options input r s (many c o a e) (many d w b h) = e ∙ ap (λ x. Err (Limit (Points x o))) (a.counted ∙ sym b.counted) ∙ ap (λ x. Err (Limit (Points d x))) (a.told ∙ sym b.told) ∙ sym h
bound_same limits options input r s (many c o a e) (facets d w g b h) = let v = a.many in let y = g in absurd (omega arith)
bound_same limits options input r s (many c o a e) (corners m d w g b h) = let v = a.many in let y = g in absurd (omega arith)
bound_same limits options input r s (many c o a e) (off m u b h) = let v = a.many in let y = b.few in absurd (omega arith)
bound_same limits options input r s (facets c o f a e) (fits u b q h) = let v = a.many in let y = q.small.few in absurd (omega arith)
bound_same limits options input r s (facets c o f a e) (many d w b h) = let v = f in let y = b.many in absurd (omega arith)
bound_same limits options input r s (facets c o f a e) (facets d w g b h) = e ∙ ap (λ x. Err (Limit (Facets x o))) (a.counted ∙ sym b.counted) ∙ ap (λ x. Err (Limit (Facets d x))) (a.told ∙ sym b.told) ∙ sym h
bound_same limits options input r s (facets c o f a e) (corners m d w g b h) = let v = a.many in let y = b.few in absurd (omega arith)
bound_same limits options input r s (facets c o f a e) (off m u b h) = let v = a.many in let y = u.few in absurd (omega arith)
bound_same limits options input r s (corners l c o f a e) (fits u b q h) = let v = a.long in let y = q.small.short in absurd (cc)
bound_same limits options input r s (corners l c o f a e) (many d w b h) = let v = f in let y = b.many in absurd (omega arith)
bound_same limits options input r s (corners l c o f a e) (facets d w g b h) = let v = b.many in let y = a.few in absurd (omega arith)
bound_same limits options input r s (corners l c o f a e) (corners m d w g b h) = e ∙ corners_same l c o m d w (sym a.long ∙ b.long) ∙ sym h
bound_same limits options input r s (corners l c o f a e) (off m u b h) = let v = a.long in let y = u.short in absurd (cc)
bound_same limits options input r s (off l z a e) (fits u b q h) = let v = a.off in let y = b.on.on in absurd (cc)
bound_same limits options input r s (off l z a e) (many d w b h) = let v = a.few in let y = b.many in absurd (omega arith)
bound_same limits options input r s (off l z a e) (facets d w g b h) = let v = b.many in let y = z.few in absurd (omega arith)
bound_same limits options input r s (off l z a e) (corners m d w g b h) = let v = b.long in let y = z.short in absurd (cc)
bound_same limits options input r s (off l z a e) (off m u b h) = e ∙ ap (λ x. Err (Limit (OnGrid x))) (off_same l m (sym a.off ∙ b.off)) ∙ sym h

pub bound_once : (limits : Limits) (options : Options) (input : Input) → IsOnce (BoundAnswer limits options input)
bound_once limits options input r s n m h k = bound_same limits options input r s (bound_case limits options input r n h) (bound_case limits options input s m k)

-- ---- the mesh and its outputs

no_want : (fault : MeshFault) (s : Status) → s ≡ status_of_fault fault → s ≢ NoMemory → fault ≢ mesh_faults.NoMemory
no_want fault s e n f = n (e ∙ ap status_of_fault f)

flat_is : (bound : Bound) (s : Status) → s ≢ NoMemory → IsFlatRefusal bound s → AreCoplanar bound.table.points × (s ≡ Flat)
flat_is bound Flat n h = (h, refl)
flat_is bound NoMemory n h = absurd (n refl)
flat_is bound s n h = absurd h

-- the status of a cause, as it is forced
abbrev forced_fault : MeshFault → Status
forced_fault fault = forced_answer (status_of_fault fault)

-- a cause that stands beside a mesh
beside_mesh : (f : MeshFault) → f ≢ mesh_faults.NoMemory → ¬ IsForcing f → Done ≡ forced_fault f
beside_mesh (mesh_faults.NoFill anomaly) n never = refl
beside_mesh mesh_faults.NoMemory n never = absurd (n refl)
beside_mesh f n never = absurd (never tt)

-- two causes that stand beside each other
beside_fault : (f g : MeshFault) → f ≢ mesh_faults.NoMemory → g ≢ mesh_faults.NoMemory → (IsForcing f → f ≡ g) → (IsForcing g → g ≡ f) → forced_fault f ≡ forced_fault g
beside_fault (mesh_faults.NoFill anomaly) (mesh_faults.NoFill other) n m to from = refl
beside_fault (mesh_faults.NoFill anomaly) mesh_faults.NoMemory n m to from = absurd (m refl)
beside_fault (mesh_faults.NoFill anomaly) g n m to from = ap forced_fault (sym (from tt))
beside_fault mesh_faults.NoMemory g n m to from = absurd (n refl)
beside_fault f g n m to from = ap forced_fault (to tt)

-- the refusal of weights is no want of memory
no_wanting : (name : List ℕ) (fault : RegularFault) (s : Status) → s ≡ status_of_weights name fault → s ≢ NoMemory → fault ≢ regular_faults.NoMemory
no_wanting name fault s e n f = n (e ∙ ap (status_of_weights name) f)

abbrev unmade : RegularFault → Result RegularMesh RegularFault
unmade fault = Err fault

abbrev made_of : RegularMesh → Result RegularMesh RegularFault
made_of mesh = Ok mesh

unmade_same : (f g : RegularFault) → unmade f ≡ unmade g → f ≡ g
unmade_same f g e = cc

made_unmade : (mesh : RegularMesh) (f : RegularFault) → made_of mesh ≡ unmade f → ⊥
made_unmade mesh f e = cc

made_wanting : (mesh : RegularMesh) → made_of mesh ≢ unmade regular_faults.NoMemory
made_wanting mesh e = cc

points_same : (options : Options) (bound : Bound) (weighted : Bool) → IsSame (PointsMeshOf weighted options bound)
points_same options bound weighted (Ok a) (Ok b) n m h k = refl
points_same options bound false (Ok a) (Err t) n m h k = absurd (h.0 (flat_is bound t m k).0)
points_same options bound false (Err s) (Ok b) n m h k = absurd (k.0 (flat_is bound s n h).0)
points_same options bound false (Err s) (Err t) n m h k = ap forced_answer ((flat_is bound s n h).1 ∙ sym (flat_is bound t m k).1)
points_same options bound true (Ok a) (Err t) n m h k =
    let decided = no_wanting (file_name options.base Node) k.0 t k.1 m in
    absurd (made_unmade h.0 k.0 (one_answer_law bound.table (Ok h.0) (Err k.0) h.1 k.2 (made_wanting h.0) (λ e. decided (unmade_same k.0 regular_faults.NoMemory e))))
points_same options bound true (Err s) (Ok b) n m h k =
    let decided = no_wanting (file_name options.base Node) h.0 s h.1 n in
    absurd (made_unmade k.0 h.0 (one_answer_law bound.table (Ok k.0) (Err h.0) k.1 h.2 (made_wanting k.0) (λ e. decided (unmade_same h.0 regular_faults.NoMemory e))))
points_same options bound true (Err s) (Err t) n m h k =
    let name = file_name options.base Node in
    let one = no_wanting name h.0 s h.1 n in
    let two = no_wanting name k.0 t k.1 m in
    let same = unmade_same h.0 k.0 (one_answer_law bound.table (Err h.0) (Err k.0) h.2 k.2 (λ e. one (unmade_same h.0 regular_faults.NoMemory e)) (λ e. two (unmade_same k.0 regular_faults.NoMemory e))) in
    ap forced_answer (h.1 ∙ ap (status_of_weights name) same ∙ sym k.1)

pub mesh_of_same : (options : Options) (bound : Bound) (piecewise : Bool) → IsSame (MeshOf piecewise options bound)
mesh_of_same options bound false r s n m h k = points_same options bound options.weighted r s n m h k
mesh_of_same options bound true (Ok a) (Ok b) n m h k = refl
mesh_of_same options bound true (Ok a) (Err t) n m h k =
    beside_mesh k.0 (no_want k.0 t k.1 m) (λ f. law_no_fault (mesh_options options bound.table) bound.table.points bound.complex h.0 h.1 k.0 f k.2) ∙ sym (ap forced_answer k.1)
mesh_of_same options bound true (Err s) (Ok b) n m h k =
    ap forced_answer h.1 ∙ sym (beside_mesh h.0 (no_want h.0 s h.1 n) (λ f. law_no_fault (mesh_options options bound.table) bound.table.points bound.complex k.0 k.1 h.0 f h.2))
mesh_of_same options bound true (Err s) (Err t) n m h k =
    let want = no_want h.0 s h.1 n in
    let wants = no_want k.0 t k.1 m in
    ap forced_answer h.1
    ∙ beside_fault h.0 k.0 want wants (λ f. law_one_fault (mesh_options options bound.table) bound.table.points bound.complex h.0 k.0 f wants h.2 k.2)
    (λ f. law_one_fault (mesh_options options bound.table) bound.table.points bound.complex k.0 h.0 f want k.2 h.2) ∙ sym (ap forced_answer k.1)

-- ---- the run

pub meshed_same : (limits : Limits) (options : Options) (input : Input) → IsSame (MeshedAnswer limits options input)
meshed_same limits options input =
    and_then_same (BoundAnswer limits options input) (λ bound. AndThen (MeshAnswer options bound) (OutputsAnswer options)) (bound_once limits options input)
    (λ bound. and_then_sure (MeshAnswer options bound) (OutputsAnswer options) (mesh_of_same options bound options.piecewise) (λ mesh s h. h))

pub run_same : (limits : Limits) (told : Files) (words : List (List ℕ)) (seen : FolderSeen) → seen.files_before ≡ Some told → ¬ Rose seen.read_faults_before seen.read_faults_now → IsSame (OutputsOfRun limits words seen)
run_same limits told words seen e f =
    and_then_same (WordsAnswer words) (λ options. AndThen (InputAnswer limits seen options) (MeshedAnswer limits options)) (words_once words)
    (λ options. and_then_same (InputAnswer limits seen options) (MeshedAnswer limits options) (input_once limits told seen options (record { files = e; no_fault = f })) (meshed_same limits options))
