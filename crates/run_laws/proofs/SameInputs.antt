-- What is read of told files is one value, whatever the limits are within which it is read.
use Rattle.std.proofs.Common.{◌≡◌, inl, inr, ℕ, Bool, true, false, List, [], length, Option, None, Some, Result, Ok, Err, sym, subst, ◌∙◌}
use Rattle.std.specs.FinMap as map_of
use Rattle.command_words.specs.Names.{file_name}
use Rattle.command_words.specs.declared.options.Extension.{Extension}
use Rattle.command_words.specs.declared.options.Extension.TheVariants.{Node, Poly, Smesh, Off, Stl}
use Rattle.command_words.specs.declared.options.Options.{Options}
use Rattle.node_files.specs.declared.limits.Limits.{Limits}
use Rattle.node_files.specs.declared.node_text.NodeText.{NodeText}
use Rattle.plc_files.specs.Checks.{corners_check}
use Rattle.plc_files.specs.Sample.{sample_of}
use Rattle.plc_files.specs.Text.{Plc}
use Rattle.tet_ports.specs.Files.{Files, Holds, IsAbsent}
use Rattle.tet_ports.specs.Seen.{FolderSeen}
use Rattle.tet_text.specs.declared.fault.TextFault.{TextFault}
use Rattle.run_steps.specs.Reading.{complex_file, node_text_of, on_points, plc_text_of, points_alone, BoundedAnswer, ComplexFileAnswer, FetchAnswer, FormAnswer, InputAnswer, InputOf, NodesAnswer, PointsAnswer, SourceAnswer, TextAnswer}
use Rattle.run_steps.specs.Steps.{AndThen, Gives, IfMissing}
use Rattle.run_steps.specs.declared.input.ComplexFile.{ComplexFile}
use Rattle.run_steps.specs.declared.input.Input.{Input}
use Rattle.run_steps.specs.declared.status.Status.{Status}
use Rattle.run_steps.specs.declared.status.Status.TheVariants.{Missing, NoMemory}

-- ---- steps

-- a value of the one step and a value of the other are the same
abbrev pub GiveSame : {A : Type 0} → (Result A Status → Type 0) → (Result A Status → Type 0) → Type 0
GiveSame {A = A} first second = (a b : A) → first (Ok a) → second (Ok b) → a ≡ b

-- so are those of two steps one after another
pub and_then_give : {A B : Type 0} (first first' : Result A Status → Type 0) (next next' : A → Result B Status → Type 0) → GiveSame first first'
    → ((a : A) → first' (Ok a) → GiveSame (next a) (next' a)) → GiveSame (AndThen first next) (AndThen first' next')
and_then_give first first' next next' one two a b h k = two k.0 k.1 a b (subst (λ x. next x (Ok a)) (one h.0 k.0 h.1 k.1) h.2) k.2

pub gives_give : {A : Type 0} (a : A) → GiveSame (Gives a) (Gives a)
gives_give a b c h k = h ∙ sym k

abbrev read_as : {A : Type 0} → A → Result A TextFault
read_as a = Ok a

pub text_value : {A : Type 0} (a b : A) → read_as a ≡ read_as b → a ≡ b
text_value a b e = cc

pub text_give : {A : Type 0} (name : List ℕ) (reading : Result A TextFault) → GiveSame (TextAnswer name reading) (TextAnswer name reading)
text_give name reading a b h k = text_value a b (sym h ∙ k)

-- ---- files

pub some_same : {A : Type 0} (a b : A) → Some a ≡ Some b → a ≡ b
some_same a b e = cc

held_once : (told : Files) (one two : FolderSeen) (name a b : List ℕ) → one.files_before ≡ Some told → two.files_before ≡ Some told → Holds one.files_before name a → Holds two.files_before name b → a ≡ b
held_once told one two name a b e f h k =
    let first : map_of.get told name ≡ Some a = subst (λ files. Holds files name a) e h in
    let second : map_of.get told name ≡ Some b = subst (λ files. Holds files name b) f k in
    some_same a b (sym first ∙ second)

module _ (limits limits' : Limits) (told : Files) (one two : FolderSeen) (e : one.files_before ≡ Some told) (f : two.files_before ≡ Some told) where
  pub fetch_give : (name : List ℕ) → GiveSame (FetchAnswer limits one name) (FetchAnswer limits' two name)
  fetch_give name a b h k = held_once told one two name a b e f h.0 k.0

  points_give : (base : List ℕ) → GiveSame (PointsAnswer limits one base) (PointsAnswer limits' two base)
  points_give base =
      let name = file_name base Node in
      and_then_give (FetchAnswer limits one name) (FetchAnswer limits' two name) (λ bytes. TextAnswer name (node_text_of bytes)) (λ bytes. TextAnswer name (node_text_of bytes))
      (fetch_give name) (λ bytes held. text_give name (node_text_of bytes))

  -- the complex of a file, by what its bytes spell
  pub named_file_give : (name : List ℕ) (text_of : List ℕ → Result Plc TextFault)
      → GiveSame (AndThen (FetchAnswer limits one name) (λ bytes. AndThen (TextAnswer name (text_of bytes)) (λ text. Gives (complex_file name text))))
      (AndThen (FetchAnswer limits' two name) (λ bytes. AndThen (TextAnswer name (text_of bytes)) (λ text. Gives (complex_file name text))))
  named_file_give name text_of =
      and_then_give (FetchAnswer limits one name) (FetchAnswer limits' two name) (λ bytes. AndThen (TextAnswer name (text_of bytes)) (λ text. Gives (complex_file name text)))
      (λ bytes. AndThen (TextAnswer name (text_of bytes)) (λ text. Gives (complex_file name text))) (fetch_give name)
      (λ bytes held. and_then_give (TextAnswer name (text_of bytes)) (TextAnswer name (text_of bytes)) (λ text. Gives (complex_file name text)) (λ text. Gives (complex_file name text))
      (text_give name (text_of bytes)) (λ text read. gives_give (complex_file name text)))

  form_give : (base : List ℕ) (extension : Extension) → GiveSame (FormAnswer limits one base extension) (FormAnswer limits' two base extension)
  form_give base extension = named_file_give (file_name base extension) (plc_text_of extension)

-- a complex that is read and one that is missing are not of the same files
none_missing : (limits limits' : Limits) (told : Files) (one two : FolderSeen) (base : List ℕ) (extension : Extension) (file : ComplexFile) (missing : List ℕ) → one.files_before ≡ Some told → two.files_before ≡ Some told
    → FormAnswer limits one base extension (Ok file) → FormAnswer limits' two base extension (Err (Missing missing)) → ⊥
none_missing limits limits' told one two base extension file missing e f (bytes, held, read) (inl lost) =
    let there : map_of.get told (file_name base extension) ≡ Some bytes = subst (λ files. Holds files (file_name base extension) bytes) e held.0 in
    let lacked : map_of.get told (file_name base extension) ≡ None = subst (λ files. IsAbsent files (file_name base extension) two.misses_before two.misses_now) f lost.1 in
    never bytes (sym there ∙ lacked)
  where
    never : (bytes : List ℕ) → Some bytes ≡ None → ⊥
    never bytes e = cc
none_missing limits limits' told one two base extension file missing e f h (inr (bytes, held, (inl bad))) = bad
none_missing limits limits' told one two base extension file missing e f h (inr (bytes, held, (inr (text, read, given)))) = never missing given
  where
    never : (name : List ℕ) → Missing name ≡ NoMemory → ⊥
    never name e = cc

module _ (limits limits' : Limits) (told : Files) (one two : FolderSeen) (e : one.files_before ≡ Some told) (f : two.files_before ≡ Some told) where
  bare_give : (base : List ℕ) → GiveSame (IfMissing (FormAnswer limits one base Poly) (FormAnswer limits one base Smesh)) (IfMissing (FormAnswer limits' two base Poly) (FormAnswer limits' two base Smesh))
  bare_give base a b (inl h) (inl k) = form_give limits limits' told one two e f base Poly a b h.0 k.0
  bare_give base a b (inl h) (inr k) = absurd (none_missing limits limits' told one two base Poly a k.0 e f h.0 k.1)
  bare_give base a b (inr h) (inl k) = absurd (none_missing limits' limits told two one base Poly b h.0 f e k.0 h.1)
  bare_give base a b (inr h) (inr k) = form_give limits limits' told one two e f base Smesh a b h.2 k.2

  file_give : (base : List ℕ) (extension : Option Extension) → GiveSame (ComplexFileAnswer limits one base extension) (ComplexFileAnswer limits' two base extension)
  file_give base (Some Smesh) = form_give limits limits' told one two e f base Smesh
  file_give base (Some Poly) = form_give limits limits' told one two e f base Poly
  file_give base (Some Off) = form_give limits limits' told one two e f base Off
  file_give base (Some Stl) = form_give limits limits' told one two e f base Stl
  file_give base (Some Node) = bare_give base
  file_give base None = bare_give base

  source_give : (base : List ℕ) (extension : Option Extension) (sample : Option ℕ) → GiveSame (SourceAnswer limits one base extension sample) (SourceAnswer limits' two base extension sample)
  source_give base extension (Some n) = gives_give (complex_file [] (sample_of n))
  source_give base extension None = file_give base extension

  pub nodes_give : (base : List ℕ) (own : Option NodeText) → GiveSame (NodesAnswer limits one base own) (NodesAnswer limits' two base own)
  nodes_give base (Some nodes) = gives_give nodes
  nodes_give base None = points_give limits limits' told one two e f base

  -- the complex of a file, on its own points or on those of the file of points
  pub whole_give : (base : List ℕ) (file : ComplexFile) → GiveSame (AndThen (NodesAnswer limits one base file.text.nodes) (BoundedAnswer file)) (AndThen (NodesAnswer limits' two base file.text.nodes) (BoundedAnswer file))
  whole_give base file =
      and_then_give (NodesAnswer limits one base file.text.nodes) (NodesAnswer limits' two base file.text.nodes) (BoundedAnswer file) (BoundedAnswer file) (nodes_give base file.text.nodes)
      (λ nodes named.
      let check = corners_check nodes.first (length nodes.decimals) file.text in
      and_then_give (TextAnswer file.name check) (TextAnswer file.name check) (λ checked. Gives (on_points file nodes)) (λ checked. Gives (on_points file nodes)) (text_give file.name check)
      (λ checked sound. gives_give (on_points file nodes)))

  input_of_give : (piecewise : Bool) (options : Options) → GiveSame (InputOf limits piecewise one options) (InputOf limits' piecewise two options)
  input_of_give false options =
      and_then_give (PointsAnswer limits one options.base) (PointsAnswer limits' two options.base) (λ nodes. Gives (points_alone nodes)) (λ nodes. Gives (points_alone nodes))
      (points_give limits limits' told one two e f options.base) (λ nodes named. gives_give (points_alone nodes))
  input_of_give true options =
      and_then_give (SourceAnswer limits one options.base options.extension options.sample) (SourceAnswer limits' two options.base options.extension options.sample)
      (λ file. AndThen (NodesAnswer limits one options.base file.text.nodes) (BoundedAnswer file)) (λ file. AndThen (NodesAnswer limits' two options.base file.text.nodes) (BoundedAnswer file))
      (source_give options.base options.extension options.sample) (λ file named. whole_give options.base file)

  pub input_give : (options : Options) → GiveSame (InputAnswer limits one options) (InputAnswer limits' two options)
  input_give options = input_of_give options.piecewise options

-- ---- corners

-- the corners of a complex that is read are points of its list
pub checked_behind : (limits : Limits) (seen : FolderSeen) (base : List ℕ) (file : ComplexFile) (input : Input) → AndThen (NodesAnswer limits seen base file.text.nodes) (BoundedAnswer file) (Ok input)
    → corners_check input.nodes.first (length input.nodes.decimals) input.complex ≡ Ok tt
checked_behind limits seen base file input (nodes, named, (checked, at, is)) =
    subst (λ (i : Input). corners_check i.nodes.first (length i.nodes.decimals) i.complex ≡ Ok tt) (sym is) at

read_checked : (limits : Limits) (seen : FolderSeen) (options : Options) (input : Input) → InputOf limits true seen options (Ok input) → corners_check input.nodes.first (length input.nodes.decimals) input.complex ≡ Ok tt
read_checked limits seen options input (file, source, behind) = checked_behind limits seen options.base file input behind

pub checked_of : (limits : Limits) (seen : FolderSeen) (options : Options) (input : Input) → InputAnswer limits seen options (Ok input) → options.piecewise ≡ true
    → corners_check input.nodes.first (length input.nodes.decimals) input.complex ≡ Ok tt
checked_of limits seen options input h e = read_checked limits seen options input (subst (λ (piecewise : Bool). InputOf limits piecewise seen options (Ok input)) e h)
