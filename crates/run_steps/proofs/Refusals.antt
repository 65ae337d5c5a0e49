-- By which statuses the reading of an input is refused.
use Rattle.std.proofs.Common.{◌≡◌, inl, inr, ℕ, Bool, true, false, List, length, Option, Some, None, Result, Err, sym, subst}
use Rattle.command_words.specs.Names.{file_name}
use Rattle.command_words.specs.declared.options.Extension.{Extension}
use Rattle.command_words.specs.declared.options.Extension.TheVariants.{Node, Poly, Smesh, Off, Stl}
use Rattle.command_words.specs.declared.options.Options.{Options}
use Rattle.node_files.specs.declared.limits.Limits.{Limits}
use Rattle.node_files.specs.declared.node_text.NodeText.{NodeText}
use Rattle.plc_files.specs.Checks.{corners_check}
use Rattle.tet_text.specs.declared.fault.TextFault.{TextFault}
use Rattle.run_steps.specs.Reading.{complex_file, points_alone, on_points, node_text_of, plc_text_of, IsUnfetched, IsBadText, FetchAnswer, TextAnswer, PointsAnswer, FormAnswer, ComplexFileAnswer, SourceAnswer, NodesAnswer, BoundedAnswer, InputOf}
use Rattle.tet_ports.specs.Seen.{FolderSeen}
use Rattle.run_steps.specs.Steps.{AndThen, IfMissing, Gives}
use Rattle.run_steps.specs.declared.input.ComplexFile.{ComplexFile}
use Rattle.run_steps.specs.declared.status.LimitKind.TheVariants.{Bytes as TooLong}
use Rattle.run_steps.specs.declared.status.Status.{Status}
use Rattle.run_steps.specs.declared.status.Status.TheVariants.{Missing, ReadFault, BadText, Limit, NoMemory}
use Rattle.run_steps.proofs.Steps.{and_then_refuses}

-- what each refusal of the reading of an input has
module _ (P : Status → Type 0) (missing : (name : List ℕ) → P (Missing name)) (failed : (name : List ℕ) → P (ReadFault name)) (bad : (name : List ℕ) (fault : TextFault) → P (BadText name fault))
    (long : (name : List ℕ) (most : ℕ) → P (Limit (TooLong name most))) (want : P NoMemory) where
  pub want_has : (s : Status) → s ≡ NoMemory → P s
  want_has s e = subst P (sym e) want

  pub fetch_has : (limits : Limits) (seen : FolderSeen) (name : List ℕ) (s : Status) → IsUnfetched limits seen name s → P s
  fetch_has limits seen name (Missing name') h = missing name'
  fetch_has limits seen name (ReadFault name') h = failed name'
  fetch_has limits seen name (Limit (TooLong name' most)) h = long name' most
  fetch_has limits seen name NoMemory h = want
  fetch_has limits seen name s h = absurd h

  pub text_has : {A : Type 0} (name : List ℕ) (reading : Result A TextFault) (s : Status) → IsBadText name reading s → P s
  text_has name reading (BadText name' fault) h = bad name' fault
  text_has name reading NoMemory h = want
  text_has name reading s h = absurd h

  points_have : (limits : Limits) (seen : FolderSeen) (base : List ℕ) (s : Status) → PointsAnswer limits seen base (Err s) → P s
  points_have limits seen base =
      let name = file_name base Node in
      and_then_refuses P (FetchAnswer limits seen name) (λ bytes. TextAnswer name (node_text_of bytes)) (fetch_has limits seen name) (λ bytes. text_has name (node_text_of bytes))

  form_has : (limits : Limits) (seen : FolderSeen) (base : List ℕ) (extension : Extension) (s : Status) → FormAnswer limits seen base extension (Err s) → P s
  form_has limits seen base extension =
      let name = file_name base extension in
      and_then_refuses P (FetchAnswer limits seen name) (λ bytes. AndThen (TextAnswer name (plc_text_of extension bytes)) (λ text. Gives (complex_file name text))) (fetch_has limits seen name)
      (λ bytes. and_then_refuses P (TextAnswer name (plc_text_of extension bytes)) (λ text. Gives (complex_file name text)) (text_has name (plc_text_of extension bytes)) (λ text. want_has))

  bare_has : (limits : Limits) (seen : FolderSeen) (base : List ℕ) (s : Status) → IfMissing (FormAnswer limits seen base Poly) (FormAnswer limits seen base Smesh) (Err s) → P s
  bare_has limits seen base s (inl h) = form_has limits seen base Poly s h.0
  bare_has limits seen base s (inr h) = form_has limits seen base Smesh s h.2

  file_has : (limits : Limits) (seen : FolderSeen) (base : List ℕ) (extension : Option Extension) (s : Status) → ComplexFileAnswer limits seen base extension (Err s) → P s
  file_has limits seen base (Some Smesh) = form_has limits seen base Smesh
  file_has limits seen base (Some Poly) = form_has limits seen base Poly
  file_has limits seen base (Some Off) = form_has limits seen base Off
  file_has limits seen base (Some Stl) = form_has limits seen base Stl
  file_has limits seen base (Some Node) = bare_has limits seen base
  file_has limits seen base None = bare_has limits seen base

  source_has : (limits : Limits) (seen : FolderSeen) (base : List ℕ) (extension : Option Extension) (sample : Option ℕ) (s : Status) → SourceAnswer limits seen base extension sample (Err s) → P s
  source_has limits seen base extension (Some n) = want_has
  source_has limits seen base extension None = file_has limits seen base extension

  pub nodes_have : (limits : Limits) (seen : FolderSeen) (base : List ℕ) (own : Option NodeText) (s : Status) → NodesAnswer limits seen base own (Err s) → P s
  nodes_have limits seen base (Some nodes) = want_has
  nodes_have limits seen base None = points_have limits seen base

  pub bounded_has : (file : ComplexFile) (nodes : NodeText) (s : Status) → BoundedAnswer file nodes (Err s) → P s
  bounded_has file nodes =
      let input = on_points file nodes in
      let reading = corners_check nodes.first (length nodes.decimals) file.text in
      and_then_refuses P (TextAnswer file.name reading) (λ checked. Gives input) (text_has file.name reading) (λ checked. want_has)

  pub input_has : (limits : Limits) (seen : FolderSeen) (options : Options) (piecewise : Bool) (s : Status) → InputOf limits piecewise seen options (Err s) → P s
  input_has limits seen options false =
      and_then_refuses P (PointsAnswer limits seen options.base) (λ nodes. Gives (points_alone nodes)) (points_have limits seen options.base) (λ nodes. want_has)
  input_has limits seen options true =
      and_then_refuses P (SourceAnswer limits seen options.base options.extension options.sample) (λ file. AndThen (NodesAnswer limits seen options.base file.text.nodes) (BoundedAnswer file))
      (source_has limits seen options.base options.extension options.sample)
      (λ file. and_then_refuses P (NodesAnswer limits seen options.base file.text.nodes) (BoundedAnswer file) (nodes_have limits seen options.base file.text.nodes) (bounded_has file))
