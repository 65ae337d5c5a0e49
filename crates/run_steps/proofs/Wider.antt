-- What a step answers over a part of a run, it answers over all of it: counts never fall, and a fetch changes no file.
use Rattle.std.proofs.Common.{inl, inr, ℕ, Bool, true, false, List, Option, Some, None, Result, Ok, Err, subst}
use Rattle.command_words.specs.Names.{file_name}
use Rattle.command_words.specs.declared.options.Extension.{Extension}
use Rattle.command_words.specs.declared.options.Extension.TheVariants.{Node, Poly, Smesh, Off, Stl}
use Rattle.command_words.specs.declared.options.Options.{Options}
use Rattle.node_files.specs.declared.limits.Limits.{Limits}
use Rattle.node_files.specs.declared.node_text.NodeText.{NodeText}
use Rattle.run_steps.specs.Reading.{complex_file, points_alone, node_text_of, plc_text_of, IsRead, IsTooLong, IsUnfetched, FetchAnswer, TextAnswer, PointsAnswer, FormAnswer, ComplexFileAnswer, SourceAnswer, NodesAnswer, BoundedAnswer, InputOf, InputAnswer}
use Rattle.tet_ports.proofs.Windows.{IsWithin, absent_within, rose_within}
use Rattle.tet_ports.specs.Seen.{FolderSeen}
use Rattle.run_steps.specs.Steps.{AndThen, IfMissing, Gives}
use Rattle.run_steps.specs.declared.input.ComplexFile.{ComplexFile}
use Rattle.run_steps.specs.declared.input.Input.{Input}
use Rattle.run_steps.specs.declared.status.LimitKind.TheVariants.{Bytes as TooLong}
use Rattle.run_steps.specs.declared.status.Status.{Status}
use Rattle.run_steps.specs.declared.status.Status.TheVariants.{Missing, ReadFault, Limit, NoMemory}
use Rattle.run_steps.proofs.Steps.{and_then_wider}

module _ (limits : Limits) (part wide : FolderSeen) (w : IsWithin part wide) where
  unfetched_wider : (name : List ℕ) (s : Status) → IsUnfetched limits part name s → IsUnfetched limits wide name s
  unfetched_wider name (Missing missing) h =
      (h.0, absent_within part wide w name h.1)
  unfetched_wider name (ReadFault failed) h = (h.0, rose_within part wide w h.1)
  unfetched_wider name (Limit (TooLong long most)) h = (h.0, subst (λ files. IsTooLong limits files name) w.files h.1, h.2)
  unfetched_wider name NoMemory h = tt
  unfetched_wider name s h = absurd h

  pub fetch_wider : (name : List ℕ) (r : Result (List ℕ) Status) → FetchAnswer limits part name r → FetchAnswer limits wide name r
  fetch_wider name (Ok bytes) h = subst (λ files. IsRead limits files name bytes) w.files h
  fetch_wider name (Err s) h = unfetched_wider name s h

  pub points_wider : (base : List ℕ) (r : Result NodeText Status) → PointsAnswer limits part base r → PointsAnswer limits wide base r
  points_wider base =
      let name = file_name base Node in
      and_then_wider (FetchAnswer limits part name) (FetchAnswer limits wide name) (λ bytes. TextAnswer name (node_text_of bytes)) (λ bytes. TextAnswer name (node_text_of bytes)) (fetch_wider name) (λ bytes r h. h)

  pub form_wider : (base : List ℕ) (extension : Extension) (r : Result ComplexFile Status) → FormAnswer limits part base extension r → FormAnswer limits wide base extension r
  form_wider base extension =
      let name = file_name base extension in
      and_then_wider (FetchAnswer limits part name) (FetchAnswer limits wide name) (λ bytes. AndThen (TextAnswer name (plc_text_of extension bytes)) (λ text. Gives (complex_file name text)))
      (λ bytes. AndThen (TextAnswer name (plc_text_of extension bytes)) (λ text. Gives (complex_file name text))) (fetch_wider name) (λ bytes r h. h)

  bare_wider : (base : List ℕ) (r : Result ComplexFile Status) → IfMissing (FormAnswer limits part base Poly) (FormAnswer limits part base Smesh) r → IfMissing (FormAnswer limits wide base Poly) (FormAnswer limits wide base Smesh) r
  bare_wider base r (inl h) = inl (form_wider base Poly r h.0, h.1)
  bare_wider base r (inr h) = inr (h.0, form_wider base Poly (Err (Missing h.0)) h.1, form_wider base Smesh r h.2)

  file_wider : (base : List ℕ) (extension : Option Extension) (r : Result ComplexFile Status) → ComplexFileAnswer limits part base extension r → ComplexFileAnswer limits wide base extension r
  file_wider base (Some Smesh) = form_wider base Smesh
  file_wider base (Some Poly) = form_wider base Poly
  file_wider base (Some Off) = form_wider base Off
  file_wider base (Some Stl) = form_wider base Stl
  file_wider base (Some Node) = bare_wider base
  file_wider base None = bare_wider base

  pub source_wider : (base : List ℕ) (extension : Option Extension) (sample : Option ℕ) (r : Result ComplexFile Status) → SourceAnswer limits part base extension sample r → SourceAnswer limits wide base extension sample r
  source_wider base extension (Some n) = λ r h. h
  source_wider base extension None = file_wider base extension

  pub nodes_wider : (base : List ℕ) (own : Option NodeText) (r : Result NodeText Status) → NodesAnswer limits part base own r → NodesAnswer limits wide base own r
  nodes_wider base (Some nodes) = λ r h. h
  nodes_wider base None = points_wider base

  pub bounded_wider : (base : List ℕ) (file : ComplexFile) (r : Result Input Status) → AndThen (NodesAnswer limits part base file.text.nodes) (BoundedAnswer file) r
      → AndThen (NodesAnswer limits wide base file.text.nodes) (BoundedAnswer file) r
  bounded_wider base file =
      and_then_wider (NodesAnswer limits part base file.text.nodes) (NodesAnswer limits wide base file.text.nodes) (BoundedAnswer file) (BoundedAnswer file) (nodes_wider base file.text.nodes) (λ nodes r h. h)

  input_of_wider : (options : Options) (piecewise : Bool) (r : Result Input Status) → InputOf limits piecewise part options r → InputOf limits piecewise wide options r
  input_of_wider options false =
      and_then_wider (PointsAnswer limits part options.base) (PointsAnswer limits wide options.base) (λ nodes. Gives (points_alone nodes))
      (λ nodes. Gives (points_alone nodes)) (points_wider options.base) (λ nodes r h. h)
  input_of_wider options true =
      and_then_wider (SourceAnswer limits part options.base options.extension options.sample) (SourceAnswer limits wide options.base options.extension options.sample)
      (λ file. AndThen (NodesAnswer limits part options.base file.text.nodes) (BoundedAnswer file)) (λ file. AndThen (NodesAnswer limits wide options.base file.text.nodes) (BoundedAnswer file))
      (source_wider options.base options.extension options.sample) (bounded_wider options.base)

  pub input_wider : (options : Options) (r : Result Input Status) → InputAnswer limits part options r → InputAnswer limits wide options r
  input_wider options = input_of_wider options options.piecewise
