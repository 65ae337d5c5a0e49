-- The run on the complex with a nonplanar facet, step by step.
use Rattle.std.proofs.Common.{◌≡◌, inl, inr, true, false, Some, None, [], Ok, Err, refl, sym, ap, subst, ◌∙◌, arith}
use Rattle.std.specs.Prelude.{◌≢◌, codes}
use Rattle.std.proofs.lemmas.List.Elements.{All-nil}
use Rattle.std.specs.Fmt.{digits}
use Rattle.command_words.specs.Grammar.{words_fault}
use Rattle.command_words.specs.Meaning.{options_of}
use Rattle.command_words.specs.declared.options.Extension.TheVariants.{Poly}
use Rattle.command_words.specs.declared.options.Options.{Options}
use Rattle.complex_mesh.specs.declared.fault.MeshFault.TheVariants as fault
use Rattle.facet_plane.specs.Flat.{IsFirstNotFlat}
use Rattle.geo_laws.specs.Complex.{facets}
use Rattle.geo_laws.specs.Facet.{IsFlat}
use Rattle.grid_coords.specs.Units.{units}
use Rattle.node_files.specs.Limits.{tetgen_limits}
use Rattle.node_files.specs.declared.table.NodeTable.{NodeTable}
use Rattle.plc_files.specs.Checks.{first_fault}
use Rattle.plc_files.specs.Plc.{plc_of}
use Rattle.plc_files.specs.declared.form.Form.TheVariants as form
use Rattle.tet_ports.specs.Counts.{Rose}
use Rattle.tet_ports.specs.Files.{Holds}
use Rattle.tet_text.specs.Lines.{content_lines}
use Rattle.tetgen_run.specs.Run.{tetgen_message}
use Rattle.run_steps.specs.Meshing.{BoundAnswer, MeshAnswer}
use Rattle.run_steps.specs.Numbering.{numbering_of}
use Rattle.run_steps.specs.Reading.{InputAnswer, complex_file, on_points, plc_text_of}
use Rattle.tet_ports.specs.Seen.{FolderSeen}
use Rattle.run_steps.specs.Steps.{forced_answer}
use Rattle.run_steps.specs.declared.input.Input.{Input}
use Rattle.run_steps.specs.declared.mesh.Bound.{Bound}
use Rattle.run_steps.specs.declared.status.Status.{Status}
use Rattle.run_steps.specs.declared.status.Status.TheVariants.{NoFill, NoMemory}
use Rattle.run_steps.proofs.Once.{bound_once, input_once}
use Rattle.tet_ports.specs.Seen.{IsMessagePut}
use Rattle.run_laws.specs.Nonplanar.{ChangesNothing, EndsNotFlat, IsNonplanarRefused, TellsFacet, not_flat, nonplanar_bytes, nonplanar_start}
use Rattle.run_laws.specs.Runs.{HasFile}
use Rattle.run_laws.proofs.Grid.{pyramid_grid}
use Rattle.run_laws.proofs.WorkedRows.{row}
use Rattle.run_laws.proofs.Steps.{ok_same}
use Rattle.run_laws.proofs.NonplanarText.{apart, complex_is, corners_are_there, folded_are, grid_is, lines_are, nine_lines, not_coplanar, stated_points, text_is, nonplanar_complex, nonplanar_nodes, nonplanar_places, nonplanar_points, nonplanar_text}

-- ---- the steps

-- a complex of a `.poly` file, and no switch
abbrev asking : Options
asking = record (options_of []) { piecewise = true; base = codes "nonplanar"; extension = Some Poly }

understood : words_fault nonplanar_start.words ≡ None
understood = refl

asked : options_of nonplanar_start.words ≡ asking
asked = refl

abbrev input : Input
input = on_points (complex_file (codes "nonplanar.poly") nonplanar_text) nonplanar_nodes

abbrev table : NodeTable
table = record {
  first = 1;
  attribute_count = 0;
  flag = false;
  decimals = stated_points;
  attributes = [];
  markers = [];
  grid = pyramid_grid;
  listed = nonplanar_points;
  points = nonplanar_points;
  names = nonplanar_places;
  folded = nonplanar_places;
}

abbrev bound : Bound
bound = record { table = table; complex = nonplanar_complex }

spelled : plc_text_of Poly nonplanar_bytes ≡ Ok nonplanar_text
spelled = ap (λ count. plc_of form.Poly count (content_lines nonplanar_bytes)) nine_lines ∙ ap (plc_of form.Poly 9) lines_are ∙ text_is

read : (folder : FolderSeen) → HasFile nonplanar_start folder → InputAnswer tetgen_limits folder asking (Ok input)
read folder has =
    let name = codes "nonplanar.poly" in
    let holds = subst (λ files. Holds files name nonplanar_bytes) (sym has.files) has.held in
    (complex_file name nonplanar_text, (nonplanar_bytes, (holds, omega arith), (nonplanar_text, spelled, refl)), (nonplanar_nodes, refl, (tt, corners_are_there, refl)))

on_grid : BoundAnswer tetgen_limits asking input (Ok bound)
unfolding units first_fault
on_grid = (
  record { on = record { few = omega arith; on = grid_is }; is = refl; folded = folded_are },
  record { small = record { few = omega arith; short = refl }; is = complex_is },
)

first : IsFirstNotFlat nonplanar_points (facets nonplanar_complex) (record { facet = 0; four = row 0 1 2 3 })
first = record { there = omega arith; before = All-nil (IsFlat nonplanar_points); four = λ d. apart }

unmeshed : MeshAnswer asking bound (Err not_flat)
unmeshed = (fault.NotFlat 0 (row 0 1 2 3), refl, (not_coplanar, first))

pub refused : IsNonplanarRefused
refused folder has = inr (asking, (understood, sym asked), inr (input, read folder has, inr (bound, on_grid, inl unmeshed)))

-- ---- the answer

forced_is : (s : Status) → forced_answer s ≡ not_flat → s ≡ not_flat
forced_is (NoFill anomaly) e = absurd (cc)
forced_is s e = e

no_want : not_flat ≢ NoMemory
no_want e = cc

pub ends : EndsNotFlat
ends folder out status has no_fault n complete = forced_is status (complete has.told has.files no_fault n not_flat no_want (refused folder has))

pub changes : ChangesNothing
changes folder out left = left

-- ---- the message

input_is : (folder : FolderSeen) → HasFile nonplanar_start folder → ¬ Rose folder.read_faults_before folder.read_faults_now → (other : Input) → InputAnswer tetgen_limits folder asking (Ok other) → other ≡ input
input_is folder has no_fault other answer =
    ok_same other input (input_once tetgen_limits has.told folder asking (record { files = has.files; no_fault = no_fault }) (Ok other) (Ok input) tt tt answer (read folder has))

bound_is : (other : Input) (found : Bound) → other ≡ input → BoundAnswer tetgen_limits asking other (Ok found) → found ≡ bound
bound_is other found e answer = ok_same found bound (bound_once tetgen_limits asking input (Ok found) (Ok bound) tt tt (subst (λ i. BoundAnswer tetgen_limits asking i (Ok found)) e answer) on_grid)

pub tells : TellsFacet
unfolding digits
tells folder err has no_fault told =
    let n = told.1 refl in
    let same = bound_is n.0 n.2 (input_is folder has no_fault n.0 n.1) n.3 in
    subst (λ by. IsMessagePut (tetgen_message by not_flat) err) (n.4 ∙ ap (λ (b : Bound). Some (numbering_of b.table)) same) told.2
