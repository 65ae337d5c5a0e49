-- The runs on the five points, step by step.
use Rattle.std.proofs.Common.{◌≡◌, Bool, true, false, None, Ok, Err, refl, sym, ap, subst, ◌∙◌, arith}
use Rattle.std.specs.Prelude.{◌≢◌, codes}
use Rattle.geo_laws.specs.Complex.{empty_complex}
use Rattle.grid_coords.specs.Units.{units}
use Rattle.node_files.specs.Limits.{tetgen_limits}
use Rattle.node_files.specs.Node.{node_of}
use Rattle.plc_files.specs.Checks.{first_fault}
use Rattle.tet_ports.specs.Files.{Holds}
use Rattle.tet_text.specs.Lines.{content_lines}
use Rattle.run_steps.specs.Meshing.{BoundAnswer, IsFlatRefusal, MeshAnswer, mesh_on}
use Rattle.run_steps.specs.Reading.{InputAnswer, node_text_of, points_alone}
use Rattle.tet_ports.specs.Seen.{FolderSeen}
use Rattle.run_steps.specs.declared.input.Input.{Input}
use Rattle.run_steps.specs.declared.mesh.Bound.{Bound}
use Rattle.run_steps.specs.declared.status.Status.{Status}
use Rattle.run_steps.specs.declared.status.Status.TheVariants.{Flat, NoMemory}
use Rattle.run_laws.specs.Pyramid.{full_outputs, full_start, plain_outputs, plain_start, pyramid_bytes}
use Rattle.run_laws.specs.Runs.{HasFile}
use Rattle.run_laws.proofs.Grid.{folded_are, grid_is}
use Rattle.run_laws.proofs.Outputs.{full_are, plain_are, pyramid_mesh, pyramid_table}
use Rattle.run_laws.proofs.Reading.{lines_are, pyramid_text, six_lines, text_is}
use Rattle.run_laws.proofs.WorkedRows.{not_flat, rows_are}
use Rattle.run_laws.proofs.Runs.{IsRun, is_run}
use Rattle.run_laws.proofs.Steps.{IsOnly}
use Rattle.run_laws.proofs.WorkedWords.{asking, full_asked, full_understood, plain_asked, plain_understood}

abbrev pub pyramid_input : Input
pyramid_input = points_alone pyramid_text

abbrev pub pyramid_bound : Bound
pyramid_bound = record { table = pyramid_table; complex = empty_complex }

spelled : node_text_of pyramid_bytes ≡ Ok pyramid_text
spelled = ap (λ count. node_of count (content_lines pyramid_bytes)) six_lines ∙ ap (node_of 6) lines_are ∙ text_is

module _ (full : Bool) where
  plain_read : (folder : FolderSeen) → HasFile plain_start folder → InputAnswer tetgen_limits folder (asking full false) (Ok pyramid_input)
  plain_read folder has =
      let holds = subst (λ files. Holds files (codes "pyramid.node") pyramid_bytes) (sym has.files) has.held in
      (pyramid_text, (pyramid_bytes, (holds, omega arith), spelled), refl)

  pub on_grid : (complex : Bool) → BoundAnswer tetgen_limits (asking full complex) pyramid_input (Ok pyramid_bound)
  unfolding units first_fault
  on_grid complex = (
    record { on = record { few = omega arith; on = grid_is }; is = refl; folded = folded_are },
    record { small = record { few = omega arith; short = refl }; is = refl },
  )

  made : MeshAnswer (asking full false) pyramid_bound (Ok pyramid_mesh)
  made = (not_flat, ap (λ rows. mesh_on pyramid_table rows None) (sym rows_are))

  not_refused : (s : Status) → s ≢ NoMemory → IsFlatRefusal pyramid_bound s → ⊥
  not_refused Flat n h = not_flat h
  not_refused NoMemory n h = n refl
  not_refused s n h = absurd h

  mesh_only : IsOnly (MeshAnswer (asking full false) pyramid_bound) pyramid_mesh
  mesh_only (Ok mesh) n h = ap (λ m. Ok m) (h.1 ∙ sym made.1)
  mesh_only (Err s) n h = absurd (not_refused s n h)

pub plain_run : IsRun plain_start plain_outputs
plain_run =
    is_run plain_start (asking false false) pyramid_input pyramid_bound pyramid_mesh plain_outputs plain_understood plain_asked refl
    (plain_read false) (on_grid false false) (made false) (mesh_only false) (plain_are false)

pub full_run : IsRun full_start full_outputs
full_run =
    is_run full_start (asking true false) pyramid_input pyramid_bound pyramid_mesh full_outputs full_understood full_asked refl
    (λ folder has. plain_read true folder (record { told = has.told; files = has.files; held = has.held })) (on_grid true false) (made true) (mesh_only true) full_are
