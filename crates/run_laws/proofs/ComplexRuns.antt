-- The run on the five points as a complex without facets, with its hull kept: it has the mesh of the points alone.
use Rattle.std.proofs.Common.{◌≡◌, false, true, [], None, Ok, Err, refl, sym, ap, subst, ◌∙◌, arith}
use Rattle.std.specs.Prelude.{codes}
use Rattle.command_words.specs.declared.options.Extension.TheVariants.{Poly}
use Rattle.geo_laws.specs.Delaunay.{delaunay_rows}
use Rattle.node_files.specs.Limits.{tetgen_limits}
use Rattle.plc_files.specs.Plc.{plc_of}
use Rattle.plc_files.specs.declared.form.Form.TheVariants as form
use Rattle.tet_ports.specs.Files.{Holds}
use Rattle.tet_text.specs.Lines.{content_lines}
use Rattle.complex_mesh.specs.declared.mesh.ComplexMesh.{ComplexMesh}
use Rattle.run_steps.specs.Faults.{status_of_fault}
use Rattle.run_steps.specs.Meshing.{MeshAnswer, mesh_of_complex}
use Rattle.run_steps.specs.Reading.{InputAnswer, complex_file, plc_text_of}
use Rattle.tet_ports.specs.Seen.{FolderSeen}
use Rattle.run_laws.specs.Pyramid.{complex_bytes, complex_start, plain_outputs}
use Rattle.run_laws.specs.Runs.{HasFile}
use Rattle.run_laws.proofs.ComplexText.{complex_lines_are, complex_text, complex_text_is, eight_lines, meshable, no_corners}
use Rattle.run_laws.proofs.Facetless.{has_mesh, no_fault, one_mesh}
use Rattle.run_laws.proofs.Outputs.{plain_are, pyramid_mesh}
use Rattle.run_laws.proofs.PyramidRuns.{on_grid, pyramid_bound, pyramid_input}
use Rattle.run_laws.proofs.Reading.{pyramid_text}
use Rattle.run_laws.proofs.WorkedRows.{grid_points, not_flat, rows_are}
use Rattle.run_laws.proofs.Runs.{IsRun, is_run}
use Rattle.run_laws.proofs.Steps.{IsOnly}
use Rattle.run_laws.proofs.WorkedWords.{asking, complex_asked, complex_understood}

spelled : plc_text_of Poly complex_bytes ≡ Ok complex_text
spelled = ap (λ count. plc_of form.Poly count (content_lines complex_bytes)) eight_lines ∙ ap (plc_of form.Poly 8) complex_lines_are ∙ complex_text_is

read : (folder : FolderSeen) → HasFile complex_start folder → InputAnswer tetgen_limits folder (asking false true) (Ok pyramid_input)
read folder has =
    let name = codes "pyramid.poly" in
    let holds = subst (λ files. Holds files name complex_bytes) (sym has.files) has.held in
    (complex_file name complex_text, (complex_bytes, (holds, omega arith), (complex_text, spelled, refl)), (pyramid_text, refl, (tt, no_corners, refl)))

abbrev hull_mesh : ComplexMesh
hull_mesh = record { points = grid_points; triangles = []; tetrahedra = delaunay_rows grid_points; marks = None }

mesh_is : pyramid_mesh ≡ mesh_of_complex pyramid_bound hull_mesh
mesh_is = ap (λ rows. mesh_of_complex pyramid_bound (record hull_mesh { tetrahedra = rows })) (sym rows_are)

made : MeshAnswer (asking false true) pyramid_bound (Ok pyramid_mesh)
made = (hull_mesh, has_mesh grid_points not_flat meshable, mesh_is)

mesh_only : IsOnly (MeshAnswer (asking false true) pyramid_bound) pyramid_mesh
mesh_only (Ok mesh) n h = ap (λ m. Ok m) (h.2 ∙ ap (mesh_of_complex pyramid_bound) (one_mesh grid_points not_flat meshable h.0 h.1) ∙ sym mesh_is)
mesh_only (Err s) n h = absurd (no_fault grid_points not_flat meshable h.0 (λ e. n (h.1 ∙ ap status_of_fault e)) h.2)

pub complex_run : IsRun complex_start plain_outputs
complex_run =
    is_run complex_start (asking false true) pyramid_input pyramid_bound pyramid_mesh plain_outputs complex_understood complex_asked refl
    read (on_grid false true) made mesh_only (plain_are true)
