use Rattle.std.proofs.Common.{◌≡◌, ◌++◌, ℕ, drop}
use Rattle.geo_laws.specs.declared.tetrahedra.Tet.{Tet}
use Rattle.solver_files.specs.Mesh.{mesh_of}
use Rattle.solver_files.specs.Vtk.{scalar_line}
use Rattle.solver_files.proofs.Parts.{numbered_texts}
use Rattle.solver_files.proofs.vtk.put_scalars.Given as goal

-- the text so far, and the lines of the tetrahedra that are left, make up the whole
abbrev pub invariant-loop-i : goal.invariant-loop-i
invariant-loop-i l =
    let line = λ (place : ℕ) (t : Tet). scalar_line (mesh_of l.mesh) place in
    l.out ++ numbered_texts line l.i (drop l.i l.mesh.list.now) ≡ l.fn.out ++ numbered_texts line 0 l.mesh.list.now
