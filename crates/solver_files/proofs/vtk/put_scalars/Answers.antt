use Rattle.std.proofs.Common.{ℕ, ◌+◌, [], ◌∷◌, ◌++◌, ap, refl, ◌∙◌, arith}
use Rattle.geo_laws.specs.declared.tetrahedra.Tet.{Tet}
use Rattle.geo_laws.specs.Delaunay.{row_at}
use Rattle.solver_files.specs.Mesh.{mesh_of, attribute_at, scalar_of}
use Rattle.solver_files.specs.Vtk.{scalar_line}
use Rattle.std.proofs.lemmas.List.{get_or_default}
use Rattle.solver_files.proofs.Parts.{next_numbered, then_part}
use Rattle.solver_files.proofs.vtk.put_scalars.Goals as goal

pub loop-i-preserved : goal.loop-i-preserved
loop-i-preserved c =
    let m = mesh_of c.args.mesh.now in
    let i = c.loop-i.i in
    let t = row_at m.rows i in
    let written = c.in_ok-append.ensures.ok ∙ ap (λ s. c.loop-i.out ++ s) (c.scalar_of.ensures ∙ ap scalar_of c.attribute_at.ensures) in
    let line = then_part c.loop-i.out (scalar_of (attribute_at m i)) c.append.new.self c.push.new.self (10 ∷ []) written c.in_ok-push.ensures.ok in
    next_numbered (λ (place : ℕ) (u : Tet). scalar_line m place) i (i + 1) i m.rows t c.loop-i.out _ _ refl (omega arith) (get_or_default m.rows i t _ (omega arith)) line c.loop-i.invariant
