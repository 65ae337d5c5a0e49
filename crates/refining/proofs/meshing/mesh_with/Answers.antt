use Rattle.std.proofs.Common.{subst, sym}
use Rattle.complex_mesh.specs.Protection.{IsMeshable}
use Rattle.complex_mesh.specs.declared.mesh.MeshOptions.{MeshOptions}
use Rattle.refining.proofs.PointsBehind.{meshable_with}
use Rattle.refining.proofs.meshing.mesh_with.Goals as goal

pub mesh_complex-requires : goal.mesh_complex-requires
mesh_complex-requires c =
    let bound = c.args.bound.now in
    subst (λ (o : MeshOptions). IsMeshable o.halvings o.budget c.in-Ok.points bound.complex) (sym c.options_with-options.ensures)
    (meshable_with c.args.options.now bound c.args.more.now c.in-Ok.points c.args.halvings c.args.most c.requires.bound c.requires.halvings c.requires.most c.in-Ok.ensures)
