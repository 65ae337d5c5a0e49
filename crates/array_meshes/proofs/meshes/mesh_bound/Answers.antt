use Rattle.std.proofs.Common.{List, subst, sym}
use Rattle.complex_mesh.specs.Protection.{IsMeshable}
use Rattle.complex_mesh.specs.declared.mesh.MeshOptions.{MeshOptions}
use Rattle.geo_laws.specs.Complex.{Complex}
use Rattle.sign_predicates.specs.Point.{Point}
use Rattle.array_meshes.proofs.Drawn.{meshable}
use Rattle.array_meshes.proofs.meshes.mesh_bound.Goals as goal

pub mesh_complex-requires : goal.mesh_complex-requires
mesh_complex-requires c =
    let made = c.args.complex.now in
    let table = c.args.table.now in
    let bound = c.args.bound.now in
    subst (λ (o : MeshOptions). IsMeshable o.halvings o.budget c.in_ok-points.points bound) (sym c.mesh_options.ensures)
    (subst (λ (ps : List Point). IsMeshable table.grid.halvings made.options.budget ps bound) (sym c.in_ok-points.ensures)
    (subst (λ (k : Complex). IsMeshable table.grid.halvings made.options.budget table.points k) (sym c.requires.bound)
    (meshable made table c.requires.table c.requires.there c.requires.budget)))
