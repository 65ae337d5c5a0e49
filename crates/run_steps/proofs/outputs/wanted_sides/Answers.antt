use Rattle.std.proofs.lemmas.Result.{IfOk-weaker}
use Rattle.geo_laws.specs.Faces.{AreSidesOf}
use Rattle.run_steps.proofs.Named.{sides_named}
use Rattle.run_steps.proofs.outputs.wanted_sides.Goals as goal

pub returns-clause-named : goal.returns-clause-named
returns-clause-named c =
    let mesh = c.args.mesh.now in
    IfOk-weaker c.edges_of.result (AreSidesOf mesh.tetrahedra) _ (λ sides are. sides_named mesh.names mesh.tetrahedra sides c.requires.named are) c.edges_of.ensures
