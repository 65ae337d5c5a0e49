use Rattle.std.proofs.Common.{refl, ◌∙◌}
use Rattle.run_steps.proofs.Meshables.{with_added}
use Rattle.run_steps.proofs.mesh.complex_meshed.Goals as goal

pub returns : goal.returns
returns c =
    let added = c.in_ok-added.added in
    c.with_added.ensures ∙ with_added c.args.bound c.args.made _ added.points added.names refl c.in_ok-added.ensures.points c.in_ok-added.ensures.names
