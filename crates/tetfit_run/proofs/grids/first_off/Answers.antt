use Rattle.std.proofs.Common.{◌≡◌, ℕ, subst}
use Rattle.std.specs.Prelude.{find, option_copied}
use Rattle.tetfit_run.specs.Hints.{is_off_at}
use Rattle.tetfit_run.proofs.grids.first_off.Goals as goal

pub returns : goal.returns
returns c =
    let ps = c.args.points.now in
    subst (λ (finest : ℕ). option_copied c.first_over.result ≡ find (is_off_at c.args.wide finest c.args.origin c.args.decimals) ps) c.finest_at-finest.ensures c.first_over.ensures
