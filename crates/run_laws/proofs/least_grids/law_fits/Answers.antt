use Rattle.run_laws.proofs.Fitting.{fits}
use Rattle.run_laws.proofs.least_grids.law_fits.Goals as goal

pub returns : goal.returns
returns c = fits
