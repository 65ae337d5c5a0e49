use Rattle.run_laws.proofs.Complexes.{surface_read}
use Rattle.run_laws.proofs.inputs.law_surface_read.Goals as goal

pub returns : goal.returns
returns c = surface_read
