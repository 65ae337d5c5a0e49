use Rattle.run_laws.proofs.LargerUnit.{larger_unit}
use Rattle.run_laws.proofs.written_meshes.law_larger_unit.Goals as goal

pub returns : goal.returns
returns c = larger_unit
