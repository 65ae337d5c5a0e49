use Rattle.solver_files.proofs.VtkTexts.{law_vtk_text}
use Rattle.solver_files.proofs.laws.law_vtk_text.Goals as goal

pub returns : goal.returns
returns c = law_vtk_text
