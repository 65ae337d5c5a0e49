use Rattle.mesh_files.proofs.EleTexts.{law_ele_text}
use Rattle.mesh_files.proofs.laws.law_ele_text.Goals as goal

pub returns : goal.returns
returns c = law_ele_text
