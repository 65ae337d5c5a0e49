use Rattle.tet_text.proofs.FieldBytes.{law_fields}
use Rattle.tet_text.proofs.laws.law_fields.Goals as goal

pub returns : goal.returns
returns c = law_fields
