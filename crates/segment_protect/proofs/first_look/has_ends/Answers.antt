use Rattle.std.proofs.Common.{sym, ◌∙◌}
use Rattle.cavity_insert.proofs.SlotSides.{corner_found}
use Rattle.segment_protect.proofs.first_look.has_ends.Goals as goal

pub returns-clause-first : goal.returns-clause-first
returns-clause-first c = λ t. corner_found c.args.row c.args.piece.a (sym c.if-not-has_corner.ensures)

pub returns-clause-second : goal.returns-clause-second
returns-clause-second c = λ t. corner_found c.args.row c.args.piece.b (sym c.has_corner-2.ensures ∙ t)
