use Rattle.std.proofs.Common.{◌<◌, length, take, [], ◌∷◌, ◌++◌}
use Rattle.hole_carve.specs.Kept.{unmarked}
use Rattle.std.proofs.Common.{sym, ap, ◌∙◌, arith}
use Rattle.hole_carve.proofs.KeptRows.{unmarked_marked, unmarked_next}
use Rattle.hole_carve.proofs.carving.keep_row.Goals as goal

-- src/carving.rt:29:9
pub returns-then-marks-at : goal.returns-then-marks-at
returns-then-marks-at c = c.requires.before ∙ sym (unmarked_marked c.args.list.now c.args.marks.now c.args.at c.requires.there c.if-marks-at.true)

-- src/carving.rt:22:1
pub returns : goal.returns
returns c =
    c.in_ok-push.ensures.ok
    ∙ ap (λ s. s ++ c.at.result ∷ []) c.requires.before
    ∙ ap (λ r. unmarked (take c.args.at c.args.list.now) c.args.marks.now ++ r ∷ []) (sym (c.at.ensures (record { a = 0; b = 0; c = 0; d = 0 })))
    ∙ sym (unmarked_next c.args.list.now c.args.marks.now c.args.at c.requires.there (let l : c.args.at < length c.args.marks.now = omega (arith, c.requires.there, c.requires.long) in l) c.if-marks-at.false)
