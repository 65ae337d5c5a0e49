use Rattle.std.proofs.Common.{◌≡◌, true, sym, ◌∙◌, arith}
use Rattle.geo_laws.specs.OrientedFace.{Face}
use Rattle.geo_laws.proofs.Members.{here, there}
use Rattle.tangle_fill.specs.Change.{IsFilledNear}
use Rattle.tangle_laws.proofs.Apart.{fails_true}
use Rattle.tangle_laws.proofs.Sides.{on_own}
use Rattle.tangle_fill.proofs.accept.is_closed.Goals.{then-is_filled, else-is_filled, then-is_filled-2, else-is_filled-2}
use Rattle.tangle_fill.proofs.accept.is_closed.Goals as goal

pub is_filled-requires-then-is_filled-clause-face : goal.is_filled-requires-then-is_filled-clause-face
is_filled-requires-then-is_filled-clause-face c =
    let on = c.requires.on in
    record { a_is_there = on 0 0 (omega arith); b_is_there = on 3 0 (omega arith); c_is_there = on 2 0 (omega arith) }

pub is_filled-requires-then-is_filled-2-clause-face : goal.is_filled-requires-then-is_filled-2-clause-face
is_filled-requires-then-is_filled-2-clause-face c =
    let on = c.requires.on in
    record { a_is_there = on 0 0 (omega arith); b_is_there = on 1 0 (omega arith); c_is_there = on 3 0 (omega arith) }

pub is_filled-requires-then-is_filled-3-clause-face : goal.is_filled-requires-then-is_filled-3-clause-face
is_filled-requires-then-is_filled-3-clause-face c =
    let on = c.requires.on in
    record { a_is_there = on 0 0 (omega arith); b_is_there = on 2 0 (omega arith); c_is_there = on 1 0 (omega arith) }

pub is_filled-requires-clause-row : goal.is_filled-requires-clause-row
is_filled-requires-clause-row c =
    let t = c.args.row in
    on_own t (record { a = t.b; b = t.d; c = t.c }) here

pub is_filled-requires-then-is_filled-clause-row : goal.is_filled-requires-then-is_filled-clause-row
is_filled-requires-then-is_filled-clause-row c =
    let t = c.args.row in
    on_own t (record { a = t.a; b = t.c; c = t.d }) (there here)

pub is_filled-requires-then-is_filled-2-clause-row : goal.is_filled-requires-then-is_filled-2-clause-row
is_filled-requires-then-is_filled-2-clause-row c =
    let t = c.args.row in
    on_own t (record { a = t.a; b = t.d; c = t.b }) (there (there here))

pub is_filled-requires-then-is_filled-3-clause-row : goal.is_filled-requires-then-is_filled-3-clause-row
is_filled-requires-then-is_filled-3-clause-row c =
    let t = c.args.row in
    on_own t (record { a = t.a; b = t.b; c = t.c }) (there (there (there here)))

pub returns-then-is_filled-3 : goal.returns-then-is_filled-3
returns-then-is_filled-3 c h =
    let t = c.args.row in
    let F : Face → Type 0 = IsFilledNear c.args.points.now c.args.change.now in
    let A : Type 0 = F (record { a = t.b; b = t.c; c = t.d }) in
    let B : Type 0 = F (record { a = t.a; b = t.d; c = t.c }) in
    let C : Type 0 = F (record { a = t.a; b = t.b; c = t.d }) in
    let two : c.if-is_filled.value ≡ true → A × B = elim c.if-is_filled.branch [
      | then-is_filled w ↦ λ e. (c.is_filled.ensures w.if-is_filled.true, w.is_filled-then-is_filled.ensures (sym w.value-is ∙ e))
      | else-is_filled w ↦ λ e. absurd (fails_true c.is_filled.result w.if-is_filled.false (sym w.value-is ∙ e))
    ] in
    let three : c.if-is_filled-2.value ≡ true → A × B × C = elim c.if-is_filled-2.branch [
      | then-is_filled-2 w ↦ λ e. let ab = two w.if-is_filled-2.true in (ab.0, ab.1, w.is_filled-then-is_filled-2.ensures (sym w.value-is ∙ e))
      | else-is_filled-2 w ↦ λ e. absurd (fails_true c.if-is_filled.value w.if-is_filled-2.false (sym w.value-is ∙ e))
    ] in
    let abc = three c.if-is_filled-3.true in
    (abc.0, (abc.1, (abc.2, (c.is_filled-then-is_filled-3.ensures h, tt))))
