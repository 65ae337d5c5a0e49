use Rattle.std.proofs.Common.{◌≤◌, List, length, sym, subst, ◌∙◌, arith, ltb-true, true≢false}
use Rattle.mesh_arena.specs.Cavity.{IsInCavitySlots}
use Rattle.mesh_arena.specs.declared.slot.Slot.{Slot}
use Rattle.cavity_insert.proofs.Marking.{unmarked_past}
use Rattle.cavity_insert.proofs.marks.MarkedCavity.has.Goals as goal

pub returns-else-place-len : goal.returns-else-place-len
returns-else-place-len c =
    let u = c.args.s.index in
    let marks = c.self.inside.marks.items in
    let past : length marks ≤ u = omega (arith, c.len.ensures) in (
      λ t. absurd (let less = ltb-true u c.len.result t in omega arith),
      λ h. absurd (true≢false (sym (c.self.invariant.all u (subst (λ (s : List Slot). IsInCavitySlots s u) (sym c.self.view_is) h)) ∙ unmarked_past marks u past)),
    )
