use Rattle.std.proofs.Common.{◌≡◌, ◌-◌, ◌<◌, true, false, get_or, sym, ◌∙◌, arith}
use Rattle.std.proofs.lemmas.Bool.{eq-eqb, true≢false}
use Rattle.std.proofs.lemmas.List.{get_or_default}
use Rattle.incidence.specs.declared.uses.Use.{Use}
use Rattle.incidence.specs.HalfFaces.{used}
use Rattle.incidence.proofs.Halves.{pushed_first, pushed_next, put_same, differ, agree}
use Rattle.incidence.proofs.half_faces.push_halves.Goals.{then-at-eq0, else-at-eq0}
use Rattle.incidence.proofs.half_faces.push_halves.Goals as goal

no_use : Use
no_use = record { face = record { a = 0; b = 0; c = 0 }; row = 0 }

pub loop-at-init : goal.loop-at-init
loop-at-init c = record {
  pushed = pushed_first c.args.list.now c.args.uses.now c.args.halves.now.items c.reserve.new.self.items c.reserve.ensures.items c.requires.marked;
  room = omega (arith, c.in_ok-reserve.ensures.ok);
}

pub loop-at-preserved : goal.loop-at-preserved
loop-at-preserved c =
    let rows = c.args.list.now in
    let uses = c.args.uses.now in
    let at = c.loop-at.at in
    let u : Use = get_or uses at no_use in
    let m = c.if-at-eq0.first in
    let start : m ≡ true → 0 < at → (d : Use) → ¬ ((get_or uses (at - 1) d).face ≡ u.face) = λ t l d. elim c.if-at-eq0.branch [
      | then-at-eq0 w ↦ absurd (omega (arith, l, w.if-at-eq0.true))
      | else-at-eq0 w ↦ differ uses (at - 1) at m _ _ d no_use (omega arith) (omega arith) (w.first-is ∙ w.ne-first.ensures) t
    ] in
    let follow : m ≡ false → (0 < at) × ((d : Use) → (get_or uses (at - 1) d).face ≡ u.face) = λ f. elim c.if-at-eq0.branch [
      | then-at-eq0 w ↦ absurd (true≢false (sym (eq-eqb at 0 w.if-at-eq0.true) ∙ sym w.first-is ∙ f))
      | else-at-eq0 w ↦ (omega (arith, w.if-at-eq0.false), λ d. agree uses (at - 1) at m _ _ d no_use (omega arith) (omega arith) (w.first-is ∙ w.ne-first.ensures) f)
    ] in
    record {
      pushed = pushed_next rows (used rows c.args.halves.now.items) uses at c.loop-at.halves.items c.push_half.new.halves.items m u
          (omega arith)
          (λ d. get_or_default uses at d no_use (omega arith)) c.requires.apart
          (put_same uses (used rows c.loop-at.halves.items) _ at _ no_use
          (omega arith) c.push_half.ensures.used) c.push_half.ensures.marked start follow c.loop-at.invariant.pushed;
      room = omega (arith, c.push_half.ensures.longer, c.push_half.ensures.capacity);
    }
