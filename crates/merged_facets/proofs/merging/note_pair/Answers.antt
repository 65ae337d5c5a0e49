use Rattle.std.proofs.Common.{refl, sym, subst, arith, List, ℕ, ◌≡◌, length}
use Rattle.merged_facets.specs.Labels.{AreLabels}
use Rattle.merged_facets.specs.Merging.{NotesPair}
use Rattle.merged_facets.proofs.Labels.{whole}
use Rattle.merged_facets.proofs.Notes.{pair_noted}
use Rattle.merged_facets.proofs.merging.note_pair.Goals as goal

pub returns-in_ok-note-2 : goal.returns-in_ok-note-2
returns-in_ok-note-2 c =
    let ps = c.args.points.now in
    let cx = c.args.complex.now in
    let x = c.args.x in
    let y = c.args.y in
    let old = c.args.found.now in
    let down = c.join.new.down in
    let inner = c.note-then-are_joined.new.inner.keys in
    let long : old.down.len ≡ length down = omega (arith, c.deref_mut.ensures.len, c.join.auto.down) in
    let same : length down ≡ length old.down.items = omega (arith, c.deref_mut.ensures.len, c.join.auto.down) in
    subst (λ (d : List ℕ). NotesPair ps cx x y old.down.items old.inner.keys d inner) (sym (whole old.down.len down old.down.items long))
    (pair_noted ps cx x y old.down.items down old.inner.keys c.note.new.inner.keys inner c.requires.pair (c.if-are_joined.ensures.0 refl) c.in_ok-note.ensures c.in_ok-note-2.ensures
    c.join.ensures.forest same (λ label h. c.join.ensures.labels label (subst (λ (d : List ℕ). AreLabels d label) (sym c.deref_mut.ensures.value) h)))
