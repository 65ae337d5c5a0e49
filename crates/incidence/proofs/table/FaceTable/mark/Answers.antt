use Rattle.std.proofs.Common.{◌≡◌, ◌<◌, ℕ, true, List, Bool, length, set, refl, sym, subst, ap, ◌∙◌, arith}
use Rattle.std.proofs.lemmas.Bool.{true≢false}
use Rattle.std.proofs.lemmas.List.{get_or-set_other, length-set}
use Rattle.incidence.specs.Chains.{face_at, chain_of, AreMarkedTo}
use Rattle.incidence.proofs.Chained.{same_corners, corners_same, marked_next, set_marked, still_marked}
use Rattle.incidence.proofs.table.FaceTable.mark.Goals as goal
use Rattle.incidence.proofs.table.FaceTable.mark.Goals.{then-eq, else-eq}
use Rattle.geo_laws.specs.Marks.{is_marked}

pub loop-at-preserved : goal.loop-at-preserved
loop-at-preserved c =
    let faces = c.args.self.now in
    let at = c.loop-at.at in
    let x = c.next_at-at.ensures in
    let there : at < length faces = omega (arith, c.loop-at-test.true, c.len.ensures) in
    let like = c.loop-at.invariant.like there in
    let long = c.loop-at.invariant.marked.long ∙ c.requires in
    record {
      within = x.within;
      like = λ h. x.like h ∙ like;
      marked = elim c.if-eq.branch [
        | then-eq w ↦
            let same : face_at faces at ≡ c.args.face = sym c.at.ensures ∙ same_corners c.at.result c.args.face (sym w.if-eq.ensures) in
            subst (AreMarkedTo faces c.args.face c.next_at-at.result c.args.marks.now) (sym w.marks-is)
            (marked_next faces c.args.face at c.next_at-at.result c.args.marks.now c.loop-at.marks (set c.loop-at.marks at true) there long like x
            (set_marked faces c.args.face at c.loop-at.marks (omega (arith, there, long)) same) (length-set c.loop-at.marks at true)
            (λ k n. get_or-set_other c.loop-at.marks at k true _ n) c.loop-at.invariant.marked)
        | else-eq w ↦
            let other : ¬ (face_at faces at ≡ c.args.face) = λ e. true≢false (sym (corners_same c.at.result c.args.face (c.at.ensures ∙ e)) ∙ sym w.if-eq.ensures) in
            subst (AreMarkedTo faces c.args.face c.next_at-at.result c.args.marks.now) (sym w.marks-is)
            (marked_next faces c.args.face at c.next_at-at.result c.args.marks.now c.loop-at.marks c.loop-at.marks there long like x
            (still_marked faces c.args.face at c.loop-at.marks other) refl (λ k n. refl) c.loop-at.invariant.marked)
      ];
    }
