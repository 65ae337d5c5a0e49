use Rattle.std.proofs.Common.{sym, ap, ◌∙◌, arith}
use Rattle.std.proofs.lemmas.Bool.{true≢false}
use Rattle.incidence.proofs.Partners.{face_same, face_itself}
use Rattle.mesh_files.proofs.FacetFaces.{all_before, none_before, first_there, none_there}
use Rattle.mesh_files.proofs.facet_faces.first_facet.Goals.{else-low-len-via-then-low-len+else-eq, else-low-len-via-else-low-len}
use Rattle.mesh_files.proofs.facet_faces.first_facet.Goals as goal

pub loop-low-preserved-then-stands_before : goal.loop-low-preserved-then-stands_before
loop-low-preserved-then-stands_before c =
    let was = c.loop-low.invariant in
    record {
      order = omega (arith, c.loop-low-test.true);
      within = was.within;
      before = all_before c.args.faces.now c.requires c.args.face c.at.result _ (omega (arith, c.loop-low-test.true, was.within)) c.at.ensures (c.stands_before.ensures.0 c.if-stands_before.true);
      after = was.after;
    }

pub loop-low-preserved : goal.loop-low-preserved
loop-low-preserved c =
    let was = c.loop-low.invariant in
    record {
      order = omega (arith, c.loop-low-test.true);
      within = omega (arith, c.loop-low-test.true, was.within);
      before = was.before;
      after = none_before c.args.faces.now c.requires c.args.face c.at.result _ c.at.ensures (λ h. true≢false (sym (c.stands_before.ensures.1 h) ∙ c.if-stands_before.false));
    }

pub returns-then-eq : goal.returns-then-eq
returns-then-eq c =
    let was = c.loop-low.invariant in
    let there = c.at-then-low-len.ensures in
    let here = c.at-then-eq.ensures in
    first_there c.args.faces.now c.requires c.args.face c.loop-low.low was.before (λ i d l m. was.after i d (omega (arith, c.loop-low-test.false, was.order, l)) m)
    c.at-then-eq.result (omega (arith, c.if-low-len.true, c.len.ensures.count)) here
    (ap (λ x. x.face) (sym (here c.at-then-eq.result) ∙ there c.at-then-eq.result) ∙ face_same c.at-then-low-len.result.face c.args.face (sym c.eq.ensures ∙ c.if-eq.true))

pub returns : goal.returns
returns c =
    let was = c.loop-low.invariant in
    let faces = c.args.faces.now in
    let face = c.args.face in
    let low = c.loop-low.low in
    none_there faces c.requires face low was.before (λ i d l m. was.after i d (omega (arith, c.loop-low-test.false, was.order, l)) m)
    (λ l d e. elim c.else-low-len.branch [
      | else-low-len-via-then-low-len+else-eq w ↦
          true≢false (sym (face_itself w.at-then-low-len.result.face face (sym (ap (λ x. x.face) (w.at-then-low-len.ensures d)) ∙ e)) ∙ sym w.eq.ensures ∙ w.if-eq.false)
      | else-low-len-via-else-low-len w ↦ omega (arith, w.if-low-len.false, c.len.ensures.count, l)
    ])
