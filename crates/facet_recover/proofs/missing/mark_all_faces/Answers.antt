use Rattle.std.proofs.Common.{take, subst, sym, ◌∙◌, arith}
use Rattle.std.proofs.lemmas.List.{take_all}
use Rattle.facet_recover.proofs.Lists.{taken_more}
use Rattle.facet_recover.proofs.Listed.{AreMarked, marked_more}
use Rattle.facet_recover.proofs.missing.mark_all_faces.Goals as goal

pub loop-i-preserved : goal.loop-i-preserved
loop-i-preserved c = record {
  long = c.mark_faces.ensures.long ∙ c.loop-i.invariant.long;
  marked =
      subst (λ rows. AreMarked c.args.table.now rows c.mark_faces.new.marks) (sym (taken_more c.args.list.now c.loop-i.i c.at.result (omega arith) c.at.ensures))
      (marked_more c.args.table.now (take c.loop-i.i c.args.list.now) c.at.result c.loop-i.marks c.mark_faces.new.marks c.mark_faces.ensures.marked c.loop-i.invariant.marked);
}

pub returns-clause-marked : goal.returns-clause-marked
returns-clause-marked c = subst (λ rows. AreMarked c.args.table.now rows c.loop-i.marks) (take_all c.loop-i.i c.args.list.now (omega arith)) c.loop-i.invariant.marked
