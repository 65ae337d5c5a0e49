use Rattle.std.proofs.Common.{◌+◌, None, sym, subst, arith}
use Rattle.simplex_meets.specs.Pairs.{IsLeastTo}
use Rattle.simplex_meets.proofs.Leasts.{least_start, least_same, least_more, first_of_least}
use Rattle.simplex_meets.proofs.pairing.first_unmet_pair.Goals as goal
use Rattle.simplex_meets.proofs.pairing.first_unmet_pair.Goals.{then-not-is_marked, else-not-is_marked}

pub returns-then-end-eq0 : goal.returns-then-end-eq0
returns-then-end-eq0 c =
    let a = c.args in
    first_of_least a.compared a.points.now a.parts.now a.marks.now 0 c.unmarked_end.result None c.requires.met c.unmarked_end.ensures (λ k h l. omega arith)
    (least_start a.compared a.points.now a.parts.now a.marks.now)

pub loop-i-init : goal.loop-i-init
loop-i-init c = least_start c.args.compared c.args.points.now c.args.parts.now c.args.marks.now

pub least_beside-found-requires-clause-before : goal.least_beside-found-requires-clause-before
least_beside-found-requires-clause-before c = c.loop-i.invariant.is_found

pub loop-i-preserved : goal.loop-i-preserved
loop-i-preserved c =
    let a = c.args in
    let i = c.loop-i.i in
    let P = IsLeastTo a.compared a.points.now a.parts.now a.marks.now (i + 1) in
    elim c.if-not-is_marked.branch [
      | then-not-is_marked w ↦
          let e = w.least_beside-found.ensures in
          subst P (sym w.found-is)
          (least_more a.compared a.points.now a.parts.now a.marks.now i c.loop-i.found w.least_beside-found.result e.found e.no_later e.settled c.loop-i.invariant)
      | else-not-is_marked w ↦
          subst P (sym w.found-is)
          (least_same a.compared a.points.now a.parts.now a.marks.now i c.loop-i.found (c.is_marked.ensures.0 w.if-not-is_marked.false) c.loop-i.invariant)
    ]

pub returns : goal.returns
returns c =
    let a = c.args in
    first_of_least a.compared a.points.now a.parts.now a.marks.now c.loop-i.i c.unmarked_end.result c.loop-i.found c.requires.met c.unmarked_end.ensures (λ k h l. omega arith) c.loop-i.invariant
