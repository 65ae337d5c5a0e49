use Rattle.std.proofs.Common.{◌+◌, ◌<◌, ◌≤◌, length, List, sym, subst, arith}
use Rattle.geo_laws.specs.declared.tetrahedra.Tet.{Tet}
use Rattle.tangle_fill.proofs.Removal.{IsRemovedBelow, removed_none, pass_kept, take_removed, rest_of}
use Rattle.tangle_fill.proofs.change.rest_of.Goals.{then-not-is_at+in_ok-push, else-not-is_at}
use Rattle.tangle_fill.proofs.change.rest_of.Goals as goal

pub loop-i-init : goal.loop-i-init
loop-i-init c = subst (λ (rest : List Tet). IsRemovedBelow c.args.list.now c.args.other.now rest 0) (sym c.new-rest.ensures) (removed_none c.args.list.now c.args.other.now)

pub loop-i-preserved : goal.loop-i-preserved
loop-i-preserved c =
    let list = c.args.list.now in
    let other = c.args.other.now in
    let n = c.loop-i.i in
    let l : n < length list = omega arith in
    elim c.if-not-is_at.branch [
      | then-not-is_at+in_ok-push w ↦
          subst (λ (rest : List Tet). IsRemovedBelow list other rest (n + 1)) (sym w.rest-is)
          (subst (λ (rest : List Tet). IsRemovedBelow list other rest (n + 1)) (sym w.in_ok-push.ensures.ok)
          (take_removed list other c.loop-i.rest n c.at-row.result l c.loop-i.invariant c.at-row.ensures))
      | else-not-is_at w ↦
          subst (λ (rest : List Tet). IsRemovedBelow list other rest (n + 1)) (sym w.rest-is)
          (pass_kept list other c.loop-i.rest n c.at-row.result c.loop-i.invariant c.at-row.ensures (c.is_at.ensures w.if-not-is_at.false))
    ]

pub returns : goal.returns
returns c =
    let all : length c.args.list.now ≤ c.loop-i.i = omega arith in
    rest_of c.args.list.now c.args.other.now c.loop-i.rest c.loop-i.i all c.loop-i.invariant
