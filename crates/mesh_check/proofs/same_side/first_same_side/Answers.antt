use Rattle.std.proofs.Common.{◌≡◌, ◌+◌, ◌<◌, ◌≤◌, ◌-◌, ℕ, Option, None, subst, sym, ap, ◌∙◌, arith, length, refl}
use Rattle.std.specs.HashMap.{get}
use Rattle.mesh_check.specs.Searches.{IsLeastOf}
use Rattle.mesh_check.specs.Sides.{same_side, AreFirstsFrom, MeetsLater}
use Rattle.mesh_check.proofs.Rows.{row_is, row_on}
use Rattle.mesh_check.proofs.SidesOf.{FirstFrom, firsts_none, firsts_put, from_end, from_step, from_start}
use Rattle.mesh_check.proofs.same_side.first_same_side.Goals as goal

pub loop-left-init : goal.loop-left-init
loop-left-init c =
    let ps = c.args.points.now in
    let rows = c.args.list.now in
    record {
      there = omega arith;
      kept = subst (λ (n : ℕ). AreFirstsFrom ps rows n (get same_side c.in_ok-sides.sides)) (sym c.len-left.ensures.count) (firsts_none ps rows (get same_side c.in_ok-sides.sides) (λ q. rw c.in_ok-sides.ensures.empty refl));
      first = subst (λ (n : ℕ). FirstFrom ps rows n None) (sym c.len-left.ensures.count) (from_end ps rows);
    }

pub first_met-met-requires-clause-row : goal.first_met-met-requires-clause-row
first_met-met-requires-clause-row c = row_on c.args.points.now c.args.list.now (c.loop-left.left - 1) c.at-row.result c.requires (let le = c.loop-left.invariant.there in omega arith) c.at-row.ensures

pub put_row-requires : goal.put_row-requires
put_row-requires c = row_on c.args.points.now c.args.list.now (c.loop-left.left - 1) c.at-row.result c.requires (let le = c.loop-left.invariant.there in omega arith) c.at-row.ensures

pub loop-left-preserved : goal.loop-left-preserved
loop-left-preserved c =
    let ps = c.args.points.now in
    let rows = c.args.list.now in
    let i = c.loop-left.left - 1 in
    let le = c.loop-left.invariant.there in
    let lt : i < length rows = omega arith in
    let next : c.loop-left.left ≡ i + 1 = omega arith in
    let is = row_is rows i c.at-row.result c.at-row.ensures in
    let kept = subst (λ (n : ℕ). AreFirstsFrom ps rows n (get same_side c.loop-left.sides)) next c.loop-left.invariant.kept in
    let first = subst (λ (n : ℕ). FirstFrom ps rows n c.loop-left.first) next c.loop-left.invariant.first in
    let met = subst (λ (n : ℕ). IsLeastOf (MeetsLater ps rows n c.at-row.result 4) c.first_met-met.result) next c.first_met-met.ensures in
    record {
      there = omega arith;
      kept = firsts_put ps rows i c.at-row.result (get same_side c.loop-left.sides) (get same_side c.put_row.new.sides) lt is kept c.in_ok-put_row.ensures;
      first = subst (λ (o : Option (ℕ × ℕ)). FirstFrom ps rows i o) (sym c.paired-first.ensures) (from_step ps rows i c.at-row.result c.first_met-met.result c.loop-left.first is met first);
    }

pub returns : goal.returns
returns c =
    let none : c.loop-left.left ≡ 0 = omega arith in
    from_start c.args.points.now c.args.list.now c.loop-left.first (subst (λ (n : ℕ). FirstFrom c.args.points.now c.args.list.now n c.loop-left.first) none c.loop-left.invariant.first)
