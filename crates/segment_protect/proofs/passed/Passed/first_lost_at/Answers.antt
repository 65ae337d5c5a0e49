use Rattle.std.proofs.Common.{◌≡◌, ◌⊎◌, inl, inr, ◌-◌, ◌≤◌, length, subst, ◌∙◌, arith}
use Rattle.segment_protect.specs.Watch.{pieces_of}
use Rattle.segment_protect.specs.Passed.{AreLinked, IsSideAt}
use Rattle.segment_protect.proofs.Lost.{led_back, searched_more}
use Rattle.segment_protect.proofs.passed.Passed.first_lost_at.Goals as goal
use Rattle.segment_protect.proofs.passed.Passed.first_lost_at.Goals.{then-not-is_side_at, else-not-is_side_at}

pub loop-count-smaller : goal.loop-count-smaller
loop-count-smaller c =
    let pieces = pieces_of c.args.self.now.watched.items in
    let new = c.is_side_at.new.self in
    let count = c.loop-count.count in
    let next = c.index-count-in-loop-count.result.now in
    let n = length c.args.living.now.points in
    let are : AreLinked n pieces new.earlier.items new.latest.items =
    subst (λ qs. AreLinked n qs new.earlier.items new.latest.items) (c.is_side_at.ensures.pieces ∙ c.loop-count.invariant.pieces) c.is_side_at.ensures.passed.linked in
    let last = led_back n pieces new.earlier.items new.latest.items count next are (omega arith) c.loop-count.invariant.searched.within c.index-count-in-loop-count.ensures in
    let within = last.within in
    omega arith

pub loop-count-preserved : goal.loop-count-preserved
loop-count-preserved c =
    let ps = c.args.living.now.points in
    let pieces = pieces_of c.args.self.now.watched.items in
    let new = c.is_side_at.new.self in
    let so = c.loop-count.invariant in
    let count = c.loop-count.count in
    let less = c.if-not-is_side_at.least in
    let same : pieces_of new.watched.items ≡ pieces = c.is_side_at.ensures.pieces ∙ so.pieces in
    let are = subst (λ qs. AreLinked (length ps) qs new.earlier.items new.latest.items) same c.is_side_at.ensures.passed.linked in
    let facts : (less ≤ c.loop-count.least) × ((less ≤ count - 1) ⊎ IsSideAt ps pieces (count - 1)) =
    elim c.if-not-is_side_at.branch [
      | then-not-is_side_at w ↦ (let e = w.least-is in let m = w.min-least.ensures in (omega arith, inl (omega arith)))
      | else-not-is_side_at w ↦ (let e = w.least-is in (omega arith, inr (subst (λ qs. IsSideAt ps qs (count - 1)) so.pieces (c.is_side_at.ensures.side w.if-not-is_side_at.false))))
    ] in
    let least = so.least in
    let below = facts.0 in
    record {
      pieces = same;
      passed = c.is_side_at.ensures.passed;
      least = omega arith;
      searched = searched_more ps (length ps) pieces new.earlier.items new.latest.items c.args.v count c.index-count-in-loop-count.result.now c.loop-count.least less are so.searched (omega arith) c.index-count-in-loop-count.ensures below facts.1;
    }
