use Rattle.std.proofs.Common.{◌≡◌, ◌≤◌, ◌<◌, ◌+◌, ◌-◌, ℕ, Bool, take, length, sym, subst, ap, ◌∙◌, arith}
use Rattle.sign_predicates.specs.declared.tetrahedron.Corners.{Corners}
use Rattle.geo_laws.specs.Delaunay.{IsOn}
use Rattle.tet_shapes.specs.Shape.{is_slim}
use Rattle.tet_shapes.specs.Worst.{NonePasses, PassesAt, is_over_doubled}
use Rattle.tet_shapes.proofs.Counts.{all_at}
use Rattle.tet_shapes.proofs.Thresholds.{none_all, none_next, none_over_more, none_weaker, one_passes, over_once}
use Rattle.tet_shapes.proofs.worst.greatest_ratio.Goals as goal
use Rattle.tet_shapes.proofs.worst.greatest_ratio.Goals.{then-doublings-passed, else-doublings-passed}

pub corners_of-requires : goal.corners_of-requires
corners_of-requires c = all_at (IsOn c.args.points.now) c.args.rows.now c.loop-i.i c.at.result c.requires.on (omega (arith, c.loop-i-test.true, c.len-i-end.ensures.count)) c.at.ensures

pub loop-i-preserved : goal.loop-i-preserved
loop-i-preserved c =
    let ps = c.args.points.now in
    let rows = c.args.rows.now in
    let i = c.loop-i.i in
    let row = c.at.result in
    let h = c.loop-i.invariant in
    let n = c.loop-i.passed in
    let m = c.doublings_of-doublings.result in
    let of = c.doublings_of-doublings.ensures in
    let over : (ℕ → Corners → Bool) = λ k t. is_over_doubled c.args.ratio k t in
    let here : i < length rows = omega (arith, c.loop-i-test.true, c.len-i-end.ensures.count) in
    let not = ap (over m) (sym c.corners_of.ensures) ∙ of.none in
    let before = none_weaker (over n) (over m) ps (take i rows) (λ t. none_over_more c.args.ratio n m t of.least) h.none in
    let none = none_next (over m) ps rows i row here c.at.ensures before not in
    elim c.if-doublings-passed.branch [
      | then-doublings-passed w ↦
          let one = one_passes (over (m - 1)) ps rows i row here c.at.ensures (ap (over (m - 1)) (sym c.corners_of.ensures) ∙ of.one w.if-doublings-passed.true) in
          record {
            most = omega (arith, w.passed-is, of.most);
            none = subst (λ k. NonePasses (over k) ps (take (i + 1) rows)) (sym w.passed-is) none;
            one = λ l. subst (λ k. PassesAt (over (k - 1)) ps rows c.if-doublings-passed.place) (sym w.passed-is)
                (subst (PassesAt (over (m - 1)) ps rows) (sym w.place-is) one);
          }
      | else-doublings-passed w ↦
          let same : m ≡ c.if-doublings-passed.passed = omega (arith, w.passed-is, of.least, w.if-doublings-passed.false) in
          let more : (0 < c.if-doublings-passed.passed → 0 < n) = λ l. omega (arith, l, w.passed-is) in
          record {
            most = omega (arith, w.passed-is, h.most);
            none = subst (λ k. NonePasses (over k) ps (take (i + 1) rows)) same none;
            one = λ l. subst (λ k. PassesAt (over (k - 1)) ps rows c.if-doublings-passed.place) (sym w.passed-is)
                (subst (PassesAt (over (n - 1)) ps rows) (sym w.place-is) (h.one (more l)));
          }
    ]

pub returns-then-passed-eq0-clause-greatest : goal.returns-then-passed-eq0-clause-greatest
returns-then-passed-eq0-clause-greatest c =
    let ratio = c.args.ratio in
    let ps = c.args.points.now in
    let rows = c.args.rows.now in
    let all : length rows ≤ c.loop-i.i = omega (arith, c.loop-i-test.false, c.len-i-end.ensures.count) in
    let none = none_all (is_over_doubled ratio c.loop-i.passed) ps rows c.loop-i.i all c.loop-i.invariant.none in
    let once = subst (λ n. NonePasses (is_over_doubled ratio n) ps rows) c.if-passed-eq0.true none in
    none_weaker (is_over_doubled ratio 0) (is_slim ratio) ps rows (λ t e. sym (over_once ratio t c.requires.fine) ∙ e) once

pub returns-else-passed-eq0-clause-greatest : goal.returns-else-passed-eq0-clause-greatest
returns-else-passed-eq0-clause-greatest c =
    let ratio = c.args.ratio in
    let ps = c.args.points.now in
    let rows = c.args.rows.now in
    let n = c.loop-i.passed in
    let all : length rows ≤ c.loop-i.i = omega (arith, c.loop-i-test.false, c.len-i-end.ensures.count) in
    let none = none_all (is_over_doubled ratio n) ps rows c.loop-i.i all c.loop-i.invariant.none in
    let same : n ≡ n - 1 + 1 = omega (arith, c.if-passed-eq0.false) in
    record {
      none = subst (λ k. NonePasses (is_over_doubled ratio k) ps rows) same none;
      one = c.loop-i.invariant.one (omega (arith, c.if-passed-eq0.false));
    }
