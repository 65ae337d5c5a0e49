use Rattle.std.proofs.Common.{◌≡◌, ◌≤◌, ◌<◌, ◌+◌, ℕ, Bool, min, take, length, sym, subst, ap, ◌∙◌, arith}
use Rattle.sign_predicates.specs.declared.tetrahedron.Corners.{Corners}
use Rattle.geo_laws.specs.Delaunay.{IsOn}
use Rattle.tet_shapes.specs.Worst.{NonePasses, PassesAt, is_below_degrees}
use Rattle.tet_shapes.proofs.Counts.{all_at}
use Rattle.tet_shapes.proofs.Thresholds.{none_all, none_below_less, none_next, none_weaker, one_passes}
use Rattle.tet_shapes.proofs.worst.least_angle.Goals as goal
use Rattle.tet_shapes.proofs.worst.least_angle.Goals.{then-degrees-least, else-degrees-least}

pub corners_of-requires : goal.corners_of-requires
corners_of-requires c = all_at (IsOn c.args.points.now) c.args.rows.now c.loop-i.i c.at.result c.requires (omega (arith, c.loop-i-test.true, c.len-i-end.ensures.count)) c.at.ensures

pub loop-i-preserved : goal.loop-i-preserved
loop-i-preserved c =
    let ps = c.args.points.now in
    let rows = c.args.rows.now in
    let i = c.loop-i.i in
    let row = c.at.result in
    let h = c.loop-i.invariant in
    let n = c.loop-i.least in
    let m = c.degrees_of-degrees.result in
    let of = c.degrees_of-degrees.ensures in
    let below : (ℕ → Corners → Bool) = λ k t. is_below_degrees k t in
    let here : i < length rows = omega (arith, c.loop-i-test.true, c.len-i-end.ensures.count) in
    let few : n ≤ 30 = omega (arith, h.most, c.min-aim.ensures) in
    let not = ap (below m) (sym c.corners_of.ensures) ∙ of.none in
    let before = none_weaker (below n) (below m) ps (take i rows) (λ t. none_below_less m n t of.most few) h.none in
    let none = none_next (below m) ps rows i row here c.at.ensures before not in
    elim c.if-degrees-least.branch [
      | then-degrees-least w ↦
          let one = one_passes (below (m + 1)) ps rows i row here c.at.ensures (ap (below (m + 1)) (sym c.corners_of.ensures) ∙ of.one w.if-degrees-least.true) in
          record {
            most = omega (arith, w.least-is, of.most, h.most);
            none = subst (λ k. NonePasses (below k) ps (take (i + 1) rows)) (sym w.least-is) none;
            one = λ l. subst (λ k. PassesAt (below (k + 1)) ps rows c.if-degrees-least.place) (sym w.least-is)
                (subst (PassesAt (below (m + 1)) ps rows) (sym w.place-is) one);
          }
      | else-degrees-least w ↦
          let same : m ≡ c.if-degrees-least.least = omega (arith, w.least-is, of.most, w.if-degrees-least.false) in
          let less : (c.if-degrees-least.least < c.min-aim.result → n < c.min-aim.result) = λ l. omega (arith, l, w.least-is) in
          record {
            most = omega (arith, w.least-is, h.most);
            none = subst (λ k. NonePasses (below k) ps (take (i + 1) rows)) same none;
            one = λ l. subst (λ k. PassesAt (below (k + 1)) ps rows c.if-degrees-least.place) (sym w.least-is)
                (subst (PassesAt (below (n + 1)) ps rows) (sym w.place-is) (h.one (less l)));
          }
    ]

pub returns-then-least-aim : goal.returns-then-least-aim
returns-then-least-aim c =
    let h = c.loop-i.invariant in
    let all : length c.args.rows.now ≤ c.loop-i.i = omega (arith, c.loop-i-test.false, c.len-i-end.ensures.count) in (
      omega (arith, c.if-least-aim.true, c.min-aim.ensures),
      record {
        none = none_all (is_below_degrees c.loop-i.least) c.args.points.now c.args.rows.now c.loop-i.i all h.none;
        one = h.one c.if-least-aim.true;
      },
    )

pub returns-else-least-aim : goal.returns-else-least-aim
returns-else-least-aim c =
    let h = c.loop-i.invariant in
    let all : length c.args.rows.now ≤ c.loop-i.i = omega (arith, c.loop-i-test.false, c.len-i-end.ensures.count) in
    let same : c.loop-i.least ≡ min c.args.most 30 = omega (arith, c.if-least-aim.false, h.most, c.min-aim.ensures) in
    subst (λ n. NonePasses (is_below_degrees n) c.args.points.now c.args.rows.now) same
    (none_all (is_below_degrees c.loop-i.least) c.args.points.now c.args.rows.now c.loop-i.i all h.none)
