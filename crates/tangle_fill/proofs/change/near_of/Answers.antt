use Rattle.std.proofs.Common.{◌+◌, ◌<◌, ◌≤◌, List, length, sym, subst, arith}
use Rattle.std.specs.Prelude.{All}
use Rattle.std.proofs.lemmas.List.Elements.{All-push}
use Rattle.geo_laws.specs.Delaunay.{IsArranged}
use Rattle.geo_laws.specs.declared.tetrahedra.Tet.{Tet}
use Rattle.tangle_fill.specs.declared.growth.Growth.{Growth}
use Rattle.tangle_fill.proofs.Changes.{IsNearBelow, near_none, near_taken, near_passed, near_all}
use Rattle.tangle_fill.proofs.change.near_of.Goals.{then-has_three+in_ok-put_near+else-not-branch, else-has_three}
use Rattle.tangle_fill.proofs.change.near_of.Goals as goal

pub loop-i-init : goal.loop-i-init
loop-i-init c = (
  near_none c.args.marks.now c.args.rows.now c.in_ok-near.near c.in_ok-near.ensures.rows c.in_ok-near.ensures.indexed,
  subst (λ (xs : List Tet). All IsArranged xs) (sym c.in_ok-near.ensures.rows) (λ k d l. absurd (omega arith)),
)

pub loop-i-preserved : goal.loop-i-preserved
loop-i-preserved c =
    let marks = c.args.marks.now in
    let rows = c.args.rows.now in
    let n = c.loop-i.i in
    let row = c.at-row.result in
    let l : n < length rows = omega arith in
    let Kept : Growth → Type 0 = λ near. IsNearBelow marks rows near (n + 1) × All IsArranged near.rows in
    elim c.if-has_three.branch [
      | then-has_three+in_ok-put_near+else-not-branch w ↦
          let put = w.in_ok-put_near.ensures w.if-not-branch.false in
          subst Kept (sym w.near-is) (
            near_taken marks rows c.loop-i.near _ n row l c.loop-i.invariant.0 c.at-row.ensures put.apart put.rows put.indexed,
            subst (λ (xs : List Tet). All IsArranged xs) (sym put.rows) (All-push IsArranged c.loop-i.near.rows row c.loop-i.invariant.1 put.arranged),
          )
      | else-has_three w ↦
          subst Kept (sym w.near-is)
          (near_passed marks rows c.loop-i.near n row c.loop-i.invariant.0 c.at-row.ensures (c.has_three.ensures w.if-has_three.false), c.loop-i.invariant.1)
    ]

pub returns : goal.returns
returns c =
    let all : length c.args.rows.now ≤ c.loop-i.i = omega arith in
    near_all c.args.marks.now c.args.rows.now c.loop-i.near c.loop-i.i all c.loop-i.invariant.0
