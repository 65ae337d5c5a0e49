use Rattle.std.proofs.Common.{◌+◌, ◌++◌, ◌∷◌, [], take, subst, sym, ◌∙◌, arith}
use Rattle.std.proofs.lemmas.List.{take_all}
use Rattle.std.specs.List.{slice_index_or}
use Rattle.geo_laws.specs.Delaunay.{numbers}
use Rattle.box_tree.specs.Bounds.{HoldsCorners}
use Rattle.facet_recover.specs.Cavity.{IsRowOn}
use Rattle.facet_recover.specs.Parted.{IsParted}
use Rattle.box_tree.proofs.Lists.{all_at}
use Rattle.facet_recover.proofs.Lists.{taken_more}
use Rattle.facet_recover.proofs.Parting.{kept_row, crossed_row, sorted_rows, facet_order}
use Rattle.facet_recover.proofs.Stars.{star_on}
use Rattle.facet_recover.proofs.cavity.part_rows.Goals as goal
use Rattle.facet_recover.proofs.cavity.part_rows.Goals.{in-Nobody+in_ok-push-in-Nobody, in-One+in_ok-push-in-One}

pub owner_in-requires-clause-on : goal.owner_in-requires-clause-on
owner_in-requires-clause-on c = (all_at (IsRowOn c.args.points.now) c.args.list.now c.loop-i.i c.at-tet.result c.requires.rows (omega arith) c.at-tet.ensures).0

pub owner_in-requires-clause-positive : goal.owner_in-requires-clause-positive
owner_in-requires-clause-positive c = (all_at (IsRowOn c.args.points.now) c.args.list.now c.loop-i.i c.at-tet.result c.requires.rows (omega arith) c.at-tet.ensures).1

pub owner_in-requires-clause-holds : goal.owner_in-requires-clause-holds
owner_in-requires-clause-holds c = subst (λ t. HoldsCorners c.args.points.now (numbers t) c.star_at-star.result.bounds) (c.at-tet.ensures c.at-tet.result) (c.star_at-star.ensures.star.holds c.loop-i.i c.at-tet.result (omega arith) c.star_at-star.ensures.past)

pub returns-in-More : goal.returns-in-More
returns-in-More c = record {
  row = c.at-tet.result;
  is_row = (c.loop-i.i, omega arith, c.at-tet.ensures c.at-tet.result);
  is_tangled = c.in-More.ensures;
}

pub loop-i-preserved : goal.loop-i-preserved
loop-i-preserved c =
    let ps = c.args.points.now in
    let ts = c.args.triangles.now in
    let us = take c.loop-i.i c.args.list.now in
    let more = taken_more c.args.list.now c.loop-i.i c.at-tet.result (omega arith) c.at-tet.ensures in
    let rows : IsParted ps ts (take (c.loop-i.i + 1) c.args.list.now) c.match-owner_in.kept c.match-owner_in.crossed =
    elim c.match-owner_in.branch [
      | in-Nobody+in_ok-push-in-Nobody w ↦
          subst (λ vs. IsParted ps ts vs c.match-owner_in.kept c.match-owner_in.crossed) (sym more)
          (subst (λ kept. IsParted ps ts (us ++ c.at-tet.result ∷ []) kept c.match-owner_in.crossed) (sym (w.kept-is ∙ w.in_ok-push-in-Nobody.ensures.ok))
          (subst (IsParted ps ts (us ++ c.at-tet.result ∷ []) (c.loop-i.kept ++ c.at-tet.result ∷ [])) (sym w.crossed-is)
          (kept_row ps ts us c.loop-i.kept c.loop-i.crossed c.at-tet.result c.loop-i.invariant.parted w.in-Nobody.ensures)))
      | in-One+in_ok-push-in-One w ↦
          subst (λ vs. IsParted ps ts vs c.match-owner_in.kept c.match-owner_in.crossed) (sym more)
          (subst (λ kept. IsParted ps ts (us ++ c.at-tet.result ∷ []) kept c.match-owner_in.crossed) (sym w.kept-is)
          (subst (IsParted ps ts (us ++ c.at-tet.result ∷ []) c.loop-i.kept) (sym (w.crossed-is ∙ w.in_ok-push-in-One.ensures.ok))
          (crossed_row ps ts us c.loop-i.kept c.loop-i.crossed c.at-tet.result w.in-One.by c.loop-i.invariant.parted w.in-One.ensures)))
    ] in
    record { parted = rows; star = star_on c.args.points.now c.args.list.now c.args.tree.now c.loop-i.i c.star_at-star.result c.star_at-star.ensures.star }

pub returns : goal.returns
returns c = (
  (λ i j d l m. facet_order (slice_index_or c.keep_distinct.new.self i d).by.facet (slice_index_or c.keep_distinct.new.self j d).by.facet _ _ (c.keep_distinct.ensures.ascending i j d l m)),
  sorted_rows c.args.points.now c.args.triangles.now c.args.list.now c.loop-i.kept c.loop-i.crossed c.keep_distinct.new.self
      (subst (λ us. IsParted c.args.points.now c.args.triangles.now us c.loop-i.kept c.loop-i.crossed) (take_all c.loop-i.i c.args.list.now (omega arith)) c.loop-i.invariant.parted) c.keep_distinct.ensures.exactly,
)
