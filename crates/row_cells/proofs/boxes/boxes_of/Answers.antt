use Rattle.std.proofs.Common.{ap, sym, subst, ◌∙◌, ◌++◌, ◌∷◌, [], List, below_more, arith}
use Rattle.std.proofs.lemmas.List.{get_or_default}
use Rattle.geo_laws.specs.Delaunay.{corners, IsOn}
use Rattle.geo_laws.specs.declared.tetrahedra.Tet.{Tet}
use Rattle.row_cells.specs.declared.boxes.RowBox.{RowBox}
use Rattle.row_cells.specs.Boxes.{row, box_of, AreOnGrid}
use Rattle.row_cells.proofs.Searched.{map_more}
use Rattle.row_cells.proofs.boxes.boxes_of.Goals as goal

abbrev none : Tet
none = record { a = 0; b = 0; c = 0; d = 0 }

pub corners_of-requires : goal.corners_of-requires
corners_of-requires c = subst (IsOn c.args.points.now) (c.at.ensures none) (c.requires c.loop-i.i none (omega arith))

pub loop-i-preserved : goal.loop-i-preserved
loop-i-preserved c =
    let ps = c.args.points.now in
    let rows = c.args.list.now in
    let made = c.corners_of.ensures ∙ ap (corners ps) (sym (c.at.ensures none)) in
    let one = c.box_of-near.ensures.value ∙ ap (box_of c.loop-i.i) made in
    record {
      boxes = c.in_ok-push.ensures.ok ∙ ap (λ (b : RowBox). c.loop-i.boxes ++ b ∷ []) one ∙ ap (λ (bs : List RowBox). bs ++ box_of c.loop-i.i (corners ps (row rows c.loop-i.i)) ∷ []) c.loop-i.invariant.boxes
          ∙ sym (map_more (λ i. box_of i (corners ps (row rows i))) c.loop-i.i);
      grid = below_more _ _ c.loop-i.invariant.grid (subst AreOnGrid made c.box_of-near.ensures.grid);
    }

pub returns-clause-grid : goal.returns-clause-grid
returns-clause-grid c = λ k d lt. subst (λ (t : Tet). AreOnGrid (corners c.args.points.now t)) (get_or_default c.args.list.now k none d lt) (c.loop-i.invariant.grid k (omega arith))
