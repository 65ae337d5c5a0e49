use Rattle.std.proofs.Common.{ap, sym, subst, ◌∙◌, inl, inr, get_or}
use Rattle.sign_predicates.specs.Orientation.{in_closed}
use Rattle.geo_laws.specs.Delaunay.{corners, IsOn}
use Rattle.geo_laws.specs.declared.tetrahedra.Tet.{Tet}
use Rattle.row_cells.specs.declared.boxes.RowBox.{RowBox}
use Rattle.row_cells.proofs.Searched.{hit, passed}
use Rattle.row_cells.proofs.cells.first_in.Goals as goal
use Rattle.row_cells.proofs.cells.first_in.Goals.{else-is_near-via-then-is_near+else-holds, else-is_near-via-else-is_near}

abbrev none : Tet
none = record { a = 0; b = 0; c = 0; d = 0 }

abbrev no_box : RowBox
no_box = record { row = 0; x = record { low = 0; high = 0 }; y = record { low = 0; high = 0 }; z = record { low = 0; high = 0 } }

pub holds-requires : goal.holds-requires
holds-requires c =
    let near = get_or c.args.cell.now c.loop-near.near-index no_box in
    let there = c.requires.places c.loop-near.near-index no_box c.loop-near-test.true in
    subst (IsOn c.args.points.now) (c.at.ensures none) (c.requires.rows near.row none there)

pub returns-then-holds : goal.returns-then-holds
returns-then-holds c =
    let ps = c.args.points.now in
    let inside = ap (λ (t : Tet). in_closed (corners ps t) c.args.x) (c.at.ensures none) ∙ sym c.if-holds.ensures in
    hit ps c.args.list.now c.args.at c.args.x c.args.cell.now c.loop-near.near-index no_box c.loop-near-test.true (sym c.if-is_near.ensures) inside c.loop-near.invariant

pub loop-near-preserved : goal.loop-near-preserved
loop-near-preserved c =
    let ps = c.args.points.now in
    let further = passed ps c.args.list.now c.args.at c.args.x c.args.cell.now c.loop-near.near-index no_box c.loop-near-test.true in
    elim c.else-is_near.branch [
      | else-is_near-via-then-is_near+else-holds w ↦ further (inr (ap (λ (t : Tet). in_closed (corners ps t) c.args.x) (w.at.ensures none) ∙ sym w.if-holds.ensures)) c.loop-near.invariant
      | else-is_near-via-else-is_near w ↦ further (inl (sym w.if-is_near.ensures)) c.loop-near.invariant
    ]
