use Rattle.std.proofs.Common.{Some, ap, ◌∙◌, arith, get_or}
use Rattle.geo_laws.specs.declared.tetrahedra.Tet.{Tet as Row}
use Rattle.cavity_insert.proofs.LiftedRows.{row_for, test_slot}
use Rattle.cavity_insert.proofs.Lifts.{four_numbered}
use Rattle.cavity_insert.proofs.search.is_taken.Goals as goal

pub row_conflicts-requires : goal.row_conflicts-requires
row_conflicts-requires g c =
    let ns = c.in-Some.numbers in
    let t : Row = record { a = get_or ns 0 0; b = get_or ns 1 0; c = get_or ns 2 0; d = get_or ns 3 0 } in
    row_for (g.H.Lift.heights c.args.lift.now) c.args.arena.now.slots (g.H.Lift.points c.args.lift.now) c.requires.ready.0 c.args.number c.requires.ready.1 c.args.s.index t
    (c.in-Some.ensures ∙ ap Some (four_numbered ns (omega arith)))

pub returns-in-Some : goal.returns-in-Some
returns-in-Some g c =
    let ns = c.in-Some.numbers in
    let t : Row = record { a = get_or ns 0 0; b = get_or ns 1 0; c = get_or ns 2 0; d = get_or ns 3 0 } in
    test_slot (g.H.Lift.heights c.args.lift.now) c.args.arena.now.slots (g.H.Lift.points c.args.lift.now) c.args.number c.args.s.index t c.row_conflicts.result
    (c.in-Some.ensures ∙ ap Some (four_numbered ns (omega arith))) c.row_conflicts.ensures
