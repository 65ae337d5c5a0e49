use Rattle.std.proofs.Common.{◌<◌, length, refl, ap, ◌∙◌, arith}
use Rattle.std.proofs.lemmas.List.{length-map}
use Rattle.mesh_arena.specs.declared.edge.Ends.{Ends}
use Rattle.mesh_arena.specs.Edges.{SquareValue, square_place, met_face}
use Rattle.mesh_arena.proofs.EdgeSquare.{turned, IsInSquare-read, AddsOnly-square, IsSquare-set}
use Rattle.mesh_arena.proofs.square.Square.meet.Goals as goal

pub returns-then-met-self-clause-found : goal.returns-then-met-self-clause-found
returns-then-met-self-clause-found c =
    let square = c.self.inside in
    let one = rw (← c.self.view_is) at c.requires.one in
    let other = rw (← c.self.view_is) at c.requires.other in
    let inside : c.place.result < length square.met.items = omega (arith, c.requires.places, c.place.ensures.small, ap (λ (s : SquareValue). length s.faces) c.self.view_is, length-map square.met.items (met_face square.round)) in
    rw (← c.self.view_is, turned c.args.ends.one.number c.args.ends.other.number, c.at.ensures)
    (IsInSquare-read square.met.items square.round square.rows (record { one = c.args.ends.other; other = c.args.ends.one }) other one c.requires.rows.1 c.requires.rows.0 c.place.result (c.place.ensures.place ∙ ap (λ (e : Ends). square_place e.one.row e.other.row) c.back.ensures) inside c.index-met.result.now c.index-met.ensures c.if-met-self.true)

pub invariant_of-self : goal.invariant_of-self
invariant_of-self c =
    let square = c.self.inside in
    let one = rw (← c.self.view_is) at c.requires.one in
    let other = rw (← c.self.view_is) at c.requires.other in
    let inside : c.place-2.result < length square.met.items = omega (arith, c.requires.places, c.place-2.ensures.small, ap (λ (s : SquareValue). length s.faces) c.self.view_is, length-map square.met.items (met_face square.round)) in
    IsSquare-set square.met.items square.round square.rows c.args.ends one other c.requires.rows.0 c.requires.rows.1 _ c.place-2.ensures.place inside c.args.face _ refl c.self.invariant

pub returns-clause-only : goal.returns-clause-only
returns-clause-only c =
    let square = c.self.inside in
    let one = rw (← c.self.view_is) at c.requires.one in
    let other = rw (← c.self.view_is) at c.requires.other in
    let inside : c.place-2.result < length square.met.items = omega (arith, c.requires.places, c.place-2.ensures.small, ap (λ (s : SquareValue). length s.faces) c.self.view_is, length-map square.met.items (met_face square.round)) in
    rw (← c.self.view_is) (AddsOnly-square square.met.items square.round square.rows c.args.ends one other c.requires.rows.0 c.requires.rows.1 _ c.place-2.ensures.place inside c.args.face _ refl)
