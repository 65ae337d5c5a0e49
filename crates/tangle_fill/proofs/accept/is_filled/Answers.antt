use Rattle.std.proofs.Common.{Bool, List, sym, subst}
use Rattle.tangle_fill.specs.Fill.{as_oriented}
use Rattle.tangle_fill.specs.Change.{IsMarkedFace}
use Rattle.tangle_fill.proofs.Changes.{near_row}
use Rattle.tangle_fill.proofs.Removal.{none_of, none_beyond}
use Rattle.tangle_fill.proofs.accept.is_filled.Goals as goal

pub returns-then-not-is_marked_face : goal.returns-then-not-is_marked_face
returns-then-not-is_marked_face c h m = absurd (c.is_marked_face.ensures c.if-not-is_marked_face.true (subst (λ (marks : List Bool). IsMarkedFace marks (as_oriented c.args.f)) (sym c.deref.ensures.value) m))

pub returns-in-Some : goal.returns-in-Some
returns-in-Some c h m on =
    let found = c.in-Some.ensures in
    let row = c.requires.change.near.within c.in-Some.field-0 found.0 in
    (row.0, c.in-Some.field-0, row.1, row.2, found.1)

pub returns-then-is_bare_side : goal.returns-then-is_bare_side
returns-then-is_bare_side c h m on =
    let change = c.args.change.now in
    let is = c.requires.change in
    let f = as_oriented c.args.f in
    absurd (none_beyond c.args.points.now c.args.list.now change.rows change.removed f c.requires.delaunay is.removed (λ s cs lies. none_of f change.near.rows c.in_default.ensures s (near_row change.marks.items change.rows change.near is.near s cs f lies m) lies) (c.is_bare_side.ensures c.if-is_bare_side.true) on)
