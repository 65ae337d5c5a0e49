use Rattle.std.proofs.Common.{◌≡◌, ℕ, ◌<◌, length, get_or, take, not, ap, ◌∙◌, arith}
use Rattle.std.specs.Prelude.{count_by}
use Rattle.std.proofs.lemmas.List.{take_all}
use Rattle.std.specs.List.{list_any}
use Rattle.geo_laws.specs.Delaunay.{numbers, has_corner}
use Rattle.geo_laws.specs.declared.tetrahedra.Tet.{Tet}
use Rattle.weighted_mesh.proofs.Marking.{unmarked_are_hidden}
use Rattle.weighted_mesh.proofs.hidden.hidden_count.Goals as goal
use Rattle.geo_laws.specs.Marks.{is_marked}

pub mark_corners-requires : goal.mark_corners-requires
mark_corners-requires c = λ k d lt.
    let none : Tet = record { a = 0; b = 0; c = 0; d = 0 } in
    let same = ap (λ rows. get_or (numbers (get_or rows c.loop-row.row-index none)) k d) c.as_slice-row-items.ensures in
    let many = ap (λ rows. length rows) c.as_slice-row-items.ensures in
    let there : c.loop-row.row-index < length c.args.rows.now = omega arith in
    let inside = c.requires c.loop-row.row-index none there k d lt in
    let long = c.loop-row.invariant.0 in
    let marks = ap (λ xs. length xs) c.deref_mut.ensures.value in
    omega arith

pub returns : goal.returns
returns c =
    let rows = c.args.rows.now in
    let many = ap (λ rows. length rows) c.as_slice-row-items.ensures in
    let all : take c.loop-row.row-index rows ≡ rows = take_all c.loop-row.row-index rows (omega arith) in
    let marked : (i : ℕ) → is_marked c.loop-row.marks.items i ≡ list_any (λ t. has_corner t i) rows =
    λ i. c.loop-row.invariant.1 i ∙ ap (λ ts. list_any (λ t. has_corner t i) ts) all in
    c.unmarked_count.ensures ∙ ap (count_by not) c.deref.ensures.value
    ∙ unmarked_are_hidden c.loop-row.marks.items c.args.count rows c.loop-row.invariant.0 marked
