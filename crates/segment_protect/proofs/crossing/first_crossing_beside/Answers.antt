use Rattle.std.proofs.Common.{List, map, sym, subst, ◌∙◌}
use Rattle.std.specs.Prelude.{All}
use Rattle.simplex_meets.specs.declared.complex_parts.Compared.TheVariants.{Any}
use Rattle.simplex_meets.specs.declared.complex_parts.Part.{Part}
use Rattle.simplex_meets.specs.declared.complex_parts.Part.TheVariants.{Segment}
use Rattle.simplex_meets.specs.Parts.{IsPart}
use Rattle.simplex_meets.proofs.Lists.{none_found, some_found}
use Rattle.segment_protect.proofs.Crossings.{are_parts, all_met, first_of, only_pieces}
use Rattle.segment_protect.proofs.MetSides.{known_sides}
use Rattle.segment_protect.proofs.crossing.first_crossing_beside.Goals as goal

pub first_unmet_pair-requires-clause-parts : goal.first_unmet_pair-requires-clause-parts
first_unmet_pair-requires-clause-parts c =
    let a = c.args in
    let P : List Part → Type 0 = λ parts. All (IsPart a.points.now) parts in
    let same = c.as_slice.ensures.value ∙ only_pieces c.in_ok-parts.parts.items _ a.pieces.now c.new-triangles.ensures c.in_ok-parts.ensures in
    subst P (sym same) (are_parts a.points.now a.pieces.now c.requires.distinct c.requires.ends)

pub first_unmet_pair-requires-clause-met : goal.first_unmet_pair-requires-clause-met
first_unmet_pair-requires-clause-met c =
    let a = c.args in
    known_sides a.points.now a.pieces.now a.watched.now c.as_slice.result.now c.as_slice-2.result.now
    (c.as_slice.ensures.value ∙ only_pieces c.in_ok-parts.parts.items _ a.pieces.now c.new-triangles.ensures c.in_ok-parts.ensures) c.requires.pieces (c.as_slice-2.ensures.value ∙ c.in_ok-marks.ensures) c.requires.seen

pub returns-in-Some : goal.returns-in-Some
returns-in-Some c =
    let a = c.args in
    let same = c.as_slice.ensures.value ∙ only_pieces c.in_ok-parts.parts.items _ a.pieces.now c.new-triangles.ensures c.in_ok-parts.ensures in
    first_of a.points.now a.pieces.now c.in-Some.i c.in-Some.j c.at.result c.at-in-Some.result
    (some_found Any a.points.now c.as_slice.result.now (map Segment a.pieces.now) c.in_ok-i.field-0 c.in-Some.i c.in-Some.j same c.in-Some.is c.in_ok-i.ensures) c.at.ensures c.at-in-Some.ensures

pub returns : goal.returns
returns c =
    let a = c.args in
    let same = c.as_slice.ensures.value ∙ only_pieces c.in_ok-parts.parts.items _ a.pieces.now c.new-triangles.ensures c.in_ok-parts.ensures in
    all_met a.points.now a.pieces.now (none_found Any a.points.now c.as_slice.result.now (map Segment a.pieces.now) c.in_ok-i.field-0 same c.in-None.is c.in_ok-i.ensures)
