use Rattle.std.proofs.Common.{List, sym, subst, ◌∙◌}
use Rattle.std.specs.Prelude.{All}
use Rattle.simplex_meets.specs.declared.complex_parts.Compared.TheVariants.{AcrossPlanes}
use Rattle.simplex_meets.specs.declared.complex_parts.Part.{Part}
use Rattle.simplex_meets.specs.Parts.{IsPart}
use Rattle.simplex_meets.specs.Crossing.{parts_in}
use Rattle.simplex_meets.specs.Pairs.{AreMarkedMet}
use Rattle.simplex_meets.proofs.Lists.{are_parts, none_found, some_found, triangles_met}
use Rattle.simplex_meets.proofs.Marks.{known_parts, all_met, first_crossing}
use Rattle.simplex_meets.proofs.crossing.crossings_beside.Goals as goal

pub first_unmet_pair-requires-clause-parts : goal.first_unmet_pair-requires-clause-parts
first_unmet_pair-requires-clause-parts c =
    let a = c.args in
    let P : List Part → Type 0 = λ parts. All (IsPart a.points.now) parts in
    subst P (sym (c.as_slice.ensures.value ∙ c.in_ok-parts.ensures)) (are_parts a.points.now a.triangles.now a.pieces.now c.requires.triangles c.requires.pieces)

pub first_unmet_pair-requires-clause-met : goal.first_unmet_pair-requires-clause-met
first_unmet_pair-requires-clause-met c =
    let a = c.args in
    subst (λ parts. AreMarkedMet AcrossPlanes a.points.now parts a.marks.now) (sym (c.as_slice.ensures.value ∙ c.in_ok-parts.ensures))
    (known_parts a.points.now a.triangles.now a.pieces.now a.marks.now c.requires.known)

pub returns : goal.returns
returns c =
    let a = c.args in
    triangles_met a.points.now a.triangles.now a.pieces.now
    (all_met a.points.now a.triangles.now a.pieces.now c.requires.flat
    (none_found AcrossPlanes a.points.now c.as_slice.result.now (parts_in a.triangles.now a.pieces.now) c.in_ok-i.field-0 (c.as_slice.ensures.value ∙ c.in_ok-parts.ensures) c.in-None.is c.in_ok-i.ensures))

pub returns-in-Some : goal.returns-in-Some
returns-in-Some c =
    let a = c.args in
    first_crossing a.points.now a.triangles.now a.pieces.now c.in_ok-parts.parts.items c.in-Some.i c.in-Some.j c.index.result.now c.index-in-Some.result.now c.requires.flat c.in_ok-parts.ensures
    (some_found AcrossPlanes a.points.now c.as_slice.result.now (parts_in a.triangles.now a.pieces.now) c.in_ok-i.field-0 c.in-Some.i c.in-Some.j (c.as_slice.ensures.value ∙ c.in_ok-parts.ensures) c.in-Some.is c.in_ok-i.ensures)
    c.index.ensures c.index-in-Some.ensures
