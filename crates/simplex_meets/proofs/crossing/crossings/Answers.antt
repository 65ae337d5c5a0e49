use Rattle.std.proofs.Common.{List, sym, subst, ◌∙◌}
use Rattle.std.specs.Prelude.{All}
use Rattle.simplex_meets.specs.declared.complex_parts.Compared.TheVariants.{WithTriangle}
use Rattle.simplex_meets.specs.declared.complex_parts.Part.{Part}
use Rattle.simplex_meets.specs.Parts.{IsPart}
use Rattle.simplex_meets.specs.Crossing.{parts_in}
use Rattle.simplex_meets.proofs.Lists.{are_parts, none_found, triangles_met}
use Rattle.simplex_meets.proofs.crossing.crossings.Goals as goal

pub first_pair-requires : goal.first_pair-requires
first_pair-requires c =
    let a = c.args in
    let P : List Part → Type 0 = λ parts. All (IsPart a.points.now) parts in
    subst P (sym (c.as_slice.ensures.value ∙ c.in_ok-parts.ensures)) (are_parts a.points.now a.triangles.now a.pieces.now c.requires.triangles c.requires.pieces)

pub returns : goal.returns
returns c =
    let a = c.args in
    triangles_met a.points.now a.triangles.now a.pieces.now
    (none_found WithTriangle a.points.now c.as_slice.result.now (parts_in a.triangles.now a.pieces.now) c.in_ok-i.field-0 (c.as_slice.ensures.value ∙ c.in_ok-parts.ensures) c.in-None.is c.in_ok-i.ensures)
