use Rattle.std.proofs.Common.{ap, ◌∙◌}
use Rattle.sign_predicates.specs.Point.{Point}
use Rattle.row_cells.specs.Boxes.{ahead, span_of}
use Rattle.row_cells.proofs.Units.{kept_32}
use Rattle.row_cells.proofs.boxes.span_z.Goals as goal

pub returns : goal.returns
returns c =
    let a = c.ahead.ensures ∙ ap ahead (kept_32 c.a.inside.z c.a.invariant.z_low c.a.invariant.z_high) ∙ ap (λ (p : Point). ahead p.z) c.a.view_is in
    let b = c.ahead-2.ensures ∙ ap ahead (kept_32 c.b.inside.z c.b.invariant.z_low c.b.invariant.z_high) ∙ ap (λ (p : Point). ahead p.z) c.b.view_is in
    let e = c.ahead-3.ensures ∙ ap ahead (kept_32 c.c.inside.z c.c.invariant.z_low c.c.invariant.z_high) ∙ ap (λ (p : Point). ahead p.z) c.c.view_is in
    let d = c.ahead-4.ensures ∙ ap ahead (kept_32 c.d.inside.z c.d.invariant.z_low c.d.invariant.z_high) ∙ ap (λ (p : Point). ahead p.z) c.d.view_is in
    c.span_of.ensures ∙ (λ i. span_of (a i) (b i) (e i) (d i))
