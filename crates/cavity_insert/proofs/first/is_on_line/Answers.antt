use Rattle.std.proofs.Common.{ap, sym, ◌∙◌}
use Rattle.sign_predicates.specs.Point.{Point}
use Rattle.cavity_insert.proofs.Minors.{from_to_read, on_line_of_minors}
use Rattle.cavity_insert.proofs.first.is_on_line.Goals.{then-has_no_minor, else-has_no_minor}
use Rattle.cavity_insert.proofs.first.is_on_line.Goals as goal

pub returns-then-has_no_minor-2 : goal.returns-then-has_no_minor-2
returns-then-has_no_minor-2 c =
    let ux = from_to_read c.difference-ux.result c.a.inside.x c.b.inside.x c.args.a.x c.args.b.x c.difference-ux.ensures.size c.difference-ux.ensures.value c.a.invariant.x_low c.a.invariant.x_high c.b.invariant.x_low c.b.invariant.x_high (ap (λ (p : Point). p.x) c.a.view_is) (ap (λ (p : Point). p.x) c.b.view_is) in
    let uy = from_to_read c.difference-uy.result c.a.inside.y c.b.inside.y c.args.a.y c.args.b.y c.difference-uy.ensures.size c.difference-uy.ensures.value c.a.invariant.y_low c.a.invariant.y_high c.b.invariant.y_low c.b.invariant.y_high (ap (λ (p : Point). p.y) c.a.view_is) (ap (λ (p : Point). p.y) c.b.view_is) in
    let uz = from_to_read c.difference-uz.result c.a.inside.z c.b.inside.z c.args.a.z c.args.b.z c.difference-uz.ensures.size c.difference-uz.ensures.value c.a.invariant.z_low c.a.invariant.z_high c.b.invariant.z_low c.b.invariant.z_high (ap (λ (p : Point). p.z) c.a.view_is) (ap (λ (p : Point). p.z) c.b.view_is) in
    let vx = from_to_read c.difference-vx.result c.a.inside.x c.c.inside.x c.args.a.x c.args.c.x c.difference-vx.ensures.size c.difference-vx.ensures.value c.a.invariant.x_low c.a.invariant.x_high c.c.invariant.x_low c.c.invariant.x_high (ap (λ (p : Point). p.x) c.a.view_is) (ap (λ (p : Point). p.x) c.c.view_is) in
    let vy = from_to_read c.difference-vy.result c.a.inside.y c.c.inside.y c.args.a.y c.args.c.y c.difference-vy.ensures.size c.difference-vy.ensures.value c.a.invariant.y_low c.a.invariant.y_high c.c.invariant.y_low c.c.invariant.y_high (ap (λ (p : Point). p.y) c.a.view_is) (ap (λ (p : Point). p.y) c.c.view_is) in
    let vz = from_to_read c.difference-vz.result c.a.inside.z c.c.inside.z c.args.a.z c.args.c.z c.difference-vz.ensures.size c.difference-vz.ensures.value c.a.invariant.z_low c.a.invariant.z_high c.c.invariant.z_low c.c.invariant.z_high (ap (λ (p : Point). p.z) c.a.view_is) (ap (λ (p : Point). p.z) c.c.view_is) in
    let minors = on_line_of_minors c.args.a c.args.b c.args.c _ _ _ _ _ _ ux uy uz vx vy vz in
    elim c.if-has_no_minor.branch [
      | then-has_no_minor w ↦ (
        λ h. minors.1 (c.has_no_minor.ensures.0 w.if-has_no_minor.true, w.has_no_minor-then-has_no_minor.ensures.0 (sym w.value-is ∙ c.if-has_no_minor-2.true), c.has_no_minor-then-has_no_minor-2.ensures.0 h),
        λ h. c.has_no_minor-then-has_no_minor-2.ensures.1 (minors.0 h).2,
      )
      | else-has_no_minor w ↦ (λ h. absurd cc, λ h. absurd cc)
    ]

pub returns-else-has_no_minor-2 : goal.returns-else-has_no_minor-2
returns-else-has_no_minor-2 c =
    let ux = from_to_read c.difference-ux.result c.a.inside.x c.b.inside.x c.args.a.x c.args.b.x c.difference-ux.ensures.size c.difference-ux.ensures.value c.a.invariant.x_low c.a.invariant.x_high c.b.invariant.x_low c.b.invariant.x_high (ap (λ (p : Point). p.x) c.a.view_is) (ap (λ (p : Point). p.x) c.b.view_is) in
    let uy = from_to_read c.difference-uy.result c.a.inside.y c.b.inside.y c.args.a.y c.args.b.y c.difference-uy.ensures.size c.difference-uy.ensures.value c.a.invariant.y_low c.a.invariant.y_high c.b.invariant.y_low c.b.invariant.y_high (ap (λ (p : Point). p.y) c.a.view_is) (ap (λ (p : Point). p.y) c.b.view_is) in
    let uz = from_to_read c.difference-uz.result c.a.inside.z c.b.inside.z c.args.a.z c.args.b.z c.difference-uz.ensures.size c.difference-uz.ensures.value c.a.invariant.z_low c.a.invariant.z_high c.b.invariant.z_low c.b.invariant.z_high (ap (λ (p : Point). p.z) c.a.view_is) (ap (λ (p : Point). p.z) c.b.view_is) in
    let vx = from_to_read c.difference-vx.result c.a.inside.x c.c.inside.x c.args.a.x c.args.c.x c.difference-vx.ensures.size c.difference-vx.ensures.value c.a.invariant.x_low c.a.invariant.x_high c.c.invariant.x_low c.c.invariant.x_high (ap (λ (p : Point). p.x) c.a.view_is) (ap (λ (p : Point). p.x) c.c.view_is) in
    let vy = from_to_read c.difference-vy.result c.a.inside.y c.c.inside.y c.args.a.y c.args.c.y c.difference-vy.ensures.size c.difference-vy.ensures.value c.a.invariant.y_low c.a.invariant.y_high c.c.invariant.y_low c.c.invariant.y_high (ap (λ (p : Point). p.y) c.a.view_is) (ap (λ (p : Point). p.y) c.c.view_is) in
    let vz = from_to_read c.difference-vz.result c.a.inside.z c.c.inside.z c.args.a.z c.args.c.z c.difference-vz.ensures.size c.difference-vz.ensures.value c.a.invariant.z_low c.a.invariant.z_high c.c.invariant.z_low c.c.invariant.z_high (ap (λ (p : Point). p.z) c.a.view_is) (ap (λ (p : Point). p.z) c.c.view_is) in
    let minors = on_line_of_minors c.args.a c.args.b c.args.c _ _ _ _ _ _ ux uy uz vx vy vz in
    elim c.if-has_no_minor.branch [
      | then-has_no_minor w ↦ (λ h. absurd (cc (h, c.if-has_no_minor-2.false)), λ h. w.value-is ∙ w.has_no_minor-then-has_no_minor.ensures.1 (minors.0 h).1)
      | else-has_no_minor w ↦ (λ h. absurd (cc (h, c.if-has_no_minor-2.false)), λ h. absurd (cc (w.if-has_no_minor.false, c.has_no_minor.ensures.1 (minors.0 h).0)))
    ]
