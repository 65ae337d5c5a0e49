use Rattle.std.proofs.Common.{ℤ, subst, sym}
use Rattle.sign_predicates.specs.Orientation.{side, opposite_a, opposite_b, opposite_c, opposite_d}
use Rattle.sign_predicates.specs.Sphere.{HaveOneSign}
use Rattle.sign_predicates.proofs.Lifting.{volume_as_long, volume_turned}
use Rattle.sign_predicates.proofs.lifted.wins_by_volumes.Goals as goal

pub returns : goal.returns
returns c = λ t e sides.
    let v = c.args.v in
    let h = c.requires in
    c.wins_by_sides.ensures t e (record {
      a_side = subst (λ (z : ℤ). HaveOneSign z (side (opposite_a t) e)) (sym (volume_as_long v.a h.a_short)) sides.a_side;
      b_side = subst (λ (z : ℤ). HaveOneSign z (side (opposite_b t) e)) (sym (volume_turned v.b h.b_short)) sides.b_side;
      c_side = subst (λ (z : ℤ). HaveOneSign z (side (opposite_c t) e)) (sym (volume_as_long v.c h.c_short)) sides.c_side;
      d_side = subst (λ (z : ℤ). HaveOneSign z (side (opposite_d t) e)) (sym (volume_turned v.d h.d_short)) sides.d_side;
    })
