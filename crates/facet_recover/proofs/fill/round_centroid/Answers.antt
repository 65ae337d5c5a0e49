use Rattle.std.proofs.Common.{◌∙◌, ◌+ℤ◌, ap, w64}
use Rattle.exact_algebra.proofs.Size.{read}
use Rattle.sign_predicates.specs.Point.{Point}
use Rattle.sign_predicates.proofs.Vectors.{grid_back}
use Rattle.facet_recover.proofs.Held.{round_four}
use Rattle.facet_recover.proofs.fill.round_centroid.Goals as goal

pub returns : goal.returns
returns c =
    record {
      x =
          round_four c.round_quarter.result _ c.args.a.x c.args.b.x c.args.c.x c.args.d.x c.round_quarter.ensures.low c.round_quarter.ensures.high
          (read w64 c.add.result c.add.type_inv ∙ c.add.ensures.value
          ∙ (λ v. (read w64 c.sum_of_two.result c.sum_of_two.type_inv ∙ c.sum_of_two.ensures.value ∙ (λ t. (grid_back c.a.inside.x c.a.invariant.x_low c.a.invariant.x_high ∙ ap (λ (p : Point). p.x) c.a.view_is) t +ℤ (grid_back c.b.inside.x c.b.invariant.x_low c.b.invariant.x_high ∙ ap (λ (p : Point). p.x) c.b.view_is) t)) v
          +ℤ (read w64 c.sum_of_two-2.result c.sum_of_two-2.type_inv ∙ c.sum_of_two-2.ensures.value ∙ (λ t. (grid_back c.c.inside.x c.c.invariant.x_low c.c.invariant.x_high ∙ ap (λ (p : Point). p.x) c.c.view_is) t +ℤ (grid_back c.d.inside.x c.d.invariant.x_low c.d.invariant.x_high ∙ ap (λ (p : Point). p.x) c.d.view_is) t)) v));
      y =
          round_four c.round_quarter-2.result _ c.args.a.y c.args.b.y c.args.c.y c.args.d.y c.round_quarter-2.ensures.low c.round_quarter-2.ensures.high
          (read w64 c.add-2.result c.add-2.type_inv ∙ c.add-2.ensures.value
          ∙ (λ v. (read w64 c.sum_of_two-3.result c.sum_of_two-3.type_inv ∙ c.sum_of_two-3.ensures.value ∙ (λ t. (grid_back c.a.inside.y c.a.invariant.y_low c.a.invariant.y_high ∙ ap (λ (p : Point). p.y) c.a.view_is) t +ℤ (grid_back c.b.inside.y c.b.invariant.y_low c.b.invariant.y_high ∙ ap (λ (p : Point). p.y) c.b.view_is) t)) v
          +ℤ (read w64 c.sum_of_two-4.result c.sum_of_two-4.type_inv ∙ c.sum_of_two-4.ensures.value ∙ (λ t. (grid_back c.c.inside.y c.c.invariant.y_low c.c.invariant.y_high ∙ ap (λ (p : Point). p.y) c.c.view_is) t +ℤ (grid_back c.d.inside.y c.d.invariant.y_low c.d.invariant.y_high ∙ ap (λ (p : Point). p.y) c.d.view_is) t)) v));
      z =
          round_four c.round_quarter-3.result _ c.args.a.z c.args.b.z c.args.c.z c.args.d.z c.round_quarter-3.ensures.low c.round_quarter-3.ensures.high
          (read w64 c.add-3.result c.add-3.type_inv ∙ c.add-3.ensures.value
          ∙ (λ v. (read w64 c.sum_of_two-5.result c.sum_of_two-5.type_inv ∙ c.sum_of_two-5.ensures.value ∙ (λ t. (grid_back c.a.inside.z c.a.invariant.z_low c.a.invariant.z_high ∙ ap (λ (p : Point). p.z) c.a.view_is) t +ℤ (grid_back c.b.inside.z c.b.invariant.z_low c.b.invariant.z_high ∙ ap (λ (p : Point). p.z) c.b.view_is) t)) v
          +ℤ (read w64 c.sum_of_two-6.result c.sum_of_two-6.type_inv ∙ c.sum_of_two-6.ensures.value ∙ (λ t. (grid_back c.c.inside.z c.c.invariant.z_low c.c.invariant.z_high ∙ ap (λ (p : Point). p.z) c.c.view_is) t +ℤ (grid_back c.d.inside.z c.d.invariant.z_low c.d.invariant.z_high ∙ ap (λ (p : Point). p.z) c.d.view_is) t)) v));
    }
