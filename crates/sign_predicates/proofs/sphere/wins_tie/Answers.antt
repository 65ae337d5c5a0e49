use Rattle.std.proofs.Common.{◌∙◌, ap, sym, neg_ℤ}
use Rattle.sign_predicates.specs.Orientation.{det}
use Rattle.sign_predicates.proofs.Ties.{one_sign_is}
use Rattle.sign_predicates.proofs.Vectors.{orient_is, side_exchanged, side_turned, determinant_back, turned_back}
use Rattle.sign_predicates.proofs.sphere.wins_tie.Goals as goal

pub returns : goal.returns
returns c =
    let t = c.args.t.now in
    let p = c.args.p in
    let u = c.from_to.ensures in
    let v = c.from_to-2.ensures in
    let w = c.from_to-3.ensures in
    let x = c.from_to-4.ensures in
    let m = c.wide_volumes-v.result in
    let is = c.wide_volumes-v.ensures.value in
    let h = c.wide_volumes-v.ensures.size in
    let a = (λ i. (is i).a) ∙ (λ i. det (v i) (w i) (x i)) ∙ orient_is p t.b t.c t.d in
    let b = (λ i. (is i).b) ∙ (λ i. det (u i) (w i) (x i)) ∙ orient_is p t.a t.c t.d in
    let d = (λ i. (is i).c) ∙ (λ i. det (u i) (v i) (x i)) ∙ orient_is p t.a t.b t.d in
    let e = (λ i. (is i).d) ∙ (λ i. det (u i) (v i) (w i)) ∙ orient_is p t.a t.b t.c in
    c.wins_by_sides.ensures t p (record {
      a_side = one_sign_is (determinant_back m.a h.a_wide ∙ a ∙ sym (side_exchanged t.b t.c t.d p));
      b_side = one_sign_is (turned_back m.b h.b_wide ∙ ap neg_ℤ b ∙ sym (side_turned t.a t.c t.d p));
      c_side = one_sign_is (determinant_back m.c h.c_wide ∙ d ∙ sym (side_exchanged t.a t.b t.d p));
      d_side = one_sign_is (turned_back m.d h.d_wide ∙ ap neg_ℤ e ∙ sym (side_turned t.a t.b t.c p));
    })
