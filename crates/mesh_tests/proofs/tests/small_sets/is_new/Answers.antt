use Rattle.std.proofs.Common.{◌≡◌, below_more, sym, ◌∙◌, false, ◌&&◌, int_eq}
use Rattle.std.proofs.lemmas.Cmp.{int_eq_equiv}
use Rattle.sign_predicates.specs.Point.{Point, origin}
use Rattle.mesh_tests.proofs.tests.small_sets.is_new.Goals as goal

itself : (p : Point) → false ≡ int_eq p.x p.x && (int_eq p.y p.y && int_eq p.z p.z) → ⊥
itself p e =
    let h = e ∙ (λ t. int_eq_equiv.refl p.x t && (int_eq_equiv.refl p.y t && int_eq_equiv.refl p.z t)) in
    cc

pub loop-i-preserved : goal.loop-i-preserved
loop-i-preserved c =
    below_more _ _ c.loop-i.invariant (λ e.
    let same : c.at.result ≡ c.args.p = sym (c.at.ensures origin) ∙ e in
    itself c.args.p (c.if-eq.ensures ∙ (λ t. int_eq (same t).x c.args.p.x && (int_eq (same t).y c.args.p.y && int_eq (same t).z c.args.p.z))))
