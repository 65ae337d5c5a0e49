use Rattle.std.proofs.Common.{◌≡◌, ℕ, ℤ, neg_ℤ, ap, subst, sym, ◌∙◌, arith}
use Rattle.sign_predicates.specs.Sign.{IsSignOf}
use Rattle.sign_predicates.specs.Orientation.{side, opposite_face}
use Rattle.sign_predicates.proofs.Vectors.{orient-exchanged}
use Rattle.sign_predicates.proofs.orientation.beyond.Goals as goal

pub returns-in-0 : goal.returns-in-0
returns-in-0 c =
    let t = c.args.t in
    let at = λ (k : ℕ). neg_ℤ (side (opposite_face t k) c.args.p) in
    subst (λ (z : ℤ). IsSignOf c.orient.result z) (orient-exchanged t.b t.d t.c c.args.p ∙ ap at (sym c.in-0.is)) c.orient.ensures

pub returns-in-1 : goal.returns-in-1
returns-in-1 c =
    let t = c.args.t in
    let at = λ (k : ℕ). neg_ℤ (side (opposite_face t k) c.args.p) in
    subst (λ (z : ℤ). IsSignOf c.orient-in-1.result z) (orient-exchanged t.a t.c t.d c.args.p ∙ ap at (sym c.in-1.is)) c.orient-in-1.ensures

pub returns-in-2 : goal.returns-in-2
returns-in-2 c =
    let t = c.args.t in
    let at = λ (k : ℕ). neg_ℤ (side (opposite_face t k) c.args.p) in
    subst (λ (z : ℤ). IsSignOf c.orient-in-2.result z) (orient-exchanged t.a t.d t.b c.args.p ∙ ap at (sym c.in-2.is)) c.orient-in-2.ensures

pub returns-in_default : goal.returns-in_default
returns-in_default c =
    let t = c.args.t in
    let at = λ (k : ℕ). neg_ℤ (side (opposite_face t k) c.args.p) in
    let three : c.args.corner ≡ 3 = omega arith in
    subst (λ (z : ℤ). IsSignOf c.orient-in_default.result z) (orient-exchanged t.a t.b t.c c.args.p ∙ ap at (sym three)) c.orient-in_default.ensures
