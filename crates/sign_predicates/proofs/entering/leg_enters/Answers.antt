use Rattle.std.proofs.Common.{◌∙◌, sym}
use Rattle.sign_predicates.proofs.Meets.{not_true}
use Rattle.sign_predicates.proofs.Legs.{leg_law}
use Rattle.sign_predicates.proofs.entering.leg_enters.Goals as goal

pub returns-then-faces_open : goal.returns-then-faces_open
returns-then-faces_open c =
    let a = c.args in
    let law = leg_law a.t.now a.p a.q a.lp a.lq c.requires.positive c.requires.lp_is c.requires.lq_is in
    (λ h. law.0 (c.faces_open.ensures.0 c.if-faces_open.true, c.edges_open.ensures.0 h), λ k. c.edges_open.ensures.1 (law.1 k).1)

pub returns-else-faces_open : goal.returns-else-faces_open
returns-else-faces_open c =
    let a = c.args in
    let law = leg_law a.t.now a.p a.q a.lp a.lq c.requires.positive c.requires.lp_is c.requires.lq_is in
    (λ h. absurd (not_true (sym c.if-faces_open.false ∙ h)), λ k. c.faces_open.ensures.1 (law.1 k).0)
