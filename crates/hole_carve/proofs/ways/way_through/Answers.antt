use Rattle.std.proofs.Common.{Some, None, cond, ap, sym, ◌∙◌}
use Rattle.hole_carve.specs.Ways.{other_side}
use Rattle.hole_carve.proofs.Steps.{closed_is}
use Rattle.hole_carve.proofs.ways.way_through.Goals as goal

pub returns-then-has : goal.returns-then-has
returns-then-has c = sym (ap (λ b. cond b None (Some (other_side c.args.partner c.args.beyond))) (closed_is _ c.args.face _ c.has.ensures ∙ c.if-has.true))

pub returns-in-Some : goal.returns-in-Some
returns-in-Some c =
    ap (λ p. Some (other_side p c.args.beyond)) (sym c.in-Some.is)
    ∙ sym (ap (λ b. cond b None (Some (other_side c.args.partner c.args.beyond))) (closed_is _ c.args.face _ c.has.ensures ∙ c.if-has.false))

pub returns-in-None : goal.returns-in-None
returns-in-None c =
    ap (λ p. Some (other_side p c.args.beyond)) (sym c.in-None.is)
    ∙ sym (ap (λ b. cond b None (Some (other_side c.args.partner c.args.beyond))) (closed_is _ c.args.face _ c.has.ensures ∙ c.if-has.false))
