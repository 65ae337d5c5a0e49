use Rattle.std.proofs.Common.{◌≡◌, ◌⊎◌, true, length, sym, subst, ◌∙◌, arith, eqb-true, eq-eqb}
use Rattle.std.specs.Prelude.{◌↔◌}
use Rattle.std.proofs.lemmas.Bool.{true≢false}
use Rattle.hole_carve.proofs.Seeding.{seeds_beyond, seeds_held, above_zero}
use Rattle.hole_carve.proofs.seeds.mark_found.Goals as goal
use Rattle.geo_laws.specs.Marks.{is_marked}

pub mark_all-requires : goal.mark_all-requires
mark_all-requires c i h = let k = (c.requires.holders i).0 h in omega (arith, k.0, c.requires.long)

pub returns-then-is_empty-clause-marked : goal.returns-then-is_empty-clause-marked
returns-then-is_empty-clause-marked c =
    let none = eqb-true (length c.args.holders.now) 0 (sym c.is_empty.ensures ∙ c.if-is_empty.true) in
    seeds_beyond c.args.points.now c.args.closed.now c.args.list.now c.args.x (λ h. true≢false (sym (c.is_on_closed.ensures.1 h) ∙ c.if-is_on_closed.false))
    (λ i h. let k = (c.requires.holders i).1 h in omega (arith, none, k.1)) c.args.seeds.now c.mark_one.new.marks
    (λ i. subst (λ n. (is_marked c.mark_one.new.marks i ≡ true) ↔ ((is_marked c.args.seeds.now i ≡ true) ⊎ (i ≡ n))) c.len.ensures.count (c.mark_one.ensures.marked i))

pub returns-clause-marked : goal.returns-clause-marked
returns-clause-marked c =
    seeds_held c.args.points.now c.args.closed.now c.args.list.now c.args.x c.args.holders.now (λ h. true≢false (sym (c.is_on_closed.ensures.1 h) ∙ c.if-is_on_closed.false)) c.requires.holders
    (above_zero (length c.args.holders.now) (λ e. true≢false (sym (eq-eqb _ 0 e) ∙ sym c.is_empty.ensures ∙ c.if-is_empty.false))) c.args.seeds.now c.mark_all.new.marks c.mark_all.ensures.marked
