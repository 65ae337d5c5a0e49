use Rattle.std.proofs.Common.{◌∙◌, w32}
use Rattle.std.specs.Int.{int_max, int_min}
use Rattle.std.proofs.lemmas.Int.{to_z-of_z}
use Rattle.tetfit_run.proofs.sides.common.Goals as goal

pub returns : goal.returns
returns c =
    let a = to_z-of_z w32 c.args.a c.ranges.a in
    let b = to_z-of_z w32 c.args.b c.ranges.b in
    let d = to_z-of_z w32 c.args.c c.ranges.c in
    let e = to_z-of_z w32 c.args.d c.ranges.d in
    let least = to_z-of_z w32 c.min.result (record { sfits = c.min.type_inv }) ∙ c.min.ensures.value ∙ (λ j. int_min (a j) (b j)) in
    let other_least = to_z-of_z w32 c.min-2.result (record { sfits = c.min-2.type_inv }) ∙ c.min-2.ensures.value ∙ (λ j. int_min (d j) (e j)) in
    let most = to_z-of_z w32 c.max-2.result (record { sfits = c.max-2.type_inv }) ∙ c.max-2.ensures.value ∙ (λ j. int_max (a j) (b j)) in
    let other_most = to_z-of_z w32 c.max-3.result (record { sfits = c.max-3.type_inv }) ∙ c.max-3.ensures.value ∙ (λ j. int_max (d j) (e j)) in
    let low = to_z-of_z w32 c.max.result (record { sfits = c.max.type_inv }) ∙ c.max.ensures.value ∙ (λ j. int_max (least j) (other_least j)) in
    let high = to_z-of_z w32 c.min-3.result (record { sfits = c.min-3.type_inv }) ∙ c.min-3.ensures.value ∙ (λ j. int_min (most j) (other_most j)) in
    λ j. record { low = low j; high = high j }
