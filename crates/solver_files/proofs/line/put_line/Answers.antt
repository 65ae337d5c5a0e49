use Rattle.std.proofs.Common.{◌≡◌, ◌∷◌, [], get_or, ℤ, pos, ◌++◌, ap, refl, ◌∙◌, append_assoc, arith, rules}
use Rattle.std.specs.Prelude.{flat_map}
use Rattle.std.specs.Fmt.{decimal, signed_decimal}
use Rattle.std.proofs.lemmas.List.{get_or_default}
use Rattle.solver_files.proofs.Parts.{next_item, all_items, last_part}
use Rattle.solver_files.proofs.line.put_line.Goals as goal

pub loop-field-init : goal.loop-field-init
loop-field-init c =
    let front = decimal c.args.number in
    let fields = flat_map (λ z. 32 ∷ signed_decimal z) c.args.fields.now in
    ap (λ s. s ++ fields) c.in_ok-put_number.ensures ∙ append_assoc c.args.out.now front fields

pub loop-field-preserved : goal.loop-field-preserved
loop-field-preserved c =
    let xs = c.args.fields.now in
    let i = c.loop-field.field-index in
    let z = get_or xs i (pos 0) in
    let written : c.put_field.new.out ≡ c.loop-field.out ++ (32 ∷ signed_decimal z) = search rules in
    next_item (λ (n : ℤ). 32 ∷ signed_decimal n) i xs z c.loop-field.out _ _ c.loop-field-test.true
    (get_or_default xs i z (pos 0) c.loop-field-test.true) written c.loop-field.invariant

pub returns : goal.returns
returns c =
    let xs = c.args.fields.now in
    let front = decimal c.args.number ++ flat_map (λ z. 32 ∷ signed_decimal z) xs in
    let all = all_items (flat_map (λ (z : ℤ). 32 ∷ signed_decimal z)) c.loop-field.field-index xs c.loop-field.out (c.args.out.now ++ front) refl (omega arith) c.loop-field.invariant in
    last_part c.push.result c.args.out.now front c.loop-field.out c.push.new.self (10 ∷ []) all c.push.ensures.ok
