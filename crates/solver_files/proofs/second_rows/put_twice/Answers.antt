use Rattle.std.proofs.Common.{◌≡◌, ℕ, ◌++◌, [], ◌∷◌, ap, refl, subst, ◌∙◌}
use Rattle.std.specs.Prelude.{OnOk}
use Rattle.std.specs.Fmt.{decimal}
use Rattle.solver_files.proofs.Parts.{both_parts, then_part}
use Rattle.solver_files.proofs.second_rows.put_twice.Goals as goal

pub returns : goal.returns
returns c =
    let out = c.args.out.now in
    let tag = decimal c.args.tag in
    let one = c.in_ok-put_number.ensures ∙ ap (λ (n : ℕ). out ++ decimal n) c.from.ensures in
    let last = subst (λ (n : ℕ). OnOk c.put_number-2.result (c.put_number-2.new.out ≡ c.push.new.self ++ decimal n)) c.from-2.ensures c.put_number-2.ensures in
    both_parts c.put_number-2.result out tag c.push.new.self c.put_number-2.new.out (32 ∷ []) tag (32 ∷ tag) refl
    (then_part out tag c.put_number.new.out c.push.new.self (32 ∷ []) one c.in_ok-push.ensures.ok) last
