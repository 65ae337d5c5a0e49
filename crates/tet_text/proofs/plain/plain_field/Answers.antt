use Rattle.std.proofs.Common.{◌≡◌, ◌-◌, ◌++◌, ℕ, List, true, length, take, drop, ap, subst, sym, ◌∙◌, arith, length-drop}
use Rattle.std.specs.List.{list_all, prefix_len}
use Rattle.std.proofs.lemmas.Bool.{eqb-true}
use Rattle.std.proofs.lemmas.List.{take_all, length-take, take-take, take-append-drop}
use Rattle.tet_text.specs.Lines.{is_no_blank}
use Rattle.tet_text.specs.PlainTexts.{IsPlain}
use Rattle.tet_text.proofs.PlainFields.{plain_field_is}
use Rattle.tet_text.proofs.plain.plain_field.Goals as goal

pub returns : goal.returns
returns c =
    let u = c.cut_sign-negative.result.1.now in
    let count = c.in_ok-number.count in
    let w = take count u in
    let rest = take (length u - count) (drop count u) in
    let some = c.in_ok-number.ensures.within.0 in
    let inside = c.in_ok-number.ensures.within.1 in
    let small = c.in_ok-number.ensures.small in
    let few = ap length c.first_bytes.ensures.prefix in
    let head-long = length-take 19 u in
    let w-long = length-take count u in
    let same : take count c.first_bytes.result.now ≡ w =
    ap (take count) c.first_bytes.ensures.prefix ∙ take-take count 19 u (omega arith) in
    let all = take_all (length u - count) (drop count u) (omega (arith, length-drop count u)) in
    let joined : u ≡ w ++ rest = sym (ap (λ (x : List ℕ). w ++ x) all ∙ take-append-drop count u) in
    let plain = subst (λ (v : List ℕ). IsPlain v c.in_ok-number.number c.in_ok-number.decimals) same c.in_ok-number.ensures.plain in
    let no_blank = subst (λ (v : List ℕ). list_all is_no_blank v ≡ true) same c.in_ok-number.ensures.no_blank in
    let stops = eqb-true (prefix_len is_no_blank rest) 0 (sym c.ends_field.ensures ∙ c.if-not-ends_field.false) in
    plain_field_is c.args.bytes.now w rest c.cut_sign-negative.result.0
    c.in_ok-number.number c.in_ok-number.decimals c.cut_sign-negative.ensures.minus
    (sym c.cut_sign-negative.ensures.rest ∙ joined) (omega arith) no_blank stops plain (omega arith)
