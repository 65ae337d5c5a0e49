use Rattle.std.proofs.Common.{◌≡◌, List, [], ◌∷◌, ◌++◌, ap, sym, subst, ◌∙◌}
use Rattle.std.proofs.lemmas.List.{append-nil}
use Rattle.run_steps.specs.Stores.{given}
use Rattle.run_steps.specs.declared.store.NamedText.{NamedText}
use Rattle.run_steps.proofs.Given.{then_texts}
use Rattle.run_steps.proofs.store.Texts.in_order.Goals as goal

pub returns : goal.returns
returns c =
    let t = c.args.self in
    let three = c.append-2.new.self in
    let texts = given (t.node ∷ t.ele ∷ t.face ∷ t.edge ∷ t.neigh ∷ []) in
    let h = then_texts _ _ (t.node ∷ t.ele ∷ t.face ∷ []) (t.edge ∷ t.neigh ∷ []) three c.in_ok-append_three.ensures
    (then_texts _ _ (t.edge ∷ []) (t.neigh ∷ []) three c.in_ok-append.ensures
    (then_texts _ _ (t.neigh ∷ []) [] three c.in_ok-append-2.ensures (append-nil three))) in
    let first = sym (subst (λ (items : List NamedText). items ++ texts ≡ three) c.new-list.ensures h) in
    c.in_ok-append_all.ensures ∙ ap (λ (items : List NamedText). items ++ t.whole) first
