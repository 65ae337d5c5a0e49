use Rattle.std.proofs.Common.{[], ◌∷◌, sym}
use Rattle.std.proofs.lemmas.List.{append-nil}
use Rattle.run_steps.proofs.Given.{then_texts}
use Rattle.run_steps.proofs.store.append_three.Goals as goal

pub returns : goal.returns
returns c =
    let all = c.append-3.new.self in
    let one = c.args.one in
    let two = c.args.two in
    let three = c.args.three in
    sym (then_texts _ _ (one ∷ []) (two ∷ three ∷ []) all c.in_ok-append.ensures (then_texts _ _ (two ∷ []) (three ∷ []) all c.in_ok-append-2.ensures
    (then_texts _ _ (three ∷ []) [] all c.in_ok-append-3.ensures (append-nil all))))
