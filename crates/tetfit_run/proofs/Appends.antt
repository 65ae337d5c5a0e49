-- Texts that are appended one after another.
use Rattle.std.proofs.Common.{◌≡◌, ℕ, List, ◌++◌, Result, Ok, Err, refl, ap, ◌∙◌}
use Rattle.std.specs.Prelude.{OnOk}
use Rattle.std.proofs.lemmas.List.{append_assoc}

pub two : {E : Type 0} (r : Result (Unit {0}) E) (t u v a b front : List ℕ) → u ≡ t ++ a → a ≡ front → OnOk r (v ≡ u ++ b) → OnOk r (v ≡ t ++ (front ++ b))
two (Ok done) t u v a b front e f h = h ∙ ap (λ xs. xs ++ b) (e ∙ ap (λ xs. t ++ xs) f) ∙ append_assoc t front b
two (Err fault) t u v a b front e f h = h

pub behind : {E : Type 0} (r : Result (Unit {0}) E) (t u v a b : List ℕ) → u ≡ t ++ a → OnOk r (v ≡ u ++ b) → OnOk r (v ≡ t ++ (a ++ b))
behind r t u v a b e h = two r t u v a b a e refl h

-- five texts, the last of which may not be appended
pub five : {E : Type 0} (r : Result (Unit {0}) E) (t u v a b c d e : List ℕ) → u ≡ (((t ++ a) ++ b) ++ c) ++ d → OnOk r (v ≡ u ++ e)
    → OnOk r (v ≡ t ++ ((((a ++ b) ++ c) ++ d) ++ e))
five r t u v a b c d e is =
    let three = ap (λ xs. xs ++ c) (append_assoc t a b) ∙ append_assoc t (a ++ b) c in
    let four = ap (λ xs. xs ++ d) three ∙ append_assoc t ((a ++ b) ++ c) d in
    behind r t u v (((a ++ b) ++ c) ++ d) e (is ∙ four)
