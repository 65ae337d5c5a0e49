-- Texts that are appended one after the other.
use Rattle.std.proofs.Common.{◌≡◌, List, [], ◌∷◌, ◌++◌, Option, None, Some, refl, ap, sym, ◌∙◌, append_assoc}
use Rattle.run_steps.specs.Stores.{given}
use Rattle.run_steps.specs.declared.store.NamedText.{NamedText}

given_append : (os ps : List (Option NamedText)) → given (os ++ ps) ≡ given os ++ given ps
given_append [] ps = refl
given_append (None ∷ os) ps = given_append os ps
given_append (Some text ∷ os) ps = ap (λ (texts : List NamedText). text ∷ texts) (given_append os ps)

-- some texts are appended before the others
pub then_texts : (before behind : List NamedText) (os ps : List (Option NamedText)) (all : List NamedText) → behind ≡ before ++ given os → behind ++ given ps ≡ all
    → before ++ given (os ++ ps) ≡ all
then_texts before behind os ps all is rest =
    ap (λ (texts : List NamedText). before ++ texts) (given_append os ps) ∙ sym (append_assoc before (given os) (given ps))
    ∙ ap (λ (texts : List NamedText). texts ++ given ps) (sym is) ∙ rest
