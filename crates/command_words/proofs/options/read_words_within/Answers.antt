use Rattle.std.proofs.Common.{◌≡◌, ℕ, [], Option, None, ◌∙◌, sym, ap, true}
use Rattle.std.specs.Prelude.{is_some, IsSome}
use Rattle.command_words.proofs.Sampled.{name_of-sampled, left_out, not_stored}
use Rattle.command_words.specs.Words.{sample_words}
use Rattle.command_words.specs.Meaning.{is_piecewise}
use Rattle.command_words.specs.Names.{base_of, extension_of}
use Rattle.command_words.proofs.options.read_words_within.Goals as goal
use Rattle.command_words.proofs.options.read_words_within.Goals.{then-is_switched, else-is_switched}

pub returns-clause-sampled : goal.returns-clause-sampled
returns-clause-sampled c = λ h.
    let sampled : IsSome (sample_words c.args.words.now) = ap (λ (o : Option ℕ). is_some o) (sym c.sample_of-sample.ensures.value) ∙ h in
    let unnamed : c.name_of-name.result.now ≡ [] = c.name_of-name.ensures ∙ name_of-sampled c.args.halvings c.args.words.now (sym c.in_default.ensures) sampled in
    let none : c.extension_of-extension.result ≡ None = c.extension_of-extension.ensures ∙ ap extension_of unnamed in
    let some : c.is_some-sampled.result ≡ true = c.is_some-sampled.ensures ∙ h in
    let asked : c.if-is_switched.is_piecewise ≡ true =
    elim c.if-is_switched.branch [ then-is_switched w ↦ w.is_piecewise-is ∙ w.if-is_switched.true | else-is_switched w ↦ w.is_piecewise-is ∙ some ] in
    record {
      base = c.in_ok-from_slice.ensures ∙ c.base_of.ensures ∙ ap base_of unnamed;
      extension = none;
      piecewise = c.is_piecewise.ensures ∙ ap (is_piecewise c.if-is_switched.is_piecewise) none ∙ asked;
      no_node = c.is_left_out.ensures ∙ left_out _ _ some;
      no_ele = c.is_left_out-2.ensures ∙ left_out _ _ some;
      no_face = c.is_left_out-3.ensures ∙ left_out _ _ some;
      no_neighbors = c.is_stored.ensures ∙ not_stored _ _ some;
    }
