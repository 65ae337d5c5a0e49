use Rattle.std.proofs.Common.{◌≡◌, ◌≤◌, None, drop, unsigned_abs}
use Rattle.std.specs.Prelude.{IfSome}
use Rattle.tet_text.specs.Decimals.{Scaled}
use Rattle.tetfit_run.specs.Words.{last_unit}
use Rattle.tetfit_run.proofs.unit_words.fit_unit.Given as goal

-- the words that are left have the last unit of all
abbrev pub invariant-loop-word : goal.invariant-loop-word
invariant-loop-word l =
    record {
      value : last_unit l.last (drop l.word-index l.word-items) ≡ last_unit None l.words;
      most : IfSome l.last (λ (u : Scaled). unsigned_abs u.value ≤ 999);
      fine : IfSome l.last (λ (u : Scaled). u.scale ≤ 20);
    }
