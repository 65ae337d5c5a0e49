-- Rounds that are shown in two steps.
use Rattle.std.proofs.Common.{List, [], ◌++◌}
use Rattle.std.proofs.lemmas.List.Elements.{All-append, All-cons, All-nil}
use Rattle.std.proofs.Common.{◌∷◌}
use Rattle.command_words.specs.declared.options.Options.{Options}
use Rattle.run_steps.specs.declared.mesh.Bound.{Bound}
use Rattle.refining.specs.Rounds.{AreShown, IsRoundIn, IsRoundOf, frame_of}
use Rattle.refining.specs.Refining.{IsTakenMesh}
use Rattle.refining.specs.declared.goal.ShapeBounds.{ShapeBounds}
use Rattle.refining.specs.declared.refining.Taken.{Taken}
use Rattle.refining.specs.declared.watch.Round.{Round}

-- no round is shown
pub none_shown : {S : Type 0} (shown : List Round → S → S → Type 0) (nothing : (s : S) → shown [] s s) (shapes : ShapeBounds) (options : Options) (bound : Bound) (s : S) → AreShown shown shapes options bound s s
none_shown shown nothing shapes options bound s = ([], All-nil (IsRoundOf shapes options bound), nothing s)

-- one round is shown
pub one_shown : {S : Type 0} (shown : List Round → S → S → Type 0) (shapes : ShapeBounds) (options : Options) (bound : Bound) (taken : Taken) (round : Round) (s t : S) → IsTakenMesh options bound taken
    → IsRoundIn shapes (frame_of options bound) taken.made round → shown (round ∷ []) s t → AreShown shown shapes options bound s t
one_shown shown shapes options bound taken round s t h e k =
    let P = IsRoundOf shapes options bound in
    (round ∷ [], All-cons P round [] (taken, h, e) (All-nil P), k)

-- what is shown in two steps
pub both_shown : {S : Type 0} (shown : List Round → S → S → Type 0) (both : (a b : List Round) (s t u : S) → shown a s t → shown b t u → shown (a ++ b) s u) (shapes : ShapeBounds) (options : Options) (bound : Bound) (s t u : S)
    → AreShown shown shapes options bound s t → AreShown shown shapes options bound t u → AreShown shown shapes options bound s u
both_shown shown both shapes options bound s t u p q = (p.0 ++ q.0, All-append (IsRoundOf shapes options bound) p.0 q.0 p.1 q.1, both p.0 q.0 s t u p.2 q.2)
