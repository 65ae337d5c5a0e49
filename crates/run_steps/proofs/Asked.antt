-- What asks for a file with faces.
use Rattle.std.proofs.Common.{◌≡◌, Bool, true, false, not, ◌||◌, List, [], ◌∷◌, map, refl, ap}
use Rattle.std.proofs.lemmas.Bool.{true≢false}
use Rattle.command_words.specs.Formats.{are_some, asked, asks_whole}
use Rattle.command_words.specs.declared.formats.Format.{Format}
use Rattle.command_words.specs.declared.formats.Formats.{Formats}

pub asked_by_face : (no_face whole : Bool) → no_face ≡ false → (not no_face || whole) ≡ true
asked_by_face true whole e = absurd (true≢false e)
asked_by_face false whole e = refl

pub asked_by_whole : (no_face whole : Bool) → whole ≡ true → (not no_face || whole) ≡ true
asked_by_whole true whole e = e
asked_by_whole false whole e = refl

-- where no file of the whole mesh is asked for there is none, and else what holds of each
pub of_each : {A : Type 0} (formats : Formats) (f g : Format → A) → (asks_whole formats ≡ true → f ≡ g) → map f (asked formats) ≡ map g (asked formats)
of_each {A = A} formats f g same = go (asked formats) same
  where
    go : (list : List Format) → (are_some list ≡ true → f ≡ g) → map f list ≡ map g list
    go [] same = refl
    go (x ∷ xs) same = ap (λ (h : Format → A). map h (x ∷ xs)) (same refl)

pub none_asked : {A : Type 0} (formats : Formats) (f : Format → A) → asks_whole formats ≡ false → [] ≡ map f (asked formats)
none_asked formats f h = go (asked formats) h
  where
    go : (list : List Format) → are_some list ≡ false → [] ≡ map f list
    go [] h = refl
    go (x ∷ xs) h = absurd (true≢false h)
