-- What a sink has taken, where that is told.
use Rattle.std.specs.Prelude.{◌≡◌, ℕ, List, ◌++◌, take, Option}
use Rattle.std.specs.Option.{option_map}

-- the bytes with this piece appended, where they are told
abbrev pub with_written : Option (List ℕ) → List ℕ → Option (List ℕ)
with_written written piece = option_map (λ told. told ++ piece) written

-- the bytes are as before with a prefix of the piece appended
abbrev pub PartlyPut : Option (List ℕ) → List ℕ → Option (List ℕ) → Type 0
PartlyPut before piece now = (kept : ℕ) × (now ≡ with_written before (take kept piece))
