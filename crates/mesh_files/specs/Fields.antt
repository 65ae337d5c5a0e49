-- Numbers as fields that are at hand.
use Rattle.std.specs.Prelude.{◌≡◌, ℕ, ◌≤◌, ◌<◌, List, ◌∷◌, ◌-◌, take, length, slice_set, HoldsAt}
use Rattle.std.specs.Fmt.{decimal}
use Rattle.mesh_files.specs.declared.fields.Field.{Field}

-- a space and the decimals of the number
abbrev pub IsNumberField : ℕ → Field → Type 0
IsNumberField number f = (f.len ≤ 8) × (take f.len f.text ≡ 32 ∷ decimal number)

-- a field with another last digit
abbrev pub with_last : Field → ℕ → Field
with_last f last = record { text = slice_set f.text (f.len - 1) last; len = f.len }

-- those of the numbers from 0 on
abbrev pub AreFields : List Field → Type 0
AreFields fields = (k : ℕ) → k < length fields → HoldsAt (IsNumberField k) fields k
