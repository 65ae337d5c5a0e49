-- A count that may be missing.
use Rattle.std.proofs.Common.{◌≡◌, ℕ, true, false, eqb, [], ◌∷◌, length, drop, Ok, refl, sym, suc, arith}
use Rattle.std.proofs.lemmas.Bool.{eqb-true, false≢true}
use Rattle.tet_text.specs.Reading.{Fields}
use Rattle.node_files.specs.Header.{count_within, count_or}

pub count_or_none : (absent least most line : ℕ) (fields : Fields) → eqb (length fields) 0 ≡ true → count_or absent least most line fields ≡ Ok (absent, fields)
unfolding count_or
count_or_none absent least most line [] none = refl
count_or_none absent least most line (field ∷ fields) none = let e = eqb-true (suc (length fields)) 0 none in absurd (omega arith)

pub count_or_some : (absent least most line : ℕ) (fields : Fields) → eqb (length fields) 0 ≡ false → count_or absent least most line fields ≡ count_within least most line fields
unfolding count_or
count_or_some absent least most line [] some = absurd (false≢true (sym some))
count_or_some absent least most line (field ∷ fields) some = refl

-- no field is left, and none is passed over
pub none_passed : (fields : Fields) → eqb (length fields) 0 ≡ true → fields ≡ drop 1 fields
none_passed [] none = refl
none_passed (field ∷ fields) none = let e = eqb-true (suc (length fields)) 0 none in absurd (omega arith)
