-- Attributes one after the other, as a loop reads them.
use Rattle.std.proofs.Common.{◌≡◌, ℕ, suc, ◌+◌, ◌-◌, ◌<◌, ◌≤◌, List, [], ◌∷◌, ◌++◌, Result, Ok, Err, refl, sym, ap, ◌∙◌, append_assoc, arith}
use Rattle.std.proofs.lemmas.List.{append-nil}
use Rattle.tet_text.specs.declared.fault.TextFault.{TextFault}
use Rattle.tet_text.specs.Reading.{◌>>=◌, Fields, field_at}
use Rattle.node_files.specs.Point.{attributes_at}
use Rattle.tet_text.specs.Repeated.{onto}

abbrev Read : Type 0
Read = Result (Fields × Fields) TextFault

regroup : (front : Fields) (field : List ℕ) (read : Read) → onto front (read >>= λ x. Ok (field ∷ x.0, x.1)) ≡ onto (front ++ field ∷ []) read
regroup front field (Ok x) = ap (λ (fields : Fields). let made : Read = Ok (fields, x.1) in made) (sym (append_assoc front (field ∷ []) x.0))
regroup front field (Err fault) = refl

pub attributes_more : (front : Fields) (count i line : ℕ) (fields rest : Fields) (field : List ℕ) (whole : Read) → i < count → field_at line fields ≡ Ok (field, rest)
    → onto front (attributes_at (count - i) line fields) ≡ whole → onto (front ++ field ∷ []) (attributes_at (count - (i + 1)) line rest) ≡ whole
unfolding attributes_at
attributes_more front count i line fields rest field whole lt is so_far =
    let left : count - i ≡ suc (count - (i + 1)) = omega arith in
    let one : onto front (attributes_at (count - i) line fields) ≡ onto (front ++ field ∷ []) (attributes_at (count - (i + 1)) line rest) = rw (left, is) (regroup front field (attributes_at (count - (i + 1)) line rest)) in
    sym one ∙ so_far

pub attributes_stop : (front : Fields) (count i line : ℕ) (fields : Fields) (fault : TextFault) (whole : Read) → i < count → field_at line fields ≡ Err fault
    → onto front (attributes_at (count - i) line fields) ≡ whole → whole ≡ Err fault
unfolding attributes_at
attributes_stop front count i line fields fault whole lt is so_far =
    let left : count - i ≡ suc (count - (i + 1)) = omega arith in
    let one : onto front (attributes_at (count - i) line fields) ≡ Err fault = rw (left, is) refl in
    sym so_far ∙ one

pub attributes_all : (front : Fields) (count i line : ℕ) (fields : Fields) (whole : Read) → count ≤ i → onto front (attributes_at (count - i) line fields) ≡ whole → whole ≡ Ok (front, fields)
unfolding attributes_at
attributes_all front count i line fields whole le so_far =
    let none : count - i ≡ 0 = omega arith in
    let one : onto front (attributes_at (count - i) line fields) ≡ Ok (front, fields) = rw none (ap (λ (read : Fields). let made : Read = Ok (read, fields) in made) (append-nil front)) in
    sym so_far ∙ one
