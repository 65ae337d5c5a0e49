-- Many things of one kind, as a loop reads them.
use Rattle.std.proofs.Common.{◌≡◌, ℕ, suc, ◌+◌, ◌-◌, ◌<◌, ◌≤◌, List, [], ◌∷◌, ◌++◌, Result, Ok, Err, refl, sym, ap, ◌∙◌, append_assoc, arith}
use Rattle.std.proofs.lemmas.List.{append-nil}
use Rattle.tet_text.specs.declared.fault.TextFault.{TextFault}
use Rattle.tet_text.specs.Reading.{◌>>=◌}
use Rattle.mesh_files.specs.declared.fault.MeshFault.{MeshFault}
use Rattle.mesh_files.specs.declared.fault.MeshFault.TheVariants as faults
use Rattle.mesh_files.specs.Outcome.{MeshFails}
use Rattle.tet_text.specs.Repeated.{so_many, onto}

abbrev Read : Type 0 → Type 0 → Type 0
Read X R = Result (List X × R) TextFault

regroup : {X R : Type 0} (front : List X) (x : X) (read : Read X R) → onto front (read >>= λ y. Ok (x ∷ y.0, y.1)) ≡ onto (front ++ x ∷ []) read
regroup {X} {R} front x (Ok y) = ap (λ (xs : List X). let made : Read X R = Ok (xs, y.1) in made) (sym (append_assoc front (x ∷ []) y.0))
regroup front x (Err fault) = refl

pub many_none : {X R : Type 0} (read : Read X R) → onto [] read ≡ read
many_none (Ok x) = refl
many_none (Err fault) = refl

pub many_more : {X R : Type 0} (one : R → Result (X × R) TextFault) (front : List X) (count i : ℕ) (place rest : R) (x : X) (whole : Read X R) → i < count → one place ≡ Ok (x, rest)
    → onto front (so_many one (count - i) place) ≡ whole → onto (front ++ x ∷ []) (so_many one (count - (i + 1)) rest) ≡ whole
unfolding so_many
many_more one front count i place rest x whole lt is so_far =
    let left : count - i ≡ suc (count - (i + 1)) = omega arith in
    let step : onto front (so_many one (count - i) place) ≡ onto (front ++ x ∷ []) (so_many one (count - (i + 1)) rest) = rw (left, is) (regroup front x (so_many one (count - (i + 1)) rest)) in
    sym step ∙ so_far

stops : {X R : Type 0} (one : R → Result (X × R) TextFault) (front : List X) (count i : ℕ) (place : R) (fault : TextFault) (whole : Read X R) → i < count → one place ≡ Err fault
    → onto front (so_many one (count - i) place) ≡ whole → whole ≡ Err fault
unfolding so_many
stops one front count i place fault whole lt is so_far =
    let left : count - i ≡ suc (count - (i + 1)) = omega arith in
    let step : onto front (so_many one (count - i) place) ≡ Err fault = rw (left, is) refl in
    sym so_far ∙ step

pub many_stop : {X R : Type 0} (one : R → Result (X × R) TextFault) (front : List X) (count i : ℕ) (place : R) (fault : MeshFault) (whole : Read X R) → i < count → MeshFails fault (one place)
    → onto front (so_many one (count - i) place) ≡ whole → MeshFails fault whole
many_stop one front count i place faults.NoMemory whole lt fails so_far = tt
many_stop one front count i place (faults.Text fault) whole lt fails so_far = stops one front count i place fault whole lt fails so_far

pub many_all : {X R : Type 0} (one : R → Result (X × R) TextFault) (front : List X) (count i : ℕ) (place : R) (whole : Read X R) → count ≤ i → onto front (so_many one (count - i) place) ≡ whole → whole ≡ Ok (front, place)
unfolding so_many
many_all {X} {R} one front count i place whole le so_far =
    let none : count - i ≡ 0 = omega arith in
    let step : onto front (so_many one (count - i) place) ≡ Ok (front, place) = rw none (ap (λ (xs : List X). let made : Read X R = Ok (xs, place) in made) (append-nil front)) in
    sym so_far ∙ step
