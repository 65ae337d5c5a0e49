-- Facets that are read one after another, up to the line that ends them.
use Rattle.std.proofs.Common.{◌≡◌, ℕ, zero, suc, ◌+◌, ◌-◌, ◌≤◌, true, false, List, [], ◌∷◌, ◌++◌, length, Result, Ok, Err, refl, sym, ap, ◌∙◌, append_assoc, arith, subst}
use Rattle.std.proofs.lemmas.List.{append-nil}
use Rattle.tet_text.specs.declared.fault.TextFault.{TextFault}
use Rattle.tet_text.specs.Lines.{ContentLine}
use Rattle.tet_text.specs.Reading.{◌>>=◌, line_at}
use Rattle.plc_files.proofs.Counts.{ok_is}
use Rattle.soup_files.specs.declared.fields.Grammar.TheVariants.{Strict}
use Rattle.soup_files.specs.declared.stl_facet.StlFacet.{StlFacet}
use Rattle.soup_files.specs.Stl.{more_facets, ascii_facet_of, ascii_facets_of}
use Rattle.tet_text.specs.Repeated.{onto}
use Rattle.plc_files.specs.Facet.{Lines}

abbrev pub Read : Type 0
Read = Result (List StlFacet × Lines) TextFault

-- the text ends where a line is wanted
no_line : (most total : ℕ) (left : Lines) (fault : TextFault) → line_at total left ≡ Err fault → ascii_facets_of most total left ≡ Err fault
unfolding ascii_facets_of
no_line zero total [] fault is = cc
no_line (suc most) total [] fault is = cc
no_line most total (line ∷ left) fault is = absurd cc

pub onto_err : {X R : Type 0} (xs : List X) (read whole : Result (List X × R) TextFault) (fault : TextFault) → read ≡ Err fault → onto xs read ≡ whole → whole ≡ Err fault
onto_err xs read whole fault is so_far = sym so_far ∙ ap (onto xs) is

pub stop_line : (fs : List StlFacet) (most total : ℕ) (left : Lines) (fault : TextFault) (whole : Read) → line_at total left ≡ Err fault → onto fs (ascii_facets_of most total left) ≡ whole → whole ≡ Err fault
stop_line fs most total left fault whole is so_far = onto_err fs (ascii_facets_of most total left) whole fault (no_line most total left fault is) so_far

-- a line that begins no facet and does not end them
first_stop : (most total : ℕ) (left behind : Lines) (line : ContentLine) (fault : TextFault) → line_at total left ≡ Ok (line, behind) → more_facets Strict line ≡ Err fault → ascii_facets_of (suc most) total left ≡ Err fault
unfolding ascii_facets_of
first_stop most total left behind line fault is stops = rw (is, stops) refl

pub stop_first : (fs : List StlFacet) (most total : ℕ) (left behind : Lines) (line : ContentLine) (fault : TextFault) (whole : Read) → line_at total left ≡ Ok (line, behind) → more_facets Strict line ≡ Err fault
    → onto fs (ascii_facets_of (suc most) total left) ≡ whole → whole ≡ Err fault
stop_first fs most total left behind line fault whole is stops so_far = onto_err fs (ascii_facets_of (suc most) total left) whole fault (first_stop most total left behind line fault is stops) so_far

-- the line that ends them
ends : (most total : ℕ) (left behind : Lines) (line : ContentLine) → line_at total left ≡ Ok (line, behind) → more_facets Strict line ≡ Ok false → ascii_facets_of (suc most) total left ≡ Ok ([], behind)
unfolding ascii_facets_of
ends most total left behind line is end = rw (is, end) refl

pub all_facets : (fs : List StlFacet) (most total : ℕ) (left behind : Lines) (line : ContentLine) (whole : Read) → line_at total left ≡ Ok (line, behind) → more_facets Strict line ≡ Ok false
    → onto fs (ascii_facets_of (suc most) total left) ≡ whole → whole ≡ Ok (fs, behind)
all_facets fs most total left behind line whole is end so_far =
    sym so_far ∙ ap (onto fs) (ends most total left behind line is end) ∙ ap (λ (gs : List StlFacet). let made : Read = Ok (gs, behind) in made) (append-nil fs)

-- a facet
facet_stop : (most total : ℕ) (left behind : Lines) (line : ContentLine) (fault : TextFault) → line_at total left ≡ Ok (line, behind) → more_facets Strict line ≡ Ok true → ascii_facet_of Strict total line.line behind ≡ Err fault
    → ascii_facets_of (suc most) total left ≡ Err fault
unfolding ascii_facets_of
facet_stop most total left behind line fault is more stops = rw (is, more, stops) refl

pub stop_facet : (fs : List StlFacet) (most total : ℕ) (left behind : Lines) (line : ContentLine) (fault : TextFault) (whole : Read) → line_at total left ≡ Ok (line, behind) → more_facets Strict line ≡ Ok true
    → ascii_facet_of Strict total line.line behind ≡ Err fault → onto fs (ascii_facets_of (suc most) total left) ≡ whole → whole ≡ Err fault
stop_facet fs most total left behind line fault whole is more stops so_far = onto_err fs (ascii_facets_of (suc most) total left) whole fault (facet_stop most total left behind line fault is more stops) so_far

pub regroup : {X R : Type 0} (xs : List X) (x : X) (read : Result (List X × R) TextFault) → onto xs (read >>= λ others. Ok (x ∷ others.0, others.1)) ≡ onto (xs ++ x ∷ []) read
regroup {X} {R} xs x (Ok y) = ap (λ (ys : List X). let made : Result (List X × R) TextFault = Ok (ys, y.1) in made) (sym (append_assoc xs (x ∷ []) y.0))
regroup xs x (Err fault) = refl

one_more : (most total : ℕ) (left behind rest : Lines) (line : ContentLine) (f : StlFacet) → line_at total left ≡ Ok (line, behind) → more_facets Strict line ≡ Ok true → ascii_facet_of Strict total line.line behind ≡ Ok (f, rest)
    → ascii_facets_of (suc most) total left ≡ (ascii_facets_of most total rest >>= λ others. Ok (f ∷ others.0, others.1))
unfolding ascii_facets_of
one_more most total left behind rest line f is more made = rw (is, more, made) refl

pub facets_more : (fs : List StlFacet) (most total : ℕ) (left behind rest : Lines) (line : ContentLine) (f : StlFacet) (whole : Read) → line_at total left ≡ Ok (line, behind) → more_facets Strict line ≡ Ok true
    → ascii_facet_of Strict total line.line behind ≡ Ok (f, rest) → onto fs (ascii_facets_of (suc most) total left) ≡ whole → onto (fs ++ f ∷ []) (ascii_facets_of most total rest) ≡ whole
facets_more fs most total left behind rest line f whole is more made so_far =
    sym (ap (onto fs) (one_more most total left behind rest line f is more made) ∙ regroup fs f (ascii_facets_of most total rest)) ∙ so_far

-- ---- a loop over the lines, of which there are so many

pub line_left : (total : ℕ) (left behind : Lines) (line : ContentLine) → line_at total left ≡ Ok (line, behind) → length left ≡ suc (length behind)
line_left total [] behind line is = absurd cc
line_left total (first ∷ left) behind line is = ap (λ (p : ContentLine × Lines). suc (length p.1)) (ok_is (first, left) (line, behind) is)

-- a line is left, so there may be a further facet
pub going_on : (fs : List StlFacet) (lines_count total : ℕ) (left behind : Lines) (line : ContentLine) (whole : Read) → line_at total left ≡ Ok (line, behind) → length fs + length left ≤ lines_count
    → onto fs (ascii_facets_of (lines_count - length fs) total left) ≡ whole → onto fs (ascii_facets_of (suc (lines_count - (length fs + 1))) total left) ≡ whole
going_on fs lines_count total left behind line whole is few so_far =
    let one = line_left total left behind line is in
    let e : lines_count - length fs ≡ suc (lines_count - (length fs + 1)) = omega arith in
    subst (λ (most : ℕ). onto fs (ascii_facets_of most total left) ≡ whole) e so_far
