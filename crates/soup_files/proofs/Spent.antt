-- How many lines are left behind what was read.
use Rattle.std.proofs.Common.{◌≡◌, ℕ, zero, suc, ◌+◌, ◌*◌, ◌≤◌, Bool, true, false, List, [], ◌∷◌, length, Result, Ok, Err, subst, arith}
use Rattle.std.specs.Prelude.{codes, if◌then◌else◌}
use Rattle.tet_text.specs.declared.fault.TextFault.{TextFault}
use Rattle.tet_text.specs.Lines.{ContentLine}
use Rattle.tet_text.specs.Reading.{◌>>=◌, Fields, line_at}
use Rattle.plc_files.specs.Fields.{some_count_at}
use Rattle.plc_files.specs.Polygon.{field_ahead}
use Rattle.plc_files.proofs.Counts.{step_ok, ok_is}
use Rattle.soup_files.specs.declared.stl_facet.StlFacet.{StlFacet}
use Rattle.soup_files.specs.declared.fields.Grammar.{Grammar}
use Rattle.soup_files.specs.declared.fields.Grammar.TheVariants.{Strict}
use Rattle.soup_files.specs.Keyword.{keyword_at, passing_at}
use Rattle.soup_files.specs.OnLine.{on_line, word_of, place_of}
use Rattle.soup_files.specs.Off as off
use Rattle.soup_files.specs.Stl as stl
use Rattle.tet_text.specs.Repeated.{so_many}

abbrev Lines : Type 0
Lines = List ContentLine

-- each reading takes up a line
abbrev pub TakesLine : {X : Type 0} → (Lines → Result (X × Lines) TextFault) → Type 0
TakesLine {X} one = (lines : Lines) (x : X × Lines) → one lines ≡ Ok x → length x.1 + 1 ≤ length lines

-- a line, and what is read of its fields
line_then : {X : Type 0} (n : ℕ) (next : ContentLine → Lines → Result (X × Lines) TextFault) → ((line : ContentLine) (rest : Lines) (x : X × Lines) → next line rest ≡ Ok x → length x.1 ≤ length rest)
    → TakesLine (λ lines. line_at n lines >>= λ line. next line.0 line.1)
line_then n next keeps [] x is = absurd cc
line_then n next keeps (line ∷ lines) x is = omega (arith, keeps line lines x is)

-- what is read of a line leaves the lines behind it
pub leaves : {A X : Type 0} (r : Result A TextFault) (f : A → X) (rest : Lines) (x : X × Lines) → (r >>= λ a. Ok (f a, rest)) ≡ Ok x → length x.1 ≤ length rest
leaves {A} {X} (Ok a) f rest x is =
    let made : X × Lines = (f a, rest) in
    subst (λ (p : X × Lines). length p.1 ≤ length rest) {x = made} (ok_is made x is) (omega arith)
leaves (Err fault) f rest x is = absurd cc

-- what is read of one line
on_line_takes : {X : Type 0} (read : ContentLine → Result X TextFault) (n : ℕ) → TakesLine (on_line read n)
unfolding on_line
on_line_takes read n lines x is = line_then n (λ line rest. read line >>= λ v. Ok (v, rest)) (λ line rest y e. leaves (read line) (λ v. v) rest y e) lines x is

-- so many, each with a line
pub many_few : {X : Type 0} (one : Lines → Result (X × Lines) TextFault) → TakesLine one → (n : ℕ) (lines : Lines) (x : List X × Lines) → so_many one n lines ≡ Ok x → length x.0 + length x.1 ≤ length lines
unfolding so_many
many_few {X} one takes zero lines x is =
    let made : List X × Lines = ([], lines) in
    subst (λ (p : List X × Lines). length p.0 + length p.1 ≤ length lines) {x = made} (ok_is made x is) (omega arith)
many_few {X} one takes (suc n) lines x is =
    let first = step_ok (one lines) (λ first. so_many one n first.1 >>= λ others. Ok (first.0 ∷ others.0, others.1)) x is in
    let others = step_ok (so_many one n first.0.1) (λ others. Ok (first.0.0 ∷ others.0, others.1)) x first.2 in
    let made : List X × Lines = (first.0.0 ∷ others.0.0, others.0.1) in
    let taken = takes lines first.0 first.1 in
    let le = many_few one takes n first.0.1 others.0 others.1 in
    subst (λ (p : List X × Lines). length p.0 + length p.1 ≤ length lines) {x = made} (ok_is made x others.2) (omega (arith, taken, le))

-- ---- points and faces

pub off_vertex_takes : (grammar : Grammar) (n : ℕ) → TakesLine (off.vertex_line grammar n)
unfolding off.vertex_line
off_vertex_takes grammar n = on_line_takes (place_of grammar) n

pub face_takes : (n : ℕ) → TakesLine (off.off_polygon n)
unfolding off.off_polygon
face_takes n lines x is =
    line_then n (λ line rest. some_count_at line.line line.fields >>= λ count. so_many (off.corner_at line.line) count.0 count.1 >>= λ corners. Ok (record { line = line.line; corners = corners.0 }, rest))
    (λ line rest y e.
    let count = step_ok (some_count_at line.line line.fields) (λ count. so_many (off.corner_at line.line) count.0 count.1 >>= λ corners. Ok (record { line = line.line; corners = corners.0 }, rest)) y e in
    leaves (so_many (off.corner_at line.line) count.0.0 count.0.1) (λ corners. record { line = line.line; corners = corners.0 }) rest y count.2) lines x is

head_left : (n line : ℕ) (fields : Fields) (lines : Lines) (x : ContentLine × Lines) → field_ahead n line fields lines ≡ Ok x → length x.1 ≤ length lines
head_left n line [] [] x is = absurd cc
head_left n line [] (next ∷ lines) x is =
    let made : ContentLine × Lines = (next, lines) in
    subst (λ (p : ContentLine × Lines). length p.1 ≤ suc (length lines)) {x = made} (ok_is made x is) (omega arith)
head_left n line (field ∷ fields) lines x is =
    let made : ContentLine × Lines = (record { line = line; fields = field ∷ fields }, lines) in
    subst (λ (p : ContentLine × Lines). length p.1 ≤ length lines) {x = made} (ok_is made x is) (omega arith)

pub head_takes : (grammar : Grammar) (n : ℕ) → TakesLine (off.head_of grammar n)
unfolding off.head_of
head_takes grammar n lines x is =
    line_then n (λ line rest. passing_at (off.is_off_word grammar) line.line line.fields >>= λ left. field_ahead n line.line left.1 rest >>= λ ahead. off.counts_of ahead.0 >>= λ counts. Ok (counts, ahead.1))
    (λ line rest y e.
    let left = step_ok (passing_at (off.is_off_word grammar) line.line line.fields) (λ left. field_ahead n line.line left.1 rest >>= λ ahead. off.counts_of ahead.0 >>= λ counts. Ok (counts, ahead.1)) y e in
    let ahead = step_ok (field_ahead n line.line left.0.1 rest) (λ ahead. off.counts_of ahead.0 >>= λ counts. Ok (counts, ahead.1)) y left.2 in
    omega (arith, head_left n line.line left.0.1 rest ahead.0 ahead.1, leaves (off.counts_of ahead.0.0) (λ counts. counts) ahead.0.1 y ahead.2)) lines x is

-- ---- facets

-- six lines
pub facet_takes : (grammar : Grammar) (n first : ℕ) (lines : Lines) (x : StlFacet × Lines) → stl.ascii_facet_of grammar n first lines ≡ Ok x → length x.1 + 6 ≤ length lines
unfolding stl.ascii_facet_of
facet_takes grammar n first lines x is =
    let outer = step_ok (on_line (stl.loop_of grammar) n lines) (λ outer. on_line (stl.vertex_of grammar) n outer.1 >>= λ a. on_line (stl.vertex_of grammar) n a.1 >>= λ b. on_line (stl.vertex_of grammar) n b.1 >>= λ c. on_line (word_of grammar (codes "endloop")) n c.1 >>= λ inner. on_line (word_of grammar (codes "endfacet")) n inner.1 >>= λ last. Ok (record { line = first; a = a.0; b = b.0; c = c.0 }, last.1)) x is in
    let a = step_ok (on_line (stl.vertex_of grammar) n outer.0.1) (λ a. on_line (stl.vertex_of grammar) n a.1 >>= λ b. on_line (stl.vertex_of grammar) n b.1 >>= λ c. on_line (word_of grammar (codes "endloop")) n c.1 >>= λ inner. on_line (word_of grammar (codes "endfacet")) n inner.1 >>= λ last. Ok (record { line = first; a = a.0; b = b.0; c = c.0 }, last.1)) x outer.2 in
    let b = step_ok (on_line (stl.vertex_of grammar) n a.0.1) (λ b. on_line (stl.vertex_of grammar) n b.1 >>= λ c. on_line (word_of grammar (codes "endloop")) n c.1 >>= λ inner. on_line (word_of grammar (codes "endfacet")) n inner.1 >>= λ last. Ok (record { line = first; a = a.0.0; b = b.0; c = c.0 }, last.1)) x a.2 in
    let c = step_ok (on_line (stl.vertex_of grammar) n b.0.1) (λ c. on_line (word_of grammar (codes "endloop")) n c.1 >>= λ inner. on_line (word_of grammar (codes "endfacet")) n inner.1 >>= λ last. Ok (record { line = first; a = a.0.0; b = b.0.0; c = c.0 }, last.1)) x b.2 in
    let inner = step_ok (on_line (word_of grammar (codes "endloop")) n c.0.1) (λ inner. on_line (word_of grammar (codes "endfacet")) n inner.1 >>= λ last. Ok (record { line = first; a = a.0.0; b = b.0.0; c = c.0.0 }, last.1)) x c.2 in
    let last = step_ok (on_line (word_of grammar (codes "endfacet")) n inner.0.1) (λ last. Ok (record { line = first; a = a.0.0; b = b.0.0; c = c.0.0 }, last.1)) x inner.2 in
    let made : StlFacet × Lines = (record { line = first; a = a.0.0; b = b.0.0; c = c.0.0 }, last.0.1) in
    let l1 = on_line_takes (stl.loop_of grammar) n lines outer.0 outer.1 in
    let l2 = on_line_takes (stl.vertex_of grammar) n outer.0.1 a.0 a.1 in
    let l3 = on_line_takes (stl.vertex_of grammar) n a.0.1 b.0 b.1 in
    let l4 = on_line_takes (stl.vertex_of grammar) n b.0.1 c.0 c.1 in
    let l5 = on_line_takes (word_of grammar (codes "endloop")) n c.0.1 inner.0 inner.1 in
    let l6 = on_line_takes (word_of grammar (codes "endfacet")) n inner.0.1 last.0 last.1 in
    subst (λ (p : StlFacet × Lines). length p.1 + 6 ≤ length lines) {x = made} (ok_is made x last.2) (omega arith)

pub solid_takes : (grammar : Grammar) (n : ℕ) → TakesLine (stl.solid_line grammar n)
unfolding stl.solid_line
solid_takes grammar n lines x is =
    line_then n (λ line rest. keyword_at grammar (codes "solid") line.line line.fields >>= λ _. Ok (tt, rest))
    (λ line rest y e. leaves (keyword_at grammar (codes "solid") line.line line.fields) (λ _. tt) rest y e) lines x is

abbrev Facets : Type 0
Facets = List StlFacet × Lines

abbrev facets_if : ℕ → ℕ → ContentLine → Lines → Bool → Result Facets TextFault
facets_if most n line rest more = if more then (stl.ascii_facet_of Strict n line.line rest >>= λ facet. stl.ascii_facets_of most n facet.1 >>= λ others. Ok (facet.0 ∷ others.0, others.1)) else Ok ([], rest)

-- seven lines for each facet
pub facets_few : (most n : ℕ) (lines : Lines) (x : Facets) → stl.ascii_facets_of most n lines ≡ Ok x → 7 * length x.0 + length x.1 ≤ length lines
unfolding stl.ascii_facets_of
facets_few zero n lines x is = absurd cc
facets_few (suc most) n [] x is = absurd cc
facets_few (suc most) n (line ∷ lines) x is =
    let more = step_ok (stl.more_facets Strict line) (facets_if most n line lines) x is in
    go more.0 more.2 (λ rest y e. facets_few most n rest y e)
  where
    go : (more : Bool) → facets_if most n line lines more ≡ Ok x → ((rest : Lines) (y : Facets) → stl.ascii_facets_of most n rest ≡ Ok y → 7 * length y.0 + length y.1 ≤ length rest) → 7 * length x.0 + length x.1 ≤ suc (length lines)
    go false e others_few =
        let made : Facets = ([], lines) in
        subst (λ (p : Facets). 7 * length p.0 + length p.1 ≤ suc (length lines)) {x = made} (ok_is made x e) (omega arith)
    go true e others_few =
        let facet = step_ok (stl.ascii_facet_of Strict n line.line lines) (λ facet. stl.ascii_facets_of most n facet.1 >>= λ others. Ok (facet.0 ∷ others.0, others.1)) x e in
        let others = step_ok (stl.ascii_facets_of most n facet.0.1) (λ others. Ok (facet.0.0 ∷ others.0, others.1)) x facet.2 in
        let made : Facets = (facet.0.0 ∷ others.0.0, others.0.1) in
        let taken = facet_takes Strict n line.line lines facet.0 facet.1 in
        let le = others_few facet.0.1 others.0 others.1 in
        subst (λ (p : Facets). 7 * length p.0 + length p.1 ≤ suc (length lines)) {x = made} (ok_is made x others.2) (omega (arith, taken, le))
