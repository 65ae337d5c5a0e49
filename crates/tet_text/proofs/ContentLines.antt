-- The content lines of bytes, line by line.
use Rattle.std.proofs.Common.{◌≡◌, ◌≤◌, ℕ, ◌<◌, ◌+◌, true, false, cond, ltb, eqb, List, [], ◌∷◌, length, refl, sym, ap, ◌∙◌, arith}
use Rattle.std.specs.List.{before_first, after_first}
use Rattle.std.proofs.lemmas.Bool.{cond-true, cond-false, lt-ltb, le-ltb, eqb-true, eqb-false}
use Rattle.std.proofs.lemmas.List.{nil_from_length}
use Rattle.std.specs.Prelude.{map}
use Rattle.std.specs.List.{enumerate_from}
use Rattle.std.proofs.lemmas.List.{length-map}
use Rattle.std.proofs.lemmas.List.FromFn.{length-enumerate_from}
use Rattle.std.proofs.lemmas.List.Sums.{length-filter, count_by-le-length}
use Rattle.tet_text.specs.declared.lines.Lines.{Lines}
use Rattle.tet_text.specs.Views.{content_left, line_total}
use Rattle.tet_text.specs.Lines.{ContentLine, is_line_feed, lines_of, fields_of, content_of, content_line, content_lines_from}
use Rattle.tet_text.proofs.Cutting.{lines_of-nil, lines_of-cons}

abbrev with_content : ℕ → List ℕ → ContentLine
with_content n content = record { line = n; fields = fields_of content }

abbrev first_of : ℕ → List ℕ → ContentLine
first_of n bytes = content_line (n, before_first is_line_feed bytes)

by_first : (n : ℕ) (bytes : List ℕ) → 0 < length bytes → content_lines_from n (lines_of bytes) ≡ cond (ltb 0 (length (first_of n bytes).fields)) (first_of n bytes ∷ content_lines_from (n + 1) (lines_of (after_first is_line_feed bytes))) (content_lines_from (n + 1) (lines_of (after_first is_line_feed bytes)))
unfolding content_lines_from
by_first n bytes some = rw (lines_of-cons bytes some) refl

pub passes_line : (n : ℕ) (bytes : List ℕ) → 0 < length bytes → eqb (length (first_of n bytes).fields) 0 ≡ true → content_lines_from n (lines_of bytes) ≡ content_lines_from (n + 1) (lines_of (after_first is_line_feed bytes))
passes_line n bytes some none = let e = eqb-true (length (first_of n bytes).fields) 0 none in by_first n bytes some ∙ cond-false _ _ _ (le-ltb 0 (length (first_of n bytes).fields) (omega arith))

pub gives_line : (n : ℕ) (bytes : List ℕ) → 0 < length bytes → eqb (length (first_of n bytes).fields) 0 ≡ false → content_lines_from n (lines_of bytes) ≡ first_of n bytes ∷ content_lines_from (n + 1) (lines_of (after_first is_line_feed bytes))
gives_line n bytes some has = let e = eqb-false (length (first_of n bytes).fields) 0 has in by_first n bytes some ∙ cond-true _ _ _ (lt-ltb 0 (length (first_of n bytes).fields) (omega arith))

pub no_line : (n : ℕ) (bytes : List ℕ) → length bytes ≡ 0 → content_lines_from n (lines_of bytes) ≡ []
unfolding content_lines_from
no_line n bytes none = rw (nil_from_length bytes none, lines_of-nil) refl

pub one_line_more : (bytes : List ℕ) → 0 < length bytes → length (lines_of bytes) ≡ length (lines_of (after_first is_line_feed bytes)) + 1
one_line_more bytes some = rw (lines_of-cons bytes some) (omega arith)

pub no_more_lines : (bytes : List ℕ) → length bytes ≡ 0 → length (lines_of bytes) ≡ 0
no_more_lines bytes none = rw (nil_from_length bytes none, lines_of-nil) refl

-- the same, where the parts have names
pub next_is : (n : ℕ) (bytes content rest : List ℕ) (fields : ContentLine) → eqb (length bytes) 0 ≡ false
    → content ≡ content_of (before_first is_line_feed bytes)
    → rest ≡ after_first is_line_feed bytes → fields ≡ with_content n content → eqb (length fields.fields) 0 ≡ false
    → content_lines_from n (lines_of bytes) ≡ fields ∷ content_lines_from (n + 1) (lines_of rest)
next_is n bytes content rest fields some content-is rest-is fields-is has =
    let long = eqb-false (length bytes) 0 some in
    let whole : fields ≡ first_of n bytes = fields-is ∙ ap (with_content n) content-is in
    rw (whole, rest-is) (gives_line n bytes (omega arith) (ap (λ (l : ContentLine). eqb (length l.fields) 0) (sym whole) ∙ has))

pub next_passes : (n : ℕ) (bytes content rest : List ℕ) (fields : ContentLine) → eqb (length bytes) 0 ≡ false
    → content ≡ content_of (before_first is_line_feed bytes)
    → rest ≡ after_first is_line_feed bytes → fields ≡ with_content n content → eqb (length fields.fields) 0 ≡ true
    → content_lines_from n (lines_of bytes) ≡ content_lines_from (n + 1) (lines_of rest)
next_passes n bytes content rest fields some content-is rest-is fields-is none =
    let long = eqb-false (length bytes) 0 some in
    let whole : fields ≡ first_of n bytes = fields-is ∙ ap (with_content n) content-is in
    rw rest-is (passes_line n bytes (omega arith) (ap (λ (l : ContentLine). eqb (length l.fields) 0) (sym whole) ∙ none))

pub next_counts : (n : ℕ) (bytes rest : List ℕ) → eqb (length bytes) 0 ≡ false → rest ≡ after_first is_line_feed bytes → n + 1 + length (lines_of rest) ≡ n + length (lines_of bytes)
next_counts n bytes rest some rest-is =
    let long = eqb-false (length bytes) 0 some in
    rw rest-is (omega (arith, one_line_more bytes (omega arith)))

-- there are at most as many content lines as lines
length-content_lines_from : (n : ℕ) (lines : List (List ℕ)) → length (content_lines_from n lines) ≤ length lines
unfolding content_lines_from
length-content_lines_from n lines =
    let all = map content_line (enumerate_from n lines) in
    let kept = length-filter (λ line. ltb 0 (length line.fields)) all in
    let most = count_by-le-length (λ line. ltb 0 (length line.fields)) all in
    omega (arith, length-map {B = ContentLine} (enumerate_from n lines) content_line, length-enumerate_from n lines)

pub content_left_few : (lines : Lines) → length (content_left lines) ≤ line_total lines
unfolding content_left line_total
content_left_few lines = omega (arith, length-content_lines_from (lines.passed + 1) (lines_of lines.rest.now))
