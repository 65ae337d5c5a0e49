-- The lines of a text and their fields.
use Rattle.std.specs.Prelude.{◌≡◌, ℕ, ◌<◌, Bool, false, not, ◌||◌, List, [], ◌∷◌, length, drop, map, filter, All, ◌==◌, nat_lt, if◌then◌else◌}
use Rattle.std.specs.List.{slice_split, before_first, position_or_len, enumerate_from}

-- the line feed, 10
abbrev pub is_line_feed : ℕ → Bool
is_line_feed byte = byte == 10

-- '#', 35
abbrev pub is_comment_mark : ℕ → Bool
is_comment_mark byte = byte == 35

-- a space, a tab or a carriage return
abbrev pub is_blank : ℕ → Bool
is_blank byte = (byte == 32 || byte == 9) || byte == 13

abbrev pub is_no_blank : ℕ → Bool
is_no_blank byte = not (is_blank byte)

-- the parts, without the last one where it is empty
abbrev pub without_empty_last : List (List ℕ) → List (List ℕ)
without_empty_last [] = []
without_empty_last (part ∷ []) = if length part == 0 then [] else part ∷ []
without_empty_last (part ∷ next ∷ more) = part ∷ without_empty_last (next ∷ more)

-- the bytes cut after each line feed, each line without its line feed
unfoldable pub lines_of : List ℕ → List (List ℕ)
lines_of bytes = without_empty_last (slice_split is_line_feed bytes)

abbrev pub line_count_of : List ℕ → ℕ
line_count_of bytes = length (lines_of bytes)

-- a line without its comment
abbrev pub content_of : List ℕ → List ℕ
content_of line = before_first is_comment_mark line

-- the bytes from the first one on that is no blank
abbrev pub without_blanks : List ℕ → List ℕ
without_blanks bytes = drop (position_or_len is_no_blank bytes) bytes

-- the parts between blanks that are not empty
unfoldable pub fields_of : List ℕ → List (List ℕ)
fields_of content = filter (λ part. nat_lt 0 (length part)) (slice_split is_blank content)

-- a line's number, counted from 1, and its fields
pub record ContentLine : Type 0 where
  pub line : ℕ
  pub fields : List (List ℕ)

abbrev pub content_line : ℕ × List ℕ → ContentLine
content_line (number, line) = record { line = number; fields = fields_of (content_of line) }

-- the lines with a field, where the first of the lines has this number
unfoldable pub content_lines_from : ℕ → List (List ℕ) → List ContentLine
content_lines_from number lines = filter (λ line. nat_lt 0 (length line.fields)) (map content_line (enumerate_from number lines))

-- the lines of a text with a field
abbrev pub content_lines : List ℕ → List ContentLine
content_lines bytes = content_lines_from 1 (lines_of bytes)

-- a field has a byte, and lies in one line: none of its bytes is a line feed or a blank
pub record IsField (bytes : List ℕ) : Type 0 where
  pub some : 0 < length bytes
  pub one_line : All (λ byte. is_line_feed byte ≡ false) bytes
  pub no_blank : All (λ byte. is_blank byte ≡ false) bytes
