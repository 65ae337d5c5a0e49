-- Where the content of a line ends.
use Rattle.std.specs.Prelude.{ℕ, Bool, ◌||◌}
use Rattle.tet_text.specs.Lines.{is_line_feed, is_comment_mark}

-- a line feed or a comment mark
abbrev pub ends_content : ℕ → Bool
ends_content byte = is_line_feed byte || is_comment_mark byte
