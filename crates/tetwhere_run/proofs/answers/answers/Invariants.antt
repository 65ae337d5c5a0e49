use Rattle.std.proofs.Common.{◌≡◌, ◌++◌, drop}
use Rattle.tetwhere_run.specs.Locating.{query_lines, answer_text}
use Rattle.tetwhere_run.proofs.answers.answers.Given as goal

-- the text so far, and the lines of the queries that are left, make up the whole
abbrev pub invariant-loop-i : goal.invariant-loop-i
invariant-loop-i l = l.lines ++ query_lines l.text l.settled l.i (drop l.i l.text.queries.decimals) ≡ answer_text l.text l.settled
