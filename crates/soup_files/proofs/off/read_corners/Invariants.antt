use Rattle.std.proofs.Common.{◌≡◌, ◌-◌, List}
use Rattle.plc_files.specs.declared.parts.CornerText.{CornerText}
use Rattle.soup_files.specs.Off.{corner_at}
use Rattle.soup_files.specs.Surface.{plus_corners}
use Rattle.soup_files.proofs.off.read_corners.Given as goal
use Rattle.tet_text.specs.Repeated.{so_many, onto}

abbrev pub invariant-loop : goal.invariant-loop
invariant-loop l =
    (corners : List CornerText)
    × (l.text ≡ plus_corners corners l.fn.text)
    × (onto corners (so_many (corner_at l.fn.fields.line) (l.count - l.counter) l.fields.fields) ≡ so_many (corner_at l.fn.fields.line) l.count l.fn.fields.fields)
    × (l.fields.line ≡ l.fn.fields.line)
