use Rattle.std.proofs.Common.{◌≡◌, ◌<◌, ◌+◌, ℕ, List, length, Option, Some, None, refl, arith}
use Rattle.tet_ports.specs.Files.{Files, Holds, HoldsMore}
use Rattle.mesh_check.proofs.reading.fetch.Goals as goal

-- a file that is too large has too many bytes
longer : (files : Option Files) (name : List ℕ) (most : ℕ) (taken : List ℕ) → HoldsMore files name most taken → length taken ≡ most + 1
    → (bytes : List ℕ) × Holds files name bytes × (most < length bytes)
longer None name most taken h e = (taken, tt, omega (arith, e))
longer (Some told) name most taken h e = (h.0, h.1, h.2)

pub returns-in-Err-TooLarge-clause-err : goal.returns-in-Err-TooLarge-clause-err
returns-in-Err-TooLarge-clause-err g c =
    let files = (g.F.Folder.state c.args.folder.now).files in
    let more = rw c.in-Err-TooLarge.field-0-is at c.in-Err-TooLarge.ensures.longer in
    let long = rw c.in-Err-TooLarge.field-0-is at c.in-Err-TooLarge.ensures.too_large in
    (refl, longer files c.args.name 67108864 c.in-Err-TooLarge.field-0-0 more long)
