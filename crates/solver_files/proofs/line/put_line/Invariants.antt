use Rattle.std.proofs.Common.{◌≡◌, ◌++◌, ◌∷◌, drop}
use Rattle.std.specs.Prelude.{flat_map}
use Rattle.std.specs.Fmt.{decimal, signed_decimal}
use Rattle.solver_files.proofs.line.put_line.Given as goal

-- the text so far, and the fields that are left, make up the line but for its end
abbrev pub invariant-loop-field : goal.invariant-loop-field
invariant-loop-field l = l.out ++ flat_map (λ z. 32 ∷ signed_decimal z) (drop l.field-index l.fields) ≡ l.fn.out ++ (decimal l.number ++ flat_map (λ z. 32 ∷ signed_decimal z) l.fields)
