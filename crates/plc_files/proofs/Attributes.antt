-- The attributes of regions are fields of the text.
use Rattle.std.proofs.Common.{◌≡◌, ℕ, zero, suc, List, [], ◌∷◌, Option, Ok, subst}
use Rattle.std.specs.Prelude.{All}
use Rattle.std.specs.Option.{ok_or}
use Rattle.std.proofs.lemmas.List.Elements.{All-nil, All-cons, All-head, All-tail}
use Rattle.tet_text.specs.Faults.{not_a_number}
use Rattle.tet_text.specs.Lines.{ContentLine, IsField}
use Rattle.tet_text.specs.Reading.{◌>>=◌, Fields, field_at, number_at, whole_at, decimal_at, line_at}
use Rattle.tet_text.specs.Decimals.{decimal_of}
use Rattle.tet_text.specs.Numbers.{whole_of}
use Rattle.grid_coords.specs.declared.points.DecimalPoint.{DecimalPoint}
use Rattle.node_files.specs.Point.{place_at}
use Rattle.plc_files.specs.declared.parts.RegionText.{RegionText}
use Rattle.plc_files.specs.Facet.{Lines, limit_or_none, region_of, region_line}
use Rattle.plc_files.proofs.Counts.{step_ok, ok_is}
use Rattle.tet_text.specs.Repeated.{so_many}

abbrev HasFields : ContentLine → Type 0
HasFields line = All IsField line.fields

abbrev IsWritten : RegionText → Type 0
IsWritten r = IsField r.attribute

field_is : (line : ℕ) (fields : Fields) (x : List ℕ × Fields) → field_at line fields ≡ Ok x → All IsField fields → IsField x.0 × All IsField x.1
field_is line [] x is h = absurd cc
field_is line (field ∷ fields) x is h =
    let made : List ℕ × Fields = (field, fields) in
    subst (λ (p : List ℕ × Fields). IsField p.0 × All IsField p.1) {x = made} (ok_is made x is) (All-head IsField field fields h, All-tail IsField field fields h)

number_leaves : {N : Type 0} (number : List ℕ → Option N) (line : ℕ) (fields : Fields) (x : N × Fields) → number_at number line fields ≡ Ok x → All IsField fields → All IsField x.1
number_leaves {N} number line fields x is h =
    let field = step_ok (field_at line fields) (λ field. ok_or (number field.0) (not_a_number line) >>= λ n. Ok (n, field.1)) x is in
    let n = step_ok (ok_or (number field.0.0) (not_a_number line)) (λ n. Ok (n, field.0.1)) x field.2 in
    let made : N × Fields = (n.0, field.0.1) in
    subst (λ (p : N × Fields). All IsField p.1) {x = made} (ok_is made x n.2) (field_is line fields field.0 field.1 h).1

place_leaves : (line : ℕ) (fields : Fields) (p : DecimalPoint × Fields) → place_at line fields ≡ Ok p → All IsField fields → All IsField p.1
unfolding place_at
place_leaves line fields p is h =
    let x = step_ok (decimal_at line fields) (λ x. decimal_at line x.1 >>= λ y. decimal_at line y.1 >>= λ z. Ok (record { x = x.0; y = y.0; z = z.0; line = line }, z.1)) p is in
    let y = step_ok (decimal_at line x.0.1) (λ y. decimal_at line y.1 >>= λ z. Ok (record { x = x.0.0; y = y.0; z = z.0; line = line }, z.1)) p x.2 in
    let z = step_ok (decimal_at line y.0.1) (λ z. Ok (record { x = x.0.0; y = y.0.0; z = z.0; line = line }, z.1)) p y.2 in
    let made : DecimalPoint × Fields = (record { x = x.0.0; y = y.0.0; z = z.0.0; line = line }, z.0.1) in
    let left = number_leaves decimal_of line y.0.1 z.0 z.1 (number_leaves decimal_of line x.0.1 y.0 y.1 (number_leaves decimal_of line fields x.0 x.1 h)) in
    subst (λ (q : DecimalPoint × Fields). All IsField q.1) {x = made} (ok_is made p z.2) left

region_is : (line : ContentLine) (r : RegionText) → region_of line ≡ Ok r → HasFields line → IsWritten r
unfolding region_of
region_is line r is h =
    let number = step_ok (whole_at line.line line.fields) (λ number. place_at line.line number.1 >>= λ place. field_at line.line place.1 >>= λ attribute. limit_or_none line.line attribute.1 >>= λ limit. Ok (record { at = place.0; attribute = attribute.0; limit = limit })) r is in
    let place = step_ok (place_at line.line number.0.1) (λ place. field_at line.line place.1 >>= λ attribute. limit_or_none line.line attribute.1 >>= λ limit. Ok (record { at = place.0; attribute = attribute.0; limit = limit })) r number.2 in
    let attribute = step_ok (field_at line.line place.0.1) (λ attribute. limit_or_none line.line attribute.1 >>= λ limit. Ok (record { at = place.0.0; attribute = attribute.0; limit = limit })) r place.2 in
    let ended = step_ok (limit_or_none line.line attribute.0.1) (λ limit. Ok (record { at = place.0.0; attribute = attribute.0.0; limit = limit })) r attribute.2 in
    let made : RegionText = record { at = place.0.0; attribute = attribute.0.0; limit = ended.0 } in
    let left = place_leaves line.line number.0.1 place.0 place.1 (number_leaves whole_of line.line line.fields number.0 number.1 h) in
    subst IsWritten {x = made} (ok_is made r ended.2) (field_is line.line place.0.1 attribute.0 attribute.1 left).0

line_is : (n : ℕ) (lines : Lines) (x : ContentLine × Lines) → line_at n lines ≡ Ok x → All HasFields lines → HasFields x.0 × All HasFields x.1
line_is n [] x is h = absurd cc
line_is n (line ∷ lines) x is h =
    let made : ContentLine × Lines = (line, lines) in
    subst (λ (p : ContentLine × Lines). HasFields p.0 × All HasFields p.1) {x = made} (ok_is made x is) (All-head HasFields line lines h, All-tail HasFields line lines h)

line_region_is : (n : ℕ) (lines : Lines) (x : RegionText × Lines) → region_line n lines ≡ Ok x → All HasFields lines → IsWritten x.0 × All HasFields x.1
unfolding region_line
line_region_is n lines x is h =
    let line = step_ok (line_at n lines) (λ line. region_of line.0 >>= λ region. Ok (region, line.1)) x is in
    let region = step_ok (region_of line.0.0) (λ region. Ok (region, line.0.1)) x line.2 in
    let made : RegionText × Lines = (region.0, line.0.1) in
    let here = line_is n lines line.0 line.1 h in
    subst (λ (p : RegionText × Lines). IsWritten p.0 × All HasFields p.1) {x = made} (ok_is made x region.2) (region_is line.0.0 region.0 region.1 here.0, here.1)

pub regions_are : (total count : ℕ) (lines : Lines) (x : List RegionText × Lines) → so_many (region_line total) count lines ≡ Ok x → All HasFields lines → All IsWritten x.0
unfolding so_many
regions_are total zero lines x is h =
    let made : List RegionText × Lines = ([], lines) in
    subst (λ (p : List RegionText × Lines). All IsWritten p.0) {x = made} (ok_is made x is) (All-nil IsWritten)
regions_are total (suc count) lines x is h =
    let first = step_ok (region_line total lines) (λ first. so_many (region_line total) count first.1 >>= λ others. Ok (first.0 ∷ others.0, others.1)) x is in
    let others = step_ok (so_many (region_line total) count first.0.1) (λ others. Ok (first.0.0 ∷ others.0, others.1)) x first.2 in
    let made : List RegionText × Lines = (first.0.0 ∷ others.0.0, others.0.1) in
    let here = line_region_is total lines first.0 first.1 h in
    subst (λ (p : List RegionText × Lines). All IsWritten p.0) {x = made} (ok_is made x others.2) (All-cons IsWritten first.0.0 others.0.0 here.0 (regions_are total count first.0.1 others.0 others.1 here.1))
