use Rattle.std.proofs.Common.{ℕ, ap, ◌∙◌, [], ◌∷◌, ◌++◌, pos}
use Rattle.node_files.specs.Writing.{whole_text, line_text, head_line}
use Rattle.grid_coords.proofs.Printed.{ok_same}
use Rattle.node_files.proofs.Written.{ok_after, head_joined}
use Rattle.node_files.proofs.writing.put_head.Goals as goal

pub returns : goal.returns
returns c =
    let out = c.args.out.now in
    let last = c.push.new.self in
    let number = whole_text (pos c.args.count) in
    let dimension = whole_text (pos 3) in
    let attributes = whole_text (pos c.from.result) in
    let marks = whole_text (pos c.marks_of.result) in
    let four = ok_after c.push.result c.put_count_field-2.new.out (32 ∷ marks) c.put_count_field-3.new.out last (10 ∷ []) c.in_ok-put_count_field-3.ensures c.push.ensures.ok in
    let three = ok_after c.push.result c.put_count_field.new.out (32 ∷ attributes) c.put_count_field-2.new.out last ((32 ∷ marks) ++ 10 ∷ []) c.in_ok-put_count_field-2.ensures four in
    let two = ok_after c.push.result c.put_count.new.out (32 ∷ dimension) c.put_count_field.new.out last ((32 ∷ attributes) ++ ((32 ∷ marks) ++ 10 ∷ [])) c.in_ok-put_count_field.ensures three in
    let all = ok_after c.push.result out number c.put_count.new.out last ((32 ∷ dimension) ++ ((32 ∷ attributes) ++ ((32 ∷ marks) ++ 10 ∷ []))) c.in_ok-put_count.ensures two in
    let same = ap (λ (n : ℕ). line_text (pos c.args.count) (dimension ∷ whole_text (pos n) ∷ marks ∷ [])) c.from.ensures ∙ ap (λ (n : ℕ). line_text (pos c.args.count) (dimension ∷ whole_text (pos c.args.table.now.attribute_count) ∷ whole_text (pos n) ∷ [])) c.marks_of.ensures in
    ok_same c.push.result out last _ (head_line c.args.table.now c.args.count) (head_joined (pos c.args.count) dimension attributes marks ∙ same) all
