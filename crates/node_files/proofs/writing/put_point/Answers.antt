use Rattle.std.proofs.Common.{ℤ, ap, ◌∙◌, [], ◌∷◌, ◌++◌, pos, map, w64}
use Rattle.std.proofs.lemmas.Int.{to_z_pos}
use Rattle.node_files.specs.Writing.{whole_text, fields_text, fields_from, point_line}
use Rattle.grid_coords.proofs.Printed.{ok_same}
use Rattle.node_files.proofs.Written.{ok_after, line_joined}
use Rattle.node_files.proofs.writing.put_point.Goals as goal

pub returns : goal.returns
returns c =
    let out = c.args.out.now in
    let place = fields_from c.args.frame.now.origin c.args.frame.now.grid c.args.p in
    let attributes = c.args.attributes.now in
    let markers = map whole_text c.args.markers.now in
    let last = c.push.new.self in
    let number = c.in_ok-put_whole.ensures ∙ ap (λ (z : ℤ). out ++ whole_text z) (to_z_pos w64 c.args.number c.requires.number) in
    let three = ok_after c.push.result c.put_attributes.new.out (fields_text markers) c.put_markers.new.out last (10 ∷ []) c.in_ok-put_markers.ensures c.push.ensures.ok in
    let two = ok_after c.push.result c.put_fields.new.out (fields_text attributes) c.put_attributes.new.out last (fields_text markers ++ 10 ∷ []) c.in_ok-put_attributes.ensures three in
    let one = ok_after c.push.result c.put_whole.new.out (fields_text place) c.put_fields.new.out last (fields_text attributes ++ (fields_text markers ++ 10 ∷ [])) c.in_ok-put_fields.ensures two in
    let all = ok_after c.push.result out (whole_text (pos c.args.number)) c.put_whole.new.out last (fields_text place ++ (fields_text attributes ++ (fields_text markers ++ 10 ∷ []))) number one in
    ok_same c.push.result out last _ (point_line c.args.frame.now.origin c.args.frame.now.grid c.args.number c.args.p attributes c.args.markers.now) (line_joined (pos c.args.number) place attributes markers) all
