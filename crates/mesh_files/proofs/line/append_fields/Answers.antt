use Rattle.std.proofs.Common.{◌≡◌, ◌++◌, [], ◌∷◌, pos, get_or, take, sym, ap, ◌∙◌, append_assoc, arith, rules}
use Rattle.std.proofs.lemmas.List.{get_or_default, take_all, take_more_set}
use Rattle.std.specs.Fmt.{decimal, signed_decimal}
use Rattle.mesh_files.proofs.Pieces.{field_put, fields_text, number_put}
use Rattle.mesh_files.proofs.line.append_fields.Goals as goal

pub loop-field-init : goal.loop-field-init
loop-field-init c =
    let o = c.out.inside in
    record {
      room = omega (arith, c.put-at.ensures.short, c.out.invariant, c.requires);
      used = c.out.invariant;
      written = number_put o.text (take o.used o.block) _ c.args.out.now (decimal c.args.number) (sym c.out.view_is) (c.put-at.ensures.written ∙ ap (λ n. take o.used o.block ++ decimal n) c.reach.ensures);
    }

pub loop-field-preserved : goal.loop-field-preserved
loop-field-preserved c =
    let o = c.loop-field.out-inside in
    record {
      room = omega (arith, c.loop-field.invariant.room);
      used = c.loop-field.invariant.used;
      written =
          let z = get_or c.args.fields.now c.loop-field.field-index (pos 0) in
          let f : take c.put_field-at.result c.put_field-at.new.block ≡ take c.loop-field.at o.block ++ (32 ∷ signed_decimal z) = search rules in
          field_put o.text (take c.loop-field.at o.block) _ c.args.out.now (decimal c.args.number) c.args.fields.now c.loop-field.field-index z
          c.loop-field-test.true (get_or_default c.args.fields.now c.loop-field.field-index z (pos 0) c.loop-field-test.true) f c.loop-field.invariant.written;
    }

pub put_field-at-requires : goal.put_field-at-requires
put_field-at-requires c = omega (arith, c.loop-field.invariant.room)

pub invariant_of-out : goal.invariant_of-out
invariant_of-out c = c.loop-field.invariant.used

pub returns : goal.returns
returns c =
    let o = c.loop-field.out-inside in
    let last = c.args.end ∷ [] in
    let number = decimal c.args.number in
    c.in_ok-out-inside.ensures.same
    ∙ ap (λ bytes. o.text ++ bytes) (take_more_set o.block c.loop-field.at c.args.end (omega (arith, c.loop-field.invariant.room)))
    ∙ sym (append_assoc o.text (take c.loop-field.at o.block) last)
    ∙ ap (λ bytes. bytes ++ last) (c.loop-field.invariant.written ∙ ap (λ zs. c.args.out.now ++ (number ++ fields_text zs)) (take_all c.loop-field.field-index c.args.fields.now (omega arith)))
    ∙ append_assoc c.args.out.now (number ++ fields_text c.args.fields.now) last
