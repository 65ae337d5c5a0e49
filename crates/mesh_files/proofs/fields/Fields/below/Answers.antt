use Rattle.std.proofs.Common.{◌≡◌, ◌∷◌, ◌+◌, ◌-◌, ◌^◌, ◌<◌, ℕ, [], length, get_or, sym, ap, subst, ◌∙◌, arith}
use Rattle.std.proofs.lemmas.List.{length-append}
use Rattle.mesh_files.specs.Fields.{IsNumberField, with_last}
use Rattle.mesh_files.specs.declared.fields.Field.{Field}
use Rattle.mesh_files.proofs.Pieces.{fields_more}
use Rattle.mesh_files.proofs.NextFields.{IsNow, own_last, digit_small, next_field}
use Rattle.mesh_files.proofs.fields.Fields.below.Goals.{then-last-gt57, else-last-gt57}
use Rattle.mesh_files.proofs.fields.Fields.below.Goals as goal

-- a field that was just made, with its last digit
made : (n m : ℕ) (f g : Field) (len last : ℕ) → length f.text ≡ 8 → n + 1 < 2 ^ 64 → m ≡ n → IsNumberField m f → len ≡ f.len → g ≡ f
    → last ≡ get_or f.text (len - 1) 0 → IsNow n g last
made n m f g len last room fits reached is long same read =
    subst (λ (h : Field). IsNow n h last) (sym same)
    (subst (IsNow n f) (sym (read ∙ ap (λ k. get_or f.text (k - 1) 0) long)) (own_last n f room fits (subst (λ k. IsNumberField k f) reached is)))

pub overflow_add-last-in-loop-number : goal.overflow_add-last-in-loop-number
overflow_add-last-in-loop-number c =
    let n = c.loop-number.number in
    elim c.if-last-gt57.branch [
      | then-last-gt57 w ↦
          let now = made n _ w.field_of-field.result c.if-last-gt57.field _ c.if-last-gt57.last (omega arith) (omega arith)
          (w.reach.ensures ∙ w.from.ensures) w.field_of-field.ensures w.from-then-last-gt57.ensures w.field-is w.last-is in
          omega (arith, digit_small n c.if-last-gt57.field c.if-last-gt57.last now.0 now.1 (omega arith) now.2)
      | else-last-gt57 w ↦ omega (arith, w.last-is, w.if-last-gt57.false)
    ]

pub loop-number-preserved : goal.loop-number-preserved
loop-number-preserved c =
    let n = c.loop-number.number in
    let f = c.if-last-gt57.field in
    let last = c.if-last-gt57.last in
    let i = c.loop-number.invariant in
    let now : IsNow n f last = elim c.if-last-gt57.branch [
      | then-last-gt57 w ↦ made n _ w.field_of-field.result f _ last (omega arith) (omega arith)
          (w.reach.ensures ∙ w.from.ensures) w.field_of-field.ensures w.from-then-last-gt57.ensures w.field-is w.last-is
      | else-last-gt57 w ↦
          subst (λ (h : Field). IsNow n h last) (sym w.field-is)
          (subst (IsNow n c.loop-number.field) (sym w.last-is) (i.text, i.digit, i.next (omega (arith, w.if-last-gt57.false))))
    ] in
    let digit = digit_small n f last now.0 now.1 (omega arith) now.2 in
    let pushed = c.push_with_last.ensures.pushed in
    record {
      count = omega (arith, ap length pushed, length-append c.loop-number.known.items (with_last f last ∷ []), i.count);
      right = fields_more c.loop-number.known.items _ n (with_last f last) i.count i.right now.2 pushed;
      text = now.0;
      digit = now.1;
      short = now.2.0;
      past = omega (arith, digit);
      next = λ small. next_field n f last now.0 now.1 (omega arith) now.2 (omega (arith, small));
      room = omega (arith, c.push_with_last.ensures.longer, c.push_with_last.ensures.capacity, i.room);
    }
