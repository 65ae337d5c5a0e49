use Rattle.std.proofs.Common.{sym, ◌∙◌}
use Rattle.tet_text.proofs.Texts.{numeral_zero, numeral_glyphs, last_only}
use Rattle.tet_text.proofs.printing.fill_digits.Goals as goal

pub returns-then-number-eq0-clause-digits : goal.returns-then-number-eq0-clause-digits
returns-then-number-eq0-clause-digits c = last_only c.args.buffer.now 35 48 c.told-buffer ∙ sym (numeral_zero c.args.number c.if-number-eq0.true)

pub returns-clause-digits : goal.returns-clause-digits
returns-clause-digits c = c.fill_before.ensures.digits ∙ c.fill_wide-place.ensures.digits ∙ sym (numeral_glyphs c.args.number c.if-number-eq0.false)
