use Rattle.std.proofs.Common.{◌≡◌, ◌*◌, ◌*ℤ◌, ◌^◌, ℤ, w32, w64, to_z, of_z, ap, sym, ◌∙◌, ◌≤◌, unsigned_abs}
use Rattle.std.proofs.lemmas.Bool.{eqb-true, eq-eqb}
use Rattle.exact_algebra.proofs.Size.{back, abs_mul}
use Rattle.sign_predicates.proofs.Vectors.{wide_back}
use Rattle.cavity_insert.proofs.first.has_no_minor.Goals as goal

-- the product of two numbers of 32 bits, as 64 bits hold it
product : (x y : ℤ) → unsigned_abs x ≤ 2 ^ 30 → unsigned_abs y ≤ 2 ^ 30
    → of_z w64 (to_z w64 (of_z w64 (to_z w32 (of_z w32 x))) *ℤ to_z w64 (of_z w64 (to_z w32 (of_z w32 y)))) ≡ of_z w64 (x *ℤ y)
product x y h k = λ j. of_z w64 (wide_back x h j *ℤ wide_back y k j)

held : (x y : ℤ) → unsigned_abs x ≤ 2 ^ 30 → unsigned_abs y ≤ 2 ^ 30 → to_z w64 (of_z w64 (x *ℤ y)) ≡ x *ℤ y
held x y h k = back w64 (2 ^ 30 * 2 ^ 30) (x *ℤ y) tt (abs_mul x y (2 ^ 30) (2 ^ 30) h k)

pub returns : goal.returns
returns c =
    let a = c.args in
    let r = c.requires in
    let first = product a.a a.d r.a_small r.d_small in
    let second = product a.b a.c r.b_small r.c_small in (
      λ h. sym (held a.a a.d r.a_small r.d_small) ∙ ap (to_z w64) (sym first ∙ eqb-true _ _ h ∙ second) ∙ held a.b a.c r.b_small r.c_small,
      λ e. eq-eqb _ _ (first ∙ ap (of_z w64) e ∙ sym second),
    )
