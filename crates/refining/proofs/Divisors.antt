-- Points whose coordinates may be halved.
use Rattle.std.proofs.Common.{◌≡◌, ℕ, suc, ◌+◌, ◌-◌, ◌*◌, ◌/◌, ◌%◌, ◌^◌, ◌≤◌, true, ℤ, pos, negsuc, neg_ℤ, ◌*ℤ◌, [], ◌∷◌, ap, sym, subst, ◌∙◌, arith, eqb-true}
use Rattle.std.specs.Prelude.{unsigned_abs}
use Rattle.std.proofs.Math.IntN.{pos-*ℤ-pos}
use Rattle.std.proofs.Math.Nat.{div-add-mod}
use Rattle.std.proofs.lemmas.Bool.{and_parts}
use Rattle.std.proofs.lemmas.Nat.{pow-add}
use Rattle.exact_algebra.proofs.Ring.{var, neg, ring, same, ◌⊗◌}
use Rattle.sign_predicates.specs.Point.{Point}
use Rattle.segment_protect.specs.Protection.{IsMultiple}
use Rattle.refining.specs.Addable.{is_multiple}

negative_times : (m n : ℕ) → neg_ℤ (pos (m * n)) ≡ pos m *ℤ neg_ℤ (pos n)
unfolding same
negative_times m n = ap neg_ℤ (sym (pos-*ℤ-pos m n)) ∙ ring (neg (var 0 ⊗ var 1)) (var 0 ⊗ neg (var 1)) tt (pos m ∷ pos n ∷ [])

times_again : (m n : ℕ) (q : ℤ) → pos (m * n) *ℤ q ≡ pos m *ℤ (pos n *ℤ q)
unfolding same
times_again m n q = ap (λ k. k *ℤ q) (sym (pos-*ℤ-pos m n)) ∙ ring ((var 0 ⊗ var 1) ⊗ var 2) (var 0 ⊗ (var 1 ⊗ var 2)) tt (pos m ∷ pos n ∷ q ∷ [])

no_rest : (m n : ℕ) → m % n ≡ 0 → m ≡ n * (m / n)
no_rest m n e = let all = div-add-mod m n in omega (arith, all, e)

-- a number without a rest is a multiple
times : (n : ℕ) (z : ℤ) → unsigned_abs z % n ≡ 0 → (q : ℤ) × (z ≡ pos n *ℤ q)
times n (pos m) e = (pos (m / n), ap pos (no_rest m n e) ∙ sym (pos-*ℤ-pos n (m / n)))
times n (negsuc m) e = (neg_ℤ (pos (suc m / n)), ap (λ (k : ℕ). neg_ℤ (pos k)) (no_rest (suc m) n e) ∙ negative_times n (suc m / n))

pub tested_multiple : (n : ℕ) (p : Point) → is_multiple n p ≡ true → IsMultiple n p
tested_multiple n p e =
    let outer = and_parts _ _ e in
    let inner = and_parts _ _ outer.0 in
    let x = times n p.x (eqb-true (unsigned_abs p.x % n) 0 inner.0) in
    let y = times n p.y (eqb-true (unsigned_abs p.y % n) 0 inner.1) in
    let z = times n p.z (eqb-true (unsigned_abs p.z % n) 0 outer.1) in
    record { x = x.0; y = y.0; z = z.0; x_is = x.1; y_is = y.1; z_is = z.1 }

-- a multiple is one of each divisor
pub coarser_multiple : (deep halvings : ℕ) (p : Point) → halvings ≤ deep → IsMultiple (2 ^ deep) p → IsMultiple (2 ^ halvings) p
coarser_multiple deep halvings p le h = subst (λ n. IsMultiple n p → IsMultiple (2 ^ halvings) p) (sym power) less h
  where
    rest : ℕ
    rest = 2 ^ (deep - halvings)

    power : 2 ^ deep ≡ 2 ^ halvings * 2 ^ (deep - halvings)
    power = let e : deep ≡ halvings + (deep - halvings) = omega arith in ap (λ k. 2 ^ k) e ∙ pow-add 2 halvings (deep - halvings)

    less : IsMultiple (2 ^ halvings * 2 ^ (deep - halvings)) p → IsMultiple (2 ^ halvings) p
    less m = record {
      x = pos (2 ^ (deep - halvings)) *ℤ m.x;
      y = pos (2 ^ (deep - halvings)) *ℤ m.y;
      z = pos (2 ^ (deep - halvings)) *ℤ m.z;
      x_is = m.x_is ∙ times_again (2 ^ halvings) (2 ^ (deep - halvings)) m.x;
      y_is = m.y_is ∙ times_again (2 ^ halvings) (2 ^ (deep - halvings)) m.y;
      z_is = m.z_is ∙ times_again (2 ^ halvings) (2 ^ (deep - halvings)) m.z;
    }
