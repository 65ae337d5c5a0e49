-- The places of points, looked up by their coordinates.
use Rattle.std.proofs.Common.{◌≡◌, ◌≢◌, ℕ, ℤ, ◌<◌, length, List, [], ◌∷◌, ◌++◌, Bool, true, cond, Option, Some, None, refl, sym, ap, ◌∙◌, arith, inl, inr, ◌&&◌}
use Rattle.std.specs.Ordering.{int_eq}
use Rattle.std.proofs.lemmas.Cmp.{int_eq_equiv}
use Rattle.std.proofs.lemmas.Bool.Decides.{Decides-int_eq}
use Rattle.std.proofs.lemmas.Bool.{and_parts, cases_Bool, cases_lt}
use Rattle.std.proofs.lemmas.List.{get_or_append_left, get_or_at, length_push}
use Rattle.sign_predicates.specs.Point.{Point, origin}
use Rattle.geo_laws.specs.Delaunay.{point}

abbrev pub Key : Type 0
Key = ℤ × ℤ × ℤ

abbrev pub key : Point → Key
key p = (p.x, p.y, p.z)

abbrev pub same_key : Key → Key → Bool
same_key k m = (int_eq k.0 m.0 && int_eq k.1 m.1) && int_eq k.2 m.2

int_same : (a b : ℤ) → int_eq a b ≡ true → a ≡ b
int_same a b is = (Decides-int_eq a b).0 is

int_itself : (a : ℤ) → int_eq a a ≡ true
int_itself a = int_eq_equiv.refl a

key_same : (k m : Key) → same_key k m ≡ true → k ≡ m
key_same k m is =
    let outer = and_parts _ _ is in
    let inner = and_parts _ _ outer.0 in
    let x = int_same k.0 m.0 inner.0 in
    let y = int_same k.1 m.1 inner.1 in
    let z = int_same k.2 m.2 outer.1 in
    λ t. (x t, y t, z t)

key_itself : (k : Key) → same_key k k ≡ true
key_itself k = rw (int_itself k.0, int_itself k.1, int_itself k.2) refl

-- each of the points is known by its place, and nothing else is known
pub record Knows (look : Key → Option ℕ) (ps : List Point) : Type 0 where
  pub known : (k : ℕ) → k < length ps → look (key (point ps k)) ≡ Some k
  pub only : (q : Key) (v : ℕ) → look q ≡ Some v → (v < length ps) × (key (point ps v) ≡ q)

pub knows_none : (look : Key → Option ℕ) → ((q : Key) → look q ≡ None) → Knows look []
knows_none look none = record {
  known = λ k lt. absurd (omega (arith, lt));
  only = λ q v is. let nothing = none q in absurd (cc);
}

-- a point that is not known is equal to none of them
pub unknown_new : (look : Key → Option ℕ) (ps : List Point) (p : Point) → Knows look ps → look (key p) ≡ None → (k : ℕ) → k < length ps → point ps k ≢ p
unknown_new look ps p knows unknown k lt same =
    let here = knows.known k lt in
    let e : Some k ≡ None = sym here ∙ ap (λ (q : Point). look (key q)) same ∙ unknown in
    absurd (cc)

-- and one that is known is equal to the one that stands there
pub known_equal : (look : Key → Option ℕ) (ps : List Point) (p : Point) (v : ℕ) → Knows look ps → look (key p) ≡ Some v → (v < length ps) × (point ps v ≡ p)
known_equal look ps p v knows found =
    let old = knows.only (key p) v found in
    (old.0, ap (λ (k : Key). record { x = k.0; y = k.1; z = k.2 }) old.1)

-- one more point, that was not known
pub knows_more : (look look' : Key → Option ℕ) (ps : List Point) (p : Point) → Knows look ps → look (key p) ≡ None → ((q : Key) → look' q ≡ cond (same_key (key p) q) (Some (length ps)) (look q))
    → Knows look' (ps ++ p ∷ [])
knows_more look look' ps p knows unknown updates = record {
  known = λ k lt. elim (cases_lt k (length ps)) [
    | inl before ↦
        let there = get_or_append_left ps (p ∷ []) origin k before in
        ap (λ (r : Point). look' (key r)) there ∙ (elim (cases_Bool (same_key (key p) (key (point ps k)))) [
          | inl same ↦
              let e : Some k ≡ None = sym (knows.known k before) ∙ sym (ap look (key_same _ _ same)) ∙ unknown in
              absurd (cc)
          | inr other ↦ let new = updates (key (point ps k)) in rw other at new ∙ knows.known k before
        ])
    | inr le ↦
        let here : length ps ≡ k = omega (arith, lt, length_push ps p) in
        let new = updates (key p) in
        ap (λ (r : Point). look' (key r)) (get_or_at ps p [] origin k here) ∙ rw (key_itself (key p)) at new ∙ ap (λ (n : ℕ). Some n) here
  ];
  only = λ q v is. elim (cases_Bool (same_key (key p) q)) [
    | inl same ↦
        let new = updates q in
        let e : Some (length ps) ≡ Some v = sym (rw same at new) ∙ is in
        let one : length ps ≡ v = cc in
        (omega (arith, length_push ps p, one), ap key (get_or_at ps p [] origin v one) ∙ key_same _ _ same)
    | inr other ↦
        let new = updates q in
        let old = knows.only q v (sym (rw other at new) ∙ is) in
        let lt = old.0 in
        (omega (arith, length_push ps p), ap key (get_or_append_left ps (p ∷ []) origin v lt) ∙ old.1)
  ];
}

-- a place that was put back where it was
pub knows_again : (look look' look'' : Key → Option ℕ) (ps : List Point) (k : Key) (n v : ℕ) → Knows look ps → look k ≡ Some v → ((q : Key) → look' q ≡ cond (same_key k q) (Some n) (look q))
    → ((q : Key) → look'' q ≡ cond (same_key k q) (Some v) (look' q)) → Knows look'' ps
knows_again look look' look'' ps k n v knows found first then = record {
  known = λ i lt. same (key (point ps i)) ∙ knows.known i lt;
  only = λ q w is. knows.only q w (sym (same q) ∙ is);
}
  where
    same : (q : Key) → look'' q ≡ look q
    same q = elim (cases_Bool (same_key k q)) [
      | inl equal ↦ let new = then q in rw equal at new ∙ sym found ∙ ap look (key_same _ _ equal)
      | inr other ↦ let new = then q in let old = first q in rw other at new ∙ rw other at old
    ]
