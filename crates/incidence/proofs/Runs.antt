-- Where the uses of a face begin.
use Rattle.std.proofs.Common.{◌≡◌, ◌⊎◌, inl, inr, ℕ, ◌+◌, ◌<◌, ◌≤◌, List, length, get_or, refl, sym, ap, ◌∙◌, arith}
use Rattle.std.specs.Prelude.{AllPairs}
use Rattle.std.proofs.lemmas.Bool.{cases_order}
use Rattle.incidence.specs.declared.uses.Use.{Use}
use Rattle.incidence.specs.Uses.{UseBefore, IsRunBefore, IsRunStart}
use Rattle.incidence.proofs.Orders.{between}

-- a face that is not that of the use before is used first
pub run_of_new : (uses : List Use) (first at : ℕ) → AllPairs UseBefore uses → at < length uses → IsRunBefore uses first at
    → ((d : Use) → ¬ ((get_or uses first d).face ≡ (get_or uses at d).face)) → IsRunStart uses at at
run_of_new uses first at up there run new = record {
  within = omega arith;
  like = λ d. refl;
  least = λ k d l e. place k d l e (cases_order k first);
}
  where
    strict : (d : Use) → first < at
    strict d = elim (cases_order first at) [
      | inl e ↦ absurd (new d (ap (λ i. (get_or uses i d).face) e))
      | inr h ↦ elim h [ inl l ↦ l | inr l ↦ absurd (omega (arith, l, run.within)) ]
    ]

    place : (k : ℕ) (d : Use) → k < at → (get_or uses k d).face ≡ (get_or uses at d).face → (k ≡ first) ⊎ ((k < first) ⊎ (first < k)) → ⊥
    place k d l e (inl p) = new d (sym (ap (λ i. (get_or uses i d).face) p) ∙ e)
    place k d l e (inr (inl p)) = new d (between (get_or uses k d) (get_or uses first d) (get_or uses at d) (up k first d p (omega (arith, strict d, there))) (up first at d (strict d) there) e)
    place k d l e (inr (inr p)) = new d (sym (run.like k d (omega (arith, p)) l) ∙ e)

-- a face that is that of the use before begins where that one does
pub run_of_same : (uses : List Use) (first at : ℕ) → IsRunBefore uses first at → ((d : Use) → (get_or uses first d).face ≡ (get_or uses at d).face) → IsRunStart uses first at
run_of_same uses first at run same = record {
  within = run.within;
  like = same;
  least = λ k d l e. run.least k d l (e ∙ sym (same d));
}

pub run_before_next : (uses : List Use) (first at : ℕ) → AllPairs UseBefore uses → at < length uses → IsRunStart uses first at → IsRunBefore uses first (at + 1)
run_before_next uses first at up there run = record {
  within = omega (arith, run.within);
  like = λ k d m l. place k d m l (cases_order k first) (cases_order k at);
  least = λ k d l e. run.least k d l (e ∙ run.like d);
}
  where
    place : (k : ℕ) (d : Use) → first ≤ k → k < at + 1 → (k ≡ first) ⊎ ((k < first) ⊎ (first < k)) → (k ≡ at) ⊎ ((k < at) ⊎ (at < k)) → (get_or uses k d).face ≡ (get_or uses first d).face
    place k d m l (inl e) p = ap (λ i. (get_or uses i d).face) e
    place k d m l (inr (inl e)) p = absurd (omega (arith, m, e))
    place k d m l (inr (inr e)) (inl p) = ap (λ i. (get_or uses i d).face) p ∙ sym (run.like d)
    place k d m l (inr (inr e)) (inr (inl p)) =
        between (get_or uses first d) (get_or uses k d) (get_or uses at d) (up first k d e (omega (arith, p, there))) (up k at d p there) (run.like d) ∙ sym (run.like d)
    place k d m l (inr (inr e)) (inr (inr p)) = absurd (omega (arith, l, p))
