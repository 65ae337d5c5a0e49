-- What is left of a list that was sorted and in which like neighbors were made one.
use Rattle.std.proofs.Common.{◌≡◌, ◌↔◌, true, Bool, List, [], sym, subst}
use Rattle.std.specs.Prelude.{AllPairs, Contains}
use Rattle.std.specs.Cmp.{IsTotalOrder, IsEquivalence}
use Rattle.std.specs.Ordering.{eq_by_cmp}
use Rattle.std.specs.List.{dedup}
use Rattle.std.specs.List.Retain.{IsFiltered, DiffersFromLast}
use Rattle.std.specs.List.Sorted.{IsSorted, IsPermutation}
use Rattle.std.specs.declared.cmp.Ordering.{Ordering}
use Rattle.std.specs.declared.cmp.Ordering.TheVariants.{Less}
use Rattle.std.proofs.lemmas.List.Filters.{dedup_is}
use Rattle.std.proofs.lemmas.List.Kept.{Contains-dedup, Contains-from_dedup, IsStrictlySortedBy-dedup}
use Rattle.std.proofs.lemmas.List.Sorted.{Contains-permutation, IsPermutation-sym}
use Rattle.std.proofs.lemmas.Map.Keys.{Less-from_sorted}

-- ys is xs sorted, and zs is ys without repeated neighbors: zs has the elements of xs, each once
pub record IsDistinct {X : Type 0} (R : X → X → Ordering) (xs zs : List X) : Type 0 where
  pub exactly : (x : X) → Contains zs x ↔ Contains xs x
  pub ascending : AllPairs (λ x y. R x y ≡ Less) zs

pub sorted_distinct : {X : Type 0} (R : X → X → Ordering) (E : X → X → Bool) → IsTotalOrder R → IsEquivalence E → ((x y : X) → E x y ≡ eq_by_cmp R x y)
    → ((x y : X) → E x y ≡ true → x ≡ y) → (xs ys zs : List X) → IsPermutation xs ys → IsSorted R ys → IsFiltered (DiffersFromLast E) [] ys zs → IsDistinct R xs zs
sorted_distinct {X} R E order equal ties same xs ys zs moved sorted filtered =
    let is : zs ≡ dedup E ys = dedup_is E ys zs filtered in
    record {
      exactly = λ x. (
        (λ h. Contains-permutation ys xs x (IsPermutation-sym xs ys moved) (Contains-from_dedup E ys x (subst (λ s. Contains s x) is h))),
        (λ h. subst (λ s. Contains s x) (sym is) (Contains-dedup equal same ys x (Contains-permutation xs ys x moved h))),
      );
      ascending = subst (AllPairs (λ x y. R x y ≡ Less)) (sym is) (λ i j d h k. Less-from_sorted R (dedup E ys) i j d (IsStrictlySortedBy-dedup order ties ys sorted) h k);
    }
