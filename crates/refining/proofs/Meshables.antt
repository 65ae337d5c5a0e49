-- A complex with points behind its own.
use Rattle.std.proofs.Common.{ℕ, ◌-◌, ◌^◌, ◌<◌, ◌++◌, length, refl, sym, subst, arith, inl, inr}
use Rattle.std.proofs.lemmas.Bool.{cases_lt}
use Rattle.std.proofs.lemmas.List.{get_or_append_left, get_or-append_right, length-append}
use Rattle.sign_predicates.specs.Point.{origin}
use Rattle.geo_laws.specs.Delaunay.{point}
use Rattle.segment_protect.specs.Protection.{IsMultiple}
use Rattle.refining.specs.Laws.{MeshableLaw}
use Rattle.refining.proofs.Divisors.{coarser_multiple}

pub law_meshable : MeshableLaw
law_meshable deep halvings budget ps qs c h le a few = record {
  distinct = a.distinct;
  multiples = multiples;
  few = omega (arith, few, length-append ps qs);
  corners = λ k d l. λ i e m. let one = h.corners k d l i e m in omega (arith, one, length-append ps qs);
  holes = h.holes;
  regions = h.regions;
}
  where
    multiples : (i : ℕ) → i < length (ps ++ qs) → IsMultiple (2 ^ halvings) (point (ps ++ qs) i)
    multiples i lt = elim (cases_lt i (length ps)) [
      | inl before ↦ subst (IsMultiple (2 ^ halvings)) (sym (get_or_append_left ps qs origin i before)) (coarser_multiple deep halvings (point ps i) le (h.multiples i before))
      | inr behind ↦ subst (IsMultiple (2 ^ halvings)) (sym (get_or-append_right ps qs (length ps) i origin refl behind)) (a.multiples (i - length ps) (omega (arith, lt, behind, length-append ps qs)))
    ]
