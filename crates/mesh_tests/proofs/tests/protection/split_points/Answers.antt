use Rattle.std.proofs.Common.{List, [], ◌∷◌, ◌++◌, ℕ, ◌≡◌, ◌<◌, ◌+◌, ◌⊎◌, inl, inr, length, sym, ◌∙◌, ap, subst, arith}
use Rattle.std.proofs.lemmas.List.{length_push}
use Rattle.sign_predicates.specs.Point.{Point}
use Rattle.geo_laws.specs.Delaunay.{point}
use Rattle.cavity_insert.proofs.OneMore.{point_before, point_last}
use Rattle.segment_protect.specs.Protection.{IsMultiple}
use Rattle.mesh_tests.proofs.tests.protection.split_points.Goals as goal

last_or : (j n : ℕ) → j < n + 1 → (j < n) ⊎ (j ≡ n)
last_or j n h = grind arith

all_multiples : (ps : List Point) (p : Point) → ((i : ℕ) → i < length ps → IsMultiple 4 (point ps i)) → IsMultiple 4 p → (i : ℕ) → i < length (ps ++ p ∷ []) → IsMultiple 4 (point (ps ++ p ∷ []) i)
all_multiples ps p all last i h = go (last_or i (length ps) (subst (λ k. i < k) (length_push ps p) h))
  where
    go : (i < length ps) ⊎ (i ≡ length ps) → IsMultiple 4 (point (ps ++ p ∷ []) i)
    go (inl l) = subst (IsMultiple 4) (sym (point_before ps p i l)) (all i l)
    go (inr e) = subst (IsMultiple 4) (sym (ap (point (ps ++ p ∷ [])) e ∙ point_last ps p)) last

pub loop-k-preserved : goal.loop-k-preserved
loop-k-preserved c = subst (λ (ps : List Point). (i : ℕ) → i < length ps → IsMultiple 4 (point ps i)) (sym c.in_ok-push.ensures.ok) (all_multiples c.loop-k.points c.quadruple.result c.loop-k.invariant c.quadruple.ensures)
