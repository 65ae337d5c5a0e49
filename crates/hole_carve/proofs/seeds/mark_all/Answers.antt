use Rattle.std.proofs.Common.{◌≡◌, ◌⊎◌, inl, inr, ℕ, ◌<◌, true, subst, arith}
use Rattle.std.specs.Prelude.{Contains}
use Rattle.hole_carve.specs.Flooding.{queue_at}
use Rattle.hole_carve.proofs.Seeding.{at_of, of_at}
use Rattle.hole_carve.proofs.seeds.mark_all.Goals as goal
use Rattle.geo_laws.specs.Marks.{is_marked}

pub mark_one-requires : goal.mark_one-requires
mark_one-requires c = omega (arith, c.requires _ (of_at c.args.places.now c.loop-at.at c.loop-at-test.true), c.loop-at.invariant.long)

pub returns-clause-marked : goal.returns-clause-marked
returns-clause-marked c i = (λ m. to ((c.loop-at.invariant.marked i).0 m), λ h. (c.loop-at.invariant.marked i).1 (from h))
  where
    to : (is_marked c.args.marks.now i ≡ true) ⊎ (k : ℕ) × (k < c.loop-at.at) × (queue_at c.args.places.now k ≡ i) → (is_marked c.args.marks.now i ≡ true) ⊎ Contains c.args.places.now i
    to (inl m) = inl m
    to (inr (k, l, e)) = inr (subst (Contains c.args.places.now) e (of_at c.args.places.now k (omega (arith, c.loop-at.auto.at-end, l))))

    from : (is_marked c.args.marks.now i ≡ true) ⊎ Contains c.args.places.now i → (is_marked c.args.marks.now i ≡ true) ⊎ (k : ℕ) × (k < c.loop-at.at) × (queue_at c.args.places.now k ≡ i)
    from (inl m) = inl m
    from (inr d) = let k = at_of c.args.places.now i d in inr (k.0, omega (arith, k.1, c.loop-at-test.false), k.2)
