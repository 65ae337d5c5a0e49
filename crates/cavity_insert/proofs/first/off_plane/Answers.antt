use Rattle.std.proofs.Common.{◌≡◌, ℕ, zero, suc, ◌<◌, ℤ, pos, neg_ℤ, ◌<ℤ◌, arith, rules}
use Rattle.std.proofs.lemmas.Int.{ints}
use Rattle.geo_laws.proofs.Determinants.{orient-swap_cd}
use Rattle.sign_predicates.specs.Point.{Point}
use Rattle.sign_predicates.specs.Orientation.{orient}
use Rattle.geo_laws.specs.Delaunay.{point}
use Rattle.cavity_insert.proofs.Planes.{flat_ad, flat_bd}
use Rattle.cavity_insert.proofs.first.off_plane.Goals as goal

-- two corners that change places change the sign
exchanged : (p q r s : Point) → orient p q r s <ℤ pos 0 → pos 0 <ℤ orient p q s r
exchanged p q r s h = by (orient p q r s) (orient p q s r) (orient-swap_cd p q r s) h
  where
    by : (v z : ℤ) → z ≡ neg_ℤ v → v <ℤ pos 0 → pos 0 <ℤ z
    by v z e h = omega (arith, ints)

pub loop-d-init : goal.loop-d-init
loop-d-init c = at
  where
    at : (i : ℕ) → i < 2 → orient (point c.args.points.now 0) (point c.args.points.now 1) (point c.args.points.now c.args.c) (point c.args.points.now i) ≡ pos 0
    at zero h = flat_ad (point c.args.points.now 0) (point c.args.points.now 1) (point c.args.points.now c.args.c)
    at (suc zero) h = flat_bd (point c.args.points.now 0) (point c.args.points.now 1) (point c.args.points.now c.args.c)
    at (suc (suc i)) h = absurd (omega (arith, h))

pub returns-in-Below-clause-positive : goal.returns-in-Below-clause-positive
returns-in-Below-clause-positive c =
    let ps = c.args.points.now in
    let here : orient (point ps 0) (point ps 1) (point ps c.args.c) (point ps c.loop-d.d) <ℤ pos 0 = search rules in
    exchanged (point ps 0) (point ps 1) (point ps c.args.c) (point ps c.loop-d.d) here
