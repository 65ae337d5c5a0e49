use Rattle.std.proofs.Common.{◌^◌, ℕ, subst, arith}
use Rattle.std.specs.Prelude.{MatchOption}
use Rattle.geo_laws.specs.Delaunay.{point, HasDistinctPoints}
use Rattle.refining.specs.Addable.{AreMultiples, IsFirstRepeated}
use Rattle.refining.proofs.Divisors.{tested_multiple}
use Rattle.refining.proofs.behind.with_points.Goals as goal

pub returns-in-None-2 : goal.returns-in-None-2
returns-in-None-2 c =
    let qs = c.args.more.now in
    let all = c.in_ok-all.all in
    let new = subst (λ (n : ℕ). AreMultiples n qs) c.unit_of.ensures.is c.in-None.ensures in
    let apart = subst (λ o. MatchOption o (HasDistinctPoints all) (IsFirstRepeated all)) c.in-None-2.is c.in_ok-first_repeated.ensures in
    record {
      is = c.in_ok-all.ensures;
      few = omega (arith, c.if-count-most.false, c.len.ensures.count, c.len-2.ensures.count);
      addable = record {
        distinct = subst HasDistinctPoints c.in_ok-all.ensures apart;
        multiples = λ i lt. tested_multiple (2 ^ c.args.halvings) (point qs i) (new i lt);
      };
    }
