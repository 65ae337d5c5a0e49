use Rattle.std.proofs.Common.{◌≡◌, ◌⊎◌, ◌+◌, ◌++◌, ℕ, Bool, true, List, [], drop, take, None, Option, length, inl, refl, sym, ap, subst, ◌∙◌, arith}
use Rattle.std.specs.Prelude.{◌↔◌}
use Rattle.std.proofs.lemmas.Bool.{true≢false}
use Rattle.geo_laws.specs.Marks.{is_marked}
use Rattle.sign_predicates.specs.Point.{as_rational, origin}
use Rattle.hole_carve.specs.Flooding.{IsFlooded, IsQueued}
use Rattle.hole_carve.specs.Floods.{IsFlood, GoesOn, HasReached}
use Rattle.hole_carve.specs.Marks.{AreNumbered, IsPutFrom}
use Rattle.hole_carve.specs.Seeds.{IsSeedAt}
use Rattle.hole_carve.proofs.Begun.{written, front_of}
use Rattle.hole_carve.proofs.Flooding.{no_flood, filled_none, filled_more, one_value}
use Rattle.hole_carve.proofs.Marked.{IsNumberedBy, region_seeds_none, numbered_none, numbered_on}
use Rattle.hole_carve.proofs.marks.numbers_of.Goals as goal

pub loop-k-init : goal.loop-k-init
loop-k-init c =
    let mesh = c.args.mesh.now in
    let ways = c.args.ways.now in
    let regions = c.args.complex.now.regions in
    let seeds = c.in_ok-seeds.seeds.items in
    let flood = c.in_ok-flood.flood in
    let begun = c.in_ok-flood.ensures in
    let clear = c.in_ok-seeds.ensures.clear in
    record {
      seeds_long = omega (arith, c.in_ok-seeds.ensures.long, c.len-2.ensures.count);
      seeds_are = region_seeds_none mesh.points.now mesh.closed mesh.list.now regions seeds clear;
      flood_is = record {
        long = omega (arith, begun.long, c.len-3.ensures.count, c.requires.ways);
        filled = subst (IsQueued ways seeds flood.marks.items) (sym begun.empty) (filled_none ways seeds flood.marks.items begun.clear);
      };
      exactly = λ i. (λ m. absurd (true≢false (sym m ∙ begun.clear i)), λ r. absurd (no_flood ways seeds clear i r));
      done = λ q l. let none = ap length begun.empty in absurd (omega (arith, none, l));
      long = omega (arith, c.in_ok-resize.ensures.len, c.len.ensures.count);
      numbered = numbered_none mesh.points.now mesh.closed mesh.list.now ways regions c.resize.new.self.items (one_value c.resize.new.self.items None (λ k h. c.in_ok-resize.ensures.by_index.1 k None refl (omega (arith, c.new-marks.ensures.len)) (omega (arith, h, c.in_ok-resize.ensures.len))));
    }

pub put_flood-requires-clause-flood : goal.put_flood-requires-clause-flood
put_flood-requires-clause-flood c =
    let ways = c.args.ways.now in
    let marks = c.mark_seeds.new.seeds in
    let flood = c.loop-k.flood in
    let was = c.loop-k.invariant.flood_is in
    let more = λ (j : ℕ) (m : is_marked c.loop-k.seeds.items j ≡ true). (c.in_ok-mark_seeds.ensures.marked j).1 (inl (subst (λ (s : List Bool). is_marked s j ≡ true) (sym c.deref_mut.ensures.value) m)) in
    subst (λ (s : List Bool). IsFlood ways s flood) (sym c.deref.ensures.value)
    (written (λ (s : List Bool). IsFlood ways s flood) marks _ _ (omega (arith, c.deref_mut.ensures.len, c.mark_seeds.auto.seeds))
    (record { long = was.long; filled = filled_more ways c.loop-k.seeds.items marks flood.marks.items flood.queue.items more was.filled }))

pub put_flood-requires-clause-done : goal.put_flood-requires-clause-done
put_flood-requires-clause-done c = c.loop-k.invariant.done

pub loop-k-preserved : goal.loop-k-preserved
loop-k-preserved c =
    let mesh = c.args.mesh.now in
    let ways = c.args.ways.now in
    let regions = c.args.complex.now.regions in
    let k = c.loop-k.k in
    let x = c.region.result.now.at in
    let now = c.in_ok-put_flood.ensures in
    let seeds = c.mark_seeds.new.seeds in
    let old = c.loop-k.flood in
    let new = c.put_flood.new.flood in
    let marks = c.put_flood.new.marks in
    let seeds_whole : c.loop-k.seeds.len ≡ length seeds = omega (arith, c.deref_mut.ensures.len, c.mark_seeds.auto.seeds) in
    let marks_whole : c.loop-k.marks.len ≡ length marks = omega (arith, c.deref_mut-in-loop-k.ensures.len, c.put_flood.auto.marks) in
    let same : c.deref.result.now ≡ seeds = c.deref.ensures.value ∙ front_of seeds _ _ seeds_whole in
    let marked = subst (λ (was : List Bool). (i : ℕ) → (is_marked seeds i ≡ true) ↔ ((is_marked was i ≡ true) ⊎ IsSeedAt mesh.points.now mesh.closed mesh.list.now x i)) c.deref_mut.ensures.value c.in_ok-mark_seeds.ensures.marked in
    let put = subst (λ (was : List (Option ℕ)). IsPutFrom new.queue.items (length old.queue.items) (length new.queue.items) k was marks) c.deref_mut-in-loop-k.ensures.value now.put in
    let rest = drop (length marks) c.loop-k.marks.items in
    written (λ (s : List Bool). IsNumberedBy mesh.points.now mesh.closed mesh.list.now ways regions (k + 1) s new (take c.loop-k.marks.len (marks ++ rest))) seeds _ _ seeds_whole
    (written (IsNumberedBy mesh.points.now mesh.closed mesh.list.now ways regions (k + 1) seeds new) marks rest c.loop-k.marks.len marks_whole
    (numbered_on mesh.points.now mesh.closed mesh.list.now ways regions k x c.loop-k.seeds.items seeds old new c.loop-k.marks.items marks
    (ap (λ r. r.at) (c.region.ensures (record { at = as_rational origin; attribute = [] }))) c.loop-k.invariant c.in_ok-mark_seeds.ensures.long marked
    (subst (λ (s : List Bool). HasReached new (IsFlooded ways s)) same now.exactly) (subst (λ (s : List Bool). GoesOn ways s old new) same now.goes_on) now.done put))

pub returns-clause-numbered : goal.returns-clause-numbered
returns-clause-numbered c =
    let all : c.loop-k.k ≡ length c.args.complex.now.regions = omega (arith, c.loop-k-test.false, c.loop-k.auto.k-end, c.region_count-k-end.ensures) in
    subst (λ n. AreNumbered c.args.mesh.now.points.now c.args.mesh.now.closed c.args.mesh.now.list.now c.args.ways.now c.args.complex.now.regions n c.loop-k.marks.items) all c.loop-k.invariant.numbered
