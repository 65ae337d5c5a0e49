use Rattle.std.proofs.Common.{[], ℕ, ◌+◌, ◌<◌, Option, ap, map, length, get_or, sym, subst, ◌∙◌, arith}
use Rattle.std.specs.Prelude.{IfSome}
use Rattle.std.proofs.lemmas.List.{map-set, get_or-map, get_or_default, length-map}
use Rattle.incidence.specs.HalfFaces.{use_of, used}
use Rattle.incidence.specs.Pairs.{partner, is_partner, with_partner, across_in}
use Rattle.incidence.proofs.Halves.{used_at, used_length, by_row_of}
use Rattle.incidence.proofs.Firsts.{first_within}
use Rattle.incidence.proofs.Runs.{run_before_next}
use Rattle.incidence.proofs.Settled.{AllSettled, settled_first, settled_next, settled_last}
use Rattle.incidence.proofs.pairs.put_partners.Goals as goal
use Rattle.geo_laws.specs.Delaunay.{row_at}

below : (n m : ℕ) (o : Option ℕ) → n < m + 1 → IfSome o (λ i. i < 0 + n) → IfSome o (λ i. i < m)
below n m o h k = grind (arith, h, k)

pub loop-at-init : goal.loop-at-init
loop-at-init c = record {
  settled = settled_first c.args.list.now (used c.args.list.now c.args.uses.now) (map across_in c.args.places.now) c.requires.uses.uses;
  run = record { within = omega arith; like = λ k d m l. absurd (omega (arith, l)); least = λ k d l. absurd (omega (arith, l)) };
}

pub place_or_greatest-place-requires : goal.place_or_greatest-place-requires
place_or_greatest-place-requires c =
    let rows = c.args.list.now in
    let u = get_or (used c.args.list.now c.args.uses.now) c.loop-at.at (record { face = record { a = 0; b = 0; c = 0 }; row = 0 }) in
    let within = subst (λ o. IfSome o (λ i. i < 0 + length rows)) (sym (c.partner_at-partner.ensures _)) (first_within (is_partner u.row u.face) 0 rows) in
    below (length rows) 4294967295 c.partner_at-partner.result (omega arith) within

pub bounds-places-half : goal.bounds-places-half
bounds-places-half c =
    let there = by_row_of c.args.list.now c.args.uses.now c.loop-at.at c.at-half.result c.requires.uses (omega arith) c.at-half.ensures in
    omega (arith, there)

pub put_partner-requires : goal.put_partner-requires
put_partner-requires c =
    let there = by_row_of c.args.list.now c.args.uses.now c.loop-at.at c.at-half.result c.requires.uses (omega arith) c.at-half.ensures in
    record { there = there; arranged = λ h. c.are_arranged-arranged.ensures h c.at-half.result.row _ there }

pub loop-at-preserved : goal.loop-at-preserved
loop-at-preserved c =
    let rows = c.args.list.now in
    let uses = used c.args.list.now c.args.uses.now in
    let at = c.loop-at.at in
    let half = c.at-half.result in
    let here = use_of rows half in
    let there = by_row_of rows c.args.uses.now at half c.requires.uses (omega arith) c.at-half.ensures in
    let is = used_at rows c.args.uses.now at half (omega arith) c.at-half.ensures in
    let places = c.loop-at.places in
    let new = c.put_partner.new.places in
    let its_partner = c.place_or_greatest-place.ensures ∙ c.partner_at-partner.ensures here
    ∙ ap (λ u. partner rows u.row u.face) (is here) in
    let was = sym (get_or-map across_in places half.row (record { rows = [] }) (across_in new) (omega (arith, there))) in
    record {
      settled = subst (λ xs. AllSettled rows uses (at + 1) xs) (sym (map-set across_in places half.row new))
          (settled_next rows uses at (map across_in places) here (row_at rows half.row) _ _ _ (length-map _ _ ∙ omega arith) there
          is (λ t. get_or_default rows half.row t (record { a = 0; b = 0; c = 0; d = 0 }) there) its_partner
          (c.put_partner.ensures ∙ ap (with_partner (row_at rows half.row) here.face _) was) c.loop-at.invariant.settled);
      run = run_before_next uses c.run_start-first.result at c.requires.uses.uses.ascending (omega (arith, used_length rows c.args.uses.now)) c.run_start-first.ensures;
    }

pub returns : goal.returns
returns c = settled_last c.args.list.now (used c.args.list.now c.args.uses.now) c.loop-at.at (map across_in c.loop-at.places) (length-map _ _ ∙ omega arith) (omega (arith, used_length c.args.list.now c.args.uses.now)) c.loop-at.invariant.settled
