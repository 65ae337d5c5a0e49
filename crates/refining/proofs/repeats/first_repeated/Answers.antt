use Rattle.std.proofs.Common.{◌≡◌, ap, sym, refl, ◌∙◌, arith, Some, cond}
use Rattle.std.specs.HashMap.{get}
use Rattle.sign_predicates.specs.Point.{origin}
use Rattle.geo_laws.specs.Delaunay.{point}
use Rattle.node_files.proofs.KnownPlaces.{Key, key, same_key}
use Rattle.refining.proofs.NewPoints.{new_none, new_more, new_again, new_all}
use Rattle.refining.proofs.repeats.first_repeated.Goals as goal

pub loop-i-init : goal.loop-i-init
loop-i-init c = new_none (λ k. get same_key c.in_ok-places.places k) c.args.points.now (λ q. rw c.in_ok-places.ensures.empty refl)

pub loop-i-preserved : goal.loop-i-preserved
loop-i-preserved c =
    let p = c.at-p.result in
    let here : point c.args.points.now c.loop-i.i ≡ p = c.at-p.ensures origin in
    let keyed : key p ≡ c.coordinates.result = sym c.coordinates.ensures in
    let old = ap (λ (k : Key). get same_key c.loop-i.places k) keyed ∙ sym c.in_ok-insert.ensures.old in
    let first = λ (q : Key). c.in_ok-insert.ensures.updates.0 q ∙ ap (λ (k : Key). cond (same_key k q) (Some c.loop-i.i) (get same_key c.loop-i.places q)) (sym keyed) in
    new_more (λ k. get same_key c.loop-i.places k) (λ k. get same_key c.insert.new.self k) c.args.points.now c.loop-i.i c.loop-i.i p c.loop-i.invariant (omega arith) here refl (old ∙ c.in-None.is) first

pub returns-in-Some : goal.returns-in-Some
returns-in-Some c =
    let p = c.at-p.result in
    let here : point c.args.points.now c.loop-i.i ≡ p = c.at-p.ensures origin in
    let keyed : key p ≡ c.coordinates.result = sym c.coordinates.ensures in
    let old = ap (λ (k : Key). get same_key c.loop-i.places k) keyed ∙ sym c.in_ok-insert.ensures.old in
    new_again (λ k. get same_key c.loop-i.places k) c.args.points.now c.loop-i.i c.in-Some.field-0 p c.loop-i.invariant (omega arith) here (old ∙ c.in-Some.is)

pub returns : goal.returns
returns c = new_all (λ k. get same_key c.loop-i.places k) c.args.points.now c.loop-i.i c.loop-i.invariant (omega arith)
