use Rattle.std.proofs.Common.{◌≡◌, ap, sym, ◌∙◌, arith, Some, cond, refl}
use Rattle.std.specs.HashMap.{get}
use Rattle.sign_predicates.specs.Point.{origin}
use Rattle.geo_laws.specs.Delaunay.{point}
use Rattle.node_files.proofs.KnownPlaces.{Key, key, same_key}
use Rattle.node_files.proofs.Folds.{to_none, to_new, to_again, to_all}
use Rattle.node_files.proofs.folding.fold_points.Goals.{in-None+in_ok-push-in-None+in_ok-push-in-None-2+in_ok-push-in-None-3, in-Some+in_ok-insert-in-Some+in_ok-push-in-Some}
use Rattle.node_files.proofs.folding.fold_points.Goals as goal

pub loop-i-init : goal.loop-i-init
loop-i-init c =
    let none = to_none (λ k. get same_key c.in_ok-places.places k) c.args.listed.now (λ q. rw c.in_ok-places.ensures.empty refl) in
    rw (c.in_ok-points.ensures, c.in_ok-names.ensures, c.in_ok-folded.ensures) none

pub overflow_cast-new : goal.overflow_cast-new
overflow_cast-new c = let few = c.loop-i.invariant.few in omega (arith, few, c.len-new.ensures.count, c.requires)

pub loop-i-preserved : goal.loop-i-preserved
loop-i-preserved c =
    let p = c.at-p.result in
    let here : point c.args.listed.now c.loop-i.i ≡ p = c.at-p.ensures origin in
    let keyed : key p ≡ c.coordinates.result = sym c.coordinates.ensures in
    let old = ap (λ (k : Key). get same_key c.loop-i.places k) keyed ∙ sym c.in_ok-insert.ensures.old in
    let first = λ (q : Key). c.in_ok-insert.ensures.updates.0 q ∙ ap (λ (k : Key). cond (same_key k q) (Some c.len-new.result) (get same_key c.loop-i.places q)) (sym keyed) in
    elim c.match-branch-6.branch [
      | in-None+in_ok-push-in-None+in_ok-push-in-None-2+in_ok-push-in-None-3 w ↦
          to_new (λ k. get same_key c.loop-i.places k) (λ k. get same_key c.match-branch-6.places k) c.args.listed.now c.loop-i.points c.match-branch-6.points c.loop-i.names c.match-branch-6.names
          c.loop-i.folded c.match-branch-6.folded c.loop-i.i c.len-new.result p c.loop-i.invariant (omega arith) here c.len-new.ensures.count (old ∙ w.in-None.is)
          (λ q. (λ t. get same_key (w.places-is t) q) ∙ first q)
          (w.points-is ∙ w.in_ok-push-in-None.ensures.ok) (w.names-is ∙ w.in_ok-push-in-None-2.ensures.ok) (w.folded-is ∙ w.in_ok-push-in-None-3.ensures.ok)
      | in-Some+in_ok-insert-in-Some+in_ok-push-in-Some w ↦
          to_again (λ k. get same_key c.loop-i.places k) (λ k. get same_key c.insert.new.self k) (λ k. get same_key c.match-branch-6.places k) c.args.listed.now c.loop-i.points c.match-branch-6.points
          c.loop-i.names c.match-branch-6.names c.loop-i.folded c.match-branch-6.folded c.loop-i.i c.len-new.result w.in-Some.place p c.loop-i.invariant (omega arith) here (old ∙ w.in-Some.is) first
          (λ q. (λ t. get same_key (w.places-is t) q) ∙ w.in_ok-insert-in-Some.ensures.updates.0 q
          ∙ ap (λ (k : Key). cond (same_key k q) (Some w.in-Some.place) (get same_key c.insert.new.self q)) w.coordinates-in-Some.ensures)
          w.points-is w.names-is (w.folded-is ∙ w.in_ok-push-in-Some.ensures.ok)
    ]

pub returns : goal.returns
returns c = to_all (λ k. get same_key c.loop-i.places k) c.args.listed.now c.loop-i.i c.loop-i.points c.loop-i.names c.loop-i.folded (omega arith) c.loop-i.invariant
