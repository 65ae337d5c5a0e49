use Rattle.std.proofs.Common.{◌≡◌, ◌+◌, List, [], ◌∷◌, ◌++◌, length, refl, ap, subst, ◌∙◌, arith}
use Rattle.mesh_arena.specs.declared.slot.Slot.{Slot}
use Rattle.mesh_laws.specs.Reach.{Grown}
use Rattle.cavity_insert.specs.Growth.{IsGrowing}
use Rattle.cavity_insert.proofs.Growth.{Growing-begin, Grown-done, AreEntered-begin}
use Rattle.cavity_insert.proofs.Pigeons.{few_slots}
use Rattle.cavity_insert.proofs.grow.Growth.grow.Goals as goal

pub loop-i-init : goal.loop-i-init
loop-i-init g c =
    let was = c.args.self.now in
    let cavity : c.push.new.self ≡ was.start ∷ [] = c.in_ok-push.ensures ∙ ap (λ (x : List Slot). x ++ was.start ∷ []) c.requires.begun.cavity in
    record {
      inside = omega arith;
      begun = omega (arith, ap length cavity);
      few = omega arith;
      many = omega (arith, ap length cavity);
      start = refl;
      growing = record {
        entered = rw (c.in_ok-push.ensures, c.in_ok-push-2.ensures.items, c.requires.begun.cavity, c.requires.begun.entries) (AreEntered-begin (g.Z.Zone.slots c.args.zone.now) was.start);
        growing = rw (c.in_ok-push.ensures, c.in_ok-push-2.ensures.items, c.requires.begun.cavity, c.requires.begun.entries, c.requires.begun.rim) (Growing-begin (g.Z.Zone.slots c.args.zone.now) (g.Z.Zone.takes c.args.zone.now) was.start c.requires.start c.requires.live);
      };
    }

pub loop-i-smaller : goal.loop-i-smaller
loop-i-smaller g c = omega (arith, few_slots (g.Z.Zone.slots c.args.zone.now) c.loop-i.self.cavity c.loop-i.invariant.growing.growing.live c.loop-i.invariant.growing.growing.once)

pub loop-i-preserved : goal.loop-i-preserved
loop-i-preserved g c =
    let more = c.in_ok-visit_faces.ensures in
    record {
      inside = omega (arith, more.longer, c.loop-i-test.true);
      begun = omega (arith, more.longer, c.loop-i.invariant.begun);
      few = omega (arith, more.few, c.loop-i.invariant.few);
      many = omega (arith, more.many, c.loop-i.invariant.many);
      start = c.visit_faces.ensures.start ∙ c.loop-i.invariant.start;
      growing = subst (IsGrowing (g.Z.Zone.slots c.args.zone.now) (g.Z.Zone.takes c.args.zone.now) c.visit_faces.new.self (c.loop-i.i + 1)) (omega arith) more.growing;
    }

pub returns-clause-grown : goal.returns-clause-grown
returns-clause-grown g c =
    let found = c.loop-i.self in
    subst (λ (s : Slot). Grown (g.Z.Zone.slots c.args.zone.now) (g.Z.Zone.takes c.args.zone.now) s.index found.cavity found.rim) c.loop-i.invariant.start
    (Grown-done _ _ _ c.see.ensures _ _ c.loop-i.i _ _ (omega arith) c.loop-i.invariant.growing.growing)
