use Rattle.std.proofs.Common.{◌≡◌, ◌<◌, ◌+◌, sym, subst, ◌∙◌, arith}
use Rattle.cavity_insert.specs.Grow.{face_turn}
use Rattle.cavity_insert.specs.Growth.{IsGrowing, entry_of}
use Rattle.cavity_insert.proofs.Growth.{Growing-row, Growing-entered}
use Rattle.cavity_insert.proofs.Turns.{turn_back, turn_small}
use Rattle.cavity_insert.proofs.grow.Growth.visit_faces.Goals as goal

pub visit-requires-clause-face : goal.visit-requires-clause-face
visit-requires-clause-face g c =
    let now = c.loop-k.invariant in
    let small : entry_of c.loop-k.self c.args.i < 4 = now.growing.entered.faces c.args.i (omega (arith, c.requires.inside, now.longer)) in
    turn_small _ c.loop-k.k (rw (sym now.entry) small) (omega arith)

pub visit-requires-clause-growing : goal.visit-requires-clause-growing
visit-requires-clause-growing g c =
    let now = c.loop-k.invariant in
    let entry = entry_of c.loop-k.self c.args.i in
    let small : entry < 4 = now.growing.entered.faces c.args.i (omega (arith, c.requires.inside, now.longer)) in
    let back : face_turn entry (face_turn entry c.loop-k.k) ≡ c.loop-k.k = turn_back entry c.loop-k.k small (omega arith) in
    rw (sym now.entry, back) now.growing

pub loop-k-preserved : goal.loop-k-preserved
loop-k-preserved g c =
    let now = c.loop-k.invariant in
    let more = c.in_ok-visit.ensures in
    let entry = entry_of c.loop-k.self c.args.i in
    let small : entry < 4 = now.growing.entered.faces c.args.i (omega (arith, c.requires.inside, now.longer)) in
    let back : face_turn entry (face_turn entry c.loop-k.k) ≡ c.loop-k.k = turn_back entry c.loop-k.k small (omega arith) in
    let said : face_turn entry (face_turn c.index-entry.result.now c.loop-k.k) ≡ c.loop-k.k = rw (sym now.entry) back in
    record {
      few = omega (arith, more.few, now.few);
      many = omega (arith, more.many, now.many);
      longer = omega (arith, more.longer, now.longer);
      start = c.visit.ensures.start ∙ now.start;
      entry = more.entry ∙ now.entry;
      growing = subst (λ k. IsGrowing (g.Z.Zone.slots c.args.zone.now) (g.Z.Zone.takes c.args.zone.now) c.visit.new.self c.args.i (k + 1)) said more.growing;
    }

pub returns-clause-growing : goal.returns-clause-growing
returns-clause-growing g c =
    let now = c.loop-k.invariant in
    let done : c.loop-k.k ≡ 4 = omega arith in
    let grown = rw done at now.growing.growing in
    let small : entry_of c.loop-k.self c.args.i < 4 = now.growing.entered.faces c.args.i (omega (arith, c.requires.inside, now.longer)) in
    record {
      entered = now.growing.entered;
      growing = Growing-entered _ _ _ c.requires.mesh _ _ c.loop-k.self.entries.items (c.args.i + 1) (omega arith) now.growing.entered (Growing-row _ _ _ c.requires.mesh _ _ c.args.i _ _ small grown);
    }
