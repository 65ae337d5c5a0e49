use Rattle.std.proofs.Common.{refl, sym}
use Rattle.std.specs.Prelude.{find}
use Rattle.geo_laws.proofs.Members.{member_of}
use Rattle.merged_facets.specs.Beside.{is_off}
use Rattle.merged_facets.proofs.Once.{refused, not_true}
use Rattle.merged_facets.proofs.BesideOf.{in_plane_of, across_of, beside_of, spans_some, some_not_none, beside_by}
use Rattle.merged_facets.proofs.beside.are_on_either_hand.Goals as goal

pub returns-then-not-all_lie : goal.returns-then-not-all_lie
returns-then-not-all_lie c =
    let p = c.args.p.now in
    refused (λ h. not_true (c.if-not-all_lie.ensures.1 (in_plane_of c.args.points.now c.args.s p c.args.q.now c.args.i h (member_of p c.args.i c.requires.off.corner))))

pub returns-then-not-all_lie-2 : goal.returns-then-not-all_lie-2
returns-then-not-all_lie-2 c =
    refused (λ h. not_true (c.if-not-all_lie-2.ensures.1 (across_of c.args.points.now c.args.s c.args.p.now c.args.q.now c.args.i h c.requires.off.corner)))

pub returns-then-not-all_lie-3 : goal.returns-then-not-all_lie-3
returns-then-not-all_lie-3 c =
    refused (λ h. not_true (c.if-not-all_lie-3.ensures.1 (beside_of c.args.points.now c.args.s c.args.p.now c.args.q.now c.args.i h c.requires.off.corner)))

pub returns-in-None : goal.returns-in-None
returns-in-None c = refused (λ h. spans_some c.args.points.now c.args.s c.args.q.now c.requires.distinct c.requires.there h.second_spans (sym c.in-None.ensures.first))

pub returns-in-Some : goal.returns-in-Some
returns-in-Some c =
    let ps = c.args.points.now in
    let s = c.args.s in
    let q = c.args.q.now in (
      λ t. let o = c.have_once.ensures.0 t in
          beside_by ps s c.args.p.now q c.args.i c.requires.p_flat c.requires.off (c.if-not-all_lie.ensures.0 refl) (c.if-not-all_lie-2.ensures.0 refl) (c.if-not-all_lie-3.ensures.0 refl)
          (some_not_none (find (is_off ps s) q) c.in-Some.ensures.first) o.0 o.1,
      λ h. c.have_once.ensures.1 (record { once = h.once_in_first; met = h.first_met }, record { once = h.once_in_second; met = h.second_met }),
    )
