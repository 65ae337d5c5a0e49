use Rattle.std.proofs.Common.{◌≡◌, ◌<◌, ◌/◌, unsigned_abs, ap, subst, ◌∙◌, arith}
use Rattle.std.proofs.lemmas.Int.{ints}
use Rattle.exact_algebra.proofs.Size.{read}
use Rattle.sign_predicates.specs.Orientation.{det, volume}
use Rattle.sign_predicates.specs.Point.{from_to}
use Rattle.sign_predicates.specs.Reach.{pull, sizes}
use Rattle.sign_predicates.proofs.SphereReach.{law_reach}
use Rattle.sign_predicates.proofs.Vectors.{orient_is}
use mir.Syntax.{w128}
use Rattle.sign_predicates.proofs.reach.sphere_reach.Goals as goal

pub nonzero_div-reach : goal.nonzero_div-reach
nonzero_div-reach c =
    let t = c.args.t in
    let is : c.unsigned_abs-volume.result ≡ unsigned_abs (volume t) =
    c.unsigned_abs-volume.ensures.value
    ∙ ap unsigned_abs (read w128 c.det.result c.det.type_inv ∙ c.det.ensures ∙ (λ s. det (c.from_to-b.ensures s) (c.from_to-c.ensures s) (c.from_to-d.ensures s)) ∙ orient_is t.a t.b t.c t.d) in
    omega (arith, ints, is, c.requires)

pub returns-then-reach-gt-WIDTH-clause-value : goal.returns-then-reach-gt-WIDTH-clause-value
returns-then-reach-gt-WIDTH-clause-value c =
    let t = c.args.t in
    let is : c.unsigned_abs-volume.result ≡ unsigned_abs (volume t) =
    c.unsigned_abs-volume.ensures.value
    ∙ ap unsigned_abs (read w128 c.det.result c.det.type_inv ∙ c.det.ensures ∙ (λ s. det (c.from_to-b.ensures s) (c.from_to-c.ensures s) (c.from_to-d.ensures s)) ∙ orient_is t.a t.b t.c t.d) in
    let size : c.pull_size.result ≡ sizes (pull (from_to t.a t.b) (from_to t.a t.c) (from_to t.a t.d)) =
    c.pull_size.ensures ∙ (λ s. sizes (pull (c.from_to-b.ensures s) (c.from_to-c.ensures s) (c.from_to-d.ensures s))) in
    subst (λ n. 1073741824 < n) (λ i. size i / is i) c.if-reach-gt-WIDTH.true

pub returns-clause-value : goal.returns-clause-value
returns-clause-value c =
    let t = c.args.t in
    let is : c.unsigned_abs-volume.result ≡ unsigned_abs (volume t) =
    c.unsigned_abs-volume.ensures.value
    ∙ ap unsigned_abs (read w128 c.det.result c.det.type_inv ∙ c.det.ensures ∙ (λ s. det (c.from_to-b.ensures s) (c.from_to-c.ensures s) (c.from_to-d.ensures s)) ∙ orient_is t.a t.b t.c t.d) in
    let size : c.pull_size.result ≡ sizes (pull (from_to t.a t.b) (from_to t.a t.c) (from_to t.a t.d)) =
    c.pull_size.ensures ∙ (λ s. sizes (pull (c.from_to-b.ensures s) (c.from_to-c.ensures s) (c.from_to-d.ensures s))) in
    λ i. size i / is i

pub returns-clause-reach : goal.returns-clause-reach
returns-clause-reach c =
    let t = c.args.t in
    let is : c.unsigned_abs-volume.result ≡ unsigned_abs (volume t) =
    c.unsigned_abs-volume.ensures.value
    ∙ ap unsigned_abs (read w128 c.det.result c.det.type_inv ∙ c.det.ensures ∙ (λ s. det (c.from_to-b.ensures s) (c.from_to-c.ensures s) (c.from_to-d.ensures s)) ∙ orient_is t.a t.b t.c t.d) in
    let size : c.pull_size.result ≡ sizes (pull (from_to t.a t.b) (from_to t.a t.c) (from_to t.a t.d)) =
    c.pull_size.ensures ∙ (λ s. sizes (pull (c.from_to-b.ensures s) (c.from_to-c.ensures s) (c.from_to-d.ensures s))) in
    λ e h. rw (size, is) (law_reach t e c.requires h)
