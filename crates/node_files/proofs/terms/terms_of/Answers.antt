use Rattle.std.proofs.Common.{ℕ, ◌≤◌, ◌^◌, ap, ◌∙◌, arith}
use Rattle.std.specs.Int.{w128}
use Rattle.std.specs.Prelude.{unsigned_abs}
use Rattle.exact_algebra.proofs.Size.{back}
use Rattle.tet_text.specs.Decimals.{Scaled}
use Rattle.node_files.specs.Terms.{divided_out}
use Rattle.node_files.proofs.terms.terms_of.Goals as goal

pub returns : goal.returns
returns c =
    let d = c.args.d.now in
    let small : unsigned_abs c.d.inside.value ≤ 10 ^ 36 = omega arith in
    let value = back w128 (10 ^ 36) c.d.inside.value tt small in
    let size = c.unsigned_abs.ensures.value ∙ ap unsigned_abs value ∙ ap (λ (s : Scaled). unsigned_abs s.value) c.d.view_is in
    let scale = ap (λ (s : Scaled). s.scale) c.d.view_is in
    let odd = c.divided_out-odd.ensures ∙ ap (λ (n : ℕ). divided_out 2 n c.d.inside.scale) size ∙ ap (λ (k : ℕ). divided_out 2 (unsigned_abs d.value) k) scale in
    let numerator = c.divided_out-numerator.ensures ∙ ap (λ (p : ℕ × ℕ). divided_out 5 p.0 c.d.inside.scale) odd ∙ ap (λ (k : ℕ). divided_out 5 (divided_out 2 (unsigned_abs d.value) d.scale).0 k) scale in
    cc
