use Rattle.std.proofs.Common.{◌≡◌, [], ◌∷◌, ◌++◌, ◌-◌, length, sym, ap, ◌∙◌, slice_set, get_or}
use Rattle.std.proofs.lemmas.List.{get_or_at, set_at}
use Rattle.mesh_files.specs.declared.fields.Field.{Field}
use Rattle.mesh_files.proofs.fields.push_with_last.Goals as goal

pub returns-clause-pushed : goal.returns-clause-pushed
returns-clause-pushed c =
    let known = c.args.known.now.items in
    let f = c.args.field in
    let at = c.len-at.result in
    let last = c.args.last in
    let there = c.index_mut.result.now in
    let count : length known ≡ at = sym (c.len-at.ensures ∙ c.args.known.now.ok.0) in
    let read : there ≡ f = c.index_mut.ensures.value ∙ ap (λ s. get_or s at there) c.push_reserved.ensures.items ∙ get_or_at known f [] there at count in
    let put : Field = record { text = slice_set there.text (c.from.result - 1) last; len = there.len } in
    ap (λ s. slice_set s at put) c.push_reserved.ensures.items
    ∙ set_at known f [] put at count
    ∙ ap (λ g. known ++ (g ∷ [])) (ap (λ k. record { text = slice_set there.text (k - 1) last; len = there.len }) c.from.ensures ∙ ap (λ (g : Field). record { text = slice_set g.text (f.len - 1) last; len = g.len }) read)
