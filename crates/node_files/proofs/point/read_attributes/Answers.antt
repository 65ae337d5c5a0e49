use Rattle.std.proofs.Common.{◌≡◌, ℕ, List, ◌++◌, ◌∷◌, [], sym, ap, ◌∙◌}
use Rattle.std.proofs.lemmas.Result.{err_from_is_err_and}
use Rattle.node_files.specs.Point.{attributes_at}
use Rattle.node_files.proofs.Attributes.{attributes_more, attributes_stop, attributes_all}
use Rattle.node_files.proofs.point.read_attributes.Goals as goal
use Rattle.tet_text.specs.Repeated.{onto}

pub returns-in_err-field-clause-value : goal.returns-in_err-field-clause-value
returns-in_err-field-clause-value c =
    let whole = onto c.args.attributes.now (attributes_at c.args.count c.args.fields.now.line c.args.fields.now.fields) in
    let p = err_from_is_err_and c.from_residual.result c.from_residual.ensures.1 in
    rw (p.1, p.2) (attributes_stop c.loop.attributes c.args.count c.loop.counter c.loop.fields.line c.loop.fields.fields c.in_err-field.field-0.0 whole c.loop-test.true (sym c.in_err-field.ensures.value) c.loop.invariant.0)

pub loop-preserved : goal.loop-preserved
loop-preserved c =
    let whole = onto c.args.attributes.now (attributes_at c.args.count c.args.fields.now.line c.args.fields.now.fields) in
    let field = c.in_ok-field.field.text.now in
    let pushed : c.push.new.self ≡ c.loop.attributes ++ field ∷ [] = c.in_ok-push.ensures.ok ∙ ap (λ (a : List ℕ). c.loop.attributes ++ a ∷ []) (c.in_ok-attribute.ensures ∙ c.bytes.ensures) in
    (rw (pushed, c.in_ok-field.ensures.line) (attributes_more c.loop.attributes c.args.count c.loop.counter c.loop.fields.line c.loop.fields.fields c.want_field.new.self.fields field whole c.loop-test.true (sym c.in_ok-field.ensures.value) c.loop.invariant.0), c.in_ok-field.ensures.line ∙ c.loop.invariant.1)

pub returns-clause-value : goal.returns-clause-value
returns-clause-value c =
    let whole = onto c.args.attributes.now (attributes_at c.args.count c.args.fields.now.line c.args.fields.now.fields) in
    attributes_all c.loop.attributes c.args.count c.loop.counter c.loop.fields.line c.loop.fields.fields whole c.loop-test.false c.loop.invariant.0
