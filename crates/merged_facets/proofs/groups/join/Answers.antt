use Rattle.std.proofs.Common.{◌≡◌, ◌<◌, length, arith}
use Rattle.std.specs.Prelude.{min, max}
use Rattle.merged_facets.proofs.Labels.{labels_join_at}
use Rattle.merged_facets.proofs.groups.join.Goals as goal

pub returns-then-first-second-clause-labels : goal.returns-then-first-second-clause-labels
returns-then-first-second-clause-labels c label h =
    let i = c.args.i in
    let j = c.args.j in
    let one = c.least_of-first.ensures.labels label h in
    let two = c.least_of-second.ensures.labels label one.0 in
    let less = c.if-first-second.true in
    let at_i : c.least_of-second.result ≡ max (label i) (label j) = omega (arith, one.1, two.1) in
    let at_v : c.least_of-first.result ≡ min (label i) (label j) = omega (arith, one.1, two.1) in
    labels_join_at c.least_of-second.new.down label (label i) (label j) c.least_of-second.result c.least_of-first.result at_i at_v
    c.least_of-second.ensures.there (h.again i) (h.again j) two.0

pub returns-else-first-second-clause-labels : goal.returns-else-first-second-clause-labels
returns-else-first-second-clause-labels c label h =
    let i = c.args.i in
    let j = c.args.j in
    let one = c.least_of-first.ensures.labels label h in
    let two = c.least_of-second.ensures.labels label one.0 in
    let less = c.if-first-second.false in
    let at_i : c.least_of-first.result ≡ max (label i) (label j) = omega (arith, one.1, two.1) in
    let at_v : c.least_of-second.result ≡ min (label i) (label j) = omega (arith, one.1, two.1) in
    let there : c.least_of-first.result < length c.least_of-second.new.down = omega (arith, c.least_of-second.auto.down, c.least_of-first.ensures.there) in
    labels_join_at c.least_of-second.new.down label (label i) (label j) c.least_of-first.result c.least_of-second.result at_i at_v
    there (h.again i) (h.again j) two.0
