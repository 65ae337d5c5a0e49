use Rattle.std.proofs.Common.{Err, ap, arith}
use Rattle.node_files.proofs.Folds.{names_long}
use Rattle.array_meshes.proofs.Whole.{array_few, coplanar_listed, whole_folding}
use Rattle.array_meshes.specs.Arrays.{points_of}
use Rattle.array_meshes.proofs.arrays.delaunay_rows.Goals as goal

pub delaunay-requires-clause-few : goal.delaunay-requires-clause-few
delaunay-requires-clause-few c =
    let few = (array_few 0 c.args.places.now c.in_ok-table.table c.in_ok-table.ensures.table).0 in
    omega (arith, few)

pub named_rows-requires : goal.named_rows-requires
named_rows-requires c k d lt =
    let t = c.in_ok-table.table in
    let long = names_long (points_of c.args.places.now) t.points t.names t.folded (whole_folding c.args.places.now t c.in_ok-table.ensures.table) in
    let on = c.in-Ok.ensures.numbers k d lt in
    let a = on 0 0 (omega arith) in
    let b = on 1 0 (omega arith) in
    let e = on 2 0 (omega arith) in
    let f = on 3 0 (omega arith) in
    (omega (arith, a, long), omega (arith, b, long), omega (arith, e, long), omega (arith, f, long))

pub returns-in-Err-Flat-clause-fault : goal.returns-in-Err-Flat-clause-fault
returns-in-Err-Flat-clause-fault c =
    let t = c.in_ok-table.table in
    coplanar_listed (points_of c.args.places.now) t.points t.names t.folded (whole_folding c.args.places.now t c.in_ok-table.ensures.table) (c.in-Err-Flat.ensures.flat (ap (λ f. Err f) c.in-Err-Flat.field-0-is))

pub returns-clause-rows : goal.returns-clause-rows
returns-clause-rows c =
    let t = c.in_ok-table.table in
    record {
      few = c.in_ok-table.ensures.table.few;
      near = c.in_ok-table.ensures.table.near;
      points = t.points;
      names = t.names;
      folded = t.folded;
      folding = whole_folding c.args.places.now t c.in_ok-table.ensures.table;
      list = c.in-Ok.list;
      delaunay = c.in-Ok.ensures.list;
      rows_are = c.in_ok-named_rows.ensures;
    }
