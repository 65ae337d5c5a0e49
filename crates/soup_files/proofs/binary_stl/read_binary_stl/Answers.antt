use Rattle.std.proofs.Common.{ap, length, arith}
use Rattle.std.proofs.lemmas.Result.{IfOk-weaker}
use Rattle.soup_files.proofs.BinaryWhole.{binary_read}
use Rattle.soup_files.proofs.binary_stl.read_binary_stl.Goals as goal

pub returns-clause-attributes : goal.returns-clause-attributes
returns-clause-attributes c =
    let small = binary_read c.as_slice.result.now c.read_bytes.result c.read_bytes.ensures (omega (arith, ap length c.as_slice.ensures, c.requires)) in
    IfOk-weaker c.read_bytes.result _ _ (λ t s. s.attributes) small

pub returns-clause-few : goal.returns-clause-few
returns-clause-few c =
    let small = binary_read c.as_slice.result.now c.read_bytes.result c.read_bytes.ensures (omega (arith, ap length c.as_slice.ensures, c.requires)) in
    IfOk-weaker c.read_bytes.result _ _ (λ t s. s.few) small
