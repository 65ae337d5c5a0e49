-- Numbers of 256 and 384 bits.
use Rattle.std.specs.Prelude.{ℕ, ◌+◌, ◌*◌, ◌^◌}
use Rattle.tet_shapes.specs.declared.wide.Wide.{Wide}
use Rattle.tet_shapes.specs.declared.wide.Wider.{Wider}

abbrev pub wide_value : Wide → ℕ
wide_value w = w.low + w.high * 2 ^ 128

abbrev pub wider_value : Wider → ℕ
wider_value w = w.low + w.middle * 2 ^ 128 + w.high * 2 ^ 256
