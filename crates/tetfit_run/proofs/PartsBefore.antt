-- What a piece is a part of.
use Rattle.std.proofs.Common.{ℕ, zero, suc, ◌+◌, ◌-◌, ◌≡◌, max, length, List, Result, Ok, Err, refl, subst, sym, arith}
use Rattle.std.specs.Prelude.{IfOk}
use Rattle.command_words.specs.declared.options.Options.{Options}
use Rattle.geo_laws.specs.declared.complex.Piece.{Piece}
use Rattle.node_files.specs.declared.limits.Limits.{Limits}
use Rattle.tetfit_run.specs.Measured.{BoundTried}
use Rattle.run_steps.specs.declared.mesh.Bound.{Bound}
use Rattle.run_steps.specs.declared.numbering.Numbering.{Numbering}
use Rattle.tet_ports.specs.declared.NoMemory.{NoMemory}
use Rattle.run_steps.specs.declared.input.Input.{Input}
use Rattle.tetfit_run.specs.Hints.{IsHalvedAfter, IsHalvedPartOf, IsLineIn, IsLineOf, TellsSegment}

-- it is a part of what the piece before it is a part of
pub part_before : (limits : Limits) (options : Options) (input : Input) (count left less : ℕ) (p before whole : Piece) → left ≡ less + 1 → IsHalvedAfter limits options input (max p.a p.b - count) before
    → IsHalvedPartOf limits options input count less before whole → IsHalvedPartOf limits options input count left p whole
part_before limits options input count zero less p before whole e h part = absurd (omega arith)
part_before limits options input count (suc n) less p before whole e h part =
    let same : less ≡ n = omega arith in
    (before, h, subst (λ k. IsHalvedPartOf limits options input count k before whole) same part)

-- a piece that was not halved is the whole
pub part_whole : (limits : Limits) (options : Options) (input : Input) (count left : ℕ) (p : Piece) → left ≡ 0 → IsHalvedPartOf limits options input count left p p
part_whole limits options input count left p e = subst (λ k. IsHalvedPartOf limits options input count k p p) (sym e) refl

-- ---- what is told

-- the lines of a segment
pub line_told : (limits : Limits) (options : Options) (input : Input) (by : Numbering) (whole : Piece) (bound : Bound) (r : Result (List ℕ) NoMemory)
    → BoundTried limits options input (Ok bound) → IfOk r (IsLineIn bound input.nodes.decimals by whole) → IfOk r (IsLineOf limits options input by whole)
line_told limits options input by whole bound (Ok line) h is = (bound, h, is)
line_told limits options input by whole bound (Err e) h is = is

-- and of a piece
pub whole_told : (limits : Limits) (options : Options) (input : Input) (by : Numbering) (p whole : Piece) (count : ℕ) (r : Result (List ℕ) NoMemory) → count ≡ length by.names
    → IsHalvedPartOf limits options input count p.halvings p whole → IfOk r (IsLineOf limits options input by whole) → IfOk r (TellsSegment limits options input by p)
whole_told limits options input by p whole count (Ok line) c part told = record {
  whole = whole;
  part = subst (λ n. IsHalvedPartOf limits options input n p.halvings p whole) c part;
  told = told;
}
whole_told limits options input by p whole count (Err e) c part told = told
