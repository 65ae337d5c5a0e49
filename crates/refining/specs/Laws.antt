-- The law of points that are appended to those of a complex.
use Rattle.std.specs.Prelude.{ℕ, ◌+◌, ◌-◌, ◌<◌, ◌≤◌, ◌^◌, List, ◌++◌, length}
use Rattle.sign_predicates.specs.Point.{Point}
use Rattle.geo_laws.specs.Complex.{Complex}
use Rattle.complex_mesh.specs.Protection.{IsMeshable}
use Rattle.refining.specs.Addable.{AreAddable}

-- a complex is meshable with points behind its own, where no more halvings are asked for than of its own, and there are few
abbrev pub MeshableLaw : Type 0
MeshableLaw =
    (deep halvings budget : ℕ) (ps qs : List Point) (c : Complex) → IsMeshable deep budget ps c → halvings ≤ deep
    → AreAddable halvings ps qs
    → length ps + length qs + budget < 2 ^ 32 - 2 → IsMeshable halvings budget (ps ++ qs) c
