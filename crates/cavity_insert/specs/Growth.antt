-- The growth of a cavity, from its start on.
use Rattle.std.specs.Prelude.{◌≡◌, ℕ, ℤ, [], List, Option}
use Rattle.sign_predicates.specs.Point.{Point}
use Rattle.mesh_arena.specs.Mesh.{SlotValue, IsArenaMesh}
use Rattle.mesh_arena.specs.declared.slot.Slot.{Slot}
use Rattle.mesh_arena.specs.declared.slot.RimFace.{RimFace}
use Rattle.mesh_laws.specs.LowestRule.{IsLowestTaken}
use Rattle.mesh_laws.specs.Reach.{Grown}
use Rattle.mesh_laws.specs.LowestLaws.{IsLowestWholeFrom}
use Rattle.cavity_insert.specs.declared.grow.Growth.{Growth}
use Rattle.cavity_insert.specs.Grow.{entry_at, AreEntered, Growing}

-- nothing has been found yet
pub record HasBegun (g : Growth) (start : Slot) : Type 0 where
  pub start_is : g.start ≡ start
  pub cavity : g.cavity ≡ []
  pub entries : g.entries.items ≡ []
  pub rim : g.rim ≡ []

-- the face through which the slot i of the cavity was entered
abbrev pub entry_of : Growth → ℕ → ℕ
entry_of g i = entry_at g.entries.items i

-- the growth over the slots that a rule takes has come to the turn k of the slot i of its cavity
pub record IsGrowing (slots : List (Option SlotValue)) (rule : ℕ → Type 0) (g : Growth) (i k : ℕ) : Type 0 where
  pub entered : AreEntered slots g.cavity g.entries.items
  pub growing : Growing slots rule g.start.index g.cavity g.rim i (entry_of g i) k

-- the cavity has the conflict zone of the point with the number p, and this is its rim
pub record IsCavityOf (heights : ℕ → ℤ) (slots : List (Option SlotValue)) (ps : List Point) (p : ℕ) (cavity : List Slot)
    (rim : List RimFace) : Type 0 where
  pub mesh : IsArenaMesh slots
  pub start : ℕ
  pub whole : IsLowestWholeFrom heights slots ps p start
  pub grown : Grown slots (IsLowestTaken heights slots ps p) start cavity rim
