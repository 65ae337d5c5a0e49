-- The tetrahedra of an old list that are not among new ones, and faces that were on the hull before.
use Rattle.std.specs.Prelude.{◌≡◌, ◌⊎◌, false, IsTrue, List, All, Any, Contains}
use Rattle.geo_laws.specs.OrientedFace.{Face, reversed}
use Rattle.geo_laws.specs.declared.tetrahedra.Tet.{Tet}
use Rattle.tangle_laws.specs.Tangle.{lies_on}
use Rattle.tangle_fill.specs.Indexed.{IsIndexed}
use Rattle.tangle_fill.specs.declared.growth.Growth.{Growth}

-- the tetrahedra are among the old ones
abbrev pub AreAmong : List Tet → List Tet → Type 0
AreAmong old rest = (t : Tet) → Contains rest t → Contains old t

-- tetrahedra of the old list, indexed by the sides on which they lie; every other one of that list is among the new
-- ones
pub record IsRemoved (old rows : List Tet) (removed : Growth) : Type 0 where
  pub within : AreAmong old removed.rows
  pub others : (t : Tet) → Contains old t → Contains rows t ⊎ Contains removed.rows t
  pub indexed : IsIndexed removed

-- a tetrahedron of the old list lies on the face's negative side, and no removed one lies on its positive side
pub record IsBareIn (old rest : List Tet) (f : Face) : Type 0 where
  pub none : All (λ t. lies_on f t ≡ false) rest
  pub behind : Any (λ t. IsTrue (lies_on (reversed f) t)) old
