-- The first two parts of a list that are not properly met.
use Rattle.std.specs.Prelude.{◌≡◌, ◌⊎◌, ℕ, ◌<◌, ◌≤◌, Bool, true, IsTrue, List, length, All, AllPairs}
use Rattle.std.specs.Prelude.{Option, None, Some, ⊤, slice_index_or}
use Rattle.box_tree.specs.declared.tree.Node.{Node}
use Rattle.sign_predicates.specs.Point.{Point}
use Rattle.simplex_meets.specs.declared.complex_parts.Compared.{Compared}
use Rattle.simplex_meets.specs.declared.complex_parts.Part.{Part}
use Rattle.simplex_meets.specs.Parts.{IsPairMet}

-- any two of the parts are properly met, where they are to be compared
abbrev pub ArePairwiseMet : Compared → List Point → List Part → Type 0
ArePairwiseMet compared ps parts = AllPairs (IsPairMet compared ps) parts

-- the parts at two places are properly met
abbrev pub AreMetAt : Compared → List Point → List Part → ℕ → ℕ → Type 0
AreMetAt compared ps parts i j = (d : Part) → IsPairMet compared ps (slice_index_or parts i d) (slice_index_or parts j d)

-- the part at this place is marked: those past the last mark are
abbrev pub IsMarked : List Bool → ℕ → Type 0
IsMarked marks i = IsTrue (slice_index_or marks i true)

-- the parts from this place on are marked
abbrev pub AreMarkedFrom : List Bool → ℕ → Type 0
AreMarkedFrom marks end = (i : ℕ) → end ≤ i → IsMarked marks i

-- any two marked parts are properly met
abbrev pub AreMarkedMet : Compared → List Point → List Part → List Bool → Type 0
AreMarkedMet compared ps parts marks =
    (i j : ℕ) → i < j → j < length parts → IsMarked marks i → IsMarked marks j → AreMetAt compared ps parts i j

-- the parts at two places are not properly met
pub record IsUnmet (compared : Compared) (ps : List Point) (parts : List Part) (i j : ℕ) : Type 0 where
  pub order : i < j
  pub within : j < length parts
  pub unmet : (d : Part) → ¬ IsPairMet compared ps (slice_index_or parts i d) (slice_index_or parts j d)

-- the first two parts that are not properly met, by the place of the first and then by that of the second
pub record IsFirstPair (compared : Compared) (ps : List Point) (parts : List Part) (i j : ℕ) : Type 0 where
  pub is : IsUnmet compared ps parts i j
  pub first : (k l : ℕ) → k < l → l < length parts → (k < i) ⊎ (k ≡ i) × (l < j) → AreMetAt compared ps parts k l

-- ---- the parts after the one at i

-- the place found is that of a part after the one at i that is not properly met with it
abbrev pub IsUnmetFound : Compared → List Point → List Part → ℕ → Option ℕ → Type 0
IsUnmetFound compared ps parts i None = ⊤
IsUnmetFound compared ps parts i (Some j) = IsUnmet compared ps parts i j

-- the place found stands before j, or is j
abbrev pub IsUpTo : Option ℕ → ℕ → Type 0
IsUpTo None j = ⊥
IsUpTo (Some k) j = k ≤ j

-- the place found now is not after the one before
abbrev pub IsNoLater : Option ℕ → Option ℕ → Type 0
IsNoLater before now = (j : ℕ) → IsUpTo before j → IsUpTo now j

-- j is not after i, or the parts at both are properly met, or the place found is not after j
abbrev pub IsPairSettled : Compared → List Point → List Part → ℕ → Option ℕ → ℕ → Type 0
IsPairSettled compared ps parts i found j = i < j → AreMetAt compared ps parts i j ⊎ IsUpTo found j

-- the place found is the first, and there is none where all later parts are properly met with the one at i
abbrev pub IsFirstAfter : Compared → List Point → List Part → ℕ → Option ℕ → Type 0
IsFirstAfter compared ps parts i found =
    IsUnmetFound compared ps parts i found × ((j : ℕ) → j < length parts → IsPairSettled compared ps parts i found j)

-- the place found is the first of the parts in the tree that is not properly met with the one at i, or there is none
abbrev pub IsFirstAmong : Compared → List Point → List Part → ℕ → List Node → Option ℕ → Type 0
IsFirstAmong compared ps parts i nodes found =
    IsUnmetFound compared ps parts i found × All (λ n. IsPairSettled compared ps parts i found n.own.place) nodes

-- ---- pairs of any two parts

-- the places found are those of two parts that are not properly met
abbrev pub IsUnmetPair : Compared → List Point → List Part → Option (ℕ × ℕ) → Type 0
IsUnmetPair compared ps parts None = ⊤
IsUnmetPair compared ps parts (Some r) = IsUnmet compared ps parts r.0 r.1

-- the pair found stands before that of i and j, by the first place and then by the second, or is that pair
abbrev pub IsPairUpTo : Option (ℕ × ℕ) → ℕ → ℕ → Type 0
IsPairUpTo None i j = ⊥
IsPairUpTo (Some r) i j = (r.0 < i) ⊎ ((r.0 ≡ i) × (r.1 ≤ j))

-- the pair found now is not after the one before
abbrev pub IsPairNoLater : Option (ℕ × ℕ) → Option (ℕ × ℕ) → Type 0
IsPairNoLater before now = (i j : ℕ) → IsPairUpTo before i j → IsPairUpTo now i j

-- the parts at i and j are properly met, or the pair found is not after theirs
abbrev pub IsSettled : Compared → List Point → List Part → Option (ℕ × ℕ) → ℕ → ℕ → Type 0
IsSettled compared ps parts found i j = AreMetAt compared ps parts i j ⊎ IsPairUpTo found i j

-- the pair of i and j is settled, where j is after i, and where j is before i and marked
pub record IsSettledBeside (compared : Compared) (ps : List Point) (parts : List Part) (marks : List Bool) (found : Option (ℕ × ℕ))
    (i j : ℕ) : Type 0 where
  pub after : i < j → IsSettled compared ps parts found i j
  pub before : j < i → IsMarked marks j → IsSettled compared ps parts found j i

-- the pairs of the part at i with all later ones and with all marked ones before it are settled
abbrev pub AreSettledBeside : Compared → List Point → List Part → List Bool → Option (ℕ × ℕ) → ℕ → Type 0
AreSettledBeside compared ps parts marks found i = (j : ℕ) → j < length parts → IsSettledBeside compared ps parts marks found i j

-- the pairs of each part before n that is not marked are settled
pub record IsLeastTo (compared : Compared) (ps : List Point) (parts : List Part) (marks : List Bool) (n : ℕ) (found : Option (ℕ × ℕ))
    : Type 0 where
  pub is_found : IsUnmetPair compared ps parts found
  pub settled : (i : ℕ) → i < n → ¬ IsMarked marks i → AreSettledBeside compared ps parts marks found i
