-- Defects by their kinds, and the first of them.
use Rattle.std.proofs.Common.{◌≡◌, ◌≢◌, ℕ, ◌+◌, ◌<◌, ◌≤◌, length, Option, Some, None, refl, arith, inl, inr}
use Rattle.std.specs.Prelude.{◌⊎◌}
use Rattle.std.proofs.lemmas.Bool.{cases_lt}
use Rattle.mesh_check.specs.Among.{IsOfKinds, IsFirstOfKinds}
use Rattle.mesh_check.specs.Defects.{ReadMesh, HasDefect, IsToldBefore, PairBefore, kind_of, numbers_of, IsFirstDefect, IsVerdict, IsNotPositive, IsSameSide, IsWrongNeighbor, IsStray, IsUnlisted, IsBent}
use Rattle.mesh_check.specs.Searches.{IsLeastOf, IsLeastPair}
use Rattle.mesh_check.specs.declared.defect.Defect.{Defect}
use Rattle.mesh_check.specs.declared.defect.Defect.TheVariants.{NotPositive, SameSide, NeighborCount, WrongNeighbor, Stray, Unlisted, Bent}
use Rattle.mesh_check.specs.declared.defect.Verdict.TheVariants.{Sound, Fault}

-- no defect of a kind
abbrev pub HasNone : ReadMesh → ℕ → Type 0
HasNone m n = (e : Defect) → kind_of e ≡ n → ¬ HasDefect m e

-- none of the kind of a defect before it
abbrev pub HasNoneBefore : ReadMesh → Defect → Type 0
HasNoneBefore m d = (e : Defect) → kind_of e ≡ kind_of d → PairBefore (numbers_of e) (numbers_of d) → ¬ HasDefect m e

pub none_0 : (m : ReadMesh) → IsLeastOf (IsNotPositive m.points m.rows) None → HasNone m 0
none_0 m none (NotPositive i) is = none i
none_0 m none (SameSide i j) is = absurd (omega arith)
none_0 m none NeighborCount is = absurd (omega arith)
none_0 m none (WrongNeighbor i j) is = absurd (omega arith)
none_0 m none (Stray i) is = absurd (omega arith)
none_0 m none (Unlisted i j) is = absurd (omega arith)
none_0 m none (Bent i j) is = absurd (omega arith)

pub first_0 : (m : ReadMesh) (a : ℕ) → IsLeastOf (IsNotPositive m.points m.rows) (Some a) → HasNoneBefore m (NotPositive a)
first_0 m a first (NotPositive i) is (inl lt) = first.1 i lt
first_0 m a first (NotPositive i) is (inr p) = absurd (let lt = p.1 in omega arith)
first_0 m a first (SameSide i j) is before = absurd (omega arith)
first_0 m a first NeighborCount is before = absurd (omega arith)
first_0 m a first (WrongNeighbor i j) is before = absurd (omega arith)
first_0 m a first (Stray i) is before = absurd (omega arith)
first_0 m a first (Unlisted i j) is before = absurd (omega arith)
first_0 m a first (Bent i j) is before = absurd (omega arith)

pub none_1 : (m : ReadMesh) → IsLeastPair (IsSameSide m.points m.rows) None → HasNone m 1
none_1 m none (NotPositive i) is = absurd (omega arith)
none_1 m none (SameSide i j) is = none i j
none_1 m none NeighborCount is = absurd (omega arith)
none_1 m none (WrongNeighbor i j) is = absurd (omega arith)
none_1 m none (Stray i) is = absurd (omega arith)
none_1 m none (Unlisted i j) is = absurd (omega arith)
none_1 m none (Bent i j) is = absurd (omega arith)

pub first_1 : (m : ReadMesh) (a b : ℕ) → IsLeastPair (IsSameSide m.points m.rows) (Some (a, b)) → HasNoneBefore m (SameSide a b)
first_1 m a b first (NotPositive i) is before = absurd (omega arith)
first_1 m a b first (SameSide i j) is before = first.1 i j before
first_1 m a b first NeighborCount is before = absurd (omega arith)
first_1 m a b first (WrongNeighbor i j) is before = absurd (omega arith)
first_1 m a b first (Stray i) is before = absurd (omega arith)
first_1 m a b first (Unlisted i j) is before = absurd (omega arith)
first_1 m a b first (Bent i j) is before = absurd (omega arith)

pub none_2 : (m : ReadMesh) → length m.neighbors ≡ length m.rows → HasNone m 2
none_2 m same (NotPositive i) is = absurd (omega arith)
none_2 m same (SameSide i j) is = absurd (omega arith)
none_2 m same NeighborCount is = λ h. h same
none_2 m same (WrongNeighbor i j) is = absurd (omega arith)
none_2 m same (Stray i) is = absurd (omega arith)
none_2 m same (Unlisted i j) is = absurd (omega arith)
none_2 m same (Bent i j) is = absurd (omega arith)

pub first_2 : (m : ReadMesh) → HasNoneBefore m NeighborCount
first_2 m (NotPositive i) is before = absurd (omega arith)
first_2 m (SameSide i j) is before = absurd (omega arith)
first_2 m NeighborCount is (inl lt) = absurd (omega arith)
first_2 m NeighborCount is (inr p) = absurd (let lt = p.1 in omega arith)
first_2 m (WrongNeighbor i j) is before = absurd (omega arith)
first_2 m (Stray i) is before = absurd (omega arith)
first_2 m (Unlisted i j) is before = absurd (omega arith)
first_2 m (Bent i j) is before = absurd (omega arith)

pub none_3 : (m : ReadMesh) → IsLeastPair (IsWrongNeighbor m.rows m.neighbors) None → HasNone m 3
none_3 m none (NotPositive i) is = absurd (omega arith)
none_3 m none (SameSide i j) is = absurd (omega arith)
none_3 m none NeighborCount is = absurd (omega arith)
none_3 m none (WrongNeighbor i j) is = none i j
none_3 m none (Stray i) is = absurd (omega arith)
none_3 m none (Unlisted i j) is = absurd (omega arith)
none_3 m none (Bent i j) is = absurd (omega arith)

pub first_3 : (m : ReadMesh) (a b : ℕ) → IsLeastPair (IsWrongNeighbor m.rows m.neighbors) (Some (a, b)) → HasNoneBefore m (WrongNeighbor a b)
first_3 m a b first (NotPositive i) is before = absurd (omega arith)
first_3 m a b first (SameSide i j) is before = absurd (omega arith)
first_3 m a b first NeighborCount is before = absurd (omega arith)
first_3 m a b first (WrongNeighbor i j) is before = first.1 i j before
first_3 m a b first (Stray i) is before = absurd (omega arith)
first_3 m a b first (Unlisted i j) is before = absurd (omega arith)
first_3 m a b first (Bent i j) is before = absurd (omega arith)

pub none_4 : (m : ReadMesh) → IsLeastOf (IsStray m.rows m.faces) None → HasNone m 4
none_4 m none (NotPositive i) is = absurd (omega arith)
none_4 m none (SameSide i j) is = absurd (omega arith)
none_4 m none NeighborCount is = absurd (omega arith)
none_4 m none (WrongNeighbor i j) is = absurd (omega arith)
none_4 m none (Stray i) is = none i
none_4 m none (Unlisted i j) is = absurd (omega arith)
none_4 m none (Bent i j) is = absurd (omega arith)

pub first_4 : (m : ReadMesh) (a : ℕ) → IsLeastOf (IsStray m.rows m.faces) (Some a) → HasNoneBefore m (Stray a)
first_4 m a first (NotPositive i) is before = absurd (omega arith)
first_4 m a first (SameSide i j) is before = absurd (omega arith)
first_4 m a first NeighborCount is before = absurd (omega arith)
first_4 m a first (WrongNeighbor i j) is before = absurd (omega arith)
first_4 m a first (Stray i) is (inl lt) = first.1 i lt
first_4 m a first (Stray i) is (inr p) = absurd (let lt = p.1 in omega arith)
first_4 m a first (Unlisted i j) is before = absurd (omega arith)
first_4 m a first (Bent i j) is before = absurd (omega arith)

pub none_5 : (m : ReadMesh) → IsLeastPair (IsUnlisted m.rows m.faces) None → HasNone m 5
none_5 m none (NotPositive i) is = absurd (omega arith)
none_5 m none (SameSide i j) is = absurd (omega arith)
none_5 m none NeighborCount is = absurd (omega arith)
none_5 m none (WrongNeighbor i j) is = absurd (omega arith)
none_5 m none (Stray i) is = absurd (omega arith)
none_5 m none (Unlisted i j) is = none i j
none_5 m none (Bent i j) is = absurd (omega arith)

pub first_5 : (m : ReadMesh) (a b : ℕ) → IsLeastPair (IsUnlisted m.rows m.faces) (Some (a, b)) → HasNoneBefore m (Unlisted a b)
first_5 m a b first (NotPositive i) is before = absurd (omega arith)
first_5 m a b first (SameSide i j) is before = absurd (omega arith)
first_5 m a b first NeighborCount is before = absurd (omega arith)
first_5 m a b first (WrongNeighbor i j) is before = absurd (omega arith)
first_5 m a b first (Stray i) is before = absurd (omega arith)
first_5 m a b first (Unlisted i j) is before = first.1 i j before
first_5 m a b first (Bent i j) is before = absurd (omega arith)

pub none_6 : (m : ReadMesh) → IsLeastPair (IsBent m.points m.rows m.faces) None → HasNone m 6
none_6 m none (NotPositive i) is = absurd (omega arith)
none_6 m none (SameSide i j) is = absurd (omega arith)
none_6 m none NeighborCount is = absurd (omega arith)
none_6 m none (WrongNeighbor i j) is = absurd (omega arith)
none_6 m none (Stray i) is = absurd (omega arith)
none_6 m none (Unlisted i j) is = absurd (omega arith)
none_6 m none (Bent i j) is = none i j

pub first_6 : (m : ReadMesh) (a b : ℕ) → IsLeastPair (IsBent m.points m.rows m.faces) (Some (a, b)) → HasNoneBefore m (Bent a b)
first_6 m a b first (NotPositive i) is before = absurd (omega arith)
first_6 m a b first (SameSide i j) is before = absurd (omega arith)
first_6 m a b first NeighborCount is before = absurd (omega arith)
first_6 m a b first (WrongNeighbor i j) is before = absurd (omega arith)
first_6 m a b first (Stray i) is before = absurd (omega arith)
first_6 m a b first (Unlisted i j) is before = absurd (omega arith)
first_6 m a b first (Bent i j) is before = first.1 i j before

-- ---- some kinds together

pub among_some : (m : ReadMesh) (low high : ℕ) (d : Defect) → low ≤ kind_of d → kind_of d < high → HasDefect m d → ((n : ℕ) → low ≤ n → n < kind_of d → HasNone m n) → HasNoneBefore m d → IsFirstOfKinds m low high (Some d)
among_some m low high d le lt has lower before = ((le, lt), has, λ e of told. at e of told)
  where
    at : (e : Defect) → IsOfKinds low high e → IsToldBefore e d → ¬ HasDefect m e
    at e of (inl less) = lower (kind_of e) of.0 less e refl
    at e of (inr p) = before e p.0 p.1

-- no kind is left out
pub one_kind : (m : ReadMesh) (low : ℕ) → HasNone m low → (n : ℕ) → low ≤ n → n < low + 1 → HasNone m n
one_kind m low none n le lt e is = let same : kind_of e ≡ low = omega arith in none e same

pub two_kinds : (m : ReadMesh) (low : ℕ) → HasNone m low → HasNone m (low + 1) → (n : ℕ) → low ≤ n → n < low + 2 → HasNone m n
two_kinds m low none next n le lt e is =
    elim (cases_lt n (low + 1)) [
      | inl less ↦ one_kind m low none n le less e is
      | inr more ↦ let same : kind_of e ≡ low + 1 = omega arith in next e same
    ]

pub three_kinds : (m : ReadMesh) (low : ℕ) → HasNone m low → HasNone m (low + 1) → HasNone m (low + 2) → (n : ℕ) → low ≤ n → n < low + 3 → HasNone m n
three_kinds m low none next last n le lt e is =
    elim (cases_lt n (low + 2)) [
      | inl less ↦ two_kinds m low none next n le less e is
      | inr more ↦ let same : kind_of e ≡ low + 2 = omega arith in last e same
    ]

pub among_none : (m : ReadMesh) (low high : ℕ) → ((n : ℕ) → low ≤ n → n < high → HasNone m n) → IsFirstOfKinds m low high None
among_none m low high none d of = none (kind_of d) of.0 of.1 d refl

-- ---- the verdict

told_le : (e d : Defect) → IsToldBefore e d → kind_of e ≤ kind_of d
told_le e d (inl lt) = omega arith
told_le e d (inr p) = let same = p.0 in omega arith

pub none_before : (m : ReadMesh) (low : ℕ) → IsFirstOfKinds m 0 low None → (e : Defect) → kind_of e < low → ¬ HasDefect m e
none_before m low none e lt = none e (omega arith, lt)

pub none_on : (m : ReadMesh) (low high : ℕ) → ((e : Defect) → kind_of e < low → ¬ HasDefect m e) → IsFirstOfKinds m low high None → (e : Defect) → kind_of e < high → ¬ HasDefect m e
none_on m low high before none e lt =
    elim (cases_lt (kind_of e) low) [ inl less ↦ before e less | inr le ↦ none e (le, lt) ]

pub first_defect : (m : ReadMesh) (low high : ℕ) (d : Defect) → ((e : Defect) → kind_of e < low → ¬ HasDefect m e) → IsFirstOfKinds m low high (Some d) → IsVerdict m (Fault d)
first_defect m low high d before first = record {
  has = first.1;
  first = λ e told. let le = told_le e d told in let lt = first.0.1 in elim (cases_lt (kind_of e) low) [ inl less ↦ before e less | inr more ↦ first.2 e (more, omega arith) told ];
}

small : (d : Defect) → kind_of d < 7
small (NotPositive i) = omega arith
small (SameSide i j) = omega arith
small NeighborCount = omega arith
small (WrongNeighbor i j) = omega arith
small (Stray i) = omega arith
small (Unlisted i j) = omega arith
small (Bent i j) = omega arith

pub no_defect : (m : ReadMesh) → ((e : Defect) → kind_of e < 7 → ¬ HasDefect m e) → IsVerdict m Sound
no_defect m none d = none d (small d)
