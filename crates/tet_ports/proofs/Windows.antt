-- What was seen in a part of some calls was seen in all of them: counts never fall, and a fetch changes no file.
use Rattle.std.proofs.Common.{◌≡◌, ◌≤◌, ℕ, List, Option, Some, None, refl, subst, ◌∙◌, arith}
use Rattle.tet_ports.specs.Counts.{Rose}
use Rattle.tet_ports.specs.Files.{Files, IsAbsent}
use Rattle.tet_ports.specs.Seen.{FolderSeen, FolderState, IsOnlyRead, folder_seen}

-- the part begins with the same files, not earlier, and ends not later
pub record IsWithin (part wide : FolderSeen) : Type 0 where
  pub files : part.files_before ≡ wide.files_before
  pub faults_before : wide.read_faults_before ≤ part.read_faults_before
  pub faults_now : part.read_faults_now ≤ wide.read_faults_now
  pub misses_before : wide.misses_before ≤ part.misses_before
  pub misses_now : part.misses_now ≤ wide.misses_now

rose_wider : (a b c d : ℕ) → c ≤ a → b ≤ d → Rose a b → Rose c d
rose_wider a b c d h k r = omega arith

absent_wider : (files : Option Files) (name : List ℕ) (a b c d : ℕ) → c ≤ a → b ≤ d → IsAbsent files name a b → IsAbsent files name c d
absent_wider None name a b c d h k r = rose_wider a b c d h k r
absent_wider (Some told) name a b c d h k r = r

-- a failed fetch in the part is one in all
pub rose_within : (part wide : FolderSeen) → IsWithin part wide → Rose part.read_faults_before part.read_faults_now → Rose wide.read_faults_before wide.read_faults_now
rose_within part wide w h = rose_wider part.read_faults_before part.read_faults_now wide.read_faults_before wide.read_faults_now w.faults_before w.faults_now h

-- a file that was absent in the part was absent in all
pub absent_within : (part wide : FolderSeen) → IsWithin part wide → (name : List ℕ) → IsAbsent part.files_before name part.misses_before part.misses_now
    → IsAbsent wide.files_before name wide.misses_before wide.misses_now
absent_within part wide w name h =
    subst (λ (files : Option Files). IsAbsent files name wide.misses_before wide.misses_now) w.files
    (absent_wider part.files_before name part.misses_before part.misses_now wide.misses_before wide.misses_now w.misses_before w.misses_now h)

module _ {F : Type 0} (state : F → FolderState) where
  abbrev seen : F → F → FolderSeen
  seen = folder_seen state

  -- the calls from a to b are a part of those from s to e, where between the others files are fetched alone
  pub within_of : (s a b e : F) → IsOnlyRead (seen s a) → IsOnlyRead (seen b e) → IsWithin (seen a b) (seen s e)
  within_of s a b e h k = record { files = h.0; faults_before = h.2; faults_now = k.2; misses_before = h.3; misses_now = k.3 }

  -- the first calls are a part of all
  pub first_within : (s b e : F) → IsOnlyRead (seen b e) → IsWithin (seen s b) (seen s e)
  first_within s b e k = record { files = cc; faults_before = omega arith; faults_now = k.2; misses_before = omega arith; misses_now = k.3 }

  -- so are the last
  pub last_within : (s a e : F) → IsOnlyRead (seen s a) → IsWithin (seen a e) (seen s e)
  last_within s a e h = record { files = h.0; faults_before = h.2; faults_now = omega arith; misses_before = h.3; misses_now = omega arith }

  -- between a folder and itself nothing was stored
  pub only_read_refl : (s : F) → IsOnlyRead (seen s s)
  only_read_refl s = (refl, refl, omega arith, omega arith)

  -- two spans in which files were fetched alone are one such span
  pub only_read_trans : (s m e : F) → IsOnlyRead (seen s m) → IsOnlyRead (seen m e) → IsOnlyRead (seen s e)
  only_read_trans s m e h k = (k.0 ∙ h.0, k.1 ∙ h.1, omega (arith, h.2, k.2), omega (arith, h.3, k.3))
