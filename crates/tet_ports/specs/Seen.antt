-- What a folder and a sink show of themselves before and after some calls.
use Rattle.std.specs.Prelude.{◌≡◌, ◌⊎◌, ◌≤◌, ℕ, List, Option}
use Rattle.tet_ports.specs.Counts.{Rose}
use Rattle.tet_ports.specs.Files.{Files}
use Rattle.tet_ports.specs.Written.{PartlyPut, with_written}

-- a folder: the files that it holds, where it tells them, and the counts of fetches that failed, of stores that failed, and of names that
-- were absent, where the files are not told
pub record FolderState : Type 0 where
  pub files : Option Files
  pub read_faults : ℕ
  pub write_faults : ℕ
  pub misses : ℕ

-- a sink: the bytes that it has taken, where it tells them, and the counts of its faults and of puts refused for want of memory
pub record SinkState : Type 0 where
  pub written : Option (List ℕ)
  pub faults : ℕ
  pub wants : ℕ

-- a folder before some calls and after them
pub record FolderSeen : Type 0 where
  pub files_before : Option Files
  pub files_now : Option Files
  pub read_faults_before : ℕ
  pub read_faults_now : ℕ
  pub write_faults_before : ℕ
  pub write_faults_now : ℕ
  pub misses_before : ℕ
  pub misses_now : ℕ

-- a sink before some calls and after them
pub record SinkSeen : Type 0 where
  pub written_before : Option (List ℕ)
  pub written_now : Option (List ℕ)
  pub faults_before : ℕ
  pub faults_now : ℕ
  pub wants_before : ℕ
  pub wants_now : ℕ

-- by what the folder shows of itself
abbrev pub folder_seen : {F : Type 0} → (F → FolderState) → F → F → FolderSeen
folder_seen state before now = record {
  files_before = (state before).files;
  files_now = (state now).files;
  read_faults_before = (state before).read_faults;
  read_faults_now = (state now).read_faults;
  write_faults_before = (state before).write_faults;
  write_faults_now = (state now).write_faults;
  misses_before = (state before).misses;
  misses_now = (state now).misses;
}

-- by what the sink shows of itself
abbrev pub sink_seen : {S : Type 0} → (S → SinkState) → S → S → SinkSeen
sink_seen state before now = record {
  written_before = (state before).written;
  written_now = (state now).written;
  faults_before = (state before).faults;
  faults_now = (state now).faults;
  wants_before = (state before).wants;
  wants_now = (state now).wants;
}

-- nothing was stored: the files and the count of failed stores are the same, and the counts of failed fetches and of absent files have
-- not fallen
abbrev pub IsOnlyRead : FolderSeen → Type 0
IsOnlyRead folder = (folder.files_now ≡ folder.files_before) × (folder.write_faults_now ≡ folder.write_faults_before)
    × (folder.read_faults_before ≤ folder.read_faults_now) × (folder.misses_before ≤ folder.misses_now)

-- the message is appended, or a prefix of it where the sink failed or wanted memory
abbrev pub IsMessagePut : List ℕ → SinkSeen → Type 0
IsMessagePut message err =
    (err.written_now ≡ with_written err.written_before message)
    ⊎ (PartlyPut err.written_before message err.written_now × (Rose err.faults_before err.faults_now ⊎ Rose err.wants_before err.wants_now))
