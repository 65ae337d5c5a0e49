-- What a caller hands to a run in memory, and the texts that the run leaves, one after another.
use Rattle.std.specs.Prelude.{◌≡◌, ◌⊎◌, ℕ, ◌-◌, ◌^◌, ◌<◌, List, [], ◌∷◌, length, map, Option, Some, None}
use Rattle.std.specs.List.{flat_map, fold}
use Rattle.std.specs.FinMap as map
use Rattle.tet_ports.specs.Calls.{fresh_calls}
use Rattle.tet_ports.specs.MemFolder.{MemoryFiles}
use Rattle.tet_ports.specs.MemSink.{MemoryBytes}
use Rattle.memory_runs.specs.declared.handing.RunFault.{RunFault}
use Rattle.memory_runs.specs.declared.handing.RunFault.TheVariants.{NoRoom, NoMemory}
use Rattle.memory_runs.specs.declared.ran.Ran.{Ran}
use Rattle.memory_runs.specs.declared.texts.Slice.{Slice}
use Rattle.memory_runs.specs.declared.texts.Text.{Text}

-- ---- what is handed in

abbrev pub bytes_of : Slice → List ℕ
bytes_of slice = slice.bytes.now

-- a folder with no file, of which no call is to fail
abbrev pub no_files : MemoryFiles
no_files = record { files = map.empty; fetches = fresh_calls; stores = fresh_calls; kept = 0 }

-- a sink that has taken nothing, of which no call is to fail
abbrev pub no_bytes : MemoryBytes
no_bytes = record { bytes = []; puts = fresh_calls; kept = 0; wants = 0 }

-- the folder with one more file
abbrev pub with_text : MemoryFiles → Text → MemoryFiles
with_text folder file = record folder { files = map.insert folder.files file.name.now file.bytes.now }

-- the folder that has these files alone, of equal names the last
abbrev pub folder_of : List Text → MemoryFiles
folder_of files = fold with_text no_files files

-- ---- what is left

-- the text of a file, where the folder has it
abbrev pub text_in : MemoryFiles → Slice → Option (List ℕ)
text_in folder name = map.get folder.files name.bytes.now

-- the lines and the messages of a run, and each of these files as its folder has it in the end
abbrev pub texts_left : Ran → List Slice → List (Option (List ℕ))
texts_left ran wanted = Some ran.memory.out.bytes ∷ Some ran.memory.err.bytes ∷ map (text_in ran.memory.folder) wanted

-- the length of a text, and 2^64 - 1 for a file that is not there
abbrev pub length_of : Option (List ℕ) → ℕ
length_of None = 2 ^ 64 - 1
length_of (Some text) = length text

abbrev pub bytes_in : Option (List ℕ) → List ℕ
bytes_in None = []
bytes_in (Some text) = text

-- the texts, one behind another
abbrev pub joined : List (Option (List ℕ)) → List ℕ
joined texts = flat_map bytes_in texts

-- there is less room for these lengths or for these bytes, of which there are so many
abbrev pub IsShort : List ℕ → List ℕ → ℕ → ℕ → RunFault → Type 0
IsShort lengths bytes lengths_room room (NoRoom count) = (count ≡ length bytes) × ((lengths_room < length lengths) ⊎ (room < count))
IsShort lengths bytes lengths_room room NoMemory = ⊥
