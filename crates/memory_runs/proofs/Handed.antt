-- Runs from a folder and two new streams, and their texts as they are handed over.
use Rattle.std.proofs.Common.{◌≡◌, ◌⊎◌, ℕ, ◌+◌, ◌<◌, List, length, map, take, Result, Ok, Err, IfOk, IfErr, ap, subst, ◌∙◌, arith}
use Rattle.std.proofs.lemmas.List.{length-map}
use Rattle.tet_ports.specs.MemFolder.{MemoryFiles}
use Rattle.tet_ports.specs.MemSink.{MemoryBytes}
use Rattle.run_steps.specs.Statuses.{code_of}
use Rattle.memory_runs.specs.Runs.{AreTextsOf, IsHandedOver, IsRunFault, IsRunOf, IsTextsFault, RunLaw, RunsTo}
use Rattle.memory_runs.specs.Texts.{IsShort, bytes_of, folder_of, joined, length_of, no_bytes, text_in, texts_left}
use Rattle.memory_runs.specs.declared.handing.HandedOver.{HandedOver}
use Rattle.memory_runs.specs.declared.handing.RunFault.{RunFault}
use Rattle.memory_runs.specs.declared.handing.RunFault.TheVariants.{NoRoom, NoMemory}
use Rattle.memory_runs.specs.declared.ran.Ran.{Ran}
use Rattle.memory_runs.specs.declared.texts.Slice.{Slice}
use Rattle.memory_runs.specs.declared.texts.Task.{Task}

-- what holds from a folder and a stream to which nothing was put
pub from_start : (P : MemoryFiles → MemoryBytes → Type 0) (folder before : MemoryFiles) (stream : MemoryBytes) → folder ≡ before → stream ≡ no_bytes → P folder stream → P before no_bytes
from_start P folder before stream folder_is stream_is h = subst (λ (f : MemoryFiles). P f no_bytes) folder_is (subst (λ (s : MemoryBytes). P folder s) stream_is h)

-- two streams, and the wanted files
texts_many : (ran : Ran) (wanted : List Slice) → length (map length_of (texts_left ran wanted)) ≡ length wanted + 2
texts_many ran wanted = omega (arith, length-map (map (text_in ran.memory.folder) wanted) length_of, length-map wanted (text_in ran.memory.folder))

module _ (ran : Ran) (wanted : List Slice) (made bytes : List ℕ) (made_are : made ≡ map length_of (texts_left ran wanted)) (bytes_are : bytes ≡ joined (texts_left ran wanted)) where
  many : length made ≡ length wanted + 2
  many = ap (λ (ns : List ℕ). length ns) made_are ∙ texts_many ran wanted

  -- the texts are at the front of the arrays
  pub texts_handed : (lengths room : List ℕ) (count code : ℕ) → code ≡ code_of ran.status → take (length made) lengths ≡ made → take count room ≡ bytes
      → AreTextsOf ran wanted (take (length wanted + 2) lengths) (take count room) code
  texts_handed lengths room count code code_is first second = record {
    code_is = code_is;
    lengths_are = subst (λ (n : ℕ). take n lengths ≡ map length_of (texts_left ran wanted)) many (first ∙ made_are);
    bytes_are = second ∙ bytes_are;
  }

  -- there is too little room
  pub texts_short : (lengths room : ℕ) (fault : RunFault) → IsShort made bytes lengths room fault → IsTextsFault ran wanted lengths room fault
  texts_short lengths room NoMemory h = tt
  texts_short lengths room (NoRoom count) h = record {
    counted = h.0 ∙ ap (λ (bs : List ℕ). length bs) bytes_are;
    more = subst (λ (n : ℕ). (lengths < n) ⊎ (room < count)) many h.1;
  }

-- a run of any program on the words and the folder of a task
module _ (Run : RunLaw) (task : Task) (words : List (List ℕ)) (before : MemoryFiles) (ran : Ran)
    (words_are : words ≡ map bytes_of task.words.now) (before_is : before ≡ folder_of task.files.now) (run : RunsTo Run words before ran) where
  run_of_task : IsRunOf Run task ran
  run_of_task =
      subst (λ (ws : List (List ℕ)). RunsTo Run ws (folder_of task.files.now) ran) words_are
      (subst (λ (f : MemoryFiles). RunsTo Run words f ran) before_is run)

  pub run_handed : (lengths room : List ℕ) (told : Result HandedOver RunFault)
      → IfOk told (λ made. AreTextsOf ran task.wanted.now (take (length task.wanted.now + 2) lengths) (take made.count room) made.code)
      → IfOk told (λ made. IsHandedOver Run task (take (length task.wanted.now + 2) lengths) (take made.count room) made.code)
  run_handed lengths room (Ok made) h = record { ran = ran; run = run_of_task; texts = h }
  run_handed lengths room (Err fault) h = h

  pub run_fault : (lengths room : ℕ) (told : Result HandedOver RunFault)
      → IfErr told (IsTextsFault ran task.wanted.now lengths room) → IfErr told (IsRunFault Run task lengths room)
  run_fault lengths room (Ok made) h = h
  run_fault lengths room (Err NoMemory) h = tt
  run_fault lengths room (Err (NoRoom count)) h = record { ran = ran; run = run_of_task; exceeds = h }
