-- Which checks of a mesh and which queries are done.
use Rattle.std.proofs.Common.{◌≡◌, ◌≢◌, ◌⊎◌, inl, inr, ℕ, ◌++◌, List, length, map, Option, None, Some, Result, Ok, refl, sym, subst}
use Rattle.std.specs.Prelude.{codes}
use Rattle.tet_ports.specs.Files.{Files, Holds, IsAbsent}
use Rattle.tet_ports.specs.Seen.{FolderSeen}
use Rattle.tet_text.specs.declared.fault.TextFault.{TextFault}
use Rattle.incidence.specs.declared.pairs.Across.{Across}
use Rattle.node_files.specs.LeastGrid.{point_on}
use Rattle.node_files.specs.declared.node_text.NodeText.{NodeText}
use Rattle.mesh_check.specs.Checking.{CheckAnswer}
use Rattle.mesh_check.specs.Reading.{FileAnswer, MeshAnswer, NeighborsAnswer, neighbors_in_text}
use Rattle.mesh_check.specs.declared.fault.CheckFault.TheVariants.{NoMemory as WantsMemory}
use Rattle.command_words.specs.Meaning.{options_of}
use Rattle.run_steps.specs.declared.status.Status.{Status}
use Rattle.run_steps.specs.declared.status.Status.TheVariants.{Done, NoMemory}
use Rattle.tetgen_run.specs.Run.{AnswerBy}
use Rattle.tetgen_run.proofs.Checks.{check_same}
use Rattle.tetwhere_run.specs.Centering.{CenteredTextAnswer}
use Rattle.tetwhere_run.specs.Locating.{LocateAnswer, answer_text}
use Rattle.tetwhere_run.specs.Run.{mesh_base_of, queries_of}
use Rattle.tetwhere_run.proofs.Complete.{answer_complete}
use Rattle.tetwhere_run.specs.declared.status.WhereStatus.{WhereStatus}
use Rattle.tetwhere_run.specs.declared.status.WhereStatus.TheVariants.{Done as Answered, Refused}
use Rattle.run_laws.specs.CompleteChecks.{Spells, SpellsNeighbors, IsSoundMesh, IsGoodQuery, CheckCompleteLaw, WhereCompleteLaw}

module _ (folder : FolderSeen) (told : Files) (tells : folder.files_before ≡ Some told) where
  -- what a file spells is what it answers
  spelt : {A : Type 0} (name : List ℕ) (reading : List ℕ → Result A TextFault) (a : A) → Spells told name reading a → FileAnswer folder name reading (Ok a)
  spelt name reading a (bytes, there, few, is) = (bytes, (subst (λ f. Holds f name bytes) (sym tells) there, few), is)

  spelt_neighbors : (base : List ℕ) (nodes : NodeText) (neighbors : Option (List Across)) → SpellsNeighbors told (base ++ codes ".neigh") nodes neighbors → NeighborsAnswer folder base nodes (Ok neighbors)
  spelt_neighbors base nodes None absent = subst (λ f. IsAbsent f (base ++ codes ".neigh") folder.misses_before folder.misses_now) (sym tells) absent
  spelt_neighbors base nodes (Some neighbors) there = spelt (base ++ codes ".neigh") (neighbors_in_text nodes) neighbors there

  sound_answer : (base : List ℕ) (decimals : Option ℕ) (mesh : IsSoundMesh told base decimals) → CheckAnswer folder base decimals (Ok (length mesh.text.rows))
  sound_answer base decimals mesh = (mesh.text, files_read, (mesh.points, mesh.on_grid, (refl, mesh.sound)))
    where
      files_read : MeshAnswer folder base (Ok mesh.text)
      files_read = (
        mesh.text.nodes,
        spelt (base ++ codes ".node") _ mesh.text.nodes mesh.node,
        (
          mesh.text.rows,
          spelt (base ++ codes ".ele") _ mesh.text.rows mesh.ele,
          (
            mesh.text.faces,
            spelt (base ++ codes ".face") _ mesh.text.faces mesh.face,
            (mesh.text.neighbors, spelt_neighbors base mesh.text.nodes mesh.text.neighbors mesh.neigh, refl),
          ),
        ),
      )

  query_answer : (base queries : List ℕ) (good : IsGoodQuery told base queries)
      → LocateAnswer folder base queries (Ok (answer_text (record { nodes = good.nodes; rows = good.rows; queries = good.list }) (record { grid = good.grid; points = map (point_on good.grid) good.nodes.decimals })))
  query_answer base queries good = (
    record { nodes = good.nodes; rows = good.rows; queries = good.list },
    (
      good.nodes,
      spelt (base ++ codes ".node") _ good.nodes good.node,
      (good.rows, spelt (base ++ codes ".ele") _ good.rows good.ele, (good.list, spelt queries _ good.list good.listed, refl)),
    ),
    (
      record { nodes = good.nodes; rows = good.rows; queries = good.list },
      unmoved,
      (
        record { grid = good.grid; points = map (point_on good.grid) good.nodes.decimals },
        record { few = good.few; grid = good.on_grid; points = refl },
        (tt, good.positive, refl),
      ),
    ),
  )
    where
      unmoved : CenteredTextAnswer (record { nodes = good.nodes; rows = good.rows; queries = good.list }) (Ok (record { nodes = good.nodes; rows = good.rows; queries = good.list }))
      unmoved = rw (good.on_grid) refl

-- ---- checks

wants : (status : Status) → (status ≡ NoMemory) ⊎ (status ≢ NoMemory)
wants NoMemory = inl refl
wants status = inr (λ e. cc)

pub check_complete : CheckCompleteLaw
check_complete limits words folder out told none asks tells mesh quiet status answer = go (wants status)
  where
    go : (status ≡ NoMemory) ⊎ (status ≢ NoMemory) → (status ≡ Done) ⊎ (status ≡ NoMemory)
    go (inl wanting) = inr wanting
    go (inr enough) =
        inl (check_same words folder out told tells quiet status Done enough (λ e. cc) (subst (λ b. AnswerBy limits b words folder out status) asks answer)
        (length mesh.text.rows, none, sound_answer folder told tells (options_of words).base (options_of words).decimals mesh))

-- ---- queries

query_wants : (status : WhereStatus) → (status ≡ Refused WantsMemory) ⊎ (status ≢ Refused WantsMemory)
query_wants (Refused WantsMemory) = inl refl
query_wants status = inr (λ e. cc)

pub where_complete : WhereCompleteLaw
where_complete words folder out told named tells good quiet status answer = go (query_wants status)
  where
    go : (status ≡ Refused WantsMemory) ⊎ (status ≢ Refused WantsMemory) → (status ≡ Answered) ⊎ (status ≡ Refused WantsMemory)
    go (inl wanting) = inr wanting
    go (inr enough) = inl (answer_complete words folder out status answer told tells quiet enough Answered (_, (named, query_answer folder told tells (mesh_base_of words) (queries_of words) good)))
