-- Which runs on points are done.
use Rattle.std.proofs.Common.{◌≡◌, ◌⊎◌, inl, inr, ℕ, ◌<◌, ℤ, false, List, length, None, Some, Result, Ok, Err, refl, ap, sym, subst, ◌∙◌, arith}
use Rattle.tet_ports.specs.Counts.{Rose}
use Rattle.tet_ports.specs.Files.{Files, Holds, IsAbsent}
use Rattle.tet_text.specs.declared.fault.TextFault.{TextFault}
use Rattle.geo_laws.specs.Delaunay.{AreCoplanar}
use Rattle.grid_coords.specs.declared.grid.Grid.{Grid}
use Rattle.grid_coords.specs.declared.grid.Range.{Range}
use Rattle.node_files.specs.declared.limits.Limits.{Limits}
use Rattle.node_files.specs.Settling.{IsSettled}
use Rattle.node_files.specs.declared.node_text.NodeText.{NodeText}
use Rattle.node_files.specs.declared.table.NodeTable.{NodeTable}
use Rattle.plc_files.specs.Checks.{first_fault}
use Rattle.plc_files.specs.declared.fault.PlcFault.{PlcFault}
use Rattle.command_words.specs.Grammar.{words_fault}
use Rattle.command_words.specs.Meaning.{options_of}
use Rattle.command_words.specs.Names.{file_name}
use Rattle.command_words.specs.declared.options.Extension.TheVariants.{Node}
use Rattle.command_words.specs.declared.options.Options.{Options}
use Rattle.run_steps.specs.Faults.{status_of_weights}
use Rattle.run_steps.specs.Meshing.{IsUnbound, IsFlatRefusal, MeshOf, MeshedAnswer, OutputsOfRun, PointsMeshOf, grid_options}
use Rattle.run_steps.specs.Reading.{IsUsage, IsUnfetched, IsBadText, InputAnswer, InputOf, PointsAnswer, node_text_of, points_alone}
use Rattle.tet_ports.specs.Seen.{FolderSeen, SinkSeen}
use Rattle.run_steps.specs.declared.input.Input.{Input}
use Rattle.run_steps.specs.declared.mesh.Bound.{Bound}
use Rattle.run_steps.specs.declared.status.LimitKind.TheVariants.{Bytes, Points, Facets, Corners, Grid as OnGrid}
use Rattle.run_steps.specs.declared.status.Status.{Status}
use Rattle.run_steps.specs.declared.status.Status.TheVariants.{Done, Usage, Missing, ReadFault, BadText, Limit, Flat, WriteFault, NoMemory}
use Rattle.weighted_mesh.specs.Meshing.{HasNoRegularMesh}
use Rattle.weighted_mesh.specs.Weights.{weights_of}
use Rattle.weighted_mesh.specs.declared.regular_fault.RegularFault.{RegularFault}
use Rattle.weighted_mesh.specs.declared.regular_fault.RegularFault.TheVariants.{Text, TooHeavy, Flat as FlatPoints, NoMemory as WantsMemory}
use Rattle.weighted_mesh.specs.declared.weight_fault.WeightFault.{WeightFault}
use Rattle.tetgen_run.specs.Ends.{HasNoFault}
use Rattle.tetgen_run.specs.Run.{AnswerBy, IsMeshAnswer}
use Rattle.run_laws.specs.Complete.{IsGoodFile, PointsCompleteLaw, WeightsCompleteLaw}

usage : (words : List (List ℕ)) → words_fault words ≡ None → (status : Status) → IsUsage words status → status ≡ NoMemory
usage words none (Usage word place) e = absurd (never (word, place) (sym none ∙ e))
  where
    never : (p : ℕ × ℕ) → None ≡ Some p → ⊥
    never p e = cc
usage words none NoMemory u = refl
usage words none status u = elim u [ ]

flat : (bound : Bound) → ¬ AreCoplanar bound.table.points → (status : Status) → IsFlatRefusal bound status → status ≡ NoMemory
flat bound apart Flat u = absurd (apart u)
flat bound apart NoMemory u = refl
flat bound apart status u = elim u [ ]

-- points on their grid are refused for want of memory alone
abbrev AreMeshed : Limits → Options → NodeText → Type 0
AreMeshed limits options nodes =
    (bound : Bound) → IsSettled limits nodes (grid_options options) bound.table → (status : Status) → PointsMeshOf options.weighted options bound (Err status) → status ≡ NoMemory

module _ (limits : Limits) (options : Options) (no_complex : options.piecewise ≡ false) (folder : FolderSeen) (told : Files) (tells : folder.files_before ≡ Some told) (good : IsGoodFile limits options told)
    (quiet : ¬ Rose folder.read_faults_before folder.read_faults_now) (meshes : AreMeshed limits options good.nodes) where
  same_bytes : (bytes : List ℕ) → Holds folder.files_before (file_name options.base Node) bytes → bytes ≡ good.bytes
  same_bytes bytes h = some bytes good.bytes (sym (subst (λ files. Holds files (file_name options.base Node) bytes) tells h) ∙ good.there)
    where
      some : (x y : List ℕ) → Some x ≡ Some y → x ≡ y
      some x y e = cc

  unfetched : (status : Status) → IsUnfetched limits folder (file_name options.base Node) status → status ≡ NoMemory
  unfetched (Missing missing) (e, absent) = absurd (never (sym (subst (λ files. IsAbsent files (file_name options.base Node) folder.misses_before folder.misses_now) tells absent) ∙ good.there))
    where
      never : None ≡ Some good.bytes → ⊥
      never e = cc
  unfetched (ReadFault failed) (e, rose) = absurd (quiet rose)
  unfetched (Limit (Bytes long most)) (e, (bytes, held, over), told) =
      let same = same_bytes bytes held in
      let few = good.few_bytes in
      let over' = subst (λ bs. limits.bytes < length bs) same over in
      absurd (omega arith)
  unfetched NoMemory u = refl
  unfetched status u = elim u [ ]

  unread : (bytes : List ℕ) → bytes ≡ good.bytes → (status : Status) → IsBadText (file_name options.base Node) (node_text_of bytes) status → status ≡ NoMemory
  unread bytes same (BadText bad fault) (e, is) = absurd (never (sym is ∙ ap node_text_of same ∙ good.read))
    where
      never : (let r : Result NodeText TextFault = Err fault in r) ≡ Ok good.nodes → ⊥
      never e = cc
  unread bytes same NoMemory u = refl
  unread bytes same status u = elim u [ ]

  no_points : (status : Status) → PointsAnswer limits folder options.base (Err status) → status ≡ NoMemory
  no_points status (inl u) = unfetched status u
  no_points status (inr (bytes, read, u)) = unread bytes (same_bytes bytes read.0) status u

  the_points : (nodes : NodeText) → PointsAnswer limits folder options.base (Ok nodes) → nodes ≡ good.nodes
  the_points nodes (bytes, read, is) = ok nodes good.nodes (sym is ∙ ap node_text_of (same_bytes bytes read.0) ∙ good.read)
    where
      ok : (x y : NodeText) → (let r : Result NodeText TextFault = Ok x in r) ≡ Ok y → x ≡ y
      ok x y e = cc

  unbound : (status : Status) → IsUnbound limits options (points_alone good.nodes) status → status ≡ NoMemory
  unfolding first_fault
  unbound (Limit (Points count most)) u = let many = u.many in let few = good.few_points in absurd (omega arith)
  unbound (Limit (Facets count most)) (few, u) = let many = u.many in absurd (omega arith)
  unbound (Limit (Corners line count most)) (few, u) = absurd (no_long u.long)
    where
      no_long : {fault : PlcFault} → (let r : Result (Unit {0}) PlcFault = Ok tt in r) ≡ Err fault → ⊥
      no_long e = cc
  unbound (Limit (OnGrid line)) (small, u) = absurd (never (sym u.off ∙ good.on_grid))
    where
      never : {range : Range} → (let r : Result Grid Range = Err range in r) ≡ Ok good.grid → ⊥
      never e = cc
  unbound NoMemory u = refl
  unbound status u = elim u [ ]

  meshed : (status : Status) → MeshedAnswer limits options (points_alone good.nodes) (Err status) → status ≡ NoMemory
  meshed status (inl u) = unbound status u
  meshed status (inr (bound, on, inl u)) = meshes bound on.0 status (subst (λ p. MeshOf p options bound (Err status)) no_complex u)
  meshed status (inr (bound, on, inr (mesh, made, e))) = e

  no_input : (status : Status) → InputOf limits false folder options (Err status) → status ≡ NoMemory
  no_input status (inl u) = no_points status u
  no_input status (inr (nodes, read, e)) = e

  the_input : (input : Input) → InputOf limits false folder options (Ok input) → input ≡ points_alone good.nodes
  the_input input (nodes, read, is) = is ∙ ap points_alone (the_points nodes read)

  pub after_words : (status : Status) → InputAnswer limits folder options (Err status) ⊎ ((input : Input) × InputAnswer limits folder options (Ok input) × MeshedAnswer limits options input (Err status)) → status ≡ NoMemory
  after_words status (inl u) = no_input status (subst (λ p. InputOf limits p folder options (Err status)) no_complex u)
  after_words status (inr (input, read, u)) =
      let is = the_input input (subst (λ p. InputOf limits p folder options (Ok input)) no_complex read) in
      meshed status (subst (λ i. MeshedAnswer limits options i (Err status)) is u)

refused : (limits : Limits) (words : List (List ℕ)) (folder : FolderSeen) (told : Files) → words_fault words ≡ None → (options_of words).piecewise ≡ false → folder.files_before ≡ Some told → (good : IsGoodFile limits (options_of words) told)
    → ¬ Rose folder.read_faults_before folder.read_faults_now → AreMeshed limits (options_of words) good.nodes → (status : Status) → OutputsOfRun limits words folder (Err status) → status ≡ NoMemory
refused limits words folder told none no_complex tells good quiet meshes status (inl u) = usage words none status u
refused limits words folder told none no_complex tells good quiet meshes status (inr (options, is, rest)) =
    after_words limits (options_of words) no_complex folder told tells good quiet meshes status
    (subst (λ o. InputAnswer limits folder o (Err status) ⊎ ((input : Input) × InputAnswer limits folder o (Ok input) × MeshedAnswer limits o input (Err status))) is.1 rest)

mesh_answer : (limits : Limits) (words : List (List ℕ)) (folder : FolderSeen) (out : SinkSeen) → HasNoFault folder out → ((status : Status) → OutputsOfRun limits words folder (Err status) → status ≡ NoMemory)
    → (status : Status) → IsMeshAnswer limits words folder out status → (status ≡ Done) ⊎ (status ≡ NoMemory)
mesh_answer limits words folder out quiet none Done u = inl refl
mesh_answer limits words folder out quiet none (WriteFault None) u = absurd (quiet.2 u.2)
mesh_answer limits words folder out quiet none (WriteFault (Some name)) u = absurd (quiet.1 u.2)
mesh_answer limits words folder out quiet none NoMemory u = inr refl
mesh_answer limits words folder out quiet none status u = inr (none status u)

pub points_complete : PointsCompleteLaw
points_complete limits words folder out told none asked tells good quiet status answer =
    let options = options_of words in
    let meshes : AreMeshed limits options good.nodes = λ bound on stop u. flat bound (good.in_space bound.table on) stop (subst (λ w. PointsMeshOf w options bound (Err stop)) asked.no_weights u) in
    mesh_answer limits words folder out quiet (refused limits words folder told none asked.no_complex tells good quiet.0 meshes) status
    (subst (λ b. AnswerBy limits b words folder out status) asked.no_check answer)

-- ---- weights

weighed : (table : NodeTable) → ¬ AreCoplanar table.points → (weights : List ℤ) → weights_of table ≡ Ok weights → (fault : RegularFault) → HasNoRegularMesh table fault → fault ≡ WantsMemory
weighed table apart weights is (Text fault) u = absurd (never (sym u ∙ is))
  where
    never : {cause : WeightFault} → (let r : Result (List ℤ) WeightFault = Err cause in r) ≡ Ok weights → ⊥
    never e = cc
weighed table apart weights is (TooHeavy line) u = absurd (never (sym u ∙ is))
  where
    never : {cause : WeightFault} → (let r : Result (List ℤ) WeightFault = Err cause in r) ≡ Ok weights → ⊥
    never e = cc
weighed table apart weights is FlatPoints u = absurd (apart u.2)
weighed table apart weights is WantsMemory u = refl

pub weights_complete : WeightsCompleteLaw
weights_complete limits words folder out told none asked tells good weighs quiet status answer =
    let options = options_of words in
    let meshes : AreMeshed limits options good.nodes = λ bound on stop u.
    let of_weights = subst (λ w. PointsMeshOf w options bound (Err stop)) asked.weights u in
    let weights = weighs bound.table on in
    of_weights.1 ∙ ap (status_of_weights (file_name options.base Node)) (weighed bound.table (good.in_space bound.table on) weights.0 weights.1 of_weights.0 of_weights.2) in
    mesh_answer limits words folder out quiet (refused limits words folder told none asked.no_complex tells good quiet.0 meshes) status
    (subst (λ b. AnswerBy limits b words folder out status) asked.no_check answer)
