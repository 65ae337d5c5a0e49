-- The regular mesh of a list: what its parts give, and that it is the only one.
use Rattle.std.proofs.Common.{◌≡◌, ◌≢◌, inl, inr, ℕ, zero, suc, ◌+◌, ◌<◌, ℤ, pos, List, [], ◌∷◌, length, map, get_or, Result, Ok, Err, refl, sym, ap, subst, ◌∙◌, arith, lit≤, eq-eqb}
use Rattle.std.specs.Prelude.{All}
use Rattle.std.specs.List.{range_with_len}
use Rattle.std.proofs.lemmas.Bool.{cases_lt, cond-true}
use Rattle.std.proofs.lemmas.List.{get_or_past, get_or-map, length-map}
use Rattle.sign_predicates.specs.Point.{Point}
use Rattle.sign_predicates.specs.Weighted.{IsWeight}
use Rattle.geo_laws.specs.Delaunay.{all_numbers, IsDelaunayList, delaunay_rows}
use Rattle.geo_laws.specs.declared.tetrahedra.Tet.{Tet}
use Rattle.geo_laws.proofs.Ascending.{ascending-same}
use Rattle.geo_laws.proofs.Corners.{all_within}
use Rattle.geo_laws.proofs.DelaunayList.{delaunay_list_is}
use Rattle.geo_laws.proofs.Members.{at_place, contains_of, member_of}
use Rattle.node_files.specs.Folding.{IsFolded}
use Rattle.node_files.specs.declared.table.NodeTable.{NodeTable}
use Rattle.node_files.proofs.Folds.{name_below, names_long}
use Rattle.weighted_mesh.specs.Weights.{weight_of, weights_behind, all_of, weights_of}
use Rattle.weighted_mesh.specs.declared.weight_fault.WeightFault.{WeightFault}
use Rattle.weighted_mesh.specs.declared.weight_fault.WeightFault.TheVariants as read
use Rattle.weighted_mesh.specs.Regular.{weight, AreWeightsOf, IsRegularList}
use Rattle.weighted_mesh.proofs.Weighted.{law_weighted_cover, law_no_weights}
use Rattle.weighted_mesh.specs.Hidden.{hidden_count}
use Rattle.weighted_mesh.specs.Laws.{RegularListLaw, OneAnswerLaw}
use Rattle.weighted_mesh.specs.Meshing.{kept_weights, IsRegularMeshOf, HasNoRegularMesh}
use Rattle.weighted_mesh.specs.declared.regular_fault.RegularFault.{RegularFault}
use Rattle.weighted_mesh.specs.declared.regular_fault.RegularFault.TheVariants as faults
use Rattle.weighted_mesh.specs.declared.of_table.RegularMesh.{RegularMesh}
use Rattle.weighted_mesh.proofs.Marking.{hidden_or_corner}

-- ---- the list

-- two regular lists have the same rows
one_list : (ps : List Point) (ws : List ℤ) (rows others : List Tet) → IsRegularList ps ws rows → IsRegularList ps ws others → rows ≡ others
one_list ps ws rows others h k =
    ascending-same rows others h.ascending k.ascending
    (λ t m. member_of others t ((k.exactly t).1 ((h.exactly t).0 (contains_of rows t m)))) (λ t m. member_of rows t ((h.exactly t).1 ((k.exactly t).0 (contains_of others t m))))

pub regular_list_law : RegularListLaw
regular_list_law = record {
  triangulation = λ ps ws rows list. law_weighted_cover ps ws (all_numbers ps) (all_within ps) rows list;
  only = one_list;
  hidden = hidden_or_corner;
}

-- without weights it is the Delaunay list
pub list_without_weights : (ps : List Point) (ws : List ℤ) (rows : List Tet) → ((i : ℕ) → weight ws i ≡ pos 0) → IsRegularList ps ws rows → rows ≡ delaunay_rows ps
list_without_weights ps ws rows none list =
    let same = law_no_weights ps ws (all_numbers ps) (all_within ps) none in
    let delaunay : IsDelaunayList ps rows = record {
      exactly = λ t. (λ c. (same t).0 ((list.exactly t).0 c), λ d. (list.exactly t).1 ((same t).1 d));
      ascending = list.ascending;
    } in
    delaunay_list_is ps rows delaunay

-- ---- the kept points

-- names are places among the listed points
pub names_inside : (table : NodeTable) (ws : List ℤ) → IsFolded table.listed table.points table.names table.folded → length ws ≡ length table.listed → All (λ i. i < length ws) table.names
names_inside table ws h long k d lt =
    let below = name_below table.listed table.points table.names table.folded h (get_or table.names k d) (at_place table.names k d lt) in
    omega arith

-- a weight of the list is small, and so is 0
small_weight : (ws : List ℤ) → All IsWeight ws → (i : ℕ) → IsWeight (weight ws i)
small_weight ws small i =
    elim (cases_lt i (length ws)) [
      | inl lt ↦ small i (pos 0) lt
      | inr le ↦ subst IsWeight (sym (get_or_past ws i (pos 0) le)) zero_small
    ]
  where
    zero_small : IsWeight (pos 0)
    zero_small = lit≤ tt

-- each kept point has a small weight
pub kept_have_weights : (table : NodeTable) (ws kept : List ℤ) → IsFolded table.listed table.points table.names table.folded → All IsWeight ws
    → kept ≡ map (weight ws) table.names → AreWeightsOf table.points kept
kept_have_weights table ws kept h small is = record {
  each = ap (λ (xs : List ℤ). length xs) is ∙ length-map table.names (weight ws) ∙ names_long table.listed table.points table.names table.folded h;
  small = subst (All IsWeight) (sym is) (λ k d lt.
      let there : k < length table.names = omega (arith, length-map table.names (weight ws)) in
      subst IsWeight (sym (get_or-map (weight ws) table.names k 0 d there)) (small_weight ws small (get_or table.names k 0)));
}

-- ---- no weights

-- the weights of a list are read in one way
one_reading : (r : Result (List ℤ) WeightFault) (ws vs : List ℤ) → r ≡ Ok ws → r ≡ Ok vs → ws ≡ vs
one_reading r ws vs a b = cc

-- where the points have no attributes, all weights are 0
zeros : (table : NodeTable) → table.attribute_count ≡ 0 → (n low : ℕ) → (ws : List ℤ) × (all_of (map (weight_of table) (range_with_len low n)) ≡ Ok ws) × ((i : ℕ) → weight ws i ≡ pos 0)
unfolding all_of
zeros table none zero low = ([], refl, λ i. refl)
zeros table none (suc n) low =
    let later = zeros table none n (low + 1) in
    let others = map (weight_of table) (range_with_len (low + 1) n) in
    let first : weight_of table low ≡ Ok (pos 0) = cond-true _ _ _ (eq-eqb table.attribute_count 0 none) in
    (pos 0 ∷ later.0, ap (λ r. all_of (r ∷ others)) first ∙ ap (weights_behind (pos 0 ∷ [])) later.1, zero_first later.0 later.2)
  where
    zero_first : (ws : List ℤ) → ((i : ℕ) → weight ws i ≡ pos 0) → (i : ℕ) → weight (pos 0 ∷ ws) i ≡ pos 0
    zero_first ws all zero = refl
    zero_first ws all (suc i) = all i

-- so are those of the kept ones
pub no_weights : (table : NodeTable) (ws kept : List ℤ) → table.attribute_count ≡ 0 → weights_of table ≡ Ok ws → kept ≡ map (weight ws) table.names → (i : ℕ) → weight kept i ≡ pos 0
no_weights table ws kept none is same i =
    let all = zeros table none (length table.listed) 0 in
    let known = one_reading (weights_of table) ws all.0 is all.1 in
    elim (cases_lt i (length table.names)) [
      | inl lt ↦
          ap (λ (vs : List ℤ). weight vs i) same ∙ get_or-map (weight ws) table.names i 0 (pos 0) lt
          ∙ ap (λ (vs : List ℤ). weight vs (get_or table.names i 0)) known ∙ all.2 (get_or table.names i 0)
      | inr le ↦
          let long = ap (λ (vs : List ℤ). length vs) same ∙ length-map table.names (weight ws) in
          get_or_past kept i (pos 0) (omega arith)
    ]

-- ---- one answer

-- they are not read and refused
no_clash : (r : Result (List ℤ) WeightFault) (ws : List ℤ) (fault : WeightFault) → r ≡ Ok ws → r ≡ Err fault → ⊥
no_clash r ws fault a b = cc

one_mesh : (table : NodeTable) (one two : RegularMesh) → IsRegularMeshOf table one → IsRegularMeshOf table two → one ≡ two
one_mesh table one two a b =
    let weights = one_reading (weights_of table) a.weights b.weights a.weights_are b.weights_are in
    let list = subst (λ ws. IsRegularList table.points (kept_weights table ws) two.rows) (sym weights) b.list in
    let rows = one_list table.points (kept_weights table a.weights) one.rows two.rows a.list list in
    let hidden = a.hidden ∙ ap (hidden_count (length table.points)) rows ∙ sym b.hidden in
    λ i. record { rows = rows i; hidden = hidden i }

mesh_or_fault : (table : NodeTable) (mesh : RegularMesh) (fault : RegularFault) → IsRegularMeshOf table mesh → HasNoRegularMesh table fault → fault ≢ faults.NoMemory → ⊥
mesh_or_fault table mesh (faults.Text fault) a b n = no_clash (weights_of table) a.weights (read.Text fault) a.weights_are b
mesh_or_fault table mesh (faults.TooHeavy line) a b n = no_clash (weights_of table) a.weights (read.TooHeavy line) a.weights_are b
mesh_or_fault table mesh faults.Flat a b n = a.solid b.2
mesh_or_fault table mesh faults.NoMemory a b n = n refl

same_refusal : (r : Result (List ℤ) WeightFault) (one two : WeightFault) → r ≡ Err one → r ≡ Err two → one ≡ two
same_refusal r one two a b = cc

one_fault : (table : NodeTable) (one two : RegularFault) → HasNoRegularMesh table one → HasNoRegularMesh table two → one ≢ faults.NoMemory → two ≢ faults.NoMemory → one ≡ two
one_fault table (faults.Text one) (faults.Text two) a b n m = let e = same_refusal (weights_of table) (read.Text one) (read.Text two) a b in cc
one_fault table (faults.Text one) (faults.TooHeavy two) a b n m = let e = same_refusal (weights_of table) (read.Text one) (read.TooHeavy two) a b in absurd (cc)
one_fault table (faults.Text one) faults.Flat a b n m = absurd (no_clash (weights_of table) b.0 (read.Text one) b.1 a)
one_fault table (faults.TooHeavy one) (faults.Text two) a b n m = let e = same_refusal (weights_of table) (read.TooHeavy one) (read.Text two) a b in absurd (cc)
one_fault table (faults.TooHeavy one) (faults.TooHeavy two) a b n m = let e = same_refusal (weights_of table) (read.TooHeavy one) (read.TooHeavy two) a b in cc
one_fault table (faults.TooHeavy one) faults.Flat a b n m = absurd (no_clash (weights_of table) b.0 (read.TooHeavy one) b.1 a)
one_fault table faults.Flat (faults.Text two) a b n m = absurd (no_clash (weights_of table) a.0 (read.Text two) a.1 b)
one_fault table faults.Flat (faults.TooHeavy two) a b n m = absurd (no_clash (weights_of table) a.0 (read.TooHeavy two) a.1 b)
one_fault table faults.Flat faults.Flat a b n m = refl
one_fault table faults.NoMemory two a b n m = absurd (n refl)
one_fault table one faults.NoMemory a b n m = absurd (m refl)

-- two answers are the same, but for want of memory
pub one_answer_law : OneAnswerLaw
one_answer_law table (Ok one) (Ok two) a b n m = ap Ok (one_mesh table one two a b)
one_answer_law table (Ok one) (Err two) a b n m = absurd (mesh_or_fault table one two a b (λ e. m (ap Err e)))
one_answer_law table (Err one) (Ok two) a b n m = absurd (mesh_or_fault table two one b a (λ e. n (ap Err e)))
one_answer_law table (Err one) (Err two) a b n m = ap Err (one_fault table one two a b (λ e. n (ap Err e)) (λ e. m (ap Err e)))
