-- Weights that are read one after another.
use Rattle.std.proofs.Common.{◌≡◌, ℕ, suc, ◌+◌, ◌-◌, ◌<◌, ◌≤◌, ℤ, List, [], ◌∷◌, ◌++◌, map, length, get_or, zero, ◌*◌, Result, Ok, Err, false, refl, sym, ap, ◌∙◌, append_assoc, append-nil, arith}
use Rattle.std.specs.Prelude.{◌==◌}
use Rattle.std.proofs.lemmas.Bool.{cond-false}
use Rattle.std.proofs.lemmas.List.{get_or-map, get_or_default}
use Rattle.std.proofs.lemmas.Nat.{mul-le}
use Rattle.grid_coords.specs.declared.points.DecimalPoint.{DecimalPoint}
use Rattle.std.specs.List.{range_with_len}
use Rattle.node_files.specs.declared.table.NodeTable.{NodeTable}
use Rattle.weighted_mesh.specs.Weights.{weight_in, line_of_weight, first_attribute, weight_of, weights_behind, all_of, weights_of, ReadsWeights}
use Rattle.weighted_mesh.specs.declared.weight_fault.WeightFault.{WeightFault}
use Rattle.weighted_mesh.specs.declared.weight_fault.WeightFault.TheVariants as faults

behind-behind : (xs ys : List ℤ) (r : Result (List ℤ) WeightFault) → weights_behind xs (weights_behind ys r) ≡ weights_behind (xs ++ ys) r
behind-behind xs ys (Ok ws) = ap Ok (sym (append_assoc xs ys ws))
behind-behind xs ys (Err fault) = refl

behind-none : (r : Result (List ℤ) WeightFault) → weights_behind [] r ≡ r
behind-none (Ok ws) = refl
behind-none (Err fault) = refl

-- the weights of the points from the place i on, up to n
abbrev pub weights_from : NodeTable → ℕ → ℕ → Result (List ℤ) WeightFault
weights_from table n i = all_of (map (weight_of table) (range_with_len i (n - i)))

from_here : (n i : ℕ) → i < n → range_with_len i (n - i) ≡ i ∷ range_with_len (i + 1) (n - (i + 1))
from_here n i lt = let e : n - i ≡ suc (n - (i + 1)) = omega arith in ap (range_with_len i) e

-- none is read yet
pub none_read : (table : NodeTable) (n : ℕ) → all_of (map (weight_of table) (range_with_len 0 n)) ≡ weights_behind [] (weights_from table n 0)
none_read table n = let e : n ≡ n - 0 = omega arith in ap (λ (k : ℕ). all_of (map (weight_of table) (range_with_len 0 k))) e ∙ sym (behind-none _)

-- one more is read
pub one_read : (table : NodeTable) (n i : ℕ) (w : ℤ) (front : List ℤ) → i < n → weight_of table i ≡ Ok w
    → weights_behind front (weights_from table n i) ≡ weights_behind (front ++ w ∷ []) (weights_from table n (i + 1))
unfolding all_of
one_read table n i w front lt is =
    let later = map (weight_of table) (range_with_len (i + 1) (n - (i + 1))) in
    ap (λ ks. weights_behind front (all_of (map (weight_of table) ks))) (from_here n i lt) ∙ ap (λ r. weights_behind front (all_of (r ∷ later))) is
    ∙ behind-behind front (w ∷ []) (all_of later)

-- one is refused
pub one_refused : (table : NodeTable) (n i : ℕ) (fault : WeightFault) (front : List ℤ) → i < n → weight_of table i ≡ Err fault
    → weights_behind front (weights_from table n i) ≡ Err fault
unfolding all_of
one_refused table n i fault front lt is =
    let later = map (weight_of table) (range_with_len (i + 1) (n - (i + 1))) in
    ap (λ ks. weights_behind front (all_of (map (weight_of table) ks))) (from_here n i lt) ∙ ap (λ r. weights_behind front (all_of (r ∷ later))) is

-- all are read
pub all_read : (table : NodeTable) (n i : ℕ) (front : List ℤ) → n ≤ i → weights_behind front (weights_from table n i) ≡ Ok front
unfolding all_of
all_read table n i front le =
    let e : n - i ≡ 0 = omega arith in
    ap (λ (k : ℕ). weights_behind front (all_of (map (weight_of table) (range_with_len i k)))) e ∙ ap Ok (append-nil front)

-- a refusal that is not for want of memory is that of the first weight that is refused
pub refused : (table : NodeTable) (fault : WeightFault) → weights_of table ≡ Err fault → ReadsWeights table (Err fault)
refused table (faults.Text fault) is = is
refused table (faults.TooHeavy line) is = is
refused table faults.NoMemory is = tt

-- ---- where a weight stands

-- the first attribute of a listed point is one of the attributes
pub first_inside : (i n count total : ℕ) → i < n → (count ≡ 0 → ⊥) → total ≡ count * n → i * count < total
first_inside i n count total lt some is =
    let more = mul-le (i + 1) count n count (omega arith) (omega arith) in
    let apart : (i + 1) * count ≡ i * count + count = omega arith in
    let turned : count * n ≡ n * count = omega arith in
    let positive : 0 < count = positive_of count some in
    omega arith
  where
    positive_of : (count : ℕ) → (count ≡ 0 → ⊥) → 0 < count
    positive_of zero some = absurd (some refl)
    positive_of (suc count) some = omega arith

-- the weight of a listed point, by its line and its first attribute
pub weight_is : (table : NodeTable) (i : ℕ) (p : DecimalPoint) (text : List ℕ) (r : Result ℤ WeightFault) → i < length table.decimals → get_or table.decimals i p ≡ p
    → get_or table.attributes (i * table.attribute_count) text ≡ text → i * table.attribute_count < length table.attributes → (table.attribute_count == 0) ≡ false
    → r ≡ weight_in table.grid p.line text → r ≡ weight_of table i
weight_is table i p text r lt at first inside some is =
    let line : line_of_weight table i ≡ p.line = get_or-map (λ p. p.line) table.decimals i p 0 lt ∙ ap (λ (q : DecimalPoint). q.line) at in
    let word : first_attribute table i ≡ text = get_or_default table.attributes (i * table.attribute_count) [] text inside ∙ first in
    is ∙ ap (λ (l : ℕ). weight_in table.grid l text) (sym line) ∙ ap (weight_in table.grid (line_of_weight table i)) (sym word) ∙ sym (cond-false _ _ _ some)
