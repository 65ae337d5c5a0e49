use Rattle.std.proofs.Common.{◌≡◌, ℕ, ◌+◌, List, [], ◌∷◌, ◌++◌, length, ap, sym, subst, ◌∙◌, arith}
use Rattle.std.proofs.lemmas.List.{map-append, map-id}
use Rattle.std.proofs.lemmas.List.FromFn.{map-range_with_len_more}
use Rattle.std.proofs.lemmas.List.Sorted.{IsPermutation-map}
use Rattle.std.specs.List.Sorted.{IsPermutation}
use Rattle.geo_laws.specs.Delaunay.{numbers_below}
use Rattle.cavity_insert.specs.Order.{turn_numbers}
use Rattle.cavity_insert.specs.declared.order.Turn.{Turn}
use Rattle.cavity_insert.proofs.order.insertion_order.Goals as goal

-- one number more
numbers_more : (n : ℕ) → numbers_below (n + 1) ≡ numbers_below n ++ n ∷ []
numbers_more n =
    sym (map-id (numbers_below (n + 1))) ∙ map-range_with_len_more (λ i. i) 0 n n (omega arith) ∙ ap (λ ns. ns ++ n ∷ []) (map-id (numbers_below n))

-- one turn more
turn_more : (ts us : List Turn) (t : Turn) (n : ℕ) → us ≡ ts ++ t ∷ [] → t.number ≡ n → turn_numbers ts ≡ numbers_below n → turn_numbers us ≡ numbers_below (n + 1)
turn_more ts us t n pushed number before =
    ap turn_numbers pushed ∙ map-append (λ (u : Turn). u.number) ts (t ∷ []) ∙ (λ j. before j ++ number j ∷ []) ∙ sym (numbers_more n)

pub loop-i-preserved : goal.loop-i-preserved
loop-i-preserved c =
    turn_more c.loop-i.turns.items c.push.new.self.items c.turn_of.result c.loop-i.i c.in_ok-push.ensures.items c.turn_of.ensures c.loop-i.invariant

pub returns : goal.returns
returns c =
    let all : c.loop-i.i ≡ length c.args.points.now = omega arith in
    subst (λ ns. IsPermutation ns (turn_numbers c.sort_unstable.new.self.items)) (c.loop-i.invariant ∙ ap numbers_below all)
    (IsPermutation-map (λ (t : Turn). t.number) c.loop-i.turns.items c.sort_unstable.new.self.items c.sort_unstable.ensures.permutation)
