use Rattle.std.proofs.Common.{◌≡◌, ap, sym, ◌∙◌, Some, List, ◌∷◌, ℕ, Bool, true, false, cond, eqb}
use Rattle.std.specs.Ordering.{nat_cmp}
use Rattle.std.proofs.lemmas.Cmp.{nat_list_cmp_total}
use Rattle.std.specs.Cmp.Lexicographic.{slice_cmp, texts_ties}
use Rattle.std.specs.FinMap as map
use Rattle.std.specs.FinMap.{find, get-from_entries}
use Rattle.std.specs.VecDeque.Iter.{deque_iter_rest}
use Rattle.tet_ports.proofs.mem_folder.MemFolder.get.Goals as goal
use lib.Pointwise.{pointwise}

-- the comparison of two texts decides whether an entry is the one looked for
find-cons : (q k v : List ℕ) (es : List (List ℕ × List ℕ)) (b : Bool) → b ≡ pointwise eqb q k → find (slice_cmp nat_cmp) q ((k, v) ∷ es) ≡ cond b (Some v) (find (slice_cmp nat_cmp) q es)
find-cons q k v es b e = ap (λ t. cond t (Some v) (find (slice_cmp nat_cmp) q es)) (sym (e ∙ texts_ties q k))

pub loop-entry-init : goal.loop-entry-init
loop-entry-init c =
    ap (λ s. map.get s.files c.args.name.now) (sym c.self.view_is)
    ∙ get-from_entries nat_list_cmp_total _ _
    ∙ ap (find (slice_cmp nat_cmp) c.args.name.now) (sym c.into_iter-entry-iterator.ensures.into_iter_gives.0)

pub returns-then-eq-clause-found : goal.returns-then-eq-clause-found
returns-then-eq-clause-found c =
    let same : true ≡ pointwise eqb c.args.name.now c.in-Some.entry.now.0 = cc in
    c.loop-entry.invariant ∙ ap (find (slice_cmp nat_cmp) c.args.name.now) c.in-Some.ensures.steps ∙ find-cons c.args.name.now c.in-Some.entry.now.0 c.in-Some.entry.now.1 (deque_iter_rest c.next.new.self) true same

pub loop-entry-preserved : goal.loop-entry-preserved
loop-entry-preserved c =
    let other : false ≡ pointwise eqb c.args.name.now c.in-Some.entry.now.0 = cc in
    c.loop-entry.invariant ∙ ap (find (slice_cmp nat_cmp) c.args.name.now) c.in-Some.ensures.steps ∙ find-cons c.args.name.now c.in-Some.entry.now.0 c.in-Some.entry.now.1 (deque_iter_rest c.next.new.self) false other
