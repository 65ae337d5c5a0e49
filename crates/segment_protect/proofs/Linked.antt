-- Pieces that are linked to the last one before them with the same first end: one more, one less, and one point more.
use Rattle.std.proofs.Common.{◌≡◌, ◌≢◌, ◌⊎◌, inl, inr, ℕ, ◌+◌, ◌-◌, ◌<◌, ◌≤◌, List, [], ◌∷◌, ◌++◌, length, get_or, set, replicate, refl, ap, sym, subst, ◌∙◌, arith}
use Rattle.std.specs.Prelude.{slice_index}
use Rattle.std.proofs.lemmas.List.{length-set, get_or-set_same, get_or-set_other, get_or-replicate, length-replicate, get_or_append_left, get_or_push, length_push}
use Rattle.std.proofs.lemmas.List.Elements.{All-append, All-cons}
use Rattle.geo_laws.specs.declared.complex.Piece.{Piece}
use Rattle.segment_protect.specs.Passed.{IsLast, AreLinked}

-- lists that agree before a place
last_same : (ps qs : List Piece) (k v count : ℕ) → ((j : ℕ) (d : Piece) → j < k → get_or qs j d ≡ get_or ps j d) → IsLast ps k v count → IsLast qs k v count
last_same ps qs k v count same last = record {
  within = last.within;
  begins = λ d h. ap (λ p. p.a) (same (count - 1) d (let w = last.within in omega arith)) ∙ last.begins d h;
  no_later = λ j d h g e. last.no_later j d h g (ap (λ p. p.a) (sym (same j d g)) ∙ e);
}

longer : (pieces : List Piece) (p : Piece) (k v count : ℕ) → k ≤ length pieces → IsLast pieces k v count → IsLast (pieces ++ p ∷ []) k v count
longer pieces p k v count h = last_same pieces (pieces ++ p ∷ []) k v count (λ j d g. get_or_append_left pieces (p ∷ []) d j (omega arith))

shorter : (pieces : List Piece) (p : Piece) (k v count : ℕ) → k ≤ length pieces → IsLast (pieces ++ p ∷ []) k v count → IsLast pieces k v count
shorter pieces p k v count h = last_same (pieces ++ p ∷ []) pieces k v count (λ j d g. sym (get_or_append_left pieces (p ∷ []) d j (omega arith)))

-- the piece at the end is the last one that begins there
last_here : (pieces : List Piece) (p : Piece) → IsLast (pieces ++ p ∷ []) (length pieces + 1) p.a (length pieces + 1)
last_here pieces p = record {
  within = omega arith;
  begins = λ d h. (let e : length pieces + 1 - 1 ≡ length pieces = omega arith in ap (λ j. (get_or (pieces ++ p ∷ []) j d).a) e ∙ ap (λ q. q.a) (get_or_push pieces p d (length pieces) refl));
  no_later = λ j d h g. absurd (omega arith);
}

-- one that begins elsewhere is passed over
last_skips : (pieces : List Piece) (p : Piece) (v count : ℕ) → v ≢ p.a → IsLast pieces (length pieces) v count → IsLast (pieces ++ p ∷ []) (length pieces + 1) v count
last_skips pieces p v count other last =
    let was = longer pieces p (length pieces) v count (omega arith) last in
    record { within = (let w = last.within in omega arith); begins = was.begins; no_later = λ j d h g. by j d h (before_or_at j (length pieces) g) }
  where
    before_or_at : (j k : ℕ) → j < k + 1 → (j < k) ⊎ (j ≡ k)
    before_or_at j k h = grind arith

    by : (j : ℕ) (d : Piece) → count ≤ j → (j < length pieces) ⊎ (j ≡ length pieces) → (get_or (pieces ++ p ∷ []) j d).a ≢ v
    by j d h (inl g) = (longer pieces p (length pieces) v count (omega arith) last).no_later j d h g
    by j d h (inr e) = λ f. other (sym f ∙ ap (λ q. q.a) (get_or_push pieces p d j (sym e)))

-- and so is one at the end that is taken away
last_left : (pieces : List Piece) (p : Piece) (v count : ℕ) → v ≢ p.a → IsLast (pieces ++ p ∷ []) (length pieces + 1) v count → IsLast pieces (length pieces) v count
last_left pieces p v count other last = record {
  within = low;
  begins = λ d h. sym (ap (λ q. q.a) (get_or_append_left pieces (p ∷ []) d (count - 1) (let l = low in omega arith))) ∙ last.begins d h;
  no_later = λ j d h g e. last.no_later j d h (omega arith) (ap (λ q. q.a) (get_or_append_left pieces (p ∷ []) d j g) ∙ e);
}
  where
    at_most : (k c : ℕ) → c ≤ k + 1 → (c ≡ k + 1 → ⊥) → c ≤ k
    at_most k c h n = grind arith

    low : count ≤ length pieces
    low = at_most (length pieces) count last.within (λ e. other (sym (last.begins p (omega arith)) ∙ ap (λ q. q.a) (get_or_push pieces p p (count - 1) (omega arith))))

same_or_not : (a b : ℕ) → (a ≡ b) ⊎ (a ≢ b)
same_or_not a b = grind arith

before_or_last : (k n m : ℕ) → k < m → m ≡ n + 1 → (k < n) ⊎ (k ≡ n)
before_or_last k n m h e = grind arith

-- no pieces
pub linked_none : (n : ℕ) (latest : List ℕ) → latest ≡ replicate n 0 → AreLinked n [] [] latest
linked_none n latest is = record {
  points = ap length is ∙ length-replicate n 0;
  links = refl;
  ends = λ k d h. absurd (omega arith);
  begins = λ v h.
      let e = ap (λ xs. slice_index xs v) is ∙ get_or-replicate n v 0 0 h in
      record { within = omega arith; begins = λ d h. absurd (omega arith); no_later = λ j d h g. absurd (omega arith) };
  follows = λ k d h. absurd (omega arith);
}

module _ (n : ℕ) (pieces : List Piece) (earlier latest : List ℕ) (p : Piece) (e : ℕ) where
  -- a piece more, which is linked to the last one that begins where it does
  pub linked_push : p.a < n → e ≡ slice_index latest p.a → AreLinked n pieces earlier latest → AreLinked n (pieces ++ p ∷ []) (earlier ++ e ∷ []) (set latest p.a (length pieces + 1))
  linked_push inside is are = record {
    points = length-set latest p.a (length pieces + 1) ∙ are.points;
    links = (let l = are.links in let a = length_push earlier e in let b = length_push pieces p in omega arith);
    ends = All-append (λ q. q.a < n) pieces (p ∷ []) are.ends (All-cons (λ q. q.a < n) p [] inside (λ k d h. absurd (omega arith)));
    begins = λ v h. subst (λ k. IsLast (pieces ++ p ∷ []) k v (slice_index (set latest p.a (length pieces + 1)) v)) (sym (length_push pieces p)) (by v h (same_or_not v p.a));
    follows = λ k d h. link k d (before_or_last k (length pieces) (length (pieces ++ p ∷ [])) h (length_push pieces p));
  }
    where
      by : (v : ℕ) → v < n → (v ≡ p.a) ⊎ (v ≢ p.a) → IsLast (pieces ++ p ∷ []) (length pieces + 1) v (slice_index (set latest p.a (length pieces + 1)) v)
      by v h (inl s) =
          subst (λ u. IsLast (pieces ++ p ∷ []) (length pieces + 1) u (slice_index (set latest p.a (length pieces + 1)) u)) (sym s)
          (subst (IsLast (pieces ++ p ∷ []) (length pieces + 1) p.a) (sym (get_or-set_same latest p.a (length pieces + 1) 0 (let l = are.points in omega arith))) (last_here pieces p))
      by v h (inr o) = subst (IsLast (pieces ++ p ∷ []) (length pieces + 1) v) (sym (get_or-set_other latest p.a v (length pieces + 1) 0 o)) (last_skips pieces p v (slice_index latest v) o (are.begins v h))

      link : (k : ℕ) (d : Piece) → (k < length pieces) ⊎ (k ≡ length pieces) → IsLast (pieces ++ p ∷ []) k (get_or (pieces ++ p ∷ []) k d).a (slice_index (earlier ++ e ∷ []) k)
      link k d (inl h) =
          let l = are.links in
          subst (λ q. IsLast (pieces ++ p ∷ []) k q.a (slice_index (earlier ++ e ∷ []) k)) (sym (get_or_append_left pieces (p ∷ []) d k h))
          (subst (IsLast (pieces ++ p ∷ []) k (get_or pieces k d).a) (sym (get_or_append_left earlier (e ∷ []) 0 k (omega arith))) (longer pieces p k (get_or pieces k d).a (slice_index earlier k) (omega arith) (are.follows k d h)))
      link k d (inr s) =
          let l = are.links in
          subst (λ q. IsLast (pieces ++ p ∷ []) k q.a (slice_index (earlier ++ e ∷ []) k)) (sym (get_or_push pieces p d k (sym s)))
          (subst (IsLast (pieces ++ p ∷ []) k p.a) (sym (get_or_push earlier e 0 k (omega arith) ∙ is))
          (subst (λ j. IsLast (pieces ++ p ∷ []) j p.a (slice_index latest p.a)) (sym s) (longer pieces p (length pieces) p.a (slice_index latest p.a) (omega arith) (are.begins p.a inside))))

  -- the last piece is taken away
  pub linked_pop : AreLinked n (pieces ++ p ∷ []) (earlier ++ e ∷ []) latest → AreLinked n pieces earlier (set latest p.a e)
  linked_pop are = record {
    points = length-set latest p.a e ∙ are.points;
    links = long;
    ends = λ k d h. subst (λ q. q.a < n) (get_or_append_left pieces (p ∷ []) d k h) (are.ends k d (let l = length_push pieces p in omega arith));
    begins = λ v h. by v h (same_or_not v p.a);
    follows = λ k d h.
        shorter pieces p k (get_or pieces k d).a (slice_index earlier k) (omega arith)
        (subst (λ q. IsLast (pieces ++ p ∷ []) k q.a (slice_index earlier k)) (get_or_append_left pieces (p ∷ []) d k h)
        (subst (IsLast (pieces ++ p ∷ []) k (get_or (pieces ++ p ∷ []) k d).a) (get_or_append_left earlier (e ∷ []) 0 k (let l = long in omega arith))
        (are.follows k d (let l = length_push pieces p in omega arith))));
  }
    where
      long : length earlier ≡ length pieces
      long = let l = are.links in let a = length_push earlier e in let b = length_push pieces p in omega arith

      inside : p.a < n
      inside = subst (λ q. q.a < n) (get_or_push pieces p p (length pieces) refl) (are.ends (length pieces) p (let l = length_push pieces p in omega arith))

      by : (v : ℕ) → v < n → (v ≡ p.a) ⊎ (v ≢ p.a) → IsLast pieces (length pieces) v (slice_index (set latest p.a e) v)
      by v h (inl s) =
          subst (λ u. IsLast pieces (length pieces) u (slice_index (set latest p.a e) u)) (sym s)
          (subst (IsLast pieces (length pieces) p.a) (sym (get_or-set_same latest p.a e 0 (let l = are.points in let i = inside in omega arith)))
          (shorter pieces p (length pieces) p.a e (omega arith)
          (subst (λ q. IsLast (pieces ++ p ∷ []) (length pieces) q.a e) (get_or_push pieces p p (length pieces) refl)
          (subst (IsLast (pieces ++ p ∷ []) (length pieces) (get_or (pieces ++ p ∷ []) (length pieces) p).a) (get_or_push earlier e 0 (length pieces) long)
          (are.follows (length pieces) p (let l = length_push pieces p in omega arith))))))
      by v h (inr o) =
          subst (IsLast pieces (length pieces) v) (sym (get_or-set_other latest p.a v e 0 o))
          (last_left pieces p v (slice_index latest v) o (subst (λ k. IsLast (pieces ++ p ∷ []) k v (slice_index latest v)) (length_push pieces p) (are.begins v h)))

-- no piece begins at a new point
pub linked_point : (n : ℕ) (pieces : List Piece) (earlier latest : List ℕ) → AreLinked n pieces earlier latest → AreLinked (n + 1) pieces earlier (latest ++ 0 ∷ [])
linked_point n pieces earlier latest are = record {
  points = (let l = length_push latest 0 in let m = are.points in omega arith);
  links = are.links;
  ends = λ k d h. (let l = are.ends k d h in omega arith);
  begins = λ v h. by v (before_or_last v n (n + 1) h refl);
  follows = are.follows;
}
  where
    off : (j : ℕ) (d : Piece) (v : ℕ) → j < length pieces → v ≡ n → (get_or pieces j d).a ≢ v
    off j d v h e f = let l = are.ends j d h in omega arith

    by : (v : ℕ) → (v < n) ⊎ (v ≡ n) → IsLast pieces (length pieces) v (slice_index (latest ++ 0 ∷ []) v)
    by v (inl h) = subst (IsLast pieces (length pieces) v) (sym (get_or_append_left latest (0 ∷ []) 0 v (let l = are.points in omega arith))) (are.begins v h)
    by v (inr e) =
        subst (IsLast pieces (length pieces) v) (sym (get_or_push latest 0 0 v (let l = are.points in omega arith)))
        (record { within = omega arith; begins = λ d h. absurd (omega arith); no_later = λ j d h g. off j d v g e })
