-- Points that are looked up one after another.
use Rattle.std.proofs.Common.{◌≡◌, ◌≢◌, ℕ, ◌+◌, ◌<◌, ◌≤◌, List, length, take, Option, Some, None, cond, sym, ap, subst, ◌∙◌, arith, inl, inr}
use Rattle.std.proofs.lemmas.Bool.{cases_lt}
use Rattle.std.proofs.lemmas.List.{length-take-le, get_or-take}
use Rattle.sign_predicates.specs.Point.{Point, origin}
use Rattle.geo_laws.specs.Delaunay.{point, HasDistinctPoints}
use Rattle.node_files.proofs.Folds.{taken}
use Rattle.node_files.proofs.KnownPlaces.{Key, key, same_key, Knows, knows_none, knows_more, unknown_new, known_equal}
use Rattle.refining.specs.Addable.{IsFirstRepeated}

-- the points before a place are known by their coordinates, and any two of them differ
pub record AreNew (look : Key → Option ℕ) (ps : List Point) (i : ℕ) : Type 0 where
  pub knows : Knows look (take i ps)
  pub distinct : (a b : ℕ) → a < b → b < i → point ps a ≢ point ps b

pub new_none : (look : Key → Option ℕ) (ps : List Point) → ((q : Key) → look q ≡ None) → AreNew look ps 0
new_none look ps none = record { knows = knows_none look none; distinct = λ a b l m. absurd (omega arith) }

before : (ps : List Point) (i k : ℕ) → k < i → point (take i ps) k ≡ point ps k
before ps i k lt = get_or-take i ps k origin lt

-- one point more, that is not known
pub new_more : (look look' : Key → Option ℕ) (ps : List Point) (i n : ℕ) (p : Point) → AreNew look ps i → i < length ps → point ps i ≡ p → n ≡ i → look (key p) ≡ None
    → ((q : Key) → look' q ≡ cond (same_key (key p) q) (Some n) (look q)) → AreNew look' ps (i + 1)
new_more look look' ps i n p h lt is count unknown updates =
    let long : length (take i ps) ≡ i = length-take-le i ps (omega arith) in record {
      knows = subst (Knows look') (sym (taken ps i p lt is))
          (knows_more look look' (take i ps) p h.knows unknown (λ q. updates q ∙ ap (λ (m : ℕ). cond (same_key (key p) q) (Some m) (look q)) (count ∙ sym long)));
      distinct = λ a b l m. elim (cases_lt b i) [
        | inl less ↦ h.distinct a b l less
        | inr le ↦
            let e : b ≡ i = omega arith in
            let low : a < i = omega arith in
            λ same. unknown_new look (take i ps) p h.knows unknown a (omega arith) (before ps i a low ∙ same ∙ ap (point ps) e ∙ is)
      ];
    }

-- a point that is known is equal to an earlier one
pub new_again : (look : Key → Option ℕ) (ps : List Point) (i v : ℕ) (p : Point) → AreNew look ps i → i < length ps → point ps i ≡ p → look (key p) ≡ Some v → IsFirstRepeated ps i
new_again look ps i v p h lt is found =
    let known = known_equal look (take i ps) p v h.knows found in
    let long : length (take i ps) ≡ i = length-take-le i ps (omega arith) in
    let low = known.0 in
    let less : v < i = omega arith in record {
      within = lt;
      first = v;
      earlier = less;
      equal = sym (before ps i v less) ∙ known.1 ∙ sym is;
      before = h.distinct;
    }

pub new_all : (look : Key → Option ℕ) (ps : List Point) (i : ℕ) → AreNew look ps i → length ps ≤ i → HasDistinctPoints ps
new_all look ps i h le a b l m = h.distinct a b l (omega arith)
