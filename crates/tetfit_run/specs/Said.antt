-- What is put in two steps is put in both: the laws of `IsSaid`.
use Rattle.std.proofs.Common.{◌≡◌, ◌≤◌, inl, inr, ℕ, Bool, true, false, List, [], ◌∷◌, ◌++◌, refl, sym, ap, ◌∙◌, subst, arith}
use Rattle.std.proofs.lemmas.List.{append_assoc}
use Rattle.tet_ports.specs.Written.{PartlyPut, with_written}
use Rattle.tet_ports.specs.Seen.{IsMessagePut, SinkSeen, SinkState}
use Rattle.run_steps.proofs.Pieces.{nothing_put, partly_first, partly_second, piece_append, rose_later}
use Rattle.tetfit_run.specs.Stages.{IsCut, IsSaid, between, round_text, rounds_text, stage_text}
use Rattle.refining.specs.declared.watch.Round.{Round}

first_cut : (a b : List ℕ) (err : SinkSeen) → IsCut a err → IsCut (a ++ b) err
first_cut a b err h = (partly_first err.written_before err.written_now a b h.0, h.1)

second_cut : (a b : List ℕ) (old mid now : SinkState) → mid.written ≡ with_written old.written a → old.faults ≤ mid.faults
    → old.wants ≤ mid.wants → IsCut b (between mid now) → IsCut (a ++ b) (between old now)
second_cut a b old mid now e f w (p, inl r) = (
  partly_second old.written now.written a b (subst (λ s. PartlyPut s b now.written) e p),
  inl (rose_later mid.faults now.faults old.faults f r),
)
second_cut a b old mid now e f w (p, inr r) = (
  partly_second old.written now.written a b (subst (λ s. PartlyPut s b now.written) e p),
  inr (rose_later mid.wants now.wants old.wants w r),
)

clash : (b : Bool) → b ≡ true → b ≡ false → ⊥
clash b e n = cc

-- where nothing is put, no state changes
pub said_nothing : (b : Bool) (s : SinkState) → IsSaid b b [] s s
said_nothing b s = record {
  whole = λ e. (e, sym (nothing_put s.written));
  cut = λ e n. absurd (clash b e n);
  kept = λ e. refl;
  faults = omega arith;
  wants = omega arith;
}

-- what is put in two steps
pub said_both : (x y z : Bool) (a b : List ℕ) (old mid now : SinkState) → IsSaid x y a old mid → IsSaid y z b mid now
    → IsSaid x z (a ++ b) old now
said_both x true z a b old mid now p q =
    let first = p.whole refl in record {
      whole = λ e.
          let second = q.whole e in
          (first.0, second.1 ∙ ap (λ w. with_written w b) first.1 ∙ piece_append old.written a b);
      cut = λ e n. second_cut a b old mid now first.1 p.faults p.wants (q.cut refl n);
      kept = λ e. absurd (clash x first.0 e);
      faults = omega (arith, p.faults, q.faults);
      wants = omega (arith, p.wants, q.wants);
    }
said_both x false z a b old mid now p q =
    let same = q.kept refl in record {
      whole = λ e. absurd (clash false (q.whole e).0 refl);
      cut = λ e n. subst (λ s. IsCut (a ++ b) (between old s)) (sym same) (first_cut a b (between old mid) (p.cut e refl));
      kept = λ e. same ∙ p.kept e;
      faults = omega (arith, p.faults, q.faults);
      wants = omega (arith, p.wants, q.wants);
    }

stage_append : (says : Bool) (a b : List ℕ) → stage_text says a ++ stage_text says b ≡ stage_text says (a ++ b)
stage_append true a b = refl
stage_append false a b = refl

rounds_append : (a b : List Round) → rounds_text a ++ rounds_text b ≡ rounds_text (a ++ b)
rounds_append [] b = refl
rounds_append (r ∷ a) b = append_assoc (round_text r) (rounds_text a) (rounds_text b) ∙ ap (λ t. round_text r ++ t) (rounds_append a b)

-- the rounds of two steps
pub no_rounds : (says b : Bool) (s : SinkState) → IsSaid b b (stage_text says (rounds_text [])) s s
no_rounds true b s = said_nothing b s
no_rounds false b s = said_nothing b s

pub more_rounds : (says : Bool) (x y z : Bool) (a b : List Round) (old mid now : SinkState)
    → IsSaid x y (stage_text says (rounds_text a)) old mid
    → IsSaid y z (stage_text says (rounds_text b)) mid now → IsSaid x z (stage_text says (rounds_text (a ++ b))) old now
more_rounds says x y z a b old mid now p q =
    subst (λ t. IsSaid x z t old now) (stage_append says (rounds_text a) (rounds_text b) ∙ ap (stage_text says) (rounds_append a b))
    (said_both x y z (stage_text says (rounds_text a)) (stage_text says (rounds_text b)) old mid now p q)

-- all is put, or cut
pub said_put : (z : Bool) (text : List ℕ) (old now : SinkState) → IsSaid true z text old now → IsMessagePut text (between old now)
said_put true text old now p = inl (p.whole refl).1
said_put false text old now p = inr (p.cut refl refl)
