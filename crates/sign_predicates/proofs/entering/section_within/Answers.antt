use Rattle.std.proofs.Common.{◌∙◌, sym}
use Rattle.sign_predicates.proofs.Meets.{not_true}
use Rattle.sign_predicates.proofs.entering.section_within.Goals as goal
use Rattle.sign_predicates.proofs.entering.section_within.Goals.{then-crosses_from, else-crosses_from, then-crosses_from-2, else-crosses_from-2}

pub returns-then-crosses_from-3 : goal.returns-then-crosses_from-3
returns-then-crosses_from-3 c = elim c.if-crosses_from-2.branch [
  | then-crosses_from-2 w ↦ elim c.if-crosses_from.branch [
    | then-crosses_from v ↦ (
      λ h. record {
        from_a = c.crosses_from.ensures.0 v.if-crosses_from.true;
        from_b = v.crosses_from-then-crosses_from.ensures.0 (sym v.value-is ∙ w.if-crosses_from-2.true);
        from_c = w.crosses_from-then-crosses_from-2.ensures.0 (sym w.value-is ∙ c.if-crosses_from-3.true);
        from_d = c.crosses_from-then-crosses_from-3.ensures.0 h;
      },
      λ k. c.crosses_from-then-crosses_from-3.ensures.1 k.from_d,
    )
    | else-crosses_from v ↦ absurd (not_true (sym v.if-crosses_from.false ∙ sym v.value-is ∙ w.if-crosses_from-2.true))
  ]
  | else-crosses_from-2 w ↦ absurd (not_true (sym w.if-crosses_from-2.false ∙ sym w.value-is ∙ c.if-crosses_from-3.true))
]

pub returns-else-crosses_from-3 : goal.returns-else-crosses_from-3
returns-else-crosses_from-3 c = (
  λ h. absurd (not_true (sym c.if-crosses_from-3.false ∙ h)),
  λ k. elim c.if-crosses_from-2.branch [
    | then-crosses_from-2 w ↦ w.value-is ∙ w.crosses_from-then-crosses_from-2.ensures.1 k.from_c
    | else-crosses_from-2 w ↦ elim c.if-crosses_from.branch [
      | then-crosses_from v ↦ absurd (not_true (sym w.if-crosses_from-2.false ∙ v.value-is ∙ v.crosses_from-then-crosses_from.ensures.1 k.from_b))
      | else-crosses_from v ↦ absurd (not_true (sym v.if-crosses_from.false ∙ c.crosses_from.ensures.1 k.from_a))
    ]
  ],
)
