-- The content of the first line, and what stands after that line.
use Rattle.std.proofs.Common.{◌≡◌, ℕ, suc, ◌<◌, ◌+◌, Bool, true, false, List, [], ◌∷◌, length, get_or, refl, sym, ap, ◌∙◌, subst, inl, inr, arith}
use Rattle.std.specs.List.{position_or_len, before_first, after_first}
use Rattle.std.proofs.lemmas.Bool.{cases_Bool, eqb-true}
use Rattle.tet_text.specs.Lines.{is_line_feed, is_comment_mark, content_of}
use Rattle.tet_text.specs.Contents.{ends_content}

before_yes : (p : ℕ → Bool) (x : ℕ) (xs : List ℕ) → p x ≡ true → before_first p (x ∷ xs) ≡ []
before_yes p x xs passes = rw passes refl

before_no : (p : ℕ → Bool) (x : ℕ) (xs : List ℕ) → p x ≡ false → before_first p (x ∷ xs) ≡ x ∷ before_first p xs
before_no p x xs fails = let e : 1 + position_or_len p xs ≡ suc (position_or_len p xs) = omega arith in rw (fails, e) refl

after_yes : (p : ℕ → Bool) (x : ℕ) (xs : List ℕ) → p x ≡ true → after_first p (x ∷ xs) ≡ xs
after_yes p x xs passes = rw passes refl

after_no : (p : ℕ → Bool) (x : ℕ) (xs : List ℕ) → p x ≡ false → after_first p (x ∷ xs) ≡ after_first p xs
after_no p x xs fails = let e : 1 + position_or_len p xs + 1 ≡ suc (position_or_len p xs + 1) = omega arith in rw (fails, e) refl

place_yes : (p : ℕ → Bool) (x : ℕ) (xs : List ℕ) → p x ≡ true → position_or_len p (x ∷ xs) ≡ 0
place_yes p x xs passes = rw passes refl

place_no : (p : ℕ → Bool) (x : ℕ) (xs : List ℕ) → p x ≡ false → position_or_len p (x ∷ xs) ≡ suc (position_or_len p xs)
place_no p x xs fails = let e : 1 + position_or_len p xs ≡ suc (position_or_len p xs) = omega arith in rw fails e

feed_is_no_mark : (x : ℕ) → is_line_feed x ≡ true → is_comment_mark x ≡ false
feed_is_no_mark x feed = rw (eqb-true x 10 feed) refl

ends_at_feed : (x : ℕ) → is_line_feed x ≡ true → ends_content x ≡ true
ends_at_feed x feed = rw feed refl

ends_at_mark : (x : ℕ) → is_line_feed x ≡ false → is_comment_mark x ≡ true → ends_content x ≡ true
ends_at_mark x other mark = rw (other, mark) refl

goes_on : (x : ℕ) → is_line_feed x ≡ false → is_comment_mark x ≡ false → ends_content x ≡ false
goes_on x other plain = rw (other, plain) refl

pub content_is_before : (xs : List ℕ) → before_first ends_content xs ≡ content_of (before_first is_line_feed xs)
content_is_before [] = refl
content_is_before (x ∷ xs) =
    let line = before_first is_line_feed xs in
    elim (cases_Bool (is_line_feed x)) [
      | inl feed ↦ before_yes ends_content x xs (ends_at_feed x feed) ∙ sym (ap content_of (before_yes is_line_feed x xs feed))
      | inr other ↦ elim (cases_Bool (is_comment_mark x)) [
        | inl mark ↦
            before_yes ends_content x xs (ends_at_mark x other mark)
            ∙ sym (ap content_of (before_no is_line_feed x xs other) ∙ before_yes is_comment_mark x line mark)
        | inr plain ↦
            before_no ends_content x xs (goes_on x other plain) ∙ ap (λ (t : List ℕ). x ∷ t) (content_is_before xs)
            ∙ sym (ap content_of (before_no is_line_feed x xs other) ∙ before_no is_comment_mark x line plain)
      ]
    ]

abbrev IsMark : List ℕ → Bool → ℕ → Type 0
IsMark xs is k = is_comment_mark (get_or xs k 0) ≡ is

-- a line feed or no byte ends the content
pub behind_content : (xs : List ℕ) (k : ℕ) → k ≡ position_or_len ends_content xs → (k < length xs → IsMark xs false k)
    → after_first ends_content xs ≡ after_first is_line_feed xs
behind_content [] k place no_mark = refl
behind_content (x ∷ xs) k place no_mark =
    elim (cases_Bool (is_line_feed x)) [
      | inl feed ↦ after_yes ends_content x xs (ends_at_feed x feed) ∙ sym (after_yes is_line_feed x xs feed)
      | inr other ↦ elim (cases_Bool (is_comment_mark x)) [
        | inl mark ↦
            let e = place ∙ place_yes ends_content x xs (ends_at_mark x other mark) in
            let none : is_comment_mark x ≡ false = subst (IsMark (x ∷ xs) false) e (no_mark (omega arith)) in
            absurd cc
        | inr plain ↦
            let e = place ∙ place_no ends_content x xs (goes_on x other plain) in
            let next = behind_content xs (position_or_len ends_content xs) refl
            (λ lt. subst (IsMark (x ∷ xs) false) e (no_mark (omega arith))) in
            after_no ends_content x xs (goes_on x other plain) ∙ next ∙ sym (after_no is_line_feed x xs other)
      ]
    ]

-- a comment mark ends the content
pub behind_comment : (xs : List ℕ) (k : ℕ) → k ≡ position_or_len ends_content xs → k < length xs → IsMark xs true k
    → after_first is_line_feed (after_first ends_content xs) ≡ after_first is_line_feed xs
behind_comment [] k place lt is = absurd (omega arith)
behind_comment (x ∷ xs) k place lt is =
    elim (cases_Bool (is_line_feed x)) [
      | inl feed ↦
          let e = place ∙ place_yes ends_content x xs (ends_at_feed x feed) in
          let mark : is_comment_mark x ≡ true = subst (IsMark (x ∷ xs) true) e is in
          let none = feed_is_no_mark x feed in
          absurd cc
      | inr other ↦ elim (cases_Bool (is_comment_mark x)) [
        | inl mark ↦ ap (after_first is_line_feed) (after_yes ends_content x xs (ends_at_mark x other mark))
            ∙ sym (after_no is_line_feed x xs other)
        | inr plain ↦
            let e = place ∙ place_no ends_content x xs (goes_on x other plain) in
            let next = behind_comment xs (position_or_len ends_content xs) refl (omega arith) (subst (IsMark (x ∷ xs) true) e is) in
            ap (after_first is_line_feed) (after_no ends_content x xs (goes_on x other plain))
            ∙ next ∙ sym (after_no is_line_feed x xs other)
      ]
    ]
