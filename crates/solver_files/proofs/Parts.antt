-- Texts that are made part by part, and item by item.
use Rattle.std.proofs.Common.{◌≡◌, ◌++◌, ◌+◌, ◌<◌, ◌≤◌, ℕ, zero, suc, List, [], ◌∷◌, length, drop, get_or, Result, Ok, Err, sym, ap, subst, ◌∙◌, append_assoc, append-nil, add-one, drop-cons, arith}
use Rattle.std.specs.Prelude.{flat_map, OnOk}
use Rattle.std.specs.List.{enumerate_from}
use Rattle.std.proofs.lemmas.List.{at_drop_all}
use Rattle.solver_files.specs.Mesh.{copies, spaced}

-- ---- parts

-- a part behind those that were appended before
pub then_part : (old front mid new t : List ℕ) → mid ≡ old ++ front → new ≡ mid ++ t → new ≡ old ++ (front ++ t)
then_part old front mid new t first then = then ∙ ap (λ m. m ++ t) first ∙ append_assoc old front t

-- the last part, whose call is the last one
pub last_part : {X E : Type 0} (r : Result X E) (old front mid new t : List ℕ) → mid ≡ old ++ front → OnOk r (new ≡ mid ++ t) → OnOk r (new ≡ old ++ (front ++ t))
last_part (Ok x) old front mid new t first then = then_part old front mid new t first then
last_part (Err e) old front mid new t first then = tt

-- three fields, and the spaces between them
pub three_spaced : (x y z : List ℕ) → (((x ++ (32 ∷ [])) ++ y) ++ (32 ∷ [])) ++ z ≡ spaced (x ∷ y ∷ z ∷ [])
three_spaced x y z =
    append_assoc ((x ++ (32 ∷ [])) ++ y) (32 ∷ []) z
    ∙ append_assoc (x ++ (32 ∷ [])) y (32 ∷ z)
    ∙ append_assoc x (32 ∷ []) (y ++ (32 ∷ z))

pub place_part : {X E : Type 0} (r : Result X E) (old a b c d new x y z : List ℕ) → a ≡ old ++ x → b ≡ a ++ 32 ∷ [] → c ≡ b ++ y → d ≡ c ++ 32 ∷ [] → OnOk r (new ≡ d ++ z)
    → OnOk r (new ≡ old ++ spaced (x ∷ y ∷ z ∷ []))
place_part r old a b c d new x y z first one second two third =
    let begun = then_part old x a b (32 ∷ []) first one in
    let more = then_part old (x ++ (32 ∷ [])) b c y begun second in
    let yet = then_part old ((x ++ (32 ∷ [])) ++ y) c d (32 ∷ []) more two in
    subst (λ s. OnOk r (new ≡ old ++ s)) (three_spaced x y z) (last_part r old (((x ++ (32 ∷ [])) ++ y) ++ (32 ∷ [])) d new z yet third)

-- ---- items

-- the text of items, with their numbers from this one on
abbrev pub numbered_texts : {X : Type 0} → (ℕ → X → List ℕ) → ℕ → List X → List ℕ
numbered_texts f n xs = flat_map (λ r. f r.0 r.1) (enumerate_from n xs)

-- after the text of an item, the text so far and that of the items that are left still make up the whole
pub next_item : {X : Type 0} (f : X → List ℕ) (i : ℕ) (xs : List X) (x : X) (out new whole : List ℕ) → i < length xs → get_or xs i x ≡ x → new ≡ out ++ f x
    → out ++ flat_map f (drop i xs) ≡ whole → new ++ flat_map f (drop (i + 1) xs) ≡ whole
next_item f i xs x out new whole h e added left =
    let rest = flat_map f (drop (i + 1) xs) in
    let here : flat_map f (drop i xs) ≡ f x ++ rest =
    ap (flat_map f) (drop-cons xs i x h) ∙ ap (λ y. f y ++ flat_map f (drop (suc i) xs)) e ∙ ap (λ k. f x ++ flat_map f (drop k xs)) (sym (add-one i)) in
    ap (λ s. s ++ rest) added ∙ append_assoc out (f x) rest ∙ ap (λ s. out ++ s) (sym here) ∙ left

-- and so with their numbers
pub next_numbered : {X : Type 0} (f : ℕ → X → List ℕ) (n m i : ℕ) (xs : List X) (x : X) (out new whole : List ℕ) → m ≡ n + 1 → i < length xs → get_or xs i x ≡ x → new ≡ out ++ f n x
    → out ++ numbered_texts f n (drop i xs) ≡ whole → new ++ numbered_texts f m (drop (i + 1) xs) ≡ whole
next_numbered f n m i xs x out new whole is h e added left =
    let rest = numbered_texts f (n + 1) (drop (i + 1) xs) in
    let here : numbered_texts f n (drop i xs) ≡ f n x ++ rest =
    ap (numbered_texts f n) (drop-cons xs i x h) ∙ ap (λ y. f n y ++ numbered_texts f (n + 1) (drop (suc i) xs)) e
    ∙ ap (λ k. f n x ++ numbered_texts f (n + 1) (drop k xs)) (sym (add-one i)) in
    ap (λ k. new ++ numbered_texts f k (drop (i + 1) xs)) is ∙ ap (λ s. s ++ rest) added ∙ append_assoc out (f n x) rest ∙ ap (λ s. out ++ s) (sym here) ∙ left

-- after the last item
pub all_items : {X : Type 0} (f : List X → List ℕ) (i : ℕ) (xs : List X) (out whole : List ℕ) → f [] ≡ [] → length xs ≤ i → out ++ f (drop i xs) ≡ whole → out ≡ whole
all_items f i xs out whole none le left = sym (append-nil out) ∙ ap (λ t. out ++ t) (sym none ∙ sym (at_drop_all f xs i le)) ∙ left

-- the text of items and of others behind them
pub numbered_both : {X : Type 0} (f : ℕ → X → List ℕ) (n m : ℕ) (xs ys : List X) → m ≡ n + length xs → numbered_texts f n (xs ++ ys) ≡ numbered_texts f n xs ++ numbered_texts f m ys
numbered_both f n m [] ys is = ap (λ k. numbered_texts f k ys) (omega (arith, is))
numbered_both f n m (x ∷ xs) ys is =
    ap (λ s. f n x ++ s) (numbered_both f (n + 1) m xs ys (omega (arith, is)))
    ∙ sym (append_assoc (f n x) (numbered_texts f (n + 1) xs) (numbered_texts f m ys))

-- the two lists of points behind what is before them
pub both_parts : {X E : Type 0} (r : Result X E) (old front mid new s t whole : List ℕ) → s ++ t ≡ whole → mid ≡ old ++ (front ++ s) → OnOk r (new ≡ mid ++ t) → OnOk r (new ≡ old ++ (front ++ whole))
both_parts r old front mid new s t whole is first then =
    subst (λ u. OnOk r (new ≡ old ++ u)) (append_assoc front s t ∙ ap (λ u. front ++ u) is) (last_part r old (front ++ s) mid new t first then)

-- ---- copies

copies-push : (n : ℕ) (text : List ℕ) → copies n text ++ text ≡ text ++ copies n text
copies-push zero text = sym (append-nil text)
copies-push (suc n) text = append_assoc text (copies n text) text ∙ ap (λ s. text ++ s) (copies-push n text)

-- a copy more
pub next_copy : (n : ℕ) (text old mid new : List ℕ) → mid ≡ old ++ copies n text → new ≡ mid ++ text → new ≡ old ++ copies (n + 1) text
next_copy n text old mid new first then =
    then_part old (copies n text) mid new text first then ∙ ap (λ s. old ++ s) (copies-push n text ∙ ap (λ k. copies k text) (sym (add-one n)))
