-- Keys are in the order of their rows.
use Rattle.std.proofs.Common.{◌≡◌, ◌↔◌, ◌⊎◌, inl, inr, ℕ, ◌+◌, ◌/◌, ◌%◌, ◌<◌, ◌≤◌, List, [], ◌∷◌, ◌++◌, Option, map, length, sym, ap, subst, ◌∙◌, arith}
use Rattle.std.specs.Prelude.{AllPairs, Contains}
use Rattle.std.specs.List.{slice_index_or}
use Rattle.std.specs.Ordering.{nat_cmp}
use Rattle.std.specs.declared.cmp.Ordering.TheVariants.{Less}
use Rattle.std.proofs.lemmas.Bool.{cases_lt}
use Rattle.std.proofs.lemmas.List.{get_or-map, length-map, map_push}
use Rattle.geo_laws.specs.Delaunay.{RowBefore}
use Rattle.geo_laws.specs.declared.tetrahedra.Tet.{Tet as Row}
use Rattle.geo_laws.proofs.Members.{IsMember, contains_of, member_of, in_map, map_cases}
use Rattle.geo_laws.proofs.RowOrder.{by_last}
use Rattle.mesh_arena.specs.Mesh.{SlotValue}
use Rattle.point_locate.specs.Place.{IsAt}
use Rattle.cavity_insert.specs.Rows.{IsRowOf, AreRowsBelow, IsListOf}
use Rattle.cavity_insert.specs.RowKeys.{row_of_key}
use Rattle.cavity_insert.proofs.SlotRows.{rows_more}

-- of two numbers the lesser has a lesser front, or the same and a lesser last digit
by_digit : (x y : ℕ) → x < y → (x / 65536 < y / 65536) ⊎ (x / 65536 ≡ y / 65536) × (x % 65536 < y % 65536)
by_digit x y h = by (cases_lt (x / 65536) (y / 65536))
  where
    by : (x / 65536 < y / 65536) ⊎ (y / 65536 ≤ x / 65536) → (x / 65536 < y / 65536) ⊎ (x / 65536 ≡ y / 65536) × (x % 65536 < y % 65536)
    by (inl l) = inl l
    by (inr l) = inr (omega arith, omega arith)

-- so the lesser key has the lesser row
pub row_of_key_before : (x y : ℕ) → x < y → RowBefore (row_of_key x) (row_of_key y)
row_of_key_before x y h = by_d (by_digit x y h)
  where
    by_b : (m n : ℕ) → m < n → (m / 65536 < n / 65536) ⊎ (m / 65536 ≡ n / 65536) × ((m % 65536 < n % 65536) ⊎ (m % 65536 ≡ n % 65536) × (x % 65536 < y % 65536))
    by_b m n l = elim (by_digit m n l) [ inl k ↦ inl k | inr k ↦ inr (k.0, inl k.1) ]

    by_c : (m n : ℕ) → (m / 65536 < n / 65536) ⊎ (m / 65536 ≡ n / 65536) × (m % 65536 < n % 65536)
        → (m / 65536 / 65536 < n / 65536 / 65536) ⊎ (m / 65536 / 65536 ≡ n / 65536 / 65536)
        × ((m / 65536 % 65536 < n / 65536 % 65536) ⊎ (m / 65536 % 65536 ≡ n / 65536 % 65536) × ((m % 65536 < n % 65536) ⊎ (m % 65536 ≡ n % 65536) × (x % 65536 < y % 65536)))
    by_c m n (inl l) = elim (by_digit (m / 65536) (n / 65536) l) [ inl k ↦ inl k | inr k ↦ inr (k.0, inl k.1) ]
    by_c m n (inr l) = inr (ap (λ z. z / 65536) l.0, inr (ap (λ z. z % 65536) l.0, inl l.1))

    by_d : (x / 65536 < y / 65536) ⊎ (x / 65536 ≡ y / 65536) × (x % 65536 < y % 65536) → RowBefore (row_of_key x) (row_of_key y)
    by_d (inl l) = by_c (x / 65536) (y / 65536) (by_digit (x / 65536) (y / 65536) l)
    by_d (inr l) = inr (ap (λ z. z / 65536 / 65536) l.0, inr (ap (λ z. z / 65536 % 65536) l.0, inr (ap (λ z. z % 65536) l.0, l.1)))

pub rows_ascend : (keys : List ℕ) → AllPairs (λ x y. nat_cmp x y ≡ Less) keys → AllPairs RowBefore (map row_of_key keys)
rows_ascend keys ascending i j d h k =
    let inside : j < length keys = omega (arith, k, length-map keys row_of_key) in
    let first = get_or-map row_of_key keys i 0 d (omega arith) in
    let second = get_or-map row_of_key keys j 0 d inside in
    subst (λ s. RowBefore s (slice_index_or (map row_of_key keys) j d)) (sym first)
    (subst (RowBefore (row_of_key (slice_index_or keys i 0))) (sym second) (row_of_key_before _ _ (by_last _ _ (ascending i j 0 h inside))))

-- lists with the same keys have the same rows
pub rows_along : (xs ys : List ℕ) → ((key : ℕ) → Contains xs key → Contains ys key) → (row : Row) → Contains (map row_of_key xs) row → Contains (map row_of_key ys) row
rows_along xs ys same row c =
    let found : (key : ℕ) × IsMember key xs × (row ≡ row_of_key key) = map_cases row_of_key row xs (member_of (map row_of_key xs) row c) in
    subst (Contains (map row_of_key ys)) (sym found.2)
    (contains_of (map row_of_key ys) (row_of_key found.0) (in_map row_of_key found.0 ys (member_of ys found.0 (same found.0 (contains_of xs found.0 found.1)))))

pub same_rows : (xs ys : List ℕ) → ((key : ℕ) → Contains xs key ↔ Contains ys key) → (row : Row) → Contains (map row_of_key xs) row ↔ Contains (map row_of_key ys) row
same_rows xs ys same row = (rows_along xs ys (λ key. (same key).0) row, rows_along ys xs (λ key. (same key).1) row)

-- ---- the keys of the rows of a mesh

-- the next slot has a row with a key
pub keys_more : (slots : List (Option SlotValue)) (keys : List ℕ) (n key : ℕ) (row : Row) → row_of_key key ≡ row → IsAt slots (λ cs. IsRowOf cs row) n → AreRowsBelow slots (map row_of_key keys) n
    → AreRowsBelow slots (map row_of_key (keys ++ key ∷ [])) (n + 1)
keys_more slots keys n key row is at before =
    let pushed : map row_of_key (keys ++ key ∷ []) ≡ map row_of_key keys ++ row ∷ [] = map_push row_of_key keys key ∙ ap (λ r. map row_of_key keys ++ r ∷ []) is in
    subst (λ rows. AreRowsBelow slots rows (n + 1)) (sym pushed) (rows_more slots (map row_of_key keys) n row at before)

-- sorted, they have the rows sorted
pub list_of_keys : (keys kept : List ℕ) → ((key : ℕ) → Contains kept key ↔ Contains keys key) → AllPairs (λ x y. nat_cmp x y ≡ Less) kept → IsListOf (map row_of_key keys) (map row_of_key kept)
list_of_keys keys kept same ascending = record { exactly = same_rows kept keys same; ascending = rows_ascend kept ascending }
