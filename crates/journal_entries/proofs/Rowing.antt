-- A row more, and an entry more that is kept whole.
use Rattle.std.proofs.Common.{◌≡◌, ℕ, ◌+◌, ◌-◌, ◌<◌, ◌≤◌, suc, zero, List, [], ◌∷◌, ◌++◌, map, length, reverse, refl, sym, ap, ap₂, subst, ◌∙◌, arith, slice_index_or, take, Some, None}
use Rattle.std.specs.List.{AllByRecursion, slice_get}
use Rattle.std.proofs.Math.ListN.{length-append}
use Rattle.std.proofs.lemmas.List.{get_or_append_left, get_or_push, reverse-append}
use Rattle.poa_base.specs.declared.Entry.{Entry}
use Rattle.poa_base.specs.declared.Entry.TheVariants.{Abandon}
use Rattle.journal_entries.specs.declared.row.Row.{Row}
use Rattle.journal_entries.specs.declared.row.Row.TheVariants as row
use Rattle.journal_entries.specs.Rows.{AreWithin, IsWithin, entry_of}
use Rattle.journal_entries.proofs.Chunking.{all_turned, get_right, past_all}

-- a row stays within more
row_within : (n m : ℕ) → n ≤ m → (r : Row ℕ) → IsWithin n r → IsWithin m r
row_within n m more (row.Whole k) within = omega (arith, more, within)
row_within n m more (row.Entered conn) within = tt
row_within n m more (row.Filled conn size) within = tt
row_within n m more (row.Left conn) within = tt
row_within n m more (row.Collect conn r) within = tt
row_within n m more (row.Serve w r a) within = tt
row_within n m more (row.Run w) within = tt
row_within n m more (row.Done w) within = tt
row_within n m more (row.TakeOut w a x) within = tt
row_within n m more (row.Etherealized w x y) within = tt
row_within n m more (row.Abandon w) within = tt

within_more : (n m : ℕ) → n ≤ m → (rows : List (Row ℕ)) → AreWithin n rows → AreWithin m rows
within_more n m more [] within = tt
within_more n m more (r ∷ rows) within = (row_within n m more r within.0, within_more n m more rows within.1)

-- a row means the same where one more is kept whole
row_same : (wholes : List Entry) (e : Entry) (r : Row ℕ) → IsWithin (length wholes) r → entry_of (wholes ++ e ∷ []) r ≡ entry_of wholes r
row_same wholes e (row.Whole k) within = get_or_append_left wholes (e ∷ []) (Abandon 0) k within
row_same wholes e (row.Entered conn) within = refl
row_same wholes e (row.Filled conn size) within = refl
row_same wholes e (row.Left conn) within = refl
row_same wholes e (row.Collect conn r) within = refl
row_same wholes e (row.Serve w r a) within = refl
row_same wholes e (row.Run w) within = refl
row_same wholes e (row.Done w) within = refl
row_same wholes e (row.TakeOut w a x) within = refl
row_same wholes e (row.Etherealized w x y) within = refl
row_same wholes e (row.Abandon w) within = refl

rows_same : (wholes : List Entry) (e : Entry) (rows : List (Row ℕ)) → AreWithin (length wholes) rows
    → map (entry_of (wholes ++ e ∷ [])) rows ≡ map (entry_of wholes) rows
rows_same wholes e [] within = refl
rows_same wholes e (r ∷ rows) within = ap₂ (λ x xs. x ∷ xs) (row_same wholes e r within.0) (rows_same wholes e rows within.1)

rows_pushed : (wholes : List Entry) (rows : List (Row ℕ)) (r : Row ℕ)
    → map (entry_of wholes) (rows ++ r ∷ []) ≡ map (entry_of wholes) rows ++ entry_of wholes r ∷ []
rows_pushed wholes [] r = refl
rows_pushed wholes (x ∷ rows) r = ap (λ xs. entry_of wholes x ∷ xs) (rows_pushed wholes rows r)

pub within_brief : (n : ℕ) (rows rows' : List (Row ℕ)) (r : Row ℕ) → rows' ≡ rows ++ r ∷ [] → AreWithin n rows → IsWithin n r → AreWithin n rows'
within_brief n rows rows' r is within new = subst (AreWithin n) (sym is) (all_turned (IsWithin n) rows r within new)

module _ (wholes wholes' : List Entry) (rows rows' : List (Row ℕ)) (e : Entry) (at : ℕ) (kept : wholes' ≡ wholes ++ e ∷ [])
    (noted : rows' ≡ rows ++ row.Whole at ∷ []) (there : at ≡ length wholes)
    (within : AreWithin (length wholes) rows) where
  longer : length wholes' ≡ length wholes + 1
  longer = ap length kept ∙ length-append wholes (e ∷ [])

  pub within_whole : AreWithin (length wholes') rows'
  within_whole =
      subst (AreWithin (length wholes')) (sym noted)
      (all_turned (IsWithin (length wholes')) rows (row.Whole at)
      (within_more (length wholes) (length wholes') (let e = longer in omega (arith, e)) rows within) (let e = longer in omega (arith, e, there)))

  pub items_whole : map (entry_of wholes') rows' ≡ map (entry_of wholes) rows ++ e ∷ []
  items_whole =
      ap₂ (λ ws rs. map (entry_of ws) rs) kept noted
      ∙ (rows_pushed (wholes ++ e ∷ []) rows (row.Whole at)
      ∙ ap₂ (λ xs x. xs ++ x ∷ []) (rows_same wholes e rows within) (get_or_push wholes e (Abandon 0) at (sym there)))

-- the newest entry is the first of the history
pub newest : (h : List Entry) → slice_get (reverse h) (length (reverse h) - 1) ≡ slice_get h 0
newest [] = refl
newest (e ∷ past) =
    (let pushed : reverse (e ∷ past) ≡ reverse past ++ e ∷ [] = reverse-append (e ∷ []) past ∙ refl in
    let long = length-append (reverse past) (e ∷ []) in
    ap (λ es. slice_get es (length es - 1)) pushed
    ∙ (ap (slice_get (reverse past ++ e ∷ [])) (let n : length (reverse past ++ e ∷ []) - 1 ≡ length (reverse past) + 0 = omega (arith, long) in n)
    ∙ get_right (reverse past) (e ∷ []) 0))

-- what was taken of a list, and one more
pub taken_more : (es es' es'' : List Entry) (i : ℕ) (e : Entry) → es' ≡ take i es → es'' ≡ es' ++ e ∷ [] → Some e ≡ slice_get es i → es'' ≡ take (i + 1) es
taken_more es es' es'' i e had more here = more ∙ (ap (λ xs. xs ++ e ∷ []) had ∙ taken es i here)
  where
    taken : (xs : List Entry) (k : ℕ) → Some e ≡ slice_get xs k → take k xs ++ e ∷ [] ≡ take (k + 1) xs
    taken [] k is = absurd (let x : Some e ≡ None = is in cc)
    taken (x ∷ xs) zero is = ap (λ y. y ∷ []) (let same : Some e ≡ Some x = is in cc same)
    taken (x ∷ xs) (suc k) is = ap (λ ys. x ∷ ys) (taken xs k is) ∙ ap (λ n. take n (x ∷ xs)) (let n : suc (k + 1) ≡ suc k + 1 = omega arith in n)

pub none_here : (es : List Entry) (i : ℕ) → i < length es → None ≡ slice_get es i → ⊥
none_here es i below is = (let e = past_all es i (sym is) in absurd (omega (arith, e, below)))
