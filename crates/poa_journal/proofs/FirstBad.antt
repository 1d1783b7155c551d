-- Texts that begin alike are refused at the same line.
use Rattle.std.proofs.Common.{◌≡◌, ℕ, ◌+◌, ◌-◌, ◌≤◌, Bool, true, false, List, [], ◌∷◌, map, take, Option, Some, None, Result, Ok, Err, refl, ap, sym, ◌∙◌, arith, suc, zero, subst, cond}
use Rattle.poa_base.specs.declared.Entry.{Entry}
use Rattle.poa_base.specs.declared.Journal.{Journal}
use Rattle.poa_base.specs.declared.State.{State}
use Rattle.poa_base.specs.Store.{Place, Slots}
use Rattle.text_words.specs.Cuts.{words_of}
use Rattle.text_words.specs.Token.{spelled}
use Rattle.poa_journal.specs.Journal.{journal_lines, IsJournal, store_lines, IsStore}
use Rattle.poa_journal.specs.Reading.{entry_of}
use Rattle.poa_journal.specs.Row.{row_behind, row_words_of}
use Rattle.poa_journal.specs.Whole.{Front, is_above, row_above, put_row, after_row, at_line, rows_front, entry_at, put_entry, entries_of, head_of, run_of, numbered, with_entries, with_front, with_run, contents_of_lines, no_line, with_rows, all_rows}
use Rattle.poa_journal.proofs.PrintedBack.{journal_lines_back, store_lines_back}

entries_far_by : (n k : ℕ) (o : Option Entry) (more : Result (List Entry) ℕ) → ((j : ℕ) → more ≡ Err j → n + 1 ≤ j)
    → put_entry (entry_at n o) more ≡ Err k → n ≤ k
entries_far_by n k None more far h = let same : n ≡ k = cc in omega arith
entries_far_by n k (Some e) (Ok es) far h = cc
entries_far_by n k (Some e) (Err j) far h = let same : j ≡ k = cc in let later = far j refl in omega (arith, later)

-- a refused entry stands at the first line or later
entries_far : (n : ℕ) (ls : List (List ℕ)) (k : ℕ) → entries_of n ls ≡ Err k → n ≤ k
entries_far n [] k h = cc
entries_far n (l ∷ ls) k h = entries_far_by n k (entry_of (words_of l)) (entries_of (n + 1) ls) (λ j e. entries_far (n + 1) ls j e) h

entries_alike_by : (n k : ℕ) (o : Option Entry) (here there : Result (List Entry) ℕ) → (here ≡ Err k → there ≡ Err k)
    → put_entry (entry_at n o) here ≡ Err k → put_entry (entry_at n o) there ≡ Err k
entries_alike_by n k None here there alike h = h
entries_alike_by n k (Some e) (Ok es) there alike h = cc
entries_alike_by n k (Some e) (Err j) there alike h = ap (put_entry (Ok e)) (alike (let same : j ≡ k = cc in ap Err same))

-- lines with the same front up to the refused one
entries_alike : (n j : ℕ) (ls ms : List (List ℕ)) → entries_of n ls ≡ Err (n + j) → take (suc j) ls ≡ take (suc j) ms → entries_of n ms ≡ Err (n + j)
entries_alike n j [] ms h same = cc
entries_alike n j (l ∷ ls) [] h same = cc
entries_alike n zero (l ∷ ls) (m ∷ ms) h same =
    let first : l ≡ m = cc in
    subst (λ (x : List ℕ). put_entry (entry_at n (entry_of (words_of x))) (entries_of (n + 1) ms) ≡ Err (n + 0)) first
    (entries_alike_by n (n + 0) (entry_of (words_of l)) (entries_of (n + 1) ls) (entries_of (n + 1) ms)
    (λ e. let far = entries_far (n + 1) ls (n + 0) e in absurd (omega (arith, far))) h)
entries_alike n (suc j) (l ∷ ls) (m ∷ ms) h same =
    let first : l ≡ m = cc in
    let rest : take (suc j) ls ≡ take (suc j) ms = cc in
    let moved : n + suc j ≡ n + 1 + j = omega arith in
    subst (λ (x : List ℕ). put_entry (entry_at n (entry_of (words_of x))) (entries_of (n + 1) ms) ≡ Err (n + suc j)) first
    (entries_alike_by n (n + suc j) (entry_of (words_of l)) (entries_of (n + 1) ls) (entries_of (n + 1) ms)
    (λ e. entries_alike (n + 1) j ls ms (e ∙ ap Err moved) rest ∙ ap Err (sym moved)) h)

-- a reader of the lines behind the rows, whose refusal follows from the lines up to the refused one
pub record IsTail {X : Type 0} (tail : ℕ → List (List ℕ) → Result X ℕ) : Type 0 where
  pub far : (n : ℕ) (ls : List (List ℕ)) (k : ℕ) → tail n ls ≡ Err k → n ≤ k
  pub alike : (n j : ℕ) (ls ms : List (List ℕ)) → tail n ls ≡ Err (n + j) → take (suc j) ls ≡ take (suc j) ms → tail n ms ≡ Err (n + j)

entries_tail : IsTail entries_of
entries_tail = record { far = entries_far; alike = entries_alike }

no_line_far : (n : ℕ) (ls : List (List ℕ)) (k : ℕ) → no_line n ls ≡ Err k → n ≤ k
no_line_far n [] k h = cc
no_line_far n (l ∷ ls) k h = let same : n ≡ k = cc in omega arith

no_line_alike : (n j : ℕ) (ls ms : List (List ℕ)) → no_line n ls ≡ Err (n + j) → take (suc j) ls ≡ take (suc j) ms → no_line n ms ≡ Err (n + j)
no_line_alike n j [] ms h same = cc
no_line_alike n j (l ∷ ls) [] h same = cc
no_line_alike n j (l ∷ ls) (m ∷ ms) h same = h

no_line_tail : IsTail no_line
no_line_tail = record { far = no_line_far; alike = no_line_alike }

-- what is read behind the rows
abbrev behind : {X : Type 0} → (ℕ → List (List ℕ) → Result X ℕ) → Result Front ℕ → Result X ℕ
behind tail (Err k) = Err k
behind tail (Ok front) = tail front.1 front.2

behind_put : {X : Type 0} (tail : ℕ → List (List ℕ) → Result X ℕ) (row : Place × State) (front : Result Front ℕ)
    → behind tail (put_row row front) ≡ behind tail front
behind_put tail row (Err k) = refl
behind_put tail row (Ok front) = refl

far_if : {X : Type 0} (tail : ℕ → List (List ℕ) → Result X ℕ) (n k : ℕ) (test : Bool) (row : Place × State) (more : Place → Result Front ℕ)
    → ((p : Place) (j : ℕ) → behind tail (more p) ≡ Err j → n + 1 ≤ j)
    → behind tail (after_row more (cond test (Ok row) (Err n))) ≡ Err k → n ≤ k
far_if tail n k true row more far h = let later = far row.0 k (sym (behind_put tail row (more row.0)) ∙ h) in omega (arith, later)
far_if tail n k false row more far h = let same : n ≡ k = cc in omega arith

far_row : {X : Type 0} (tail : ℕ → List (List ℕ) → Result X ℕ) (n k : ℕ) (last : Option Place) (read : Option (Place × State)) (more : Place → Result Front ℕ)
    → ((p : Place) (j : ℕ) → behind tail (more p) ≡ Err j → n + 1 ≤ j)
    → behind tail (after_row more (row_above n last read)) ≡ Err k → n ≤ k
far_row tail n k last None more far h = let same : n ≡ k = cc in omega arith
far_row tail n k last (Some row) more far h = far_if tail n k (is_above last row.0) row more far h

far_line : {X : Type 0} (tail : ℕ → List (List ℕ) → Result X ℕ) → IsTail tail
    → (n k : ℕ) (last : Option Place) (lines : List (List ℕ)) (o : Option (List (List ℕ))) (more : Place → Result Front ℕ)
    → ((p : Place) (j : ℕ) → behind tail (more p) ≡ Err j → n + 1 ≤ j)
    → behind tail (at_line n last lines more o) ≡ Err k → n ≤ k
far_line tail is n k last lines None more far h = is.far n lines k h
far_line tail is n k last lines (Some ws) more far h = far_row tail n k last (row_behind ws) more far h

-- a refused line stands at the first line or later
lines_far : {X : Type 0} (tail : ℕ → List (List ℕ) → Result X ℕ) → IsTail tail
    → (n : ℕ) (last : Option Place) (ls : List (List ℕ)) (k : ℕ) → behind tail (rows_front n last ls) ≡ Err k → n ≤ k
lines_far tail is n last [] k h = is.far n [] k h
lines_far tail is n last (l ∷ ls) k h =
    far_line tail is n k last (l ∷ ls) (row_words_of (words_of l)) (λ place. rows_front (n + 1) (Some place) ls)
    (λ p j e. lines_far tail is (n + 1) (Some p) ls j e) h

alike_if : {X : Type 0} (tail : ℕ → List (List ℕ) → Result X ℕ) (n k : ℕ) (test : Bool) (row : Place × State) (here there : Place → Result Front ℕ)
    → ((p : Place) → behind tail (here p) ≡ Err k → behind tail (there p) ≡ Err k)
    → behind tail (after_row here (cond test (Ok row) (Err n))) ≡ Err k → behind tail (after_row there (cond test (Ok row) (Err n))) ≡ Err k
alike_if tail n k true row here there alike h =
    behind_put tail row (there row.0) ∙ alike row.0 (sym (behind_put tail row (here row.0)) ∙ h)
alike_if tail n k false row here there alike h = h

alike_row : {X : Type 0} (tail : ℕ → List (List ℕ) → Result X ℕ) (n k : ℕ) (last : Option Place) (read : Option (Place × State))
    (here there : Place → Result Front ℕ)
    → ((p : Place) → behind tail (here p) ≡ Err k → behind tail (there p) ≡ Err k)
    → behind tail (after_row here (row_above n last read)) ≡ Err k → behind tail (after_row there (row_above n last read)) ≡ Err k
alike_row tail n k last None here there alike h = h
alike_row tail n k last (Some row) here there alike h = alike_if tail n k (is_above last row.0) row here there alike h

alike_line : {X : Type 0} (tail : ℕ → List (List ℕ) → Result X ℕ) (n k : ℕ) (last : Option Place) (ls ms : List (List ℕ)) (o : Option (List (List ℕ)))
    (here there : Place → Result Front ℕ)
    → (tail n ls ≡ Err k → tail n ms ≡ Err k)
    → ((p : Place) → behind tail (here p) ≡ Err k → behind tail (there p) ≡ Err k)
    → behind tail (at_line n last ls here o) ≡ Err k → behind tail (at_line n last ms there o) ≡ Err k
alike_line tail n k last ls ms None here there rest alike h = rest h
alike_line tail n k last ls ms (Some ws) here there rest alike h = alike_row tail n k last (row_behind ws) here there alike h

-- lines with the same front up to the refused one
lines_alike : {X : Type 0} (tail : ℕ → List (List ℕ) → Result X ℕ) → IsTail tail
    → (n j : ℕ) (last : Option Place) (ls ms : List (List ℕ)) → behind tail (rows_front n last ls) ≡ Err (n + j)
    → take (suc j) ls ≡ take (suc j) ms → behind tail (rows_front n last ms) ≡ Err (n + j)
lines_alike tail is n j last [] [] h same = h
lines_alike tail is n j last [] (m ∷ ms) h same = cc
lines_alike tail is n j last (l ∷ ls) [] h same = cc
lines_alike tail is n zero last (l ∷ ls) (m ∷ ms) h same =
    let first : l ≡ m = cc in
    let again : take 1 (l ∷ ls) ≡ take 1 (l ∷ ms) = refl in
    subst (λ (x : List ℕ). behind tail (rows_front n last (x ∷ ms)) ≡ Err (n + 0)) first
    (alike_line tail n (n + 0) last (l ∷ ls) (l ∷ ms) (row_words_of (words_of l)) (λ place. rows_front (n + 1) (Some place) ls)
    (λ place. rows_front (n + 1) (Some place) ms)
    (λ e. is.alike n 0 (l ∷ ls) (l ∷ ms) e again)
    (λ p e. let far = lines_far tail is (n + 1) (Some p) ls (n + 0) e in absurd (omega (arith, far))) h)
lines_alike tail is n (suc j) last (l ∷ ls) (m ∷ ms) h same =
    let first : l ≡ m = cc in
    let rest : take (suc j) ls ≡ take (suc j) ms = cc in
    let moved : n + suc j ≡ n + 1 + j = omega arith in
    subst (λ (x : List ℕ). behind tail (rows_front n last (x ∷ ms)) ≡ Err (n + suc j)) first
    (alike_line tail n (n + suc j) last (l ∷ ls) (l ∷ ms) (row_words_of (words_of l)) (λ place. rows_front (n + 1) (Some place) ls)
    (λ place. rows_front (n + 1) (Some place) ms)
    (λ e. is.alike n (suc j) (l ∷ ls) (l ∷ ms) e (ap (λ xs. l ∷ xs) rest))
    (λ p e. lines_alike tail is (n + 1) j (Some p) ls ms (e ∙ ap Err moved) rest ∙ ap Err (sym moved)) h)

-- the same with the number of the refused line
lines_alike_at : {X : Type 0} (tail : ℕ → List (List ℕ) → Result X ℕ) → IsTail tail
    → (n k : ℕ) (ls ms : List (List ℕ)) → behind tail (rows_front n None ls) ≡ Err k
    → take (suc (k - n)) ls ≡ take (suc (k - n)) ms → behind tail (rows_front n None ms) ≡ Err k
lines_alike_at tail is n k ls ms h same =
    let far : n ≤ k = lines_far tail is n None ls k h in
    let counted : k ≡ n + (k - n) = omega (arith, far) in
    lines_alike tail is n (k - n) None ls ms (h ∙ ap Err counted) same ∙ ap Err (sym counted)

entries_refuse : (run : ℕ) (rows : List (Place × State)) (entries : Result (List Entry) ℕ) (k : ℕ) → with_entries run rows entries ≡ Err k → entries ≡ Err k
entries_refuse run rows (Err j) k h = let same : j ≡ k = cc in ap Err same
entries_refuse run rows (Ok es) k h = cc

-- a journal is refused where its rows or its entries are
refused_behind : (run : ℕ) (front : Result Front ℕ) (k : ℕ) → with_front run front ≡ Err k → behind entries_of front ≡ Err k
refused_behind run (Err j) k h = let same : j ≡ k = cc in ap Err same
refused_behind run (Ok front) k h = entries_refuse run front.0 (entries_of front.1 front.2) k h

refused_front : (run : ℕ) (front : Result Front ℕ) (k : ℕ) → behind entries_of front ≡ Err k → with_front run front ≡ Err k
refused_front run (Err j) k h = let same : j ≡ k = cc in ap Err same
refused_front run (Ok front) k h = ap (with_entries run front.0) h

rest_alike : (j : ℕ) (l : List ℕ) (ls ms : List (List ℕ)) → take (2 + j) (l ∷ ls) ≡ take (2 + j) (l ∷ ms) → take (suc j) ls ≡ take (suc j) ms
rest_alike j l ls ms same =
    let counted : 2 + j ≡ suc (suc j) = omega arith in
    let moved : take (suc (suc j)) (l ∷ ls) ≡ take (suc (suc j)) (l ∷ ms) = subst (λ n. take n (l ∷ ls) ≡ take n (l ∷ ms)) counted same in
    cc

head_alike : (k : ℕ) (l : List ℕ) (ls ms : List (List ℕ)) (head : Result ℕ ℕ) → head_of (words_of l) ≡ head
    → with_run ls head ≡ Err k → take k (l ∷ ls) ≡ take k (l ∷ ms) → with_run ms head ≡ Err k
head_alike k l ls ms (Err i) is h same = h
head_alike k l ls ms (Ok run) is h same =
    let refused = refused_behind run (rows_front 2 None ls) k h in
    let far : 2 ≤ k = lines_far entries_of entries_tail 2 None ls k refused in
    let counted : k ≡ 2 + (k - 2) = omega (arith, far) in
    let rest : take (suc (k - 2)) ls ≡ take (suc (k - 2)) ms = rest_alike (k - 2) l ls ms (subst (λ n. take n (l ∷ ls) ≡ take n (l ∷ ms)) counted same) in
    refused_front run (rows_front 2 None ms) k (lines_alike_at entries_of entries_tail 2 k ls ms refused rest)

one_at_least : (ls : List (List ℕ)) (head : Result ℕ ℕ) (k : ℕ) → ((i : ℕ) → head ≡ Err i → i ≡ 1) → with_run ls head ≡ Err k → 1 ≤ k
one_at_least ls (Err i) k one h = let same : i ≡ k = cc in let is = one i refl in omega (arith, same, is)
one_at_least ls (Ok run) k one h = let far = lines_far entries_of entries_tail 2 None ls k (refused_behind run (rows_front 2 None ls) k h) in omega (arith, far)

head_one : (o : Option ℕ) (i : ℕ) → numbered o ≡ Err i → i ≡ 1
head_one None i h = cc
head_one (Some run) i h = cc

first_alike : (k : ℕ) (l m : List ℕ) (ls ms : List (List ℕ)) → 1 ≤ k → take k (l ∷ ls) ≡ take k (m ∷ ms) → l ≡ m
first_alike zero l m ls ms low same = absurd (omega arith)
first_alike (suc k) l m ls ms low same = cc

none_alike : (k : ℕ) (l : List ℕ) (ls : List (List ℕ)) → 1 ≤ k → take k (l ∷ ls) ≡ take k [] → ⊥
none_alike zero l ls low same = absurd (omega arith)
none_alike (suc k) l ls low same = cc

-- texts that begin alike up to the refused line
lines_refused : (k : ℕ) (ls ms : List (List ℕ)) → contents_of_lines ls ≡ Err k → take k ls ≡ take k ms → contents_of_lines ms ≡ Err k
lines_refused k [] [] h same = h
lines_refused k [] (m ∷ ms) h same = let one : 1 ≡ k = cc in absurd (none_alike k m ms (omega arith) (sym same))
lines_refused k (l ∷ ls) [] h same =
    let low = one_at_least ls (head_of (words_of l)) k (λ i e. head_one (run_of (words_of l)) i e) h in
    absurd (none_alike k l ls low same)
lines_refused k (l ∷ ls) (m ∷ ms) h same =
    let low = one_at_least ls (head_of (words_of l)) k (λ i e. head_one (run_of (words_of l)) i e) h in
    let first = first_alike k l m ls ms low same in
    subst (λ (x : List ℕ). take k (l ∷ ls) ≡ take k (x ∷ ms) → contents_of_lines (x ∷ ms) ≡ Err k) first
    (λ alike. head_alike k l ls ms (head_of (words_of l)) refl h alike) same

-- no journal begins with the lines up to the one that is told
pub first_bad : (k : ℕ) (ls : List (List ℕ)) (journal : Journal) → contents_of_lines ls ≡ Err k → IsJournal journal
    → take k ls ≡ take k (map spelled (journal_lines journal)) → ⊥
first_bad k ls journal bad is same =
    let refused = lines_refused k ls (map spelled (journal_lines journal)) bad same in
    let read = journal_lines_back journal is in
    cc

no_line_refused : (rows : List (Place × State)) (end : Result (Unit {0}) ℕ) (k : ℕ) → with_rows rows end ≡ Err k → end ≡ Err k
no_line_refused rows (Err j) k h = let same : j ≡ k = cc in ap Err same
no_line_refused rows (Ok u) k h = cc

-- a store is refused where its rows are, or at the line behind them
store_behind : (front : Result Front ℕ) (k : ℕ) → all_rows front ≡ Err k → behind no_line front ≡ Err k
store_behind (Err j) k h = let same : j ≡ k = cc in ap Err same
store_behind (Ok front) k h = no_line_refused front.0 (no_line front.1 front.2) k h

store_front : (front : Result Front ℕ) (k : ℕ) → behind no_line front ≡ Err k → all_rows front ≡ Err k
store_front (Err j) k h = let same : j ≡ k = cc in ap Err same
store_front (Ok front) k h = ap (with_rows front.0) h

-- no store's text begins with the lines up to the one that is told
pub first_bad_row : (k : ℕ) (ls : List (List ℕ)) (store : Slots) → all_rows (rows_front 1 None ls) ≡ Err k → IsStore store
    → take k ls ≡ take k (map spelled (store_lines store)) → ⊥
first_bad_row k ls store bad is same =
    let refused = store_behind (rows_front 1 None ls) k bad in
    let far : 1 ≤ k = lines_far no_line no_line_tail 1 None ls k refused in
    let counted : k ≡ suc (k - 1) = omega (arith, far) in
    let again =
    lines_alike_at no_line no_line_tail 1 k ls (map spelled (store_lines store)) refused
    (subst (λ n. take n ls ≡ take n (map spelled (store_lines store))) counted same) in
    let read = store_lines_back store is in
    let wrong = store_front (rows_front 1 None (map spelled (store_lines store))) k again in
    cc
