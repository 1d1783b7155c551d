-- The replies of a desk, as they are filed and collected.
use Rattle.std.proofs.Common.{◌≡◌, ℕ, ◌+◌, ◌==◌, Bool, true, false, not, List, ◌++◌, map, filter, find, drop, length, slice_get, Some, None, if◌then◌else◌, refl, sym, ap, subst, ◌∙◌, arith}
use Rattle.std.proofs.lemmas.Bool.{eqb-true, eq-eqb, false_from_ne_true, true≢false}
use Rattle.std.proofs.lemmas.List.{length-append, length-map}
use Rattle.std.proofs.lemmas.List.Elements.{filter-append}
use Rattle.std.proofs.lemmas.List.Filters.{length-filter_both}
use Rattle.core_outboxes.specs.declared.desk.Desk.{Desk}
use Rattle.core_outboxes.specs.declared.filed.Filed.{Filed as FiledRow}
use Rattle.core_outboxes.specs.declared.owing.Owing.{Owing}
use Rattle.core_outboxes.specs.Desk.{Files, without_first}
use Rattle.core_outboxes.specs.Outboxes.{replies_at}
use Rattle.core_outboxes.proofs.Taken.{apart_left, first_found, none_taken, one_taken, others_left}

-- the replies of the rows that are decided come behind the others
pub files_after : (d new : Desk) (fs : List FiledRow) (now : Owing → Bool) (f : Owing → FiledRow) → Files d fs → new.due ≡ d.due
    → new.owing.items ≡ filter (λ o. not (now o)) d.owing.items
    → ((n : ℕ) → replies_at new.outboxes.boxes.items n ≡ replies_at d.outboxes.boxes.items n ++ filter (λ g. g.conn == n) (map f (filter now d.owing.items)))
    → Files new (fs ++ map f (filter now d.owing.items))
files_after d new fs now f files due kept filed =
    let os : List Owing = d.owing.items in
    let gs : List FiledRow = map f (filter now os) in
    let parts : length (filter now os) + length (filter (λ o. not (now o)) os) ≡ length os = length-filter_both now (λ o. not (now o)) (λ _. refl) os in
    let both : length (fs ++ gs) ≡ length fs + length gs = length-append fs gs in
    let mapped : length gs ≡ length (filter now os) = length-map (filter now os) f in
    let left : length new.owing.items ≡ length (filter (λ o. not (now o)) os) = ap length kept in
    let was : d.due ≡ length os + length fs = files.due in
    record {
      each = λ n. (filed n ∙ ap (λ xs. xs ++ filter (λ g. g.conn == n) gs) (files.each n) ∙ sym (filter-append (λ g. g.conn == n) fs gs));
      due = due ∙ omega arith;
    }

-- the first reply of a connection is the first in its outbox
pub first_of_conn : (d : Desk) (conn : ℕ) (fs : List FiledRow) → Files d fs
    → slice_get (replies_at d.outboxes.boxes.items conn) 0 ≡ find (λ f. f.conn == conn) fs
first_of_conn d conn fs files = ap (λ xs. slice_get xs 0) (files.each conn) ∙ first_found (λ f. f.conn == conn) fs

-- once it is taken out, each outbox has what is left
pub split_without : (conn : ℕ) (fs : List FiledRow) (n : ℕ)
    → drop (if conn == n then 1 else 0) (filter (λ f. f.conn == n) fs) ≡ filter (λ f. f.conn == n) (without_first conn fs)
split_without conn fs n =
    elim (conn == n) as (λ b. (conn == n) ≡ b
    → drop (if b then 1 else 0) (filter (λ f. f.conn == n) fs) ≡ filter (λ f. f.conn == n) (without_first conn fs)) [
      | true ↦ (λ same. subst (λ k. drop 1 (filter (λ f. f.conn == k) fs) ≡ filter (λ f. f.conn == k) (without_first conn fs)) (eqb-true conn n same)
          (sym (others_left (λ f. f.conn == conn) fs)))
      | false ↦ (λ other. sym (apart_left (λ f. f.conn == conn) (λ f. f.conn == n) fs
          (λ f here. false_from_ne_true (f.conn == n) (λ there. true≢false
          (sym (eq-eqb conn n (sym (eqb-true f.conn conn here) ∙ eqb-true f.conn n there)) ∙ other)))))
    ] refl

-- the desk once the first reply of a connection is taken out, where there was one
pub files_without : (d new : Desk) (conn : ℕ) (fs : List FiledRow) (f : FiledRow) → Files d fs → new.owing.items ≡ d.owing.items
    → ((n : ℕ) → replies_at new.outboxes.boxes.items n ≡ drop (if conn == n then 1 else 0) (replies_at d.outboxes.boxes.items n))
    → find (λ g. g.conn == conn) fs ≡ Some f → new.due + 1 ≡ d.due → Files new (without_first conn fs)
files_without d new conn fs f files owing taken some less =
    let one : length (without_first conn fs) + 1 ≡ length fs = one_taken (λ g. g.conn == conn) f fs some in
    let same : length new.owing.items ≡ length d.owing.items = ap length owing in
    let was : d.due ≡ length d.owing.items + length fs = files.due in
    record {
      each = λ n. (taken n ∙ ap (drop (if conn == n then 1 else 0)) (files.each n) ∙ split_without conn fs n);
      due = omega (arith, one, same, was, less);
    }

-- and where there was none
pub files_still : (d new : Desk) (conn : ℕ) (fs : List FiledRow) → Files d fs → new.owing.items ≡ d.owing.items
    → ((n : ℕ) → replies_at new.outboxes.boxes.items n ≡ drop (if conn == n then 1 else 0) (replies_at d.outboxes.boxes.items n))
    → find (λ g. g.conn == conn) fs ≡ None → new.due ≡ d.due → Files new (without_first conn fs)
files_still d new conn fs files owing taken none due =
    record {
      each = λ n. (taken n ∙ ap (drop (if conn == n then 1 else 0)) (files.each n) ∙ split_without conn fs n);
      due = due ∙ files.due ∙ ap (λ os. length os + length fs) (sym owing)
          ∙ ap (λ gs. length new.owing.items + length gs) (sym (none_taken (λ g. g.conn == conn) fs none));
    }

-- some are due where one is there to be taken
pub some_due : (d : Desk) (conn : ℕ) (fs : List FiledRow) (f : FiledRow) → Files d fs → find (λ g. g.conn == conn) fs ≡ Some f
    → (left : ℕ) → left ≡ length (without_first conn fs) → d.due ≡ length d.owing.items + left + 1
some_due d conn fs f files some left is =
    let one : length (without_first conn fs) + 1 ≡ length fs = one_taken (λ g. g.conn == conn) f fs some in
    let was : d.due ≡ length d.owing.items + length fs = files.due in
    omega (arith, one, was, is)
