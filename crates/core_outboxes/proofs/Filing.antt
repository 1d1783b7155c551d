-- Filing the replies of the calls that an entry decides.
use Rattle.std.proofs.Common.{◌≡◌, ℕ, ◌+◌, ◌<◌, zero, ◌||◌, ◌==◌, Bool, true, false, List, [], ◌∷◌, ◌++◌, map, filter, take, drop, length, get_or, not, suc, arith, refl, sym, ap, ap₂, ◌∙◌, if◌then◌else◌, Option, Some, None, inl, inr}
use Rattle.std.specs.List.{list_any}
use Rattle.std.proofs.lemmas.Bool.{cases_Bool}
use Rattle.std.proofs.lemmas.Option.{slice_get-get_or}
use Rattle.std.proofs.lemmas.List.{take_more, append_assoc, append-nil, map-append}
use Rattle.std.proofs.lemmas.List.Elements.{filter-append}
use Rattle.std.proofs.lemmas.List.Folds.{list_any-append}
use Rattle.poa_base.specs.declared.Reply.TheVariants.{Answer as AnswerReply}
use Rattle.poa_base.specs.declared.Answer.TheVariants.{Good}
use Rattle.history_standing.specs.Stages.{is_at}
use Rattle.core_outboxes.specs.declared.decision.Decision.{Decision}
use Rattle.core_outboxes.specs.declared.filed.Filed.{Filed}
use Rattle.core_outboxes.specs.declared.owing.Owing.{Owing}
use Rattle.core_outboxes.specs.Decided.{reply_to, target_of}
use Rattle.core_outboxes.specs.Desk.{file, IsAlone}

-- to another call than the target the reply is `ok`
ok_else : (d : Option Decision) (r number : ℕ) → is_at r (target_of d) ≡ false → reply_to d r number ≡ AnswerReply number Good
ok_else None r number other = refl
ok_else (Some it) r number other = ap (λ b. if b then it.reply else AnswerReply number Good) other

-- a decision's reply matters to its target alone
file_same : (d first : Option Decision) (o : Owing) → target_of d ≡ target_of first → (is_at o.arrival (target_of first) ≡ true → d ≡ first)
    → file d o ≡ file first o
file_same d first o target same =
    elim (cases_Bool (is_at o.arrival (target_of first))) [
      | inl at ↦ ap (λ x. file x o) (same at)
      | inr other ↦
          ap (λ r. record { arrival = o.arrival; conn = o.conn; head = o.head; reply = r })
          (ok_else d o.arrival o.number (ap (is_at o.arrival) target ∙ other) ∙ sym (ok_else first o.arrival o.number other))
    ]

files_same : (now : Owing → Bool) (d first : Option Decision) (o : Owing) → target_of d ≡ target_of first
    → (is_at o.arrival (target_of first) ≡ true → d ≡ first)
    → map (file d) (filter now (o ∷ [])) ≡ map (file first) (filter now (o ∷ []))
files_same now d first o target same =
    elim (now o) as (λ b. map (file d) (if b then o ∷ [] else []) ≡ map (file first) (if b then o ∷ [] else []))
    [ true ↦ ap (λ f. f ∷ []) (file_same d first o target same) | false ↦ refl ]

-- what was filed of the first rows, and then of the next one
filed_more : (now : Owing → Bool) (d first : Option Decision) (p : Filed → Bool) (old : List Filed) (os : List Owing) (i : ℕ) (o : Owing)
    → i < length os → o ≡ get_or os i o → target_of d ≡ target_of first → (is_at o.arrival (target_of first) ≡ true → d ≡ first)
    → (old ++ filter p (map (file first) (filter now (take i os)))) ++ filter p (map (file d) (filter now (o ∷ [])))
    ≡ old ++ filter p (map (file first) (filter now (take (i + 1) os)))
filed_more now d first p old os i o below is target same =
    let f = file first in
    ap (λ fs. (old ++ filter p (map f (filter now (take i os)))) ++ filter p fs) (files_same now d first o target same)
    ∙ append_assoc old (filter p (map f (filter now (take i os)))) (filter p (map f (filter now (o ∷ []))))
    ∙ ap (λ fs. old ++ fs) (sym (filter-append p (map f (filter now (take i os))) (map f (filter now (o ∷ [])))))
    ∙ ap (λ fs. old ++ filter p fs) (sym (map-append f (filter now (take i os)) (filter now (o ∷ []))))
    ∙ ap (λ os'. old ++ filter p (map f os')) (sym (filter-append now (take i os) (o ∷ [])))
    ∙ ap (λ x. old ++ filter p (map f (filter now (take i os ++ x ∷ [])))) is
    ∙ ap (λ xs. old ++ filter p (map f (filter now xs))) (sym (take_more os i o below))

get_same : {A : Type 0} (xs : List A) (i : ℕ) (d e : A) → i < length xs → get_or xs i d ≡ get_or xs i e
get_same [] i d e below = absurd (omega arith)
get_same (x ∷ xs) zero d e below = refl
get_same (x ∷ xs) (suc i) d e below = get_same xs i d e (omega arith)

-- none of the first so many passes, nor the next one
none_before : {A : Type 0} (p : A → Bool) (xs : List A) (i : ℕ) (x : A) → i < length xs → x ≡ get_or xs i x → list_any p (take (i + 1) xs) ≡ false
    → (list_any p (take i xs) ≡ false) × (p x ≡ false)
none_before p xs i x below is none =
    let both : (list_any p (take i xs) || (p x || false)) ≡ false =
    sym (list_any-append p (take i xs) (x ∷ []))
    ∙ ap (λ y. list_any p (take i xs ++ y ∷ [])) is
    ∙ ap (list_any p) (sym (take_more xs i x below))
    ∙ none in
    parts (list_any p (take i xs)) (p x) both
  where
    parts : (a b : Bool) → (a || (b || false)) ≡ false → (a ≡ false) × (b ≡ false)
    parts true b no_ = absurd (let e : true ≡ false = no_ in cc)
    parts false true no_ = absurd (let e : true ≡ false = no_ in cc)
    parts false false no_ = (refl, refl)

-- a row is filed, after those before it
pub file_step : (now : Owing → Bool) (first : Option Decision) (os : List Owing) (i : ℕ) (d : Owing) (decision left : Option Decision) (old mid new : ℕ
    → List Filed)
    → i < length os → IsAlone (target_of first) os
    → ((n : ℕ) → new n ≡ mid n ++ filter (λ f. f.conn == n) (map (file decision) (filter now (get_or os i d ∷ []))))
    → (list_any (λ o. is_at o.arrival (target_of first)) (get_or os i d ∷ []) ≡ false → left ≡ decision)
    → ((n : ℕ) → mid n ≡ old n ++ filter (λ f. f.conn == n) (map (file first) (filter now (take i os))))
    → target_of decision ≡ target_of first
    → (list_any (λ o. is_at o.arrival (target_of first)) (take i os) ≡ false → decision ≡ first)
    → ((n : ℕ) → new n ≡ old n ++ filter (λ f. f.conn == n) (map (file first) (filter now (take (i + 1) os))))
    × (list_any (λ o. is_at o.arrival (target_of first)) (take (i + 1) os) ≡ false → left ≡ first)
file_step now first os i d decision left old mid new below alone new_is left_is mid_is target_is decision_is =
    let o = get_or os i d in
    let here : o ≡ get_or os i o = get_same os i d o below in (
      λ n. (new_is n
          ∙ ap (λ fs. fs ++ filter (λ f. f.conn == n) (map (file decision) (filter now (o ∷ [])))) (mid_is n)
          ∙ filed_more now decision first (λ f. f.conn == n) (old n) os i o below here target_is
          (λ at. decision_is (alone i o (slice_get-get_or os i d below) at))),
      λ none. (let before = none_before (λ p. is_at p.arrival (target_of first)) os i o below here none in
          left_is (ap (λ b. b || false) before.1) ∙ decision_is before.0),
    )

-- where no row is decided nothing is filed
pub unfiled : (decision : Option Decision) (old : List Filed) (rows : List Owing) (p : Filed → Bool) → rows ≡ []
    → old ≡ old ++ filter p (map (file decision) rows)
unfiled decision old rows p none = sym (ap (λ os. old ++ filter p (map (file decision) os)) none ∙ append-nil old)

-- the target's row alone is filed
pub filed_one : (it : Decision) (row : Owing) (rows : List Owing) → rows ≡ row ∷ [] → is_at row.arrival (Some it.arrival) ≡ true
    → record { arrival = row.arrival; conn = row.conn; head = row.head; reply = it.reply } ∷ [] ≡ map (file (Some it)) rows
filed_one it row rows one at =
    ap (λ b. record { arrival = row.arrival; conn = row.conn; head = row.head; reply = if b then it.reply else AnswerReply row.number Good } ∷ []) (sym at)
    ∙ ap (map (file (Some it))) (sym one)

-- a list that is long enough has an element
pub some_of : {A : Type 0} (xs : List A) {i : ℕ} → i < length xs → A
some_of [] below = absurd (omega (arith, below))
some_of (x ∷ xs) below = x

-- a queue whose first element goes behind the others, or leaves, where as many have been there before
pub next_first : {A : Type 0} (xs behind : List A) (i : ℕ) (d : A) → i < length xs
    → (take 1 (drop i xs ++ behind) ≡ get_or xs i d ∷ []) × (drop 1 (drop i xs ++ behind) ≡ drop (i + 1) xs ++ behind)
next_first [] behind i d below = absurd (omega (arith, below))
next_first (x ∷ xs) behind zero d below = (refl, refl)
next_first (x ∷ xs) behind (suc i) d below =
    (let more : suc i + 1 ≡ suc (i + 1) = omega arith in
    let rest = next_first xs behind i d (omega (arith, below)) in (rest.0, rest.1 ∙ ap (λ n. drop n (x ∷ xs) ++ behind) (sym more)))

-- those that have been there and stay are behind those that haven't
pub kept_step : (now : Owing → Bool) (os : List Owing) (i : ℕ) (d : Owing) (mid new : List Owing) → i < length os
    → mid ≡ drop i os ++ filter (λ o. not (now o)) (take i os)
    → new ≡ drop 1 mid ++ filter (λ o. not (now o)) (take 1 mid)
    → new ≡ drop (i + 1) os ++ filter (λ o. not (now o)) (take (i + 1) os)
kept_step now os i d mid new below mid_is new_is =
    let out : Owing → Bool = λ o. not (now o) in
    let parts = next_first os (filter out (take i os)) i d below in
    new_is
    ∙ ap₂ (λ xs ys. xs ++ filter out ys) (ap (drop 1) mid_is ∙ parts.1) (ap (take 1) mid_is ∙ parts.0)
    ∙ append_assoc (drop (i + 1) os) (filter out (take i os)) (filter out (get_or os i d ∷ []))
    ∙ ap (λ xs. drop (i + 1) os ++ xs) (sym (filter-append out (take i os) (get_or os i d ∷ []))
    ∙ ap (filter out) (sym (take_more os i d below)))
