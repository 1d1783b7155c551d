-- A call keeps its place in the journal.
use Rattle.std.specs.Prelude.{◌≡◌, ℕ, zero, suc, ◌<◌, ◌≤◌, false, ◌==◌, nat_lt, if◌then◌else◌, List, [], ◌∷◌, ◌++◌, length, reverse, Option, Some, None, refl}
use Rattle.std.specs.List.{slice_get}
use Rattle.std.proofs.Common.{inl, inr, sym, subst, ap, ◌∙◌, arith, length-append}
use Rattle.std.proofs.lemmas.Bool.{cases_Bool, true≢false, eqb-true, eq-eqb, ltb-true, ltb-false}
use Rattle.std.proofs.lemmas.List.{reverse-append, length-reverse}
use Rattle.std.proofs.lemmas.Option.{slice_get_past}
use Rattle.poa_base.specs.declared.Call.{Call}
use Rattle.poa_base.specs.declared.Entry.{Entry}
use Rattle.poa_base.specs.declared.Entry.TheVariants.{Entered, Arrive, Filled, Left, Collect, Admit, Tried, Incarnated, Run, Done, TakeOut, Etherealized, Abandon}
use Rattle.history_standing.specs.Arrivals.{arrivals, call_of, conn_of}
use Rattle.core_arrivals.specs.Placed.{IsPlaceOf, CallsAgree, entry_of, call_in, conn_in, arrives}
use Rattle.history_standing.proofs.CallsKept.{by_arrival, call_beyond, call_kept, conn_beyond, conn_kept}

-- what the table tells of each call
module _ (h : List Entry) (places : List ℕ) (knows : CallsAgree h places) (r : ℕ) where
  told : {A : Type 0} (read : Option Entry → Option A) (is : Option A) → ((place : ℕ) → IsPlaceOf h r place → read (slice_get (reverse h) place) ≡ is)
      → (arrivals h ≤ r → is ≡ read None) → read (entry_of (reverse h) places r) ≡ is
  told read is within beyond =
      elim (cases_Bool (nat_lt r (arrivals h))) [
        | inl low ↦ (let found = knows.placed r (ltb-true r (arrivals h) low) in
            ap (λ o. read (elim o [ Some place ↦ slice_get (reverse h) place | None ↦ None ])) found.1 ∙ within found.0 found.2)
        | inr high ↦ (let above = ltb-false r (arrivals h) high in
            let long = knows.counted in
            ap (λ o. read (elim o [ Some place ↦ slice_get (reverse h) place | None ↦ None ])) (slice_get_past places r (omega (arith, above, long)))
            ∙ sym (beyond above))
      ]

  pub call_told : call_in (entry_of (reverse h) places r) ≡ call_of h r
  call_told = told call_in (call_of h r) (λ place is. ap call_in is.there ∙ sym is.call_is) (call_beyond h r)

  pub conn_told : conn_in (entry_of (reverse h) places r) ≡ conn_of h r
  conn_told = told conn_in (conn_of h r) (λ place is. ap conn_in is.there ∙ sym is.conn_is) (conn_beyond h r)

-- an entry more at the end
get_front : {A : Type 0} (xs ys : List A) (i : ℕ) (x : A) → slice_get xs i ≡ Some x → slice_get (xs ++ ys) i ≡ Some x
get_front [] ys i x is = absurd (let e : None ≡ Some x = is in cc)
get_front (y ∷ xs) ys zero x is = is
get_front (y ∷ xs) ys (suc i) x is = get_front xs ys i x is

get_end : {A : Type 0} (xs : List A) (x : A) → slice_get (xs ++ x ∷ []) (length xs) ≡ Some x
get_end [] x = refl
get_end (y ∷ xs) x = get_end xs x

place_kept : (e : Entry) (h : List Entry) (r place : ℕ) → r < arrivals h → IsPlaceOf h r place → IsPlaceOf (e ∷ h) r place
place_kept e h r place less is =
    record {
      conn = is.conn;
      size = is.size;
      call = is.call;
      there = ap (λ es. slice_get es place) (reverse-append (e ∷ []) h) ∙ get_front (reverse h) (e ∷ []) place (Arrive is.conn is.size is.call) is.there;
      call_is = call_kept e h r less ∙ is.call_is;
      conn_is = conn_kept e h r less ∙ is.conn_is;
    }

same_arrivals : (e : Entry) (h : List Entry) → arrives e ≡ false → arrivals (e ∷ h) ≡ arrivals h
same_arrivals e h other =
    by_arrival h (λ k. arrives k ≡ false → arrivals (k ∷ h) ≡ arrivals h) (λ conn size call none. absurd (true≢false none)) (λ k leaves none. leaves.arrived)
    e other

pub calls_kept : (e : Entry) (h : List Entry) (places : List ℕ) → arrives e ≡ false → CallsAgree h places → CallsAgree (e ∷ h) places
calls_kept e h places other knows =
    record {
      counted = knows.counted ∙ sym (same_arrivals e h other);
      placed =
          λ r less.
          (let low : r < arrivals h = subst (λ n. r < n) (same_arrivals e h other) less in let found = knows.placed r low in
          (found.0, found.1, place_kept e h r found.0 low found.2));
    }

pub calls_more : (conn size : ℕ) (call : Call) (h : List Entry) (places : List ℕ) → CallsAgree h places
    → CallsAgree (Arrive conn size call ∷ h) (places ++ length h ∷ [])
calls_more conn size call h places knows =
    record {
      counted = (let long = knows.counted in let more = length-append places (length h ∷ []) in omega (arith, long, more));
      placed = λ r less. elim (cases_Bool (r == arrivals h)) [
        | inl same ↦ newest r (eqb-true r (arrivals h) same)
        | inr other ↦
            (let low = lower r less other in let found = knows.placed r low in
            (found.0, get_front places (length h ∷ []) r found.0 found.1, place_kept (Arrive conn size call) h r found.0 low found.2))
      ];
    }
  where
    lower : (r : ℕ) → r < suc (arrivals h) → (r == arrivals h) ≡ false → r < arrivals h
    lower r less other =
        elim (cases_Bool (nat_lt r (arrivals h))) [
          | inl low ↦ ltb-true r (arrivals h) low
          | inr high ↦ absurd (true≢false (sym (eq-eqb r (arrivals h) (let above = ltb-false r (arrivals h) high in omega (arith, above, less))) ∙ other))
        ]

    newest : (r : ℕ) → r ≡ arrivals h → (place : ℕ) × (slice_get (places ++ length h ∷ []) r ≡ Some place) × IsPlaceOf (Arrive conn size call ∷ h) r place
    newest r same = (
      length h,
      ap (slice_get (places ++ length h ∷ [])) (same ∙ sym knows.counted) ∙ get_end places (length h),
      record {
        conn = conn;
        size = size;
        call = call;
        there = ap (λ es. slice_get es (length h)) (reverse-append (Arrive conn size call ∷ []) h)
            ∙ (ap (slice_get (reverse h ++ Arrive conn size call ∷ [])) (sym (length-reverse h)) ∙ get_end (reverse h) (Arrive conn size call));
        call_is = ap (λ b. if b then Some call else call_of h r) (eq-eqb r (arrivals h) same);
        conn_is = ap (λ b. if b then Some conn else conn_of h r) (eq-eqb r (arrivals h) same);
      },
    )

pub no_calls : CallsAgree [] []
no_calls = record { counted = refl; placed = λ r less. absurd (omega (arith, less)) }

pub not_arriving : (e : Entry) → ((conn size : ℕ) (call : Call) → e ≡ Arrive conn size call → ⊥) → arrives e ≡ false
not_arriving (Arrive conn size call) other = absurd (other conn size call refl)
not_arriving (Entered conn) other = refl
not_arriving (Filled conn size) other = refl
not_arriving (Left conn) other = refl
not_arriving (Collect conn a) other = refl
not_arriving (Admit w q v) other = refl
not_arriving (Tried w a) other = refl
not_arriving (Incarnated w a) other = refl
not_arriving (Run w) other = refl
not_arriving (Done w) other = refl
not_arriving (TakeOut w n x) other = refl
not_arriving (Etherealized w x y) other = refl
not_arriving (Abandon w) other = refl
