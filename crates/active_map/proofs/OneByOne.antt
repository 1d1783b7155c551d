-- An id's activations that end, and those that leave the map, found by their numbers.
use Rattle.std.specs.Prelude.{◌≡◌, ℕ, ◌+◌, Bool, true, false, not, ◌&&◌, ◌==◌, if◌then◌else◌, cond, List, [], ◌∷◌, map, filter, length, ◌⊎◌, refl}
use Rattle.std.specs.List.{list_any}
use Rattle.std.proofs.Common.{inl, inr, sym, ap, ap₂, subst, ◌∙◌, arith}
use Rattle.std.proofs.lemmas.Bool.{and_from, and_parts, cases_Bool, cond_both, cond-true, cond-false, eq-eqb, eqb-true, not-false, or_parts, true≢false, false_from_ne_true}
use Rattle.std.proofs.lemmas.List.Filters.{length-filter_both}
use Rattle.poa_base.specs.declared.Config.{Config}
use Rattle.history_standing.specs.declared.activation.Activation.{Activation}
use Rattle.history_standing.specs.declared.activation.Phase.{Phase}
use Rattle.history_standing.specs.declared.activation.Phase.TheVariants.{Begun, Complete, Void}
use Rattle.history_standing.specs.declared.flight.Flight.{Flight}
use Rattle.history_standing.specs.Ends.{is_left, is_over, let_out}
use Rattle.history_standing.specs.Standings.{Standing, is_complete, is_of, is_ending, is_used, is_void}
use Rattle.history_standing.specs.Templates.{has_activator}
use Rattle.history_standing.specs.Trees.{In}
use Rattle.history_standing.proofs.Members.{any_in, image_in, kept_in}
use Rattle.history_standing.specs.Changes.{at_number}
use Rattle.active_map.specs.Asked.{is_to_go}
use Rattle.active_map.specs.Live.{is_live, live}
use Rattle.active_map.specs.Tables.{is_leaving}

-- ---- those of an id

-- the numbers of those that pass have that of each
pub number_among : (test : Activation → Bool) (as' : List Activation) (ns : List ℕ) → ns ≡ map (λ a. a.number) (filter test as') → (a : Activation)
    → In a as' → test a ≡ true → In a.number ns
number_among test as' ns is a there passes =
    subst (In a.number) (sym is) (image_in (λ (b : Activation). b.number) a (filter test as') (kept_in test a as' there passes))

pub alone_among : (n k : ℕ) → In k (n ∷ []) → k ≡ n
alone_among n k (inl same) = same
alone_among n k (inr none) = absurd none

-- ---- one that is to leave the map

ends_so : (ending : Bool) (p : Phase) → (ending && not (elim p [ Void ↦ true | Begun ↦ false | Complete s ↦ false ])) ≡ true → ending ≡ true
ends_so ending p is = (and_parts ending _ is).0

-- what is to leave the map and hasn't is to go
pub goes_left : (c : Config) (s : Standing) (a : Activation) → is_left c s a ≡ true → a.out ≡ false → is_to_go c s.flights a ≡ true
goes_left c s a left stays =
    (let parts = and_parts (not (has_activator c a.path)) _ left in
    let more = and_parts (is_complete a) _ parts.1 in
    let rest = and_parts (is_ending a) _ more.1 in
    and_from a.ending _ (ends_so a.ending a.phase rest.0) (and_from (not a.out) _ (ap not stays)
    (and_from (is_complete a) _ more.0 (and_from (not (has_activator c a.path)) _ parts.0 rest.1))))

pub go_leaving : (c : Config) (flights : List Flight) (a : Activation) → is_to_go c flights a ≡ true → is_leaving a ≡ true
go_leaving c flights a goes =
    (let parts = and_parts a.ending _ goes in and_from a.ending (not a.out) parts.0 (and_parts (not a.out) _ parts.1).0)

out_stays : (a : Activation) → a.out ≡ true → record a { out = true } ≡ a
out_stays a is = ap (λ b. record a { out = b }) (sym is)

pub stays_unless : (c : Config) (s : Standing) (a : Activation) → is_to_go c s.flights a ≡ false → let_out c s a ≡ a
stays_unless c s a stays =
    cond_both (is_left c s a) (record a { out = true }) a (λ b. b ≡ a)
    (λ left. out_stays a (not-false a.out (not_out left)))
    (λ _. refl)
  where
    not_out : is_left c s a ≡ true → not a.out ≡ false
    not_out left = elim (cases_Bool a.out) [
      | inl out ↦ ap not out
      | inr in' ↦ absurd (true≢false (sym (goes_left c s a left in') ∙ stays))
    ]

-- where none is to go, none leaves
pub none_goes : (c : Config) (s : Standing) (as' : List Activation) → list_any (is_to_go c s.flights) as' ≡ false → map (let_out c s) as' ≡ as'
none_goes c s [] none = refl
none_goes c s (a ∷ as') none =
    (let parts = or_parts (is_to_go c s.flights a) (list_any (is_to_go c s.flights) as') none in
    ap₂ (λ x xs. x ∷ xs) (stays_unless c s a parts.0) (none_goes c s as' parts.1))

-- who left the map leaves it no more
pub out_twice : (c : Config) (s : Standing) (a : Activation) → let_out c s (let_out c s a) ≡ let_out c s a
out_twice c s a =
    cond_both (is_left c s a) (record a { out = true }) a (λ b. let_out c s b ≡ b)
    (λ left. cond-true (is_left c s a) (record a { out = true }) (record a { out = true }) left)
    (λ stays. cond-false (is_left c s a) (record a { out = true }) a stays)

-- so one may leave it before the others do
pub out_before : (c : Config) (s : Standing) (n : ℕ) (as' : List Activation)
    → map (let_out c s) (map (at_number n (let_out c s)) as') ≡ map (let_out c s) as'
out_before c s n [] = refl
out_before c s n (a ∷ as') =
    ap₂ (λ x xs. x ∷ xs)
    (cond_both (a.number == n) (let_out c s a) a (λ b. let_out c s b ≡ let_out c s a) (λ _. out_twice c s a) (λ _. refl))
    (out_before c s n as')

-- ---- one that is over

-- those that live are the same, where one that is over is forgotten
pub live_without : (c : Config) (n : ℕ) (as' : List Activation) → live c (filter (λ a. not ((a.number == n) && is_over c a)) as') ≡ live c as'
live_without c n [] = refl
live_without c n (a ∷ as') =
    elim (is_over c a) as (λ t. is_over c a ≡ t
    → live c (cond (not ((a.number == n) && t)) (a ∷ filter (λ b. not ((b.number == n) && is_over c b)) as')
    (filter (λ b. not ((b.number == n) && is_over c b)) as')) ≡ cond (not t) (a ∷ live c as') (live c as')) [
      | true ↦ (λ over. cond_both (not ((a.number == n) && true)) (a ∷ filter (λ b. not ((b.number == n) && is_over c b)) as')
          (filter (λ b. not ((b.number == n) && is_over c b)) as') (λ bs. live c bs ≡ live c as')
          (λ _. cond-false (is_live c a) (a ∷ live c (filter (λ b. not ((b.number == n) && is_over c b)) as'))
          (live c (filter (λ b. not ((b.number == n) && is_over c b)) as')) (ap not over) ∙ live_without c n as')
          (λ _. live_without c n as'))
      | false ↦ (λ lives. ap (live c) (cond-true (not ((a.number == n) && false)) (a ∷ filter (λ b. not ((b.number == n) && is_over c b)) as')
          (filter (λ b. not ((b.number == n) && is_over c b)) as') (none_of (a.number == n)))
          ∙ cond-true (is_live c a) (a ∷ live c (filter (λ b. not ((b.number == n) && is_over c b)) as'))
          (live c (filter (λ b. not ((b.number == n) && is_over c b)) as')) (ap not lives)
          ∙ ap (λ bs. a ∷ bs) (live_without c n as'))
    ] refl
  where
    none_of : (b : Bool) → not (b && false) ≡ true
    none_of true = refl
    none_of false = refl

-- where none is over, all live
pub none_over_live : (p : Activation → Bool) (as' : List Activation) → list_any p as' ≡ false → filter (λ a. not (p a)) as' ≡ as'
none_over_live p [] none = refl
none_over_live p (a ∷ as') none =
    (let parts = or_parts (p a) (list_any p as') none in
    cond-true (not (p a)) (a ∷ filter (λ b. not (p b)) as') (filter (λ b. not (p b)) as') (ap not parts.0)
    ∙ ap (λ bs. a ∷ bs) (none_over_live p as' parts.1))

-- where none but that of a number is of the id, that alone is ended
pub ended_id : (k : ℕ) (oid : List ℕ) (n : ℕ) (as' : List Activation) → ((a : Activation) → In a as' → is_of k oid a ≡ true → a.number ≡ n)
    → map (at_number n (λ a. if is_of k oid a then record a { ending = true } else a)) as'
    ≡ map (λ a. if is_of k oid a then record a { ending = true } else a) as'
ended_id k oid n [] only = refl
ended_id k oid n (a ∷ as') only =
    ap₂ (λ x xs. x ∷ xs)
    (elim (a.number == n) as (λ t. (a.number == n) ≡ t → (if t then (if is_of k oid a then record a { ending = true } else a) else a)
    ≡ (if is_of k oid a then record a { ending = true } else a)) [
      | true ↦ (λ _. refl)
      | false ↦ (λ miss. sym (cond-false (is_of k oid a) (record a { ending = true }) a (false_from_ne_true (is_of k oid a)
          (λ its. true≢false (sym (eq-eqb a.number n (only a (inl refl) its)) ∙ miss)))))
    ] refl)
    (ended_id k oid n as' (λ b there. only b (inr there)))
