-- What a history says of a connection stays, whatever entries others make.
use Rattle.std.proofs.Common.{◌≡◌, ℕ, Bool, true, false, ◌&&◌, ◌||◌, ◌==◌, if◌then◌else◌, List, [], ◌∷◌, ◌++◌, length, reverse, Option, Some, None, refl, sym, ap, ◌∙◌, subst, ne_eqb}
use Rattle.std.proofs.lemmas.List.{reverse-append}
use Rattle.poa_base.specs.declared.Entry.{Entry}
use Rattle.poa_base.specs.declared.Entry.TheVariants.{Entered, Arrive, Filled, Collect}
use Rattle.history_standing.specs.Arrivals.{arrivals, call_of, conn_of}
use Rattle.poa_history.specs.Replies.{asks, is_asked, is_collected}
use Rattle.history_standing.specs.Stages.{is_at}
use Rattle.poa_history.specs.declared.Givens.{Givens}
use Rattle.poa_history.specs.Owners.{owner_of, HasNone}
use Rattle.session_laws.specs.Records.{arrived_by, joined_by, places_by, filling_by, is_late_by, IsPaidBy}

not_of : (conn c : ℕ) → (Some conn ≡ Some c → ⊥) → (conn == c) ≡ false
not_of conn c other = ne_eqb conn c (λ same. other (ap Some same))

first_of : (a b : Bool) → (a && b) ≡ true → a ≡ true
first_of true b is = refl
first_of false b is = absurd (let e : false ≡ true = is in cc)

-- an entry of another
module _ (c : ℕ) (past : List Entry) where
  pub arrived_other : (e : Entry) → (owner_of e ≡ Some c → ⊥) → arrived_by (e ∷ past) c ≡ arrived_by past c
  arrived_other (Arrive conn size call) other = rw (not_of conn c other) refl
  arrived_other e other = refl

  pub joined_other : (g : Givens) (e : Entry) → (owner_of e ≡ Some c → ⊥) → joined_by g (e ∷ past) c ≡ joined_by g past c
  joined_other g (Collect conn r) other = rw (not_of conn c other) refl
  joined_other g e other = refl

  pub filling_other : (e : Entry) → (owner_of e ≡ Some c → ⊥) → filling_by (e ∷ past) c ≡ filling_by past c
  filling_other (Filled conn size) other = rw (not_of conn c other) refl
  filling_other e other = refl

  pub late_other : (e : Entry) → (owner_of e ≡ Some c → ⊥) → is_late_by (e ∷ past) c ≡ is_late_by past c
  late_other (Entered conn) other = rw (not_of conn c other) refl
  late_other e other = refl

  pub places_other : (e : Entry) → (owner_of e ≡ Some c → ⊥) → places_by (e ∷ past) c ≡ places_by past c
  places_other e other = by_owner (owner_of e) other
    where
      by_owner : (o : Option ℕ) → (o ≡ Some c → ⊥) → (if is_at c o then places_by past c ++ length past ∷ [] else places_by past c) ≡ places_by past c
      by_owner None apart = refl
      by_owner (Some conn) apart = rw (not_of conn c apart) refl

  -- what is asked then was asked before
  asked_before : (e : Entry) (r : ℕ) → (owner_of e ≡ Some c → ⊥) → is_asked (e ∷ past) c r ≡ true → is_asked past c r ≡ true
  asked_before (Arrive conn size call) r other =
      by_number (r == arrivals past)
    where
      by_number : (b : Bool) → (is_at c (if b then Some conn else conn_of past r) && asks (if b then Some call else call_of past r)) ≡ true
          → is_asked past c r ≡ true
      by_number true is = absurd (let f : false ≡ true = sym (not_of conn c other) ∙ first_of (conn == c) (asks (Some call)) is in cc)
      by_number false is = is
  asked_before e r other = λ is. is

  collected_later : (e : Entry) (r : ℕ) → is_collected past r ≡ true → is_collected (e ∷ past) r ≡ true
  collected_later (Collect conn a) r is = by_number (a == r)
    where
      by_number : (b : Bool) → (b || is_collected past r) ≡ true
      by_number true = refl
      by_number false = is
  collected_later e r is = is

  pub paid_other : (e : Entry) → (owner_of e ≡ Some c → ⊥) → IsPaidBy past c → IsPaidBy (e ∷ past) c
  paid_other e other paid = λ r asked. collected_later e r (paid r (asked_before e r other asked))

-- entries of others
module _ (c : ℕ) (past : List Entry) where
  pub arrived_others : (more : List Entry) → HasNone c more → arrived_by (more ++ past) c ≡ arrived_by past c
  arrived_others [] none = refl
  arrived_others (e ∷ more) none = arrived_other c (more ++ past) e none.0 ∙ arrived_others more none.1

  pub joined_others : (g : Givens) (more : List Entry) → HasNone c more → joined_by g (more ++ past) c ≡ joined_by g past c
  joined_others g [] none = refl
  joined_others g (e ∷ more) none = joined_other c (more ++ past) g e none.0 ∙ joined_others g more none.1

  pub filling_others : (more : List Entry) → HasNone c more → filling_by (more ++ past) c ≡ filling_by past c
  filling_others [] none = refl
  filling_others (e ∷ more) none = filling_other c (more ++ past) e none.0 ∙ filling_others more none.1

  pub late_others : (more : List Entry) → HasNone c more → is_late_by (more ++ past) c ≡ is_late_by past c
  late_others [] none = refl
  late_others (e ∷ more) none = late_other c (more ++ past) e none.0 ∙ late_others more none.1

  pub places_others : (more : List Entry) → HasNone c more → places_by (more ++ past) c ≡ places_by past c
  places_others [] none = refl
  places_others (e ∷ more) none = places_other c (more ++ past) e none.0 ∙ places_others more none.1

  pub paid_others : (more : List Entry) → HasNone c more → IsPaidBy past c → IsPaidBy (more ++ past) c
  paid_others [] none paid = paid
  paid_others (e ∷ more) none paid = paid_other c (more ++ past) e none.0 (paid_others more none.1 paid)

-- none of the entries in the other order
none_both : (c : ℕ) (a b : List Entry) → HasNone c a → HasNone c b → HasNone c (a ++ b)
none_both c [] b none other = other
none_both c (e ∷ a) b none other = (none.0, none_both c a b none.1 other)

pub none_turned : (c : ℕ) (more : List Entry) → HasNone c more → HasNone c (reverse more)
none_turned c [] none = tt
none_turned c (e ∷ more) none =
    subst (HasNone c) (sym (reverse-append (e ∷ []) more)) (none_both c (reverse more) (e ∷ []) (none_turned c more none.1) (none.0, tt))
