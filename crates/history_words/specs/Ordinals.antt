-- Which object ids the system makes, in the order of their ordinals (CORBA 3.3 Part 1, section 15.3.9: activate_object,
-- servant_to_reference; section 15.3.8: the policies SYSTEM_ID and IMPLICIT_ACTIVATION).
use Rattle.std.specs.Prelude.{◌≡◌, ℕ, suc, Bool, true, false, ◌&&◌, nat_lt, if◌then◌else◌, List, [], ◌∷◌}
use Rattle.std.specs.Prelude.{length, take, Option, Some, None, option_and_then, slice_get, ◌⊎◌}
use Rattle.poa_base.specs.declared.Config.{Config}
use Rattle.poa_base.specs.declared.ObjectConf.{ObjectConf}
use Rattle.poa_base.specs.declared.Command.{Command}
use Rattle.poa_base.specs.declared.Command.TheVariants.{Activate, Reference}
use Rattle.poa_base.specs.declared.Entry.{Entry}
use Rattle.poa_base.specs.declared.Entry.TheVariants.{Admit}
use Rattle.poa_base.specs.declared.Verdict.{Verdict}
use Rattle.poa_base.specs.declared.Verdict.TheVariants.{Answer}
use Rattle.poa_base.specs.declared.Answer.TheVariants.{GoodId, GoodIor}
use Rattle.history_standing.specs.Changes.{standing}
use Rattle.history_standing.specs.Logs.{command_done}
use Rattle.history_standing.specs.Opening.{made_id}
use Rattle.history_standing.specs.References.{reference_text}

-- the command activates a servant and names no id
abbrev pub names_no_id : Option Command → Bool
names_no_id (Some (Activate p servant)) = true
names_no_id (Some (Reference p servant)) = true
names_no_id command = false

-- the entry begins an activation
abbrev pub begins_one : Config → ℕ → List Entry → Entry → Bool
begins_one c run past e = nat_lt (length (standing c run past).activations) (length (standing c run (e ∷ past)).activations)

-- the entry makes an id: an activation is begun by an `activate`, or by a `reference`
abbrev pub makes_id : Config → ℕ → List Entry → Entry → Bool
makes_id c run past e = names_no_id (command_done past e) && begins_one c run past e

-- how many of the configured objects have no id of their own
abbrev pub unnamed : List ObjectConf → ℕ
unnamed [] = 0
unnamed (o ∷ os) = elim o.oid [ None ↦ suc (unnamed os) | Some oid ↦ unnamed os ]

-- how many ids were made
abbrev pub ids_made : Config → ℕ → List Entry → ℕ
ids_made c run [] = unnamed c.objects
ids_made c run (e ∷ past) = if makes_id c run past e then suc (ids_made c run past) else ids_made c run past

-- the ordinal of a configured object's id, where it is made: those before it in the configuration come first
abbrev pub ordinal_of_object : List ObjectConf → ℕ → Option ℕ
ordinal_of_object os n = option_and_then (λ o. elim o.oid [ None ↦ Some (suc (unnamed (take n os))) | Some oid ↦ None ]) (slice_get os n)

-- the ordinal of the id of the activation of this number, where it was made: the next one at its begin
abbrev pub ordinal_of : Config → ℕ → List Entry → ℕ → Option ℕ
ordinal_of c run [] n = ordinal_of_object c.objects n
ordinal_of c run (e ∷ past) n =
    if nat_lt n (length (standing c run past).activations) then ordinal_of c run past n
    else if makes_id c run past e then Some (suc (ids_made c run past)) else None

-- the id of the next ordinal
abbrev pub next_id : Config → ℕ → List Entry → List ℕ
next_id c run past = made_id run (suc (ids_made c run past))

-- an `activate` makes an id and is answered by it; a `reference` that makes one is answered by the reference with that id
pub record AnswersById (c : Config) (run : ℕ) (past : List Entry) (e : Entry) (verdict : Verdict) : Type 0 where
  pub activated : (p : List (List ℕ)) (servant : List ℕ) → command_done past e ≡ Some (Activate p servant)
      → (makes_id c run past e ≡ true) × (verdict ≡ Answer (GoodId (next_id c run past)))
  pub referred : (p : List (List ℕ)) (servant : List ℕ) → command_done past e ≡ Some (Reference p servant) → makes_id c run past e ≡ true
      → (number k : ℕ) × (verdict ≡ Answer (GoodIor (reference_text c run number p (next_id c run past) k)))

abbrev pub AnswersNext : Config → ℕ → List Entry → Entry → Type 0
AnswersNext c run past (Admit w r verdict) = AnswersById c run past (Admit w r verdict) verdict
AnswersNext c run past e = Unit {0}

-- the entry does an `activate`, and answers it by this id
pub record IsAnswered (past : List Entry) (e : Entry) (oid : List ℕ) : Type 0 where
  pub path : List (List ℕ)
  pub servant : List ℕ
  pub worker : ℕ
  pub arrival : ℕ
  pub done : command_done past e ≡ Some (Activate path servant)
  pub is : e ≡ Admit worker arrival (Answer (GoodId oid))

-- some entry answered an `activate` by this id
abbrev pub WasAnswered : List Entry → List ℕ → Type 0
WasAnswered [] oid = ⊥
WasAnswered (e ∷ past) oid = IsAnswered past e oid ⊎ WasAnswered past oid

-- no id is answered again
abbrev pub AnswersOnce : List Entry → Entry → Type 0
AnswersOnce past e = (oid : List ℕ) → IsAnswered past e oid → WasAnswered past oid → ⊥
