-- What a change of one activation leaves.
use Rattle.std.specs.Prelude.{◌≡◌, ℕ, ◌==◌, true, false, if◌then◌else◌, List, [], ◌∷◌, map, refl}
use Rattle.std.proofs.Common.{inl, inr, sym, ap₂, ◌∙◌}
use Rattle.std.proofs.lemmas.Bool.{and_right, true≢false}
use Rattle.history_standing.specs.declared.activation.Activation.{Activation}
use Rattle.history_standing.specs.Ends.{is_left}
use Rattle.history_standing.specs.Standings.{is_begun}
use Rattle.history_standing.specs.Changes.{at_number}
use Rattle.history_standing.specs.Trees.{In}
use Rattle.active_map.specs.Made.{flown, made}
use Rattle.active_map.specs.Tables.{Keeps, is_leaving}
use Rattle.active_map.specs.declared.change.Change.{Change}
use Rattle.active_map.specs.declared.change.Change.TheVariants.{Come, TakeOut, Etherealize, LetOut}
use Rattle.active_map.proofs.Covering.{stays_come, stays_in}
use Rattle.active_map.proofs.RowsKept.{keeps_where}

pub keeps_made : (change : Change) → Keeps (made change)
keeps_made (Come phase) =
    keeps_where is_begun (λ x. record x { phase = phase }) (record { number = λ x. refl; adapter = λ x. refl; oid = λ x. refl })
keeps_made (TakeOut remaining) = record { number = λ x. refl; adapter = λ x. refl; oid = λ x. refl }
keeps_made Etherealize = record { number = λ x. refl; adapter = λ x. refl; oid = λ x. refl }
keeps_made (LetOut c flights) =
    keeps_where (is_left c.now (flown flights.now)) (λ x. record x { out = true })
    (record { number = λ x. refl; adapter = λ x. refl; oid = λ x. refl })

-- one isn't leaving by a change unless it was
pub made_stays : (change : Change) (a : Activation) → is_leaving (made change a) ≡ true → is_leaving a ≡ true
made_stays (Come phase) a leaves = stays_come phase a leaves
made_stays (TakeOut remaining) a leaves = absurd (true≢false (sym leaves ∙ and_right a.ending false refl))
made_stays Etherealize a leaves = leaves
made_stays (LetOut c flights) a leaves = stays_in c.now (flown flights.now) a leaves

-- changes of the only one of a number that say the same of it
pub same_change : (n : ℕ) (f g : Activation → Activation) (as' : List Activation)
    → ((a : Activation) → In a as' → (a.number == n) ≡ true → f a ≡ g a) → map (at_number n f) as' ≡ map (at_number n g) as'
same_change n f g [] same = refl
same_change n f g (a ∷ as') same =
    ap₂ (λ b bs. b ∷ bs)
    (elim (a.number == n) as (λ t. (a.number == n) ≡ t → (if t then f a else a) ≡ (if t then g a else a))
    [ true ↦ (λ hit. same a (inl refl) hit) | false ↦ (λ _. refl) ] refl)
    (same_change n f g as' (λ b there. same b (inr there)))
