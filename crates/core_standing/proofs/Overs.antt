-- Of what is kept after an entry none is over but what it touched.
use Rattle.std.specs.Prelude.{◌≡◌, ℕ, ◌<◌, Bool, true, false, not, ◌&&◌, ◌||◌, List, Option, Some, None, if◌then◌else◌, refl}
use Rattle.std.specs.List.{list_any}
use Rattle.std.proofs.Common.{inl, inr, sym, ap, ap₂, subst, ◌∙◌, arith}
use Rattle.std.proofs.lemmas.Bool.{cond_both, false_from_ne_true, true≢false}
use Rattle.poa_base.specs.declared.Config.{Config}
use Rattle.poa_base.specs.declared.Key.{Key}
use Rattle.poa_base.specs.declared.Verdict.{Verdict}
use Rattle.poa_base.specs.declared.Verdict.TheVariants.{Serve, Preset, Locator, Incarnate, Try, Refuse, Forward, Addressing, Here, Unknown, Answer, Wait}
use Rattle.poa_base.specs.declared.Entry.{Entry}
use Rattle.poa_base.specs.declared.Entry.TheVariants.{Entered, Arrive, Filled, Left, Collect, Admit, Tried, Incarnated, Run, Done, TakeOut, Etherealized, Abandon}
use Rattle.history_standing.specs.Trees.{In}
use Rattle.history_standing.proofs.Members.{in_either, in_image, some_in}
use Rattle.history_standing.specs.declared.activation.Activation.{Activation}
use Rattle.history_standing.specs.Arrivals.{call_of}
use Rattle.history_standing.specs.Changes.{changed, with_admitted, with_command}
use Rattle.history_standing.specs.Ends.{is_left, is_over, let_out, settled}
use Rattle.history_standing.specs.Keys.{key_in}
use Rattle.history_standing.specs.Opening.{opening}
use Rattle.history_standing.specs.Templates.{has_activator}
use Rattle.history_standing.specs.declared.activation.Phase.TheVariants.{Begun, Complete, Void}
use Rattle.poa_history.proofs.AloneKept.{all_open}
use Rattle.history_standing.specs.Logs.{command_in}
use Rattle.history_standing.specs.Standings.{Standing}
use Rattle.core_standing.specs.declared.standing.Standing.{Standing as Held}
use Rattle.core_standing.specs.Kept.{KeepsNoneOver}
use Rattle.core_standing.specs.Seen.{seen}
use Rattle.poa_history.specs.Entries.{may_end}
use Rattle.core_standing.specs.Touched.{Others, OverTouched, SameOthers}
use Rattle.core_standing.proofs.Forgotten.{from_behind, in_behind}
use Rattle.history_standing.proofs.Tests.{none_by}

-- none that is kept is over where all that are over are forgotten, since no number that is kept is that of what is forgotten
pub none_kept : (c : Config) (s : Held) → ((a : Activation) → In a s.activations.kept → a.number < 4294967296) → KeepsNoneOver c (seen s)
    → list_any (is_over c) s.activations.kept ≡ false
none_kept c s fit none =
    false_from_ne_true (list_any (is_over c) s.activations.kept) (λ some_. (let found = some_in (is_over c) s.activations.kept some_ in
    let same : found.0.number ≡ 4294967296 =
    ap (λ (a : Activation). a.number) (none found.0 (in_behind s.activations.forgotten s.activations.kept found.0 found.1) found.2) in
    let low = fit found.0 found.1 in omega (arith, same, low)))

pub kept_none : (c : Config) (s : Held) → list_any (is_over c) s.activations.kept ≡ false → KeepsNoneOver c (seen s)
kept_none c s none a there over =
    elim (from_behind s.activations.forgotten s.activations.kept a there) [
      | inl spent ↦ spent
      | inr kept ↦ absurd (true≢false (sym over ∙ none_by (is_over c) a s.activations.kept kept none))
    ]

-- what isn't touched was there before
pub over_changed : (c : Config) (touched : ℕ → Bool) (s t : Standing) → SameOthers touched s.activations t.activations → KeepsNoneOver c s
    → OverTouched c touched t
over_changed c touched s t same none a there untouched over = none a (same.stood a there untouched) over

let_out_number : (c : Config) (s : Standing) (a : Activation) → (let_out c s a).number ≡ a.number
let_out_number c s a = cond_both (is_left c s a) (record a { out = true }) a (λ (x : Activation). x.number ≡ a.number) (λ _. refl) (λ _. refl)

-- and stays where it is
pub over_settled : (c : Config) (touched : ℕ → Bool) (s : Standing) → Others c touched s → OverTouched c touched s → OverTouched c touched (settled c s)
over_settled c touched s others overs a there untouched over =
    (let from = in_image (let_out c s) a s.activations there in
    let b = from.0 in
    let its : a.number ≡ b.number = ap (λ (x : Activation). x.number) from.2 ∙ let_out_number c s b in
    let unb : touched b.number ≡ false = ap touched (sym its) ∙ untouched in
    let is : a ≡ b = from.2 ∙ others b from.1 unb in
    is ∙ overs b from.1 unb (ap (is_over c) (sym is) ∙ over))

-- what the Admit of a request begins isn't over
admitted_over : (c : Config) (s : Standing) → KeepsNoneOver c s → (r : ℕ) (key : Option Key) (v : Verdict) → KeepsNoneOver c (with_admitted r key v s)
admitted_over c s none r None v = none
admitted_over c s none r (Some key) (Serve n) = none
admitted_over c s none r (Some key) (Preset name) = none
admitted_over c s none r (Some key) (Locator name) = none
admitted_over c s none r (Some key) (Incarnate n) = λ a there over.
    elim (in_either a _ s.activations there)
    [ inl was ↦ none a was over | inr made ↦ absurd (true≢false (sym over ∙ ap (is_over c) made)) ]
admitted_over c s none r (Some key) Try = none
admitted_over c s none r (Some key) (Refuse x) = none
admitted_over c s none r (Some key) (Forward to) = none
admitted_over c s none r (Some key) Addressing = none
admitted_over c s none r (Some key) Here = none
admitted_over c s none r (Some key) Unknown = none
admitted_over c s none r (Some key) (Answer a) = none
admitted_over c s none r (Some key) Wait = none

-- what begins at opening isn't over
pub opening_over : (c : Config) (run : ℕ) (s : Standing) → s ≡ opening c run → KeepsNoneOver c s
opening_over c run s is =
    subst (KeepsNoneOver c) (sym is) (λ a there over. (let opens = all_open c run a there in
    absurd (true≢false (sym over ∙ ap₂ (λ p o. (elim p [ Void ↦ true | Begun ↦ false | Complete u ↦ false ]) ||
    (o && (a.quiet || (not (has_activator c a.path) || a.etherealized)))) opens.1.1 opens.0))))

-- nor is anything with an entry with which nothing may end
pub over_quiet : (c : Config) (run : ℕ) (past : List Entry) (e : Entry) (s : Standing) → may_end e ≡ false → KeepsNoneOver c s
    → KeepsNoneOver c (changed c run past e s)
over_quiet c run past (Admit w r v) s quiet none =
    (let begun : Standing = with_admitted r (key_in (call_of past r)) v s in
    let same : changed c run past (Admit w r v) s ≡ begun = ap (λ t. with_command c run (if t then command_in (call_of past r) else None) begun) quiet in
    subst (KeepsNoneOver c) (sym same) (admitted_over c s none r (key_in (call_of past r)) v))
over_quiet c run past (Tried w answer) s quiet none = absurd (true≢false quiet)
over_quiet c run past (Incarnated w answer) s quiet none = absurd (true≢false quiet)
over_quiet c run past (Done w) s quiet none = absurd (true≢false quiet)
over_quiet c run past (TakeOut w n etherealize) s quiet none = absurd (true≢false quiet)
over_quiet c run past (Etherealized w cleanup remaining) s quiet none = absurd (true≢false quiet)
over_quiet c run past (Entered conn) s quiet none = none
over_quiet c run past (Arrive conn size call) s quiet none = none
over_quiet c run past (Filled conn size) s quiet none = none
over_quiet c run past (Left conn) s quiet none = none
over_quiet c run past (Collect conn r) s quiet none = none
over_quiet c run past (Run w) s quiet none = none
over_quiet c run past (Abandon w) s quiet none = none
