-- Steps of clap's walk over words that are arguments, where no option and no subcommand waits.
use Rattle.std.proofs.Common.{◌≡◌, ◌∙◌, ℕ, Bool, true, false, List, [], ◌∷◌, Option, Some, None, is_some, refl, sym, ap, ap₂, cond}
use Rattle.std.specs.Prelude.{fold}
use Rattle.std.specs.Option.{option_map_or}
use Rattle.std.specs.Str.{bytes_eq}
use Rattle.clap.specs.Words.{App, Row, Text}
use Rattle.clap.specs.Simple.{entered}
use Rattle.clap.specs.Kinds.{Kinds, or_else}
use Rattle.clap.specs.Lexer.{long_of}
use Rattle.clap.specs.Walk.{Held, Walk, after_step, arg_by_index, finished, idle, long_or_other, settled, short_or_plain, to_positional, trailing, value, walked, word_met}
use Rattle.clap.specs.Faults.{bundle_fault, check_fault, defaults_fault, entered_fault, flag_word_fault, settle_fault, step_fault, turn_fault, walk_fault, word_fault}
use Rattle.clap.specs.declared.error.ErrorKind.{ErrorKind}
use Rattle.command_words.proofs.Standing.{IsArgument}

-- between two words, where the place of this number takes the next argument
abbrev pub standing : Held → ℕ → Bool → Walk
standing h place marked = record { held = h; waiting = idle; position = place; is_trailing = marked; stopped = None }

-- the faults that come behind a walk
abbrev pub end_fault : App → Walk → Kinds
end_fault a w =
    or_else (entered_fault a w.stopped) (or_else (settle_fault a.top.rules a.top.args_override_self w.held)
    (or_else (defaults_fault (settled a.top.rules w.held).rows a.top.rules)
    (check_fault a.top (finished a.top.rules w.held) (is_some (entered a w.stopped)))))

-- an argument is a value, and no fault by itself
argument_met : (a : App) (h : Held) (place : ℕ) (word : Text) (ws : List Text) → IsArgument word ws
    → word_met a.top.rules [] false idle place word h ≡ (h, value)
argument_met a h place word ws p =
    ap (λ b. cond b (h, trailing place) (long_or_other a.top.rules idle word (long_of word) h)) p.no_end
    ∙ (ap (λ o. long_or_other a.top.rules idle word o h) p.no_long ∙ ap (λ o. short_or_plain a.top.rules idle word o h) p.no_short)

argument_fault : (a : App) (h : Held) (word : Text) (ws : List Text) → IsArgument word ws
    → word_fault a.top [] false idle word h ≡ []
argument_fault a h word ws p =
    ap (λ b. cond b [] (flag_word_fault a.top.rules a.top.args_override_self (long_of word) word h)) p.no_end
    ∙ (ap (λ o. flag_word_fault a.top.rules a.top.args_override_self o word h) p.no_long
    ∙ ap (λ o. option_map_or (λ flags. bundle_fault a.top.rules a.top.args_override_self flags h) o []) p.no_short)

argument_turn : (a : App) (h : Held) (place : ℕ) (word : Text) (ws : List Text) → IsArgument word ws
    → turn_fault a.top [] (standing h place false) word ≡ step_fault a.top place h value
argument_turn a h place word ws p =
    ap₂ (λ k met. or_else k (step_fault a.top place met.0 met.1)) (argument_fault a h word ws p) (argument_met a h place word ws p)

argument_walked : (a : App) (h : Held) (place : ℕ) (word : Text) (ws : List Text) → IsArgument word ws
    → walked a.top.rules [] (standing h place false) word ≡ to_positional a.top.rules (arg_by_index a.top.rules place) word (standing h place false) h
unfolding walked
argument_walked a h place word ws p =
    ap (λ met. after_step a.top.rules word (standing h place false) met.0 met.1) (argument_met a h place word ws p)

module _ {X : Type 0} where
  -- what is read of the matches, where nothing was at fault
  abbrev pub told : (List Row → X) → Kinds → List Row → Option X
  told read [] rows = Some (read rows)
  told read (k ∷ ks) rows = None

  -- the same for the words that follow, from where a walk stands
  abbrev pub told_from : App → (List Row → X) → Walk → List Text → Option X
  told_from a read w ws =
      let end = fold (walked a.top.rules []) w ws in
      told read (or_else (walk_fault a.top [] w ws) (end_fault a end)) (finished a.top.rules end.held)

  -- the same behind a turn
  abbrev turned : App → (List Row → X) → List Text → Kinds → Walk → Option X
  turned a read ws faults w =
      let end = fold (walked a.top.rules []) w ws in
      told read (or_else (or_else faults (walk_fault a.top [] w ws)) (end_fault a end)) (finished a.top.rules end.held)

  turns : (a : App) (read : List Row → X) (w : Walk) (word : Text) (ws : List Text)
      → told_from a read w (word ∷ ws) ≡ turned a read ws (turn_fault a.top [] w word) (walked a.top.rules [] w word)
  unfolding walk_fault
  turns a read w word ws = refl

  -- a turn without a fault
  pub goes_on : (a : App) (read : List Row → X) (w next : Walk) (word : Text) (ws : List Text)
      → turn_fault a.top [] w word ≡ [] → walked a.top.rules [] w word ≡ next
      → told_from a read w (word ∷ ws) ≡ told_from a read next ws
  goes_on a read w next word ws fine moved = turns a read w word ws ∙ ap₂ (turned a read ws) fine moved

  -- `--`
  pub end_of_options : (a : App) (read : List Row → X) (h : Held) (place : ℕ) (word : Text) (ws : List Text)
      → bytes_eq word (45 ∷ 45 ∷ []) ≡ true
      → told_from a read (standing h place false) (word ∷ ws) ≡ told_from a read (standing h place true) ws
  unfolding walked
  end_of_options a read h place word ws is =
      goes_on a read (standing h place false) (standing h place true) word ws (rw is refl) (rw is refl)

  -- an argument that has a place
  pub argument_taken : (a : App) (read : List Row → X) (h : Held) (place : ℕ) (next : Walk) (word : Text) (ws : List Text) → IsArgument word ws
      → step_fault a.top place h value ≡ []
      → to_positional a.top.rules (arg_by_index a.top.rules place) word (standing h place false) h ≡ next
      → told_from a read (standing h place false) (word ∷ ws) ≡ told_from a read next ws
  argument_taken a read h place next word ws p fine moved =
      goes_on a read (standing h place false) next word ws (argument_turn a h place word ws p ∙ fine) (argument_walked a h place word ws p ∙ moved)

  -- an argument that has none
  pub argument_refused : (a : App) (read : List Row → X) (h : Held) (place : ℕ) (word : Text) (ws : List Text) (kind : ErrorKind) (kinds : Kinds)
      → IsArgument word ws
      → step_fault a.top place h value ≡ kind ∷ kinds
      → told_from a read (standing h place false) (word ∷ ws) ≡ None
  argument_refused a read h place word ws kind kinds p stray =
      turns a read (standing h place false) word ws
      ∙ ap (λ k. turned a read ws k (walked a.top.rules [] (standing h place false) word)) (argument_turn a h place word ws p ∙ stray)

  -- what is told of words that are no arguments, or at fault
  pub none_told : (read : List Row → X) (faults : Kinds) (rows : List Row) (want : Option (List Text) → Option X) (arguments : Option (List Text))
      → want None ≡ None
      → (is_some arguments ≡ true → told read faults rows ≡ want arguments) → (is_some arguments ≡ true → faults ≡ [] → ⊥) → want arguments ≡ None
  none_told read faults rows want None none agrees refuses = none
  none_told read [] rows want (Some ws) none agrees refuses = absurd (refuses refl refl)
  none_told read (k ∷ ks) rows want (Some ws) none agrees refuses = sym (agrees refl)
