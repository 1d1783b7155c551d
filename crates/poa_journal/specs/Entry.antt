-- The entries of a history, a line each.
use Rattle.std.specs.Prelude.{ℕ, ◌^◌, List, [], ◌∷◌}
use Rattle.poa_base.specs.declared.Entry.{Entry}
use Rattle.poa_base.specs.declared.Entry.TheVariants.{Entered, Arrive, Filled, Left, Collect, Admit, Tried, Incarnated, Run, Done, TakeOut, Etherealized, Abandon}
use Rattle.text_words.specs.Token.{Token, keyword, number, AllFit}
use Rattle.poa_journal.specs.declared.fixed.Kind.{Kind}
use Rattle.poa_journal.specs.declared.fixed.Kind.TheVariants as kind
use Rattle.poa_journal.specs.Fixed.{kind_word, removal_word, removal_for, flag_word, flag_for}
use Rattle.poa_journal.specs.Call as call
use Rattle.poa_journal.specs.Verdict as verdict
use Rattle.poa_journal.specs.Outcome as outcome

abbrev pub n32 : ℕ → Token
n32 n = number (2 ^ 32) n

abbrev pub n64 : ℕ → Token
n64 n = number (2 ^ 64) n

abbrev pub kind_in : Entry → Kind
kind_in (Entered conn) = kind.Entered
kind_in (Arrive conn size c) = kind.Arrive
kind_in (Filled conn size) = kind.Filled
kind_in (Left conn) = kind.Left
kind_in (Collect conn arrival) = kind.Collect
kind_in (Admit worker arrival v) = kind.Admit
kind_in (Tried worker answer) = kind.Tried
kind_in (Incarnated worker answer) = kind.Incarnated
kind_in (Run worker) = kind.Run
kind_in (Done worker) = kind.Done
kind_in (TakeOut worker activation etherealize) = kind.TakeOut
kind_in (Etherealized worker cleanup remaining) = kind.Etherealized
kind_in (Abandon worker) = kind.Abandon

abbrev pub body_tokens : Entry → List Token
body_tokens (Entered conn) = n32 conn ∷ []
body_tokens (Arrive conn size c) = n32 conn ∷ n64 size ∷ call.call_tokens c
body_tokens (Filled conn size) = n32 conn ∷ n64 size ∷ []
body_tokens (Left conn) = n32 conn ∷ []
body_tokens (Collect conn arrival) = n32 conn ∷ n64 arrival ∷ []
body_tokens (Admit worker arrival v) = n32 worker ∷ n64 arrival ∷ verdict.verdict_tokens v
body_tokens (Tried worker answer) = n32 worker ∷ outcome.attempt_tokens answer
body_tokens (Incarnated worker answer) = n32 worker ∷ outcome.incarnation_tokens answer
body_tokens (Run worker) = n32 worker ∷ []
body_tokens (Done worker) = n32 worker ∷ []
body_tokens (TakeOut worker activation etherealize) = n32 worker ∷ n32 activation ∷ keyword (removal_word (removal_for etherealize)) ∷ []
body_tokens (Etherealized worker cleanup remaining) =
    n32 worker ∷ keyword (flag_word (flag_for cleanup)) ∷ keyword (flag_word (flag_for remaining)) ∷ []
body_tokens (Abandon worker) = n32 worker ∷ []

-- the words of an entry's line
abbrev pub entry_tokens : Entry → List Token
entry_tokens e = keyword (kind_word (kind_in e)) ∷ body_tokens e

-- an entry whose text tells all of it
abbrev pub IsTold : Entry → Type 0
IsTold (Arrive conn size c) = call.IsTold c
IsTold (Admit worker arrival v) = verdict.IsTold v
IsTold (Incarnated worker answer) = outcome.IsTold answer
IsTold e = Unit {0}

-- an entry that a line of a journal stands for: its names, numbers and bytes are such as can be written
pub record IsWritten (e : Entry) : Type 0 where
  pub fits : AllFit (entry_tokens e)
  pub told : IsTold e
