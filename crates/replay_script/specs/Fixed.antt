-- The fixed words of the lines.
use Rattle.std.specs.Prelude.{ℕ, List, [], ◌∷◌, codes}
use Rattle.replay_script.specs.declared.fixed.Verb.{Verb}
use Rattle.replay_script.specs.declared.fixed.Verb.TheVariants as verb
use Rattle.replay_script.specs.declared.fixed.Form.{Form}
use Rattle.replay_script.specs.declared.fixed.Form.TheVariants as form

-- the first word of each kind of line
unfoldable pub verb_word : Verb → List ℕ
verb_word verb.Ask = codes "ask"
verb_word verb.Flood = codes "flood"
verb_word verb.Feed = codes "feed"
verb_word verb.End = codes "end"
verb_word verb.Admin = codes "admin"
verb_word verb.Step = codes "step"
verb_word verb.Run = codes "run"
verb_word verb.Collect = codes "collect"
verb_word verb.Store = codes "store"
verb_word verb.Journal = codes "journal"

abbrev pub verbs : List Verb
verbs = verb.Ask ∷ verb.Flood ∷ verb.Feed ∷ verb.End ∷ verb.Admin ∷ verb.Step ∷ verb.Run ∷ verb.Collect ∷ verb.Store ∷ verb.Journal ∷ []

-- the letter of each type of argument
unfoldable pub form_word : Form → List ℕ
form_word form.Long = codes "i"
form_word form.Ulong = codes "u"
form_word form.Octets = codes "o"
form_word form.Text = codes "s"

abbrev pub forms : List Form
forms = form.Long ∷ form.Ulong ∷ form.Octets ∷ form.Text ∷ []
