use Rattle.std.proofs.Common.{◌≡◌, ◌+◌, List, ℕ, Option, Some, None, ◌++◌, take, drop, length, sym, ◌∙◌, ap, true, false}
use Rattle.std.specs.Prelude.{MatchOption, IfSome}
use Rattle.std.specs.Str.{bytes_eq}
use Rattle.std.specs.Borrow.{Bor}
use Rattle.std.proofs.lemmas.List.{take-append-drop}
use Rattle.std.proofs.lemmas.Slice.Eq.{bytes_eq-Decides}
use Rattle.text_words.proofs.hexadecimal.text_behind.Goals as goal

-- a word that begins with the prefix is the prefix and what stands behind it
parted : (prefix word : List ℕ) (r : Option (Bor (List ℕ)))
    → MatchOption r (bytes_eq (take (length prefix) word) prefix ≡ false)
    (λ x. (bytes_eq (take (length prefix) word) prefix ≡ true) × (x.now ≡ drop (length prefix) word) × (length x.now + length prefix ≡ length word))
    → IfSome r (λ text. word ≡ prefix ++ text.now)
parted prefix word None h = tt
parted prefix word (Some x) h =
    sym (take-append-drop (length prefix) word) ∙ ap (λ front. front ++ drop (length prefix) word) ((bytes_eq-Decides (take (length prefix) word) prefix).0 h.0)
    ∙ ap (λ back. prefix ++ back) (sym h.1)

pub returns-clause-text : goal.returns-clause-text
returns-clause-text c = parted c.args.prefix.now c.args.word.now c.strip_prefix.result c.strip_prefix.ensures.cases
