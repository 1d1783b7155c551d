-- Lines of tokens: cut into words and lines, they give the texts of the tokens again.
use Rattle.std.proofs.Common.{◌≡◌, ℕ, ◌==◌, true, not, List, [], ◌∷◌, ◌++◌, filter, refl, ap, sym, ◌∙◌, arith}
use Rattle.std.proofs.lemmas.Bool.{and_from}
use Rattle.std.proofs.lemmas.List.Folds.{list_all-append}
use Rattle.std.specs.List.{list_all}
use Rattle.text_words.specs.Cuts.{lacks, parts_of, words_of, loose_words_of, lines_of, is_filled}
use Rattle.text_words.specs.Token.{Token, spell, AllFit, texts, tails, spelled}
use Rattle.text_words.proofs.Cutting.{cut-front}
use Rattle.text_words.proofs.Joining.{behind_each, cut_again, together}
use Rattle.text_words.proofs.Tokens.{printable, word_lacks, word_filled}

-- the tokens' texts, each behind a space
behind_texts : (ts : List Token) → behind_each 32 (texts ts) ≡ tails ts
behind_texts [] = refl
behind_texts (t ∷ ts) = ap (λ more. (32 ∷ spell t) ++ more) (behind_texts ts)

texts_lack : (ts : List Token) → AllFit ts → list_all (lacks 32) (texts ts) ≡ true
texts_lack [] h = refl
texts_lack (t ∷ ts) h = and_from _ _ (word_lacks 32 (omega arith) (spell t) (printable t h.0)) (texts_lack ts h.1)

-- the words of a line of tokens are their texts
pub words_spelled : (t : Token) (ts : List Token) → AllFit (t ∷ ts) → words_of (spelled (t ∷ ts)) ≡ texts (t ∷ ts)
words_spelled t ts h =
    ap (λ more. parts_of 32 (spell t ++ more)) (sym (behind_texts ts))
    ∙ cut_again 32 (spell t) (texts ts) (word_lacks 32 (omega arith) (spell t) (printable t h.0)) (texts_lack ts h.1)

-- a line with the words of tokens is the line of the tokens
pub line_spelled : (line : List ℕ) (t : Token) (ts : List Token) → words_of line ≡ texts (t ∷ ts) → line ≡ spelled (t ∷ ts)
line_spelled line t ts same =
    let whole : 32 ∷ line ≡ 32 ∷ spelled (t ∷ ts) = sym (together 32 line) ∙ ap (behind_each 32) same ∙ behind_texts (t ∷ ts) in
    cc

filled_texts : (ts : List Token) → AllFit ts → filter is_filled (texts ts) ≡ texts ts
filled_texts [] h = refl
filled_texts (t ∷ ts) h = rw (word_filled (spell t) (printable t h.0)) (ap (λ more. spell t ∷ more) (filled_texts ts h.1))

-- where spaces are loose, a line of tokens has the same words
pub loose_spelled : (ts : List Token) → AllFit ts → loose_words_of (spelled ts) ≡ texts ts
loose_spelled [] h = refl
loose_spelled (t ∷ ts) h = ap (filter is_filled) (words_spelled t ts h) ∙ filled_texts (t ∷ ts) h

tails_lack : (ts : List Token) → AllFit ts → lacks 10 (tails ts) ≡ true
tails_lack [] h = refl
tails_lack (t ∷ ts) h =
    list_all-append (λ c. not (c == 10)) (32 ∷ spell t) (tails ts)
    ∙ and_from (lacks 10 (32 ∷ spell t)) (lacks 10 (tails ts)) (word_lacks 10 (omega arith) (spell t) (printable t h.0)) (tails_lack ts h.1)

spelled_lacks : (ts : List Token) → AllFit ts → lacks 10 (spelled ts) ≡ true
spelled_lacks [] h = refl
spelled_lacks (t ∷ ts) h =
    list_all-append (λ c. not (c == 10)) (spell t) (tails ts)
    ∙ and_from (lacks 10 (spell t)) (lacks 10 (tails ts)) (word_lacks 10 (omega arith) (spell t) (printable t h.0)) (tails_lack ts h.1)

-- the first line of a text that begins with the line of tokens
pub line_first : (ts : List Token) (more : List ℕ) → AllFit ts → lines_of (spelled ts ++ 10 ∷ more) ≡ spelled ts ∷ lines_of more
line_first ts more h = cut-front 10 [] (spelled ts) more (spelled_lacks ts h)
