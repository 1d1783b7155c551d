-- The lines that are printed.
use Rattle.std.specs.Prelude.{ℕ, List, [], ◌∷◌, ◌++◌, codes}
use Rattle.poa_base.specs.declared.Answer.{Answer}
use Rattle.poa_base.specs.declared.Entry.{Entry}
use Rattle.poa_base.specs.declared.Head.{Head}
use Rattle.poa_base.specs.declared.Reply.{Reply}
use Rattle.poa_base.specs.declared.Reply.TheVariants as reply
use Rattle.text_words.specs.Token.{Token, keyword, named, octets, spelled}
use Rattle.poa_journal.specs.Entry.{entry_tokens, n64}
use Rattle.admin_line.specs.Answer.{answer_tokens}
use Rattle.giop_answer.specs.Reply.{reply_bytes}
use Rattle.replay_run.specs.declared.mark.Mark.{Mark}
use Rattle.replay_run.specs.declared.mark.Mark.TheVariants as mark

unfoldable pub mark_word : Mark → List ℕ
mark_word mark.Limit = codes "limit"
mark_word mark.Bad = codes "bad"
mark_word mark.Idle = codes "idle"
mark_word mark.Reply = codes "reply"
mark_word mark.Answer = codes "answer"

-- words as a line, with its end
abbrev pub line : List Token → List ℕ
line words = spelled words ++ 10 ∷ []

-- an entry as a journal has it
abbrev pub entry_line : Entry → List ℕ
entry_line e = line (entry_tokens e)

-- `idle W`
abbrev pub idle_line : ℕ → List ℕ
idle_line worker = line (keyword (mark_word mark.Idle) ∷ n64 worker ∷ [])

-- `limit CONN`
abbrev pub limit_line : List ℕ → List ℕ
limit_line name = line (keyword (mark_word mark.Limit) ∷ named name ∷ [])

-- `bad CONN AT`
abbrev pub bad_line : List ℕ → ℕ → List ℕ
bad_line name at = line (keyword (mark_word mark.Bad) ∷ named name ∷ n64 at ∷ [])

-- `answer CONN N TEXT`
abbrev pub answer_line : List ℕ → ℕ → Answer → List ℕ
answer_line name number answer = line (keyword (mark_word mark.Answer) ∷ named name ∷ n64 number ∷ answer_tokens answer)

-- `reply CONN HEX`
abbrev pub bytes_line : List ℕ → List ℕ → List ℕ
bytes_line name bytes = line (keyword (mark_word mark.Reply) ∷ named name ∷ octets [] bytes ∷ [])

-- the answer to an administrator's line, or the bytes of a reply
abbrev pub reply_line : List ℕ → Head → Reply → List ℕ
reply_line name head (reply.Answer number answer) = answer_line name number answer
reply_line name head other = bytes_line name (reply_bytes head other)
