use Rattle.std.proofs.Common.{◌≡◌, ◌++◌, drop, map}
use Rattle.text_words.specs.Token.{tails}
use Rattle.poa_journal.specs.Row.{page_token}
use Rattle.poa_journal.proofs.row.put_pages.Given as goal

abbrev pub invariant-loop-page : goal.invariant-loop-page
invariant-loop-page l =
    l.out.items ++ tails (map page_token (drop l.page-index l.pages)) ≡ l.initial.out.items ++ tails (map page_token l.pages)
