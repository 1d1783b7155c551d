-- Entries of a log read one after another.
use Rattle.std.proofs.Common.{◌≡◌, ℕ, List, [], ◌∷◌, ◌++◌, Option, Some, None, map, refl, sym, ap, ◌∙◌, append_assoc, ◌+◌, ◌<◌, length, get_or, drop, drop-cons, add-one, suc}
use Rattle.std.specs.Borrow.{Bor}
use Rattle.std.specs.Prelude.{codes}
use Rattle.text_words.specs.Chain.{◌>>=◌}
use Rattle.text_words.specs.Hexadecimal.{prefixed_of}
use Rattle.text_words.specs.Token.{spell, texts}
use Rattle.poa_journal.specs.Row.{page_token, pages_of}

-- what is read behind the entries that were
abbrev pub behind_pages : List (List ℕ) → Option (List (List ℕ)) → Option (List (List ℕ))
behind_pages pages None = None
behind_pages pages (Some more) = Some (pages ++ more)

behind_page_by : (pages : List (List ℕ)) (page : List ℕ) (more : Option (List (List ℕ)))
    → behind_pages (pages ++ page ∷ []) more ≡ behind_pages pages (more >>= λ rest. Some (page ∷ rest))
behind_page_by pages page None = refl
behind_page_by pages page (Some rest) = ap Some (simp append_assoc)

-- one more entry of a log was read
pub behind_page : (pages : List (List ℕ)) (page : List ℕ) (w : List ℕ) (ws : List (List ℕ)) (whole : Option (List (List ℕ)))
    → behind_pages pages (pages_of (w ∷ ws)) ≡ whole → prefixed_of (codes "x") w ≡ Some page
    → behind_pages (pages ++ page ∷ []) (pages_of ws) ≡ whole
behind_page pages page w ws whole so_far is = behind_page_by pages page (pages_of ws)
    ∙ ap (λ p. behind_pages pages (p >>= λ q. pages_of ws >>= λ more. Some (q ∷ more))) (sym is) ∙ so_far

pub page_texts : (pages : List (List ℕ)) (page : List ℕ) (w : List ℕ) (ws whole : List (List ℕ))
    → texts (map page_token pages) ++ w ∷ ws ≡ whole → w ≡ spell (page_token page)
    → texts (map page_token (pages ++ page ∷ [])) ++ ws ≡ whole
page_texts [] page w ws whole so_far is = ap (λ v. v ∷ ws) (sym is) ∙ so_far
page_texts (p ∷ pages) page w ws whole so_far is =
    ap (λ more. spell (page_token p) ∷ more) (page_texts pages page w ws (texts (map page_token pages) ++ w ∷ ws) refl is) ∙ so_far

-- the first words up to i were read as entries of a log
pub record PagesRead (words : List (Bor (List ℕ))) (pages : List (List ℕ)) (i : ℕ) : Type 0 where
  pub read : behind_pages pages (pages_of (map (λ w. w.now) (drop i words))) ≡ pages_of (map (λ w. w.now) words)
  pub text : texts (map page_token pages) ++ map (λ w. w.now) (drop i words) ≡ map (λ w. w.now) words

pub page_step : (words : List (Bor (List ℕ))) (pages after : List (List ℕ)) (page : List ℕ) (i : ℕ) (d : Bor (List ℕ))
    → i < length words → after ≡ pages ++ page ∷ [] → prefixed_of (codes "x") (get_or words i d).now ≡ Some page
    → (get_or words i d).now ≡ spell (page_token page) → PagesRead words pages i → PagesRead words after (i + 1)
page_step words pages after page i d within is value text so_far =
    let rest : map (λ w. w.now) (drop i words) ≡ (get_or words i d).now ∷ map (λ w. w.now) (drop (suc i) words) =
    ap (map (λ w. w.now)) (drop-cons words i d within) in
    let read_on = rw rest at so_far.read in
    let text_on = rw rest at so_far.text in
    rw (is, add-one) (record {
      read = behind_page pages page (get_or words i d).now (map (λ w. w.now) (drop (suc i) words)) _ read_on value;
      text = page_texts pages page (get_or words i d).now (map (λ w. w.now) (drop (suc i) words)) _ text_on text;
    })
