-- What the next of words that are arguments is.
use Rattle.std.proofs.Common.{◌≡◌, ◌∙◌, ◌⊎◌, ◌==◌, Bool, true, false, List, [], ◌∷◌, Option, Some, None, is_some, inl, inr, refl, sym, ap}
use Rattle.std.specs.Str.{bytes_eq}
use Rattle.clap.specs.Lexer.{long_of, short_of}
use Rattle.clap.specs.Words.{Text}
use Rattle.command_words.specs.Words.{arguments_of, with_argument}

pub more_follow : (w : Text) (more : Option (List Text)) → is_some (with_argument (Some w) more) ≡ true → is_some more ≡ true
more_follow w None h = cc
more_follow w (Some ws) h = refl

-- the word is `--`
pub record EndsOptions (w : Text) (ws : List Text) : Type 0 where
  pub is : bytes_eq w (45 ∷ 45 ∷ []) ≡ true
  pub more : is_some (arguments_of true ws) ≡ true
  pub all : arguments_of false (w ∷ ws) ≡ arguments_of true ws

-- the word is an argument before `--`
pub record IsArgument (w : Text) (ws : List Text) : Type 0 where
  pub no_end : bytes_eq w (45 ∷ 45 ∷ []) ≡ false
  pub no_long : long_of w ≡ None
  pub no_short : short_of w ≡ None
  pub more : is_some (arguments_of false ws) ≡ true
  pub all : arguments_of false (w ∷ ws) ≡ with_argument (Some w) (arguments_of false ws)

pub next_word : (w : Text) (ws : List Text) → is_some (arguments_of false (w ∷ ws)) ≡ true → EndsOptions w ws ⊎ IsArgument w ws
next_word w ws h = go (bytes_eq w (45 ∷ 45 ∷ [])) refl
  where
    plain_word : (v : Text) → bytes_eq v (45 ∷ 45 ∷ []) ≡ false → is_some (arguments_of false (v ∷ ws)) ≡ true → IsArgument v ws
    plain_word [] e k = cc
    plain_word (c ∷ cs) e k = dash (c == 45) refl
      where
        dash : (t : Bool) → (c == 45) ≡ t → IsArgument (c ∷ cs) ws
        dash true d =
            let no : false ≡ true = rw (e, d) at k in
            cc
        dash false d =
            let all : arguments_of false ((c ∷ cs) ∷ ws) ≡ with_argument (Some (c ∷ cs)) (arguments_of false ws) = rw (e, d) refl in
            record {
              no_end = e;
              no_long = rw d refl;
              no_short = rw d refl;
              more = more_follow (c ∷ cs) (arguments_of false ws) (ap is_some (sym all) ∙ k);
              all = all;
            }

    go : (t : Bool) → bytes_eq w (45 ∷ 45 ∷ []) ≡ t → EndsOptions w ws ⊎ IsArgument w ws
    go true e =
        let all : arguments_of false (w ∷ ws) ≡ arguments_of true ws = rw e refl in
        inl (record { is = e; more = ap is_some (sym all) ∙ h; all = all })
    go false e = inr (plain_word w e h)
