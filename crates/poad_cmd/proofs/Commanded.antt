-- What a command does is what the words mean.
use Rattle.std.proofs.Common.{◌≡◌, Option, Some, None, sym, ◌∙◌, subst}
use Rattle.command_words.specs.Words.{Meant}

pub some_is : (m n : Meant) → Some m ≡ Some n → m ≡ n
some_is m n e = cc

pub as_meant : (Says : Meant → Type 0) (m n : Meant) (found : Option Meant) → found ≡ Some m → found ≡ Some n → Says m → Says n
as_meant Says m n found is meant says = subst Says (some_is m n (sym is ∙ meant)) says

pub not_none : (m : Meant) (found : Option Meant) → found ≡ Some m → found ≡ None → ⊥
not_none m found is none = let e : Some m ≡ None = sym is ∙ none in cc
