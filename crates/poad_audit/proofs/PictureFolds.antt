-- What a loop has put together so far, and the next piece.
use Rattle.std.proofs.Common.{◌≡◌, ℕ, ◌+◌, ◌<◌, Bool, Option, List, ◌++◌, length, drop, take, get_or, sym, ap, ◌∙◌, append_assoc}
use Rattle.std.specs.List.{flat_map}
use Rattle.std.proofs.lemmas.List.{drop_more, flat_map_more, take_more}
use Rattle.journal_explain.specs.declared.Step.{Step}
use Rattle.poad_audit.specs.PictureBars.{bar_after, bars_by, bars_ended}
use Rattle.poad_audit.specs.PictureLanes.{entered_if, lane_text, lanes_text, numbers_by}
use Rattle.poad_audit.specs.declared.picture.bar.Bar.{Bar}
use Rattle.poad_audit.specs.declared.picture.lane.Lane.{Lane}
use Rattle.poad_audit.specs.declared.picture.window.Window.{Window}

pub piece_here : {A B : Type 0} (f : A → List B) (all : List A) (i : ℕ) (d : A) → i < length all → (start old new piece : List B)
    → piece ≡ f (get_or all i d) → new ≡ old ++ piece → old ≡ start ++ flat_map f (take i all) → new ≡ start ++ flat_map f (take (i + 1) all)
piece_here f all i d below start old new piece is put so_far =
    put
    ∙ ap (λ b. b ++ piece) so_far
    ∙ ap (λ p. (start ++ flat_map f (take i all)) ++ p) is
    ∙ flat_map_more f start (take i all) (get_or all i d)
    ∙ ap (λ t. start ++ flat_map f t) (sym (take_more all i d below))

-- the bar that a step ends is put, if it ends one, and those behind it are left
pub bar_here : (asked : Bool) (all : List Step) (i : ℕ) (d : Step) → i < length all → (b later : Bar) (old new whole : List Bar)
    → new ≡ old ++ bars_ended (get_or all i d) b → later ≡ bar_after asked (get_or all i d) b
    → old ++ bars_by asked b (drop i all) ≡ whole → new ++ bars_by asked later (drop (i + 1) all) ≡ whole
bar_here asked all i d below b later old new whole put goes so_far =
    let s = get_or all i d in
    let rest = drop (i + 1) all in
    ap (λ bs. bs ++ bars_by asked later rest) put
    ∙ append_assoc old (bars_ended s b) (bars_by asked later rest)
    ∙ ap (λ (x : Bar). old ++ (bars_ended s b ++ bars_by asked x rest)) goes
    ∙ ap (λ t. old ++ t) (sym (ap (bars_by asked b) (drop_more all i d below)))
    ∙ so_far

pub lane_here : (w : Window) (bars : List Bar) (all : List Lane) (i : ℕ) (d : Lane) → i < length all → (old line new whole : List ℕ)
    → line ≡ lane_text w bars i (get_or all i d) → new ≡ old ++ line → old ++ lanes_text w bars i (drop i all) ≡ whole
    → new ++ lanes_text w bars (i + 1) (drop (i + 1) all) ≡ whole
lane_here w bars all i d below old line new whole is put so_far =
    let rest = lanes_text w bars (i + 1) (drop (i + 1) all) in
    ap (λ b. b ++ rest) (put ∙ ap (λ l. old ++ l) is)
    ∙ append_assoc old (lane_text w bars i (get_or all i d)) rest
    ∙ ap (λ t. old ++ t) (sym (ap (lanes_text w bars i) (drop_more all i d below)))
    ∙ so_far

pub number_here : {A : Type 0} (number : A → Option ℕ) (all : List A) (i : ℕ) (d : A) → i < length all → (old new whole : List ℕ)
    → new ≡ entered_if (number (get_or all i d)) old → numbers_by number old (drop i all) ≡ whole
    → numbers_by number new (drop (i + 1) all) ≡ whole
number_here number all i d below old new whole entered so_far =
    ap (λ k. numbers_by number k (drop (i + 1) all)) entered
    ∙ sym (ap (numbers_by number old) (drop_more all i d below))
    ∙ so_far
