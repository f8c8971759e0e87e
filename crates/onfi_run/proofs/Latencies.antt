-- Lists that loops gather, element by element.
use Rattle.std.proofs.Common.{◌≡◌, ◌<◌, ◌≤◌, ℕ, ◌+◌, List, [], ◌∷◌, ◌++◌, length, take, get_or, sym, ap, ◌∙◌, append_assoc}
use Rattle.std.specs.Prelude.{Option, filter_map}
use Rattle.std.specs.List.{cons_option, flat_map}
use Rattle.std.proofs.lemmas.List.{flat_map_more, take_all, take_more}
use Rattle.std.proofs.lemmas.List.Elements.{filter_map-append}

-- ---- what a function picks of each
pub picked_more : {X Y : Type 0} (f : X → Option Y) (xs : List X) (at : ℕ) (d : X) (start so_far next : List Y) → at < length xs
    → so_far ≡ start ++ filter_map f (take at xs) → next ≡ so_far ++ cons_option (f (get_or xs at d)) [] → next ≡ start ++ filter_map f (take (at + 1) xs)
picked_more f xs at d start so_far next h had e =
    let one = cons_option (f (get_or xs at d)) [] in
    e ∙ ap (λ l. l ++ one) had ∙ append_assoc start (filter_map f (take at xs)) one
    ∙ ap (λ l. start ++ l) (sym (filter_map-append f (take at xs) (get_or xs at d ∷ [])) ∙ ap (filter_map f) (sym (take_more xs at d h)))

pub picked_all : {X Y : Type 0} (f : X → Option Y) (xs : List X) (at : ℕ) (start so_far : List Y) → length xs ≤ at
    → so_far ≡ start ++ filter_map f (take at xs) → so_far ≡ start ++ filter_map f xs
picked_all f xs at start so_far h had = had ∙ ap (λ l. start ++ filter_map f l) (take_all at xs h)

-- ---- what a function makes of each
pub joined_more : {X Y : Type 0} (f : X → List Y) (xs : List X) (at : ℕ) (d : X) (start so_far next : List Y) → at < length xs
    → so_far ≡ start ++ flat_map f (take at xs) → next ≡ so_far ++ f (get_or xs at d) → next ≡ start ++ flat_map f (take (at + 1) xs)
joined_more f xs at d start so_far next h had e =
    e ∙ ap (λ l. l ++ f (get_or xs at d)) had ∙ flat_map_more f start (take at xs) (get_or xs at d) ∙ ap (λ l. start ++ flat_map f l) (sym (take_more xs at d h))

pub joined_all : {X Y : Type 0} (f : X → List Y) (xs : List X) (at : ℕ) (start so_far : List Y) → length xs ≤ at
    → so_far ≡ start ++ flat_map f (take at xs) → so_far ≡ start ++ flat_map f xs
joined_all f xs at start so_far h had = had ∙ ap (λ l. start ++ flat_map f l) (take_all at xs h)
