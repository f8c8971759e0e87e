-- A walk over an input that looks for the line `end`.
use Rattle.std.proofs.Common.{◌≡◌, ◌<◌, ℕ, suc, ◌+◌, Bool, false, List, [], ◌∷◌, ◌++◌, length, take, drop, get_or, Some, None, refl, sym, ap, ◌∙◌, subst, append_assoc, add-one, drop-cons}
use Rattle.std.specs.Prelude.{Option, option_map, cond, ◌==◌, ◌&&◌}
use Rattle.std.proofs.Math.Seq.{take-suc}
use Rattle.onfi_script.specs.Script.{before_end, is_end_line}

-- what a walk that has come to this place still has to say
abbrev pub Left : Option (List ℕ) → Bool → List ℕ → ℕ → Type 0
Left all starts input at = all ≡ option_map (λ front. take at input ++ front) (before_end starts (drop at input))

before_end_cons : (starts : Bool) (c : ℕ) (rest : List ℕ)
    → before_end starts (c ∷ rest) ≡ cond (starts && is_end_line (c ∷ rest)) (Some []) (option_map (λ front. c ∷ front) (before_end (c == 10) rest))
unfolding before_end
before_end_cons starts c rest = refl

-- a byte more in front
front_more : (o : Option (List ℕ)) (xs : List ℕ) (c : ℕ) → option_map (λ f. xs ++ f) (option_map (λ f. c ∷ f) o) ≡ option_map (λ f. xs ++ (c ∷ []) ++ f) o
front_more None xs c = refl
front_more (Some f) xs c = ap Some (sym (append_assoc xs (c ∷ []) f))

pub left_passed : (all : Option (List ℕ)) (starts : Bool) (input : List ℕ) (at : ℕ) → at < length input → (starts && is_end_line (drop at input)) ≡ false
    → Left all starts input at → Left all (get_or input at 0 == 10) input (at + 1)
left_passed all starts input at h closed left =
    let cut = drop-cons input at 0 h in
    let c = get_or input at 0 in
    let no : (starts && is_end_line (c ∷ drop (suc at) input)) ≡ false = subst (λ l. (starts && is_end_line l) ≡ false) cut closed in
    let goes : before_end starts (drop at input) ≡ option_map (λ front. c ∷ front) (before_end (c == 10) (drop (suc at) input)) =
    ap (before_end starts) cut ∙ before_end_cons starts c (drop (suc at) input)
    ∙ ap (λ b. cond b (Some []) (option_map (λ front. c ∷ front) (before_end (c == 10) (drop (suc at) input)))) no in
    let longer : take at input ++ (c ∷ []) ≡ take (suc at) input = sym (take-suc input at 0 h) in
    left ∙ ap (option_map (λ front. take at input ++ front)) goes
    ∙ front_more (before_end (c == 10) (drop (suc at) input)) (take at input) c
    ∙ ap (λ xs. option_map (λ f. xs ++ f) (before_end (c == 10) (drop (suc at) input))) longer
    ∙ ap (λ n. option_map (λ f. take n input ++ f) (before_end (c == 10) (drop n input))) (sym (add-one at))
