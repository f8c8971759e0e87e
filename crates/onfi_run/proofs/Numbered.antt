-- Texts that grow by the pieces of numbered elements.
use Rattle.std.proofs.Common.{◌≡◌, ◌<◌, ◌≤◌, ℕ, ◌+◌, List, ◌++◌, length, drop, get_or, refl, sym, ap, ◌∙◌, add-one, drop-cons, append_assoc, append-nil}
use Rattle.std.proofs.Math.ListN.{drop_of_length-le}
use Rattle.onfi_run.specs.Report.{numbered}

-- the text so far and the pieces of the elements from number `at` on are all
pub record Numbered {X : Type 0} (piece : ℕ → X → List ℕ) (xs : List X) (at : ℕ) (start text : List ℕ) : Type 0 where
  pub is : text ++ numbered piece at (drop at xs) ≡ start ++ numbered piece 0 xs

pub numbered_none : {X : Type 0} (piece : ℕ → X → List ℕ) (xs : List X) (start : List ℕ) → Numbered piece xs 0 start start
numbered_none piece xs start = record { is = refl }

pub numbered_more : {X : Type 0} (piece : ℕ → X → List ℕ) (xs : List X) (at : ℕ) (x : X) (start text next : List ℕ) → at < length xs → Numbered piece xs at start text
    → next ≡ text ++ piece at (get_or xs at x) → Numbered piece xs (at + 1) start next
unfolding numbered
numbered_more piece xs at x start text next h so_far e = record {
  is = ap (λ t. t ++ numbered piece (at + 1) (drop (at + 1) xs)) e ∙ append_assoc text (piece at (get_or xs at x)) (numbered piece (at + 1) (drop (at + 1) xs))
      ∙ ap (λ n. text ++ (piece at (get_or xs at x) ++ numbered piece (at + 1) (drop n xs))) (add-one at)
      ∙ ap (λ l. text ++ numbered piece at l) (sym (drop-cons xs at x h)) ∙ so_far.is;
}

pub numbered_all : {X : Type 0} (piece : ℕ → X → List ℕ) (xs : List X) (at : ℕ) (start text : List ℕ) → length xs ≤ at → Numbered piece xs at start text → text ≡ start ++ numbered piece 0 xs
unfolding numbered
numbered_all piece xs at start text h so_far = sym (append-nil text) ∙ ap (λ l. text ++ numbered piece at l) (sym (drop_of_length-le xs h)) ∙ so_far.is
