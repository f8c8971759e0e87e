-- One more element of the list that a loop goes over.
use Rattle.std.proofs.Common.{◌≡◌, ℕ, zero, suc, ◌+◌, ◌<◌, Bool, true, false, if◌then◌else◌, List, [], ◌∷◌, ◌++◌, length, None, map, get_or, take, refl, sym, ap, ◌∙◌, add-one, arith}
use Rattle.std.specs.List.{list_any}
use Rattle.std.proofs.lemmas.List.{map-append, take_more}
use Rattle.std.proofs.lemmas.List.Folds.{list_any_more}
use Rattle.onfi_timing.specs.declared.kind.Kind.TheVariants.{Read as ReadPage}
use Rattle.onfi_timing.specs.declared.operation.Operation.TheVariants.{Read, Program, Erase}
use Rattle.onfi_request.specs.declared.want.Want.{Want}
use Rattle.onfi_group.specs.Words.{total}
use Rattle.onfi_problem.specs.Position.{waiting_of}
use Rattle.onfi_bound.specs.declared.chain.Chain.{Chain}
use Rattle.onfi_problem.proofs.Sums.{total_more}
use Rattle.onfi_timing.specs.declared.operation.Operation.{Operation}
use Rattle.onfi_bound.specs.Bounds.{same_operation}
pub use Rattle.onfi_problem.proofs.Lists.{all_at}

-- what a list gives past its end
abbrev pub no_chain : Chain
no_chain = record { running = false; from = 0; commands = 0; posts = 0; waits = 0; command = None }

abbrev pub no_want : Want
no_want = record { id = 0; kind = ReadPage; lun = 0; plane = 0; block = 0; page = 0 }

-- a sum with one more
pub summed : {A : Type 0} (f : A → ℕ) (xs : List A) (i : ℕ) (d : A) (first so_far next : ℕ) → i < length xs → so_far ≡ first + total f (take i xs) → next ≡ so_far + f (get_or xs i d) → next ≡ first + total f (take (i + 1) xs)
summed f xs i d first so_far next h a b = let e = total_more f xs i d h in omega arith

-- a test with one more
pub tested : {A : Type 0} (p : A → Bool) (xs : List A) (i : ℕ) (d : A) (so_far next : Bool) → i < length xs → so_far ≡ list_any p (take i xs) → next ≡ (if so_far then true else p (get_or xs i d)) → next ≡ list_any p (take (i + 1) xs)
tested p xs i d so_far next h a b = go so_far a b
  where
    go : (so_far : Bool) → so_far ≡ list_any p (take i xs) → next ≡ (if so_far then true else p (get_or xs i d)) → next ≡ list_any p (take (i + 1) xs)
    go true a b = rw (list_any_more p xs i d h, ← a) b
    go false a b = rw (list_any_more p xs i d h, ← a) b

-- the same after a test that went before
pub tested_too : {A : Type 0} (first : Bool) (p : A → Bool) (xs : List A) (i : ℕ) (d : A) (so_far next : Bool) → i < length xs → so_far ≡ (if first then true else list_any p (take i xs)) → next ≡ (if so_far then true else p (get_or xs i d)) → next ≡ (if first then true else list_any p (take (i + 1) xs))
tested_too true p xs i d so_far next h a b = rw a at b
tested_too false p xs i d so_far next h a b = tested p xs i d so_far next h a b

-- the waiting wants with one more
yes_at : (marks : List Bool) (ws : List Want) (i : ℕ) (d : Want) → i < length ws → get_or marks i false ≡ true → waiting_of marks (take (suc i) ws) ≡ waiting_of marks (take i ws) ++ get_or ws i d ∷ []
yes_at marks [] i d h m = absurd (omega arith)
yes_at [] (w ∷ ws) i d h m = cc
yes_at (b ∷ marks) (w ∷ ws) zero d h m = let e : b ≡ true = m in rw e refl
yes_at (true ∷ marks) (w ∷ ws) (suc i) d h m = ap (λ vs. w ∷ vs) (yes_at marks ws i d (omega arith) m)
yes_at (false ∷ marks) (w ∷ ws) (suc i) d h m = yes_at marks ws i d (omega arith) m

no_at : (marks : List Bool) (ws : List Want) (i : ℕ) → get_or marks i false ≡ false → waiting_of marks (take (suc i) ws) ≡ waiting_of marks (take i ws)
no_at marks [] zero m = refl
no_at marks [] (suc i) m = refl
no_at [] (w ∷ ws) zero m = refl
no_at [] (w ∷ ws) (suc i) m = refl
no_at (b ∷ marks) (w ∷ ws) zero m = let e : b ≡ false = m in rw e refl
no_at (true ∷ marks) (w ∷ ws) (suc i) m = ap (λ vs. w ∷ vs) (no_at marks ws i m)
no_at (false ∷ marks) (w ∷ ws) (suc i) m = no_at marks ws i m

pub waiting_yes : (marks : List Bool) (ws : List Want) (i : ℕ) (d : Want) → i < length ws → get_or marks i false ≡ true → waiting_of marks (take (i + 1) ws) ≡ waiting_of marks (take i ws) ++ get_or ws i d ∷ []
waiting_yes marks ws i d h m = rw add-one (yes_at marks ws i d h m)

pub waiting_no : (marks : List Bool) (ws : List Want) (i : ℕ) → get_or marks i false ≡ false → waiting_of marks (take (i + 1) ws) ≡ waiting_of marks (take i ws)
waiting_no marks ws i m = rw add-one (no_at marks ws i m)

-- a list of what two functions make of each, with one more
pub both_mapped : {A B C : Type 0} (f : B → C) (g : A → B) (xs : List A) (i : ℕ) (d : A) (before now : List C) (x : C) → i < length xs → before ≡ map f (map g (take i xs)) → now ≡ before ++ x ∷ [] → x ≡ f (g (get_or xs i d)) → now ≡ map f (map g (take (i + 1) xs))
both_mapped f g xs i d before now x h so_far made is =
    let more = ap (λ z. map f (map g z)) (take_more xs i d h) ∙ (ap (map f) (map-append g (take i xs) (get_or xs i d ∷ [])) ∙ map-append f (map g (take i xs)) (g (get_or xs i d) ∷ [])) in
    made ∙ (ap (λ z. z ++ x ∷ []) so_far ∙ (ap (λ z. map f (map g (take i xs)) ++ z ∷ []) is ∙ sym more))

-- a number counted for one operation alone
pub one_operation_of : (operation : Operation) (c : ℕ) → (if same_operation Read operation then c else 0) + ((if same_operation Program operation then c else 0) + (if same_operation Erase operation then c else 0)) ≡ c
one_operation_of Read c = omega arith
one_operation_of Program c = omega arith
one_operation_of Erase c = omega arith
