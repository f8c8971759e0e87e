-- What is known of operations, one of them changed.
use Rattle.std.proofs.Common.{◌≡◌, ◌<◌, ◌≤◌, ℕ, zero, suc, Bool, true, false, List, [], ◌∷◌, length, get_or, set, ap, refl, Some, arith}
use Rattle.std.specs.Prelude.{max}
use Rattle.std.specs.List.{AllByRecursion as Each}
use Rattle.std.proofs.Math.Bool.{cond}
use Rattle.std.proofs.Math.Nat.{le-max_right}
use Rattle.onfi_request.specs.declared.answer.Answer.{Answer}
use Rattle.onfi_run.specs.declared.completion.Completion.{Completion}
use Rattle.onfi_run.specs.Answers.{IsSuited, awaited, awaiting, came, changed, submitted, suits}
use Rattle.onfi_run.specs.Arriving.{Expected}
use Rattle.onfi_run.specs.Report.{place, places}

-- ---- one element changed
pub changed_there : {X : Type 0} (f : X → X) (xs : List X) (at : ℕ) (d : X) → at < length xs → set xs at (f (get_or xs at d)) ≡ changed f xs at
changed_there f [] at d h = absurd (omega arith)
changed_there f (x ∷ xs) zero d h = refl
changed_there f (x ∷ xs) (suc at) d h = ap (λ l. x ∷ l) (changed_there f xs at d (omega arith))

pub changed_past : {X : Type 0} (f : X → X) (xs : List X) (at : ℕ) → length xs ≤ at → xs ≡ changed f xs at
changed_past f [] at h = refl
changed_past f (x ∷ xs) zero h = absurd (omega arith)
changed_past f (x ∷ xs) (suc at) h = ap (λ l. x ∷ l) (changed_past f xs at (omega arith))

pub each_changed : {X : Type 0} (P : X → Type 0) (f : X → X) → ((x : X) → P x → P (f x)) → (xs : List X) (at : ℕ) → Each P xs → Each P (changed f xs at)
each_changed P f keeps [] at all = tt
each_changed P f keeps (x ∷ xs) zero (here, all) = (keeps x here, all)
each_changed P f keeps (x ∷ xs) (suc at) (here, all) = (here, each_changed P f keeps xs at all)

pub same_places : (f : Completion → Completion) → ((c : Completion) → place (f c) ≡ place c) → (got : List Completion) (at : ℕ) → places (changed f got at) ≡ places got
same_places f same [] at = refl
same_places f same (c ∷ got) zero = ap (λ k. k ∷ places got) (same c)
same_places f same (c ∷ got) (suc at) = ap (λ l. place c ∷ l) (same_places f same got at)

-- ---- operations
none_suited : (e : Expected) → IsSuited (awaited e)
none_suited e = record { suits_it = tt; in_order = omega arith }

pub all_suited : (all : List Expected) → Each IsSuited (awaiting all)
all_suited [] = tt
all_suited (e ∷ all) = (none_suited e, all_suited all)

pub places_awaited : (all : List Expected) → places (awaiting all) ≡ all
places_awaited [] = refl
places_awaited (e ∷ all) = ap (λ l. e ∷ l) (places_awaited all)

pub submitted_suited : (now : ℕ) (c : Completion) → IsSuited c → IsSuited (submitted now c)
submitted_suited now c s = record { suits_it = s.suits_it; in_order = omega arith }

pub came_place : (now : ℕ) (a : Answer) (c : Completion) → place (came now a c) ≡ place c
came_place now a c = by_test (suits c.kind a)
  where
    by_test : (b : Bool) → place (cond b (let d : Completion = record c { answer = Some a; at = max now c.sent } in d) c) ≡ place c
    by_test true = refl
    by_test false = refl

pub came_suited : (now : ℕ) (a : Answer) (c : Completion) → IsSuited c → IsSuited (came now a c)
came_suited now a c s = by_test (suits c.kind a) refl
  where
    by_test : (b : Bool) → suits c.kind a ≡ b → IsSuited (cond b (let d : Completion = record c { answer = Some a; at = max now c.sent } in d) c)
    by_test true e = record { suits_it = e; in_order = le-max_right now c.sent }
    by_test false e = s
