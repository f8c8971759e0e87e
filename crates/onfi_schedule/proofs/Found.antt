-- What a breach that was found says of the conditions.
use Rattle.std.proofs.Common.{◌≡◌, ◌↔◌, true, None, Some, IsNone, IfSome, Option, subst}
use Rattle.std.specs.Prelude.{is_some}
use Rattle.std.proofs.lemmas.Bool.{true≢false}
use Rattle.onfi_problem.specs.Problem.{Problem}
use Rattle.onfi_schedule.specs.Schedule.{Schedule}
use Rattle.onfi_schedule.specs.declared.breach.Breach.{Breach}
use Rattle.onfi_schedule.specs.Breaks.{Condition, condition_of, Holds, Breaks}

-- where a part of a condition is broken, so is the whole
pub part_broken : (o : Option Breach) (Part Whole : Type 0) → is_some o ≡ true → (IsNone o ↔ Part) → (Whole → Part) → IsNone o ↔ Whole
part_broken None Part Whole e n part = cc
part_broken (Some b) Part Whole e n part = ((λ z. absurd (true≢false z)), (λ h. n.1 (part h)))

-- a breach of which nothing but its condition is known
pub is_broken : (p : Problem) (s : Schedule) (k : Condition) (o : Option Breach) (Part : Type 0) → (IsNone o ↔ Part) → (Holds p s k → Part) → IfSome o (λ b. condition_of b ≡ k) → IfSome o (Breaks p s)
is_broken p s k None Part n part about = tt
is_broken p s k (Some b) Part n part about = λ h. absurd (true≢false (n.1 (part (subst (λ (x : Condition). Holds p s x) about h))))

-- what follows of each follows of what was found
pub if_some : {A : Type 0} (o : Option A) (P Q : A → Type 0) → ((x : A) → P x → Q x) → IfSome o P → IfSome o Q
if_some None P Q f h = tt
if_some (Some x) P Q f h = f x h
