-- From when on the bus is kept, LUN after LUN, and the numbers of the phases that LUNs give.
use Rattle.std.proofs.Common.{◌≡◌, ℕ, ◌+◌, ◌-◌, ◌<◌, ◌≤◌, inl, inr, Bool, true, false, List, [], ◌∷◌, ◌++◌, length, take, get_or, nat_lt, Option, Some, None, refl, sym, ap, ◌∙◌, subst, arith}
use Rattle.std.specs.Prelude.{max, if◌then◌else◌, slice_get}
use Rattle.std.specs.List.{list_any}
use Rattle.std.proofs.lemmas.List.{take_all, take_more}
use Rattle.std.proofs.lemmas.Bool.{cases_Bool, lt-ltb, false≢true}
use Rattle.onfi_timing.specs.declared.timing.Timing.{Timing}
use Rattle.onfi_timing.specs.Phases.{phase_length}
use Rattle.onfi_request.specs.declared.want.Want.{Want}
use Rattle.onfi_group.specs.Group.{group_operation, group_spans, lun_of}
use Rattle.onfi_problem.specs.declared.lun_state.LunState.{LunState}
use Rattle.onfi_problem.specs.declared.lun_state.LunState.TheVariants.{Free, Running}
use Rattle.onfi_problem.specs.Problem.{Problem}
use Rattle.onfi_problem.specs.Moves.{Next, Start, earliest, free_from, next_ran}
use Rattle.onfi_steady.specs.Ranks.{is_kept_from, keeps_bus, keeps_bus_at, keeps_bus_before, oldest, phase_numbers, post_rank, running, running_rank, start_rank}
use Rattle.onfi_steady.specs.Ranks.{numbers_of}
use Rattle.onfi_steady.specs.Waiting.{Books, channel}
use Rattle.onfi_steady.specs.Kept.{IsKeptBy, IsKeptFrom, earlier, is_kept, kept_with}
use Rattle.onfi_steady.proofs.KeptBus.{any_one_more, min_less}

module _ (p : Problem) where
  keeps_before : (s : LunState) (end : ℕ) → keeps_bus p s ≡ true → keeps_bus_before end p s ≡ nat_lt (max p.bus_free (free_from (Some s))) end
  keeps_before (Free since) end h = absurd (false≢true h)
  keeps_before (Running group next ready) end h = rw h refl

  keeps_none : (s : LunState) (end : ℕ) → keeps_bus p s ≡ false → keeps_bus_before end p s ≡ false
  keeps_none (Free since) end h = refl
  keeps_none (Running group next ready) end h = rw h refl

  same_bool : (b : Bool) → (if b then true else false) ≡ b
  same_bool true = refl
  same_bool false = refl

  kept_push : (luns : List LunState) (s : LunState) (known : Option ℕ) → IsKeptBy p luns known → IsKeptBy p (luns ++ s ∷ []) (kept_with p known s)
  kept_push luns s known h = elim (cases_Bool (keeps_bus p s)) [
    | inl k ↦ rw k (by_known known h k)
    | inr k ↦ rw k (not_kept known h k)
  ]
    where
      by_known : (o : Option ℕ) → IsKeptBy p luns o → keeps_bus p s ≡ true →
          IsKeptBy p (luns ++ s ∷ []) (Some (earlier o (max p.bus_free (free_from (Some s)))))
      by_known None h k = λ end. any_one_more (keeps_bus_before end p) luns s ∙ rw (h end) (keeps_before s end k)
      by_known (Some f) h k = λ end. any_one_more (keeps_bus_before end p) luns s ∙ rw (h end, keeps_before s end k) (sym (min_less f (max p.bus_free (free_from (Some s))) end))

      not_kept : (o : Option ℕ) → IsKeptBy p luns o → keeps_bus p s ≡ false → IsKeptBy p (luns ++ s ∷ []) o
      not_kept None h k = λ end. any_one_more (keeps_bus_before end p) luns s ∙ rw (h end, keeps_none s end k) refl
      not_kept (Some f) h k = λ end. any_one_more (keeps_bus_before end p) luns s ∙ rw (h end, keeps_none s end k) (same_bool (nat_lt f end))

  pub kept_more : (luns : List LunState) (i : ℕ) (d : LunState) (known : Option ℕ) → i < length luns → IsKeptBy p (take i luns) known →
      IsKeptBy p (take (i + 1) luns) (kept_with p known (get_or luns i d))
  kept_more luns i d known h k = subst (λ z. IsKeptBy p z (kept_with p known (get_or luns i d))) (sym (take_more luns i d h)) (kept_push (take i luns) (get_or luns i d) known k)

  pub kept_all : (luns : List LunState) (i : ℕ) (known : Option ℕ) → length luns ≤ i → IsKeptBy p (take i luns) known → IsKeptBy p luns known
  kept_all luns i known h k = subst (λ z. IsKeptBy p z known) (take_all i luns h) k

  -- whether the bus is kept from a phase
  pub kept_is : (kept : Option ℕ) (start length : ℕ) → IsKeptBy p p.luns kept →
      is_kept kept start length ≡ list_any (keeps_bus_before (start + length) p) p.luns
  kept_is None start length h = sym (h (start + length))
  kept_is (Some from) start length h = sym (h (start + length))

same_five : (a b c d e f g : ℕ) → a ≡ b → c ≡ d → (a ∷ c ∷ e ∷ f ∷ g ∷ []) ≡ (b ∷ d ∷ e ∷ f ∷ g ∷ [])
same_five a b c d e f g h k = cc

abbrev one_of : Bool → ℕ
one_of b = if b then 1 else 0

module _ (timing : Timing) (from : ℕ) (luns : List LunState) (books : Books) (kept : Option ℕ) (by : IsKeptFrom (channel timing from luns books) kept) where
  abbrev p : Problem
  p = channel timing from luns books

  pub begin_numbers : (since : ℕ) (group : List Want) → 1 ≤ length group → slice_get luns (lun_of group) ≡ Some (Free since) →
      numbers_of (record { kept = is_kept kept (max from since) (group_spans timing group).cmd; start = max from since; rank = start_rank (group_operation group); smaller = 4 - length group; oldest = oldest group }) ≡ phase_numbers p (Start group)
  begin_numbers since group some state =
      let at : earliest p (Start group) ≡ max from since = ap (λ z. max from (free_from z)) state in
      let cmd : phase_length (group_spans timing group) (length group) 0 ≡ (group_spans timing group).cmd = rw (lt-ltb 0 (length group) (omega arith)) refl in
      let behind : is_kept kept (max from since) (group_spans timing group).cmd ≡ is_kept_from p (Start group) =
      kept_is p kept (max from since) (group_spans timing group).cmd by
      ∙ (ap (λ z. list_any (keeps_bus_before (z + (group_spans timing group).cmd) p) luns) (sym at) ∙ ap (λ z. list_any (keeps_bus_before (earliest p (Start group) + z) p) luns) (sym cmd)) in
      same_five _ _ _ _ _ _ _ (ap one_of behind) (sym at)

  -- what a LUN that goes on has of these numbers
  abbrev going : ℕ → Option LunState → List ℕ
  going lun o = one_of (if keeps_bus_at p o then false else list_any (keeps_bus_before (next_ran p lun o (max from (free_from o))).bus_free p) luns) ∷ max from (free_from o) ∷ running_rank o ∷ 4 ∷ oldest (running o) ∷ []

  pub running_numbers : (lun : ℕ) (group : List Want) (next ready : ℕ) → slice_get luns lun ≡ Some (Running group next ready) →
      numbers_of (record { kept = (if keeps_bus p (Running group next ready) then false else is_kept kept (max from ready) (phase_length (group_spans timing group) (length group) next)); start = max from ready; rank = (if nat_lt next (length group) then 0 else post_rank (group_operation group)); smaller = 4; oldest = oldest group }) ≡ phase_numbers p (Next lun)
  running_numbers lun group next ready state =
      same_five _ _ _ _ _ _ _ (ap (λ z. one_of (if keeps_bus p (Running group next ready) then false else z)) (kept_is p kept (max from ready) (phase_length (group_spans timing group) (length group) next) by)) refl
      ∙ ap (going lun) (sym state)
