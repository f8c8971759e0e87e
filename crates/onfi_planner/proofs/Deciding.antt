-- Deciding which LUNs yield, one LUN after another.
use Rattle.std.proofs.Common.{◌≡◌, ◌≢◌, ℕ, ◌+◌, ◌≤◌, ◌<◌, inl, inr, Bool, true, false, List, length, get_or, Option, Some, None, sym, ◌∙◌, subst, arith, get_or-set_same, get_or-set_other, length-set}
use Rattle.std.specs.Prelude.{slice_set}
use Rattle.std.proofs.lemmas.Bool.{cases_eq}
use Rattle.onfi_problem.specs.Problem.{Problem}
use Rattle.onfi_problem.specs.Moves.{Move, move_lun, may_go, after}
use Rattle.onfi_problem.proofs.Perm.{All-weaker}
use Rattle.onfi_check.specs.Ends.{IsLastEnd}
use Rattle.onfi_planner.specs.Opening.{YieldsTo, AreYields, YieldsSoFar, yield_at}

module _ (p : Problem) (moves : List Move) (yields : List (Option ℕ)) (awaited : List Bool) (so_far : YieldsSoFar p moves yields awaited) (own lun e time : ℕ) (own_small : own < 8) (lun_small : lun < 8) (other : lun ≢ own) (stays : yield_at yields lun ≡ None) (unasked : get_or awaited own false ≡ false) (last : IsLastEnd p moves lun (Some e)) (fits : e ≤ time) (time_is : time ≡ may_go p own) where
  own_within : own < length yields
  own_within = let a = so_far.long in omega arith

  lun_within : lun < length awaited
  lun_within = let a = so_far.marks in omega arith

  abbrev pub now_yields : List (Option ℕ)
  now_yields = slice_set yields own (Some lun)

  abbrev pub now_awaited : List Bool
  now_awaited = slice_set awaited lun true

  here : YieldsTo p moves now_yields own lun
  here = record {
    other = other;
    move = last.0.0;
    has_move = last.0.1;
    of_lun = last.0.2;
    fits = All-weaker (λ n. move_lun n ≡ lun → (after p n).bus_free ≤ e) (λ n. move_lun n ≡ lun → (after p n).bus_free ≤ may_go p own) (λ n f q. let a = f q in omega arith) moves last.1;
    stays = get_or-set_other yields own lun (Some lun) None other ∙ stays;
  }

  now_are : AreYields p moves now_yields
  now_are j l h = elim (cases_eq j own) [
    | inl s ↦ (
        let q : Some lun ≡ Some l = sym (get_or-set_same yields own (Some lun) None own_within) ∙ subst (λ z. yield_at now_yields z ≡ Some l) s h in
        let k : lun ≡ l = cc in
        subst (λ z. YieldsTo p moves now_yields z l) (sym s) (subst (λ z. YieldsTo p moves now_yields own z) k here))
    | inr s ↦ (
        let was : yield_at yields j ≡ Some l = sym (get_or-set_other yields own j (Some lun) None s) ∙ h in
        let old = so_far.are j l was in
        let left : l ≢ own = λ q. let a : get_or awaited own false ≡ true = subst (λ z. get_or awaited z false ≡ true) q (so_far.asked j l was) in cc in
        record { other = old.other; move = old.move; has_move = old.has_move; of_lun = old.of_lun; fits = old.fits; stays = get_or-set_other yields own l (Some lun) None left ∙ old.stays })
  ]

  now_asked : (j l : ℕ) → yield_at now_yields j ≡ Some l → get_or now_awaited l false ≡ true
  now_asked j l h = elim (cases_eq l lun) [
    | inl s ↦ rw s (get_or-set_same awaited lun true false lun_within)
    | inr s ↦ elim (cases_eq j own) [
      | inl t ↦ (
          let q : Some lun ≡ Some l = sym (get_or-set_same yields own (Some lun) None own_within) ∙ subst (λ z. yield_at now_yields z ≡ Some l) t h in
          let k : lun ≡ l = cc in
          absurd (s (sym k)))
      | inr t ↦ (
          let was : yield_at yields j ≡ Some l = sym (get_or-set_other yields own j (Some lun) None t) ∙ h in
          get_or-set_other awaited lun l true false s ∙ so_far.asked j l was)
    ]
  ]

  pub decided : YieldsSoFar p moves now_yields now_awaited
  decided = record { long = length-set yields own (Some lun) ∙ so_far.long; marks = length-set awaited lun true ∙ so_far.marks; are = now_are; asked = now_asked }
