-- The phase that goes first of those that LUNs give, LUN after LUN.
use Rattle.std.proofs.Common.{◌≡◌, ◌≢◌, ℕ, ◌+◌, ◌<◌, ◌≤◌, ◌⊎◌, inl, inr, Bool, true, false, List, [], ◌∷◌, length, Option, Some, None, refl, sym, ap, ◌∙◌, subst, arith}
use Rattle.std.specs.Prelude.{MatchOption, slice_get}
use Rattle.std.specs.List.{AllByRecursion as All, list_any}
use Rattle.std.proofs.lemmas.Bool.{cases_Bool, cases_eq}
use Rattle.std.proofs.lemmas.Option.{slice_get_within}
use Rattle.onfi_timing.specs.declared.timing.Timing.{Timing}
use Rattle.onfi_request.specs.declared.want.Want.{Want}
use Rattle.onfi_group.specs.Group.{lun_of}
use Rattle.onfi_problem.specs.declared.lun_state.LunState.{LunState}
use Rattle.onfi_problem.specs.declared.lun_state.LunState.TheVariants.{Free, Running}
use Rattle.onfi_problem.specs.Problem.{Problem}
use Rattle.onfi_problem.specs.Moves.{ComesBefore, IsMove, Move, Next, Start, move_lun}
use Rattle.onfi_steady.specs.declared.waiter.Waiter.{Waiter}
use Rattle.onfi_steady.specs.Order.{GoesBefore, is_less}
use Rattle.onfi_steady.specs.Ranks.{phase_numbers}
use Rattle.onfi_steady.specs.Ranks.{numbers_of}
use Rattle.onfi_steady.specs.Waiting.{Books, channel, wants_of}
use Rattle.onfi_steady.specs.Offer.{erase_group, own_group, ready_on}
use Rattle.onfi_steady.specs.Next.{IsFirstGiven, any_work, begin_with, given_by, given_group, given_move, is_held, is_number, move_by}
use Rattle.onfi_steady.specs.Kept.{IsKeptFrom}
use Rattle.onfi_steady.proofs.Order.{behind, before_all}
use Rattle.onfi_steady.proofs.Starting.{Starts, erase_starts, own_starts}

pub none_some : {A B : Type 0} (o : Option A) (a : A) → o ≡ None → o ≡ Some a → B
none_some o a h k = absurd cc

same_some : {A : Type 0} (o : Option A) (a b : A) → o ≡ Some a → o ≡ Some b → a ≡ b
same_some o a b h k = cc

pub begin_is : (g : List Want) (n : Move) → begin_with g ≡ Some n → (m : Want) × (ms : List Want) × (g ≡ m ∷ ms) × (n ≡ Start (m ∷ ms))
begin_is [] n h = absurd cc
begin_is (m ∷ ms) n h = (m, ms, refl, cc)

module _ (books : Books) (small : All (λ w. w.want.plane ≤ 3) books.waiting) where
  given_starts : (work : Bool) (lun : ℕ) (m : Want) (ms : List Want) → given_group books work (ready_on lun books.waiting) ≡ m ∷ ms →
      Starts books.rules books.waiting lun small (m ∷ ms)
  given_starts work lun m ms h = elim (cases_Bool (is_held books work (ready_on lun books.waiting))) [
    | inl k ↦ (let q : erase_group books.rules (ready_on lun books.waiting) ≡ m ∷ ms = rw k at h in erase_starts books.rules books.waiting lun small m ms q)
    | inr k ↦ (let q : own_group books.rules (ready_on lun books.waiting) ≡ m ∷ ms = rw k at h in own_starts books.rules books.waiting lun small m ms q)
  ]

  pub given_lun : (work : Bool) (lun : ℕ) (g : List Want) → g ≡ given_group books work (ready_on lun books.waiting) → g ≢ [] → lun_of g ≡ lun
  given_lun work lun [] e some = absurd (some refl)
  given_lun work lun (m ∷ ms) e some = (given_starts work lun m ms (sym e)).on

  module _ (p : Problem) (rules : p.rules ≡ books.rules) (wants : p.wants ≡ wants_of books.waiting) where
    -- what a LUN gives is a move of it
    pub record IsLunMove (lun : ℕ) (n : Move) : Type 0 where
      pub on : move_lun n ≡ lun
      pub move : IsMove p n

    gives_move : (group : List Waiter → List Want) →
        ((lun : ℕ) (m : Want) (ms : List Want) → group (ready_on lun books.waiting) ≡ m ∷ ms → Starts books.rules books.waiting lun small (m ∷ ms)) →
        (lun : ℕ) (n : Move) (o : Option LunState) → slice_get p.luns lun ≡ o → given_by group books lun o ≡ Some n → IsLunMove lun n
    gives_move group starts lun n None e h = absurd cc
    gives_move group starts lun n (Some (Running g k r)) e h = let q : Next lun ≡ n = cc in subst (IsLunMove lun) q (record { on = refl; move = (g, k, r, e) })
    gives_move group starts lun n (Some (Free since)) e h =
        let b = begin_is (group (ready_on lun books.waiting)) n h in
        let s = starts lun b.0 b.1 b.2 in
        subst (IsLunMove lun) (sym b.3) (record {
          on = s.on;
          move = (since, subst (λ z. slice_get p.luns z ≡ Some (Free since)) (sym s.on) e, rw (rules, wants) s.startable);
        })

    pub move_given : (lun : ℕ) (n : Move) → given_move books p lun ≡ Some n → IsLunMove lun n
    move_given lun n h = gives_move (given_group books (any_work books p)) (given_starts (any_work books p)) lun n (slice_get p.luns lun) refl h

    pub move_owned : (lun : ℕ) (n : Move) → given_by (own_group books.rules) books lun (slice_get p.luns lun) ≡ Some n → IsLunMove lun n
    move_owned lun n h = gives_move (own_group books.rules) (λ l. own_starts books.rules books.waiting l small) lun n (slice_get p.luns lun) refl h

    pub last_or_earlier : (P : Move → Type 0) (i : ℕ) (m : Move) → given_move books p i ≡ Some m → P m →
        ((lun : ℕ) (n : Move) → lun < i → given_move books p lun ≡ Some n → P n) → (lun : ℕ) (n : Move) → lun < i + 1 →
        given_move books p lun ≡ Some n → P n
    last_or_earlier P i m e holds earlier lun n h q = elim (cases_eq lun i) [
      | inl k ↦ subst P (same_some (given_move books p i) m n e (subst (λ z. given_move books p z ≡ Some n) k q)) holds
      | inr d ↦ earlier lun n (omega arith) q
    ]

    pub past : (group : List Waiter → List Want) (lun : ℕ) (n : Move) → given_by group books lun (slice_get p.luns lun) ≡ Some n → lun < length p.luns
    past group lun n h = by_state (slice_get p.luns lun) refl h
      where
        by_state : (o : Option LunState) → slice_get p.luns lun ≡ o → given_by group books lun o ≡ Some n → lun < length p.luns
        by_state None e q = absurd cc
        by_state (Some s) e q = slice_get_within p.luns lun s e

    pub none_given : ((lun : ℕ) → lun < length p.luns → given_move books p lun ≡ None) → (lun : ℕ) → given_move books p lun ≡ None
    none_given none lun = by_move (given_move books p lun) refl
      where
        by_move : (o : Option Move) → given_move books p lun ≡ o → given_move books p lun ≡ None
        by_move None e = e
        by_move (Some n) e = none_some (given_move books p lun) n (none lun (past (given_group books (any_work books p)) lun n e)) e
