-- What a LUN holds; that nothing is left where it holds none; and that what is due goes first on its LUN.
use Rattle.std.proofs.Common.{◌≡◌, ◌≢◌, ℕ, ◌<◌, ◌≤◌, inl, inr, Bool, false, List, [], ◌∷◌, length, Option, Some, None, refl, sym, ap, ◌∙◌, subst}
use Rattle.std.specs.Prelude.{max, slice_get}
use Rattle.std.specs.List.{AllByRecursion as All, find}
use Rattle.std.proofs.lemmas.Bool.{cases_lt, eq-eqb}
use Rattle.onfi_request.specs.declared.want.Want.{Want}
use Rattle.onfi_group.specs.Words.{Has}
use Rattle.onfi_group.proofs.Lists.{Has-filter}
use Rattle.onfi_problem.specs.declared.lun_state.LunState.{LunState}
use Rattle.onfi_problem.specs.declared.lun_state.LunState.TheVariants.{Free, Running}
use Rattle.onfi_problem.specs.Problem.{Problem}
use Rattle.onfi_problem.specs.Moves.{Next, Start, IsMove, earliest, free_from, move_lun}
use Rattle.onfi_problem.proofs.Places.{get_within}
use Rattle.onfi_steady.specs.declared.waiter.Waiter.{Waiter}
use Rattle.onfi_steady.specs.Waiting.{Books, is_on, wants_of}
use Rattle.onfi_steady.specs.Offer.{firsts, is_due, on_lun, own_group, ready_on, turned_to}
use Rattle.onfi_steady.specs.Next.{IsFirstHeld, IsIdle, any_work, begin_with, given_by, given_group, given_move, is_held, move_by, own_move}
use Rattle.onfi_steady.specs.Kept.{NoneBelow, held_group}
use Rattle.onfi_steady.proofs.Starting.{found, has_head, none_begins}
use Rattle.onfi_steady.proofs.NextMove.{none_some, begin_is, move_owned}

module _ (books : Books) (small : All (λ w. w.want.plane ≤ 3) books.waiting) (p : Problem) (rules : p.rules ≡ books.rules) (wants : p.wants ≡ wants_of books.waiting) (none : (lun : ℕ) → given_move books p lun ≡ None) where
  none_runs : (lun : ℕ) (group : List Want) (next ready : ℕ) → slice_get p.luns lun ≢ Some (Running group next ready)
  none_runs lun group next ready e = let q : given_move books p lun ≡ Some (Next lun) = rw e refl in none_some (given_move books p lun) (Next lun) (none lun) q

  -- the phase of what a LUN holds
  pub record IsHeld (lun : ℕ) (members : List Want) (start : ℕ) : Type 0 where
    pub own : own_move books p lun ≡ Some (move_by lun members)
    pub on : move_lun (move_by lun members) ≡ lun
    pub move : IsMove p (move_by lun members)
    pub soonest : start ≡ earliest p (move_by lun members)

  pub held_is : (lun : ℕ) (state : LunState) (members : List Want) (start : ℕ) → slice_get p.luns lun ≡ Some state →
      members ≡ held_group books lun (Some state) → members ≢ [] → start ≡ max p.bus_free (free_from (Some state)) → IsHeld lun members start
  held_is lun (Running group next ready) members start e is some at = absurd (some is)
  held_is lun (Free since) [] start e is some at = absurd (some refl)
  held_is lun (Free since) (m ∷ ms) start e is some at =
      let own : own_move books p lun ≡ Some (Start (m ∷ ms)) = rw (e, sym is) refl in
      let o = move_owned books small p rules wants lun (Start (m ∷ ms)) own in
      record {
        own = own;
        on = o.on;
        move = o.move;
        soonest = at ∙ sym (ap (λ z. max p.bus_free (free_from (slice_get p.luns z))) o.on ∙ ap (λ z. max p.bus_free (free_from z)) e);
      }

  none_owned : (lun : ℕ) → held_group books lun (slice_get p.luns lun) ≡ [] → own_move books p lun ≡ None
  none_owned lun h = by_state (slice_get p.luns lun) refl h
    where
      by_state : (o : Option LunState) → slice_get p.luns lun ≡ o → held_group books lun o ≡ [] → given_by (own_group books.rules) books lun o ≡ None
      by_state None e h = refl
      by_state (Some (Running group next ready)) e h = absurd (none_runs lun group next ready e)
      by_state (Some (Free since)) e h = ap begin_with h

  pub first_held : (lun : ℕ) (members : List Want) (start : ℕ) → IsHeld lun members start → NoneBelow books p.luns lun →
      IsFirstHeld books p (move_by lun members)
  first_held lun members start is below = record {
    none = none;
    own = subst (λ z. own_move books p z ≡ Some (move_by lun members)) (sym is.on) is.own;
    lowest = λ l h. none_owned l (below l (subst (λ z. l < z) is.on h));
  }

  none_waits : (lun : ℕ) → held_group books lun (slice_get p.luns lun) ≡ [] → lun < length p.luns → on_lun lun books.waiting ≡ []
  none_waits lun h within = let s = get_within p.luns lun within in by_state s.0 s.1 (subst (λ z. held_group books lun z ≡ []) s.1 h)
    where
      no_firsts : (ws : List Waiter) → firsts ws ≡ [] → ws ≡ []
      no_firsts [] e = refl
      no_firsts (w ∷ ws) e = absurd cc

      by_state : (s : LunState) → slice_get p.luns lun ≡ Some s → held_group books lun (Some s) ≡ [] → on_lun lun books.waiting ≡ []
      by_state (Running group next ready) e h = absurd (none_runs lun group next ready e)
      by_state (Free since) e h = no_firsts (on_lun lun books.waiting) (none_begins books.rules books.waiting lun small h)

  pub idle : NoneBelow books p.luns (length p.luns) → IsIdle p
  idle below = record { free = none_runs; none = rw wants (each books.waiting (λ w h. elsewhere w h)) }
    where
      elsewhere : (w : Waiter) → Has books.waiting w → length p.luns ≤ w.want.lun
      elsewhere w h = elim (cases_lt w.want.lun (length p.luns)) [
        | inl k ↦ (
            let i = Has-filter (is_on w.want.lun) books.waiting w h (eq-eqb w.want.lun w.want.lun refl) in
            let n = none_waits w.want.lun (below w.want.lun k) k in
            absurd (subst (λ z. Has z w) n i))
        | inr k ↦ k
      ]

      each : (ws : List Waiter) → ((w : Waiter) → Has ws w → length p.luns ≤ w.want.lun) → All (λ w. length p.luns ≤ w.lun) (wants_of ws)
      each [] f = tt
      each (w ∷ ws) f = (f w (inl refl), each ws (λ v h. f v (inr h)))

-- what is due goes first on its LUN
module _ (books : Books) (small : All (λ w. w.want.plane ≤ 3) books.waiting) (lun : ℕ) (w : Waiter) (due : find is_due (ready_on lun books.waiting) ≡ Some w) where
  abbrev ready : List Waiter
  ready = ready_on lun books.waiting

  turns : turned_to ready ≡ Some w
  turns = rw due refl

  pub own_has : Has (own_group books.rules ready) w.want
  own_has = rw turns (has_head books.rules books.waiting lun small w (found is_due ready w due).0)

  not_held : (work : Bool) → is_held books work ready ≡ false
  not_held work = rw (turns, (found is_due ready w due).1) refl

  given_has : (work : Bool) → Has (given_group books work ready) w.want
  given_has work = rw (not_held work) own_has

  has_by : (group : List Waiter → List Want) → Has (group ready) w.want → (members : List Want) (o : Option LunState) →
      given_by group books lun o ≡ Some (move_by lun members) → members ≢ [] → Has members w.want
  has_by group has [] o h some = absurd (some refl)
  has_by group has (m ∷ ms) None h some = absurd cc
  has_by group has (m ∷ ms) (Some (Running g k r)) h some = absurd cc
  has_by group has (m ∷ ms) (Some (Free since)) h some =
      let b = begin_is (group ready) (Start (m ∷ ms)) h in
      let e : b.0 ∷ b.1 ≡ m ∷ ms = let q = b.3 in cc in
      subst (λ z. Has z w.want) (b.2 ∙ e) has

  pub due_given : (p : Problem) (members : List Want) → given_move books p lun ≡ Some (move_by lun members) → members ≢ [] → Has members w.want
  due_given p members h some = has_by (given_group books (any_work books p)) (given_has (any_work books p)) members (slice_get p.luns lun) h some

  pub due_held : (p : Problem) (members : List Want) → own_move books p lun ≡ Some (move_by lun members) → members ≢ [] → Has members w.want
  due_held p members h some = has_by (own_group books.rules) own_has members (slice_get p.luns lun) h some
