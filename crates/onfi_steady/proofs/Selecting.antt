-- The phase that goes first, by what is kept of each LUN.
use Rattle.std.proofs.Common.{◌≡◌, ℕ, ◌+◌, ◌-◌, ◌≤◌, ◌⊎◌, ◌∙◌, inl, inr, Bool, true, false, List, [], ◌∷◌, drop, get_or, length, nat_lt, take, Option, Some, None, ap, arith, refl, subst, sym}
use Rattle.std.specs.Prelude.{◌==◌, max, if◌then◌else◌, IfSome, MatchOption, slice_get}
use Rattle.std.specs.List.{AllByRecursion as All, list_any}
use Rattle.std.proofs.lemmas.Bool.{cases_Bool, cases_eq, eq-eqb, ne_eqb, le-ltb, false≢true}
use Rattle.std.proofs.lemmas.Option.{get_or_from_slice_get, slice_get_within}
use Rattle.onfi_timing.specs.declared.kind.Kind.TheVariants.{Read}
use Rattle.onfi_timing.specs.declared.timing.Timing.{Timing}
use Rattle.onfi_request.specs.declared.want.Want.{Want}
use Rattle.onfi_group.specs.Group.{lun_of}
use Rattle.onfi_problem.specs.declared.lun_state.LunState.TheVariants.{Free, Running}
use Rattle.onfi_problem.specs.Problem.{Problem}
use Rattle.onfi_problem.specs.Moves.{ComesBefore, IsMove, Move, earliest, free_from, move_lun}
use Rattle.onfi_problem.proofs.Lists.{map_get}
use Rattle.onfi_problem.proofs.Places.{drop_next}
use Rattle.onfi_steady.specs.declared.begin.Begin.{Begin}
use Rattle.onfi_steady.specs.declared.first.Choice.{Choice}
use Rattle.onfi_steady.specs.declared.lun_books.LunBooks.{LunBooks}
use Rattle.onfi_steady.specs.declared.next.NextPhase.{NextPhase}
use Rattle.onfi_steady.specs.declared.run.Run.{Run}
use Rattle.onfi_steady.specs.declared.turn.Turn.{Turn}
use Rattle.onfi_steady.specs.declared.waiter.Waiter.{Waiter}
use Rattle.onfi_steady.specs.Order.{GoesBefore, is_less}
use Rattle.onfi_steady.specs.Ranks.{keeps_bus, phase_numbers}
use Rattle.onfi_steady.specs.Ranks.{numbers_of}
use Rattle.onfi_steady.specs.Waiting.{Books, channel, wants_of}
use Rattle.onfi_steady.specs.Offer.{erase_group, is_kind, is_open, on_lun, own_group, ready_on}
use Rattle.onfi_steady.specs.Next.{IsFirstGiven, IsNextPhase, any_work, begin_with, given_by, given_group, given_move, has_work, have_work, is_held, is_number, move_by, move_of_phase}
use Rattle.onfi_steady.specs.Kept.{IsKeptBy, IsKeptFrom, is_kept, kept_with}
use Rattle.onfi_steady.specs.Slots.{IsBegin, begins, slots_in, waiters_in, wants_in}
use Rattle.onfi_steady.specs.LunBooks.{IsLun, IsLunOffer, begin_of, runs, state_in, states_in}
use Rattle.onfi_steady.specs.Selecting.{IsChoice, IsFirstChoice, IsFirstMove, IsMoveOf, begin_choice, begin_turn, begun_at, begun_by, begun_on, can_run_by, choice_with, first_choice, given_in, gives_erase, going_turn, has_newest, held_in, keeps_in, kept_in, works_in}
use Rattle.onfi_steady.proofs.KeptFrom.{begin_numbers, kept_more, running_numbers}
use Rattle.onfi_steady.proofs.NextFound.{second}
use Rattle.onfi_steady.proofs.NextHeld.{due_given}
use Rattle.onfi_steady.proofs.NextMove.{given_lun, last_or_earlier, move_given, none_some, past}
use Rattle.onfi_steady.proofs.Order.{behind, before_all}
use Rattle.onfi_steady.proofs.Slots.{any_newest, begin_size}

-- a LUN by what it runs
pub state_free : (r : Run) → r.members ≡ 0 → state_in r ≡ Free r.since
state_free r e = rw (eq-eqb r.members 0 e) refl

pub state_going : (r : Run) → 1 ≤ r.members → state_in r ≡ Running (wants_in (runs r)) r.next r.since
state_going r h = rw (ne_eqb r.members 0 (λ e. omega arith)) refl

since_same : (r : Run) → free_from (Some (state_in r)) ≡ r.since
since_same r = elim (cases_Bool (r.members == 0)) [ inl k ↦ rw k refl | inr k ↦ rw k refl ]

pub none_or_some : (n : ℕ) → (n ≡ 0) ⊎ (1 ≤ n)
none_or_some n = elim (cases_eq n 0) [ inl e ↦ inl e | inr d ↦ inr (omega (arith, d)) ]

none_before : (n : ℕ) → nat_lt n 0 ≡ false
none_before n = le-ltb n 0 (omega arith)

-- what a LUN gives, one after another
module _ (books : Books) (small : All (λ w. w.want.plane ≤ 3) books.waiting) (p : Problem) (rules : p.rules ≡ books.rules) (wants : p.wants ≡ wants_of books.waiting) where
  abbrev Leads : Move → Move → Type 0
  Leads m n = (n ≡ m) ⊎ GoesBefore (phase_numbers p) p m n

  taken : (i at : ℕ) (ms own : List Want) (t s : Turn) → IsMoveOf books p i own s → is_less (numbers_of s) (numbers_of t) ≡ true →
      IsFirstMove books p i at ms t → IsFirstMove books p (i + 1) i own s
  taken i at ms own t s is less f = record {
    is = is;
    there = omega arith;
    first = last_or_earlier books small p rules wants (Leads (move_by i own)) i (move_by i own) is.given (inl refl) (λ lun n h q. inr (over n (f.first lun n h q)));
  }
    where
      ahead : is_less (phase_numbers p (move_by i own)) (phase_numbers p (move_by at ms)) ≡ true
      ahead = subst (λ z. is_less z (phase_numbers p (move_by at ms)) ≡ true) is.numbers (subst (λ z. is_less (numbers_of s) z ≡ true) f.is.numbers less)

      over : (n : Move) → Leads (move_by at ms) n → GoesBefore (phase_numbers p) p (move_by i own) n
      over n l = before_all (phase_numbers p) p (move_by at ms) (move_by i own) n ahead l

  stays : (i at : ℕ) (ms own : List Want) (t s : Turn) → IsMoveOf books p i own s → is_less (numbers_of s) (numbers_of t) ≡ false →
      IsFirstMove books p i at ms t → IsFirstMove books p (i + 1) at ms t
  stays i at ms own t s is less f = record {
    is = f.is;
    there = let h = f.there in omega arith;
    first = last_or_earlier books small p rules wants (Leads (move_by at ms)) i (move_by i own) is.given (inr (behind (phase_numbers p) p (move_by at ms) (move_by i own) refl after comes)) f.first;
  }
    where
      after : is_less (phase_numbers p (move_by i own)) (phase_numbers p (move_by at ms)) ≡ false
      after = subst (λ z. is_less z (phase_numbers p (move_by at ms)) ≡ false) is.numbers (subst (λ z. is_less (numbers_of s) z ≡ false) f.is.numbers less)

      comes : ComesBefore p (move_by at ms) (move_by i own)
      comes =
          let a = (move_given books small p rules wants at (move_by at ms) f.is.given).on in
          let b = (move_given books small p rules wants i (move_by i own) is.given).on in
          let d = f.there in
          inl (omega arith)

  -- the phase that one LUN more gives
  abbrev pub IsGiven : List LunBooks → ℕ → Choice → Type 0
  IsGiven luns i c = (c.lun ≡ i) × IsMoveOf books p i (begun_at luns i c.erase) c.turn

  opened : (luns : List LunBooks) (i : ℕ) (known : Option Choice) (other : Choice) → IsFirstChoice books p luns i known → IsMoveOf books p i (begun_at luns i other.erase) other.turn →
      other.lun ≡ i → IsFirstChoice books p luns (i + 1) (Some (choice_with known other))
  opened luns i None other none is at = subst (λ z. IsFirstMove books p (i + 1) z (begun_at luns z other.erase) other.turn) (sym at) (record {
    is = is;
    there = omega arith;
    first = last_or_earlier books small p rules wants (Leads (move_by i (begun_at luns i other.erase))) i (move_by i (begun_at luns i other.erase)) is.given (inl refl)
        (λ lun n h q. none_some (given_move books p lun) n (none lun h) q);
  })
  opened luns i (Some c) other first is at = elim (cases_Bool (is_less (numbers_of other.turn) (numbers_of c.turn))) [
    | inl k ↦ rw k (subst (λ z. IsFirstMove books p (i + 1) z (begun_at luns z other.erase) other.turn) (sym at) (taken i c.lun (begun_at luns c.lun c.erase) (begun_at luns i other.erase) c.turn other.turn is k first))
    | inr k ↦ rw k (stays i c.lun (begun_at luns c.lun c.erase) (begun_at luns i other.erase) c.turn other.turn is k first)
  ]

  pub choice_more : (luns : List LunBooks) (i : ℕ) (known other : Option Choice) → IsFirstChoice books p luns i known →
      MatchOption other (given_move books p i ≡ None) (IsGiven luns i) → IsFirstChoice books p luns (i + 1) (first_choice known other)
  choice_more luns i known (Some other) first is = opened luns i known other first is.1 is.0
  choice_more luns i None None none e = λ lun h. elim (cases_eq lun i) [
    | inl q ↦ subst (λ z. given_move books p z ≡ None) (sym q) e
    | inr d ↦ none lun (omega arith)
  ]
  choice_more luns i (Some c) None f e = record {
    is = f.is;
    there = let h = f.there in omega arith;
    first = λ lun n h q. elim (cases_eq lun i) [
      | inl k ↦ none_some (given_move books p i) n e (subst (λ z. given_move books p z ≡ Some n) k q)
      | inr d ↦ f.first lun n (omega arith) q
    ];
  }

  -- the phase that goes first of all is next
  first_is : (at : ℕ) (ms : List Want) (t : Turn) → IsFirstMove books p (length p.luns) at ms t → IsFirstGiven books p (move_by at ms)
  first_is at ms t f = record {
    given = subst (λ z. given_move books p z ≡ Some (move_by at ms)) (sym (move_given books small p rules wants at (move_by at ms) f.is.given).on) f.is.given;
    first = λ lun n q. f.first lun n (past books small p rules wants (given_group books (any_work books p)) lun n q) q;
  }

  pub chosen_phase : (at : ℕ) (ms : List Want) (t : Turn) (phase : NextPhase) → IsFirstMove books p (length p.luns) at ms t → phase.lun ≡ at → phase.members.items ≡ ms →
      phase.start ≡ t.start → IsNextPhase books p phase
  chosen_phase at ms t phase f lun members start =
      let same : move_of_phase phase ≡ move_by at ms = ap (λ z. move_by z phase.members.items) lun ∙ ap (move_by at) members in
      let is = move_given books small p rules wants at (move_by at ms) f.is.given in
      let there : given_move books p phase.lun ≡ Some (move_by phase.lun ms) = subst (λ z. given_move books p z ≡ Some (move_by z ms)) (sym lun) f.is.given in
      record {
        next = inl (subst (IsFirstGiven books p) (sym same) (first_is at ms t f));
        move = subst (IsMove p) (sym same) is.move;
        lun = ap move_lun same ∙ (is.on ∙ sym lun);
        start = start ∙ (second _ _ _ _ _ _ f.is.numbers ∙ ap (earliest p) (sym same));
        due = λ w d some. due_given books small phase.lun w d p phase.members.items (subst (λ z. given_move books p phase.lun ≡ Some (move_by phase.lun z)) (sym members) there) some;
      }

same_numbers : (a b s c d e f g h : ℕ) → a ≡ b → c ≡ d → e ≡ f → g ≡ h → (a ∷ s ∷ c ∷ e ∷ g ∷ []) ≡ (b ∷ s ∷ d ∷ f ∷ h ∷ [])
same_numbers a b s c d e f g h p q r t = cc

abbrev one_of : Bool → ℕ
one_of b = if b then 1 else 0

-- what is kept of each LUN
module _ (timing : Timing) (books : Books) (luns : List LunBooks) (from : ℕ) where
  abbrev p : Problem
  p = channel timing from (states_in luns) books

  pub state_at : (i : ℕ) (l : LunBooks) → slice_get luns i ≡ Some l → slice_get (states_in luns) i ≡ Some (state_in l.run)
  state_at i l e = map_get (λ (x : LunBooks). state_in x.run) luns i l e

  pub keeps_same : (l : LunBooks) → IsLun timing books.rules l → keeps_in from l.run ≡ keeps_bus p (state_in l.run)
  keeps_same l is = elim (none_or_some l.run.members) [
    | inl e ↦ rw (state_free l.run e) (rw (e, none_before l.run.next) refl)
    | inr h ↦ (let g = is.going h in rw (state_going l.run h) (rw (g.size, sym g.gap) refl))
  ]

  with_same : (known : Option ℕ) (l : LunBooks) → IsLun timing books.rules l → kept_in from known l.run ≡ kept_with p known (state_in l.run)
  with_same known l is = rw (keeps_same l is, since_same l.run) refl

  -- one LUN more that may keep the bus
  pub kept_on : (i : ℕ) (l : LunBooks) (known : Option ℕ) → slice_get luns i ≡ Some l → IsLun timing books.rules l → IsKeptBy p (take i (states_in luns)) known →
      IsKeptBy p (take (i + 1) (states_in luns)) (kept_in from known l.run)
  kept_on i l known e is before =
      let here = state_at i l e in
      let within = slice_get_within (states_in luns) i (state_in l.run) here in
      let more = kept_more p (states_in luns) i (state_in l.run) known within before in
      let found : get_or (states_in luns) i (state_in l.run) ≡ state_in l.run = get_or_from_slice_get (states_in luns) i (state_in l.run) (state_in l.run) here in
      subst (IsKeptBy p (take (i + 1) (states_in luns))) (ap (kept_with p known) found ∙ sym (with_same known l is)) more

  -- one LUN more that may have work
  works_same : (array : ℕ) (i : ℕ) (l : LunBooks) → array ≡ timing.program.array → IsLun timing books.rules l → waiters_in (slots_in l.line) ≡ on_lun i books.waiting →
      works_in from array l ≡ has_work p (list_any (is_kind Read) (on_lun i books.waiting)) (state_in l.run)
  works_same array i l a is w = elim (none_or_some l.run.members) [
    | inl e ↦ rw (state_free l.run e) (rw (eq-eqb l.run.members 0 e) ((is.offered e).reads ∙ ap (list_any (is_kind Read)) w))
    | inr h ↦ (let g = is.going h in rw (state_going l.run h) (rw (ne_eqb l.run.members 0 (λ e. omega arith), g.size, sym g.erases, a) refl))
  ]

  pub idle_on : (array i : ℕ) (l : LunBooks) → slice_get luns i ≡ Some l → array ≡ timing.program.array → IsLun timing books.rules l → waiters_in (slots_in l.line) ≡ on_lun i books.waiting →
      works_in from array l ≡ false → have_work books p i (drop i (states_in luns)) ≡ any_work books p → have_work books p (i + 1) (drop (i + 1) (states_in luns)) ≡ any_work books p
  idle_on array i l e a is w none before =
      let h : has_work p (list_any (is_kind Read) (on_lun i books.waiting)) (state_in l.run) ≡ false = sym (works_same array i l a is w) ∙ none in
      let q : have_work books p i (state_in l.run ∷ drop (i + 1) (states_in luns)) ≡ have_work books p (i + 1) (drop (i + 1) (states_in luns)) = rw h refl in
      sym q ∙ (ap (have_work books p i) (sym (drop_next (states_in luns) i (state_in l.run) (state_at i l e))) ∙ before)

  pub works_on : (array i : ℕ) (l : LunBooks) → slice_get luns i ≡ Some l → array ≡ timing.program.array → IsLun timing books.rules l → waiters_in (slots_in l.line) ≡ on_lun i books.waiting →
      works_in from array l ≡ true → have_work books p i (drop i (states_in luns)) ≡ any_work books p → true ≡ any_work books p
  works_on array i l e a is w has before =
      let h : has_work p (list_any (is_kind Read) (on_lun i books.waiting)) (state_in l.run) ≡ true = sym (works_same array i l a is w) ∙ has in
      let q : have_work books p i (state_in l.run ∷ drop (i + 1) (states_in luns)) ≡ true = rw h refl in
      sym q ∙ (ap (have_work books p i) (sym (drop_next (states_in luns) i (state_in l.run) (state_at i l e))) ∙ before)

  -- the phase that a LUN gives
  module _ (small : All (λ w. w.want.plane ≤ 3) books.waiting) (kept newest : Option ℕ) (work : Bool) (by : IsKeptFrom p kept) (latest : newest ≡ books.newest) (works : work ≡ any_work books p)
      (i : ℕ) (l : LunBooks) (e : slice_get luns i ≡ Some l) (is : IsLun timing books.rules l) (w : waiters_in (slots_in l.line) ≡ on_lun i books.waiting) where
    abbrev ready : List Waiter
    ready = ready_on i books.waiting

    going_move : 1 ≤ l.run.members → IsMoveOf books p i [] (going_turn from kept l.run)
    going_move h =
        let g = is.going h in
        let state : slice_get (states_in luns) i ≡ Some (Running (wants_in (runs l.run)) l.run.next l.run.since) = state_at i l e ∙ ap Some (state_going l.run h) in
        let keeps : keeps_in from l.run ≡ keeps_bus p (Running (wants_in (runs l.run)) l.run.next l.run.since) = keeps_same l is ∙ ap (keeps_bus p) (state_going l.run h) in
        record {
          given = ap (given_by (given_group books (any_work books p)) books i) state;
          numbers = same_numbers _ _ _ _ _ _ _ _ _
              (ap (λ z. one_of (if z then false else is_kept kept (max from l.run.since) l.run.span)) keeps
              ∙ ap (λ z. one_of (if keeps_bus p (Running (wants_in (runs l.run)) l.run.next l.run.since) then false else is_kept kept (max from l.run.since) z)) g.span)
              g.rank refl g.oldest
              ∙ running_numbers timing from (states_in luns) books kept by i (wants_in (runs l.run)) l.run.next l.run.since state;
        }

    offered : l.run.members ≡ 0 → IsLunOffer timing books.rules (on_lun i books.waiting) l.offer
    offered none = subst (λ z. IsLunOffer timing books.rules z l.offer) w (is.offered none)

    held_same : l.run.members ≡ 0 → gives_erase newest work l ≡ is_held books work ready
    held_same none =
        let o = offered none in
        ap (λ z. if z then (if work then has_newest newest (begins l.offer.group) else false) else false) o.opened
        ∙ ap (λ z. if is_open books.rules ready then (if work then z else false) else false)
        (any_newest newest (begins l.offer.group) ∙ (ap (list_any (is_number newest)) o.group.members ∙ ap (λ z. list_any (is_number z) (own_group books.rules ready)) latest))

    held_open : is_held books work ready ≡ true → is_open books.rules ready ≡ true
    held_open k = elim (cases_Bool (is_open books.rules ready)) [
      | inl o ↦ o
      | inr o ↦ (let q : false ≡ true = rw o at k in absurd (false≢true q))
    ]

    given_begin : l.run.members ≡ 0 → IsBegin timing (given_group books work ready) (begin_of l.offer (gives_erase newest work l))
    given_begin none = elim (cases_Bool (is_held books work ready)) [
      | inl k ↦ (
          let other : IsBegin timing (erase_group books.rules ready) l.offer.erase =
          subst (λ z. IsBegin timing (if z then erase_group books.rules ready else []) l.offer.erase) (held_open k) (offered none).erase in
          rw (held_same none, k) other)
      | inr k ↦ rw (held_same none, k) (offered none).group
    ]

    free_gives : l.run.members ≡ 0 → given_move books p i ≡ begin_with (given_group books work ready)
    free_gives none =
        ap (given_by (given_group books (any_work books p)) books i) (state_at i l e ∙ ap Some (state_free l.run none))
        ∙ ap (λ z. begin_with (given_group books z ready)) (sym works)

    begin_move : l.run.members ≡ 0 → (b : Begin) → (group : List Want) → group ≡ given_group books work ready → IsBegin timing group b → 1 ≤ b.members →
        IsMoveOf books p i group (begin_turn from kept l.run.since b)
    begin_move none b [] g o some = let size = begin_size b in let q : length (wants_in (begins b)) ≡ 0 = ap length o.members in absurd (omega arith)
    begin_move none b (m ∷ ms) g o some =
        let on : lun_of (m ∷ ms) ≡ i = given_lun books small work i (m ∷ ms) g (λ x. absurd cc) in
        let free : slice_get (states_in luns) i ≡ Some (Free l.run.since) = state_at i l e ∙ ap Some (state_free l.run none) in
        let there : slice_get (states_in luns) (lun_of (m ∷ ms)) ≡ Some (Free l.run.since) = subst (λ z. slice_get (states_in luns) z ≡ Some (Free l.run.since)) (sym on) free in
        let size : b.members ≡ length (m ∷ ms) = sym (begin_size b) ∙ ap length o.members in
        record {
          given = free_gives none ∙ ap begin_with (sym g);
          numbers = same_numbers _ _ _ _ _ _ _ _ _ (ap (λ z. one_of (is_kept kept (max from l.run.since) z)) o.cmd) o.rank (ap (λ z. 4 - z) size) o.oldest
              ∙ begin_numbers timing from (states_in luns) books kept by l.run.since (m ∷ ms) (omega arith) there;
        }

    begun_here : (erase : Bool) → begun_at luns i erase ≡ begun_on erase l
    begun_here erase = ap (begun_by erase) e

    begin_given : l.run.members ≡ 0 → (erase : Bool) (b : Begin) → b ≡ begin_of l.offer erase → IsBegin timing (given_group books work ready) b →
        MatchOption (begin_choice from kept l.run.since i erase b) (given_move books p i ≡ None) (IsGiven books small p refl refl luns i)
    begin_given none erase b same o = elim (none_or_some b.members) [
      | inl z ↦ rw (eq-eqb b.members 0 z) (
          let size = begin_size b in
          let nothing : given_group books work ready ≡ [] = sym o.members ∙ empty (wants_in (begins b)) (omega arith) in
          free_gives none ∙ ap begin_with nothing)
      | inr h ↦ rw (ne_eqb b.members 0 (λ z. omega arith)) (
        refl,
        let here : begun_at luns i erase ≡ given_group books work ready =
            begun_here erase ∙ (rw (eq-eqb l.run.members 0 none) (ap (λ z. wants_in (begins z)) (sym same)) ∙ o.members) in
            subst (λ z. IsMoveOf books p i z (begin_turn from kept l.run.since b)) (sym here) (begin_move none b (given_group books work ready) refl o h),
      )
    ]
      where
        empty : (xs : List Want) → length xs ≡ 0 → xs ≡ []
        empty [] h = refl
        empty (x ∷ xs) h = absurd (omega arith)

    pub given_is : MatchOption (given_in from kept newest work i l) (given_move books p i ≡ None) (IsGiven books small p refl refl luns i)
    given_is = elim (none_or_some l.run.members) [
      | inl none ↦ rw (eq-eqb l.run.members 0 none) (begin_given none (gives_erase newest work l) (begin_of l.offer (gives_erase newest work l)) refl (given_begin none))
      | inr h ↦ rw (ne_eqb l.run.members 0 (λ z. omega arith)) (
        refl,
        let here : begun_at luns i false ≡ [] = begun_here false ∙ rw (ne_eqb l.run.members 0 (λ z. omega arith)) refl in
            subst (λ z. IsMoveOf books p i z (going_turn from kept l.run)) (sym here) (going_move h),
      )
    ]

-- all LUNs were looked at
pub last_choice : (books : Books) (p : Problem) (luns : List LunBooks) (i : ℕ) (c : Option Choice) → length luns ≤ i → i ≤ length luns → IsFirstChoice books p luns i c →
    IsFirstChoice books p luns (length luns) c
last_choice books p luns i c h k first = let e : i ≡ length luns = omega arith in subst (λ z. IsFirstChoice books p luns z c) e first

-- what is chosen is the phase of a LUN that is there
begin_there : (luns : List LunBooks) (i : ℕ) (l : LunBooks) (from : ℕ) (kept : Option ℕ) (erase : Bool) → slice_get luns i ≡ Some l → l.run.members ≡ 0 →
    IfSome (begin_choice from kept l.run.since i erase (begin_of l.offer erase)) (IsChoice luns)
begin_there luns i l from kept erase e none = elim (none_or_some (begin_of l.offer erase).members) [
  | inl z ↦ rw (eq-eqb (begin_of l.offer erase).members 0 z) tt
  | inr h ↦ rw (ne_eqb (begin_of l.offer erase).members 0 (λ z. omega arith)) (record {
    there = slice_get_within luns i l e;
    runs = ap (can_run_by erase) e ∙ rw (eq-eqb l.run.members 0 none, ne_eqb (begin_of l.offer erase).members 0 (λ z. omega arith)) refl;
  })
]

pub given_there : (luns : List LunBooks) (i : ℕ) (l : LunBooks) (from : ℕ) (kept newest : Option ℕ) (work : Bool) → slice_get luns i ≡ Some l →
    IfSome (given_in from kept newest work i l) (IsChoice luns)
given_there luns i l from kept newest work e = elim (none_or_some l.run.members) [
  | inl none ↦ rw (eq-eqb l.run.members 0 none) (begin_there luns i l from kept (gives_erase newest work l) e none)
  | inr h ↦ rw (ne_eqb l.run.members 0 (λ z. omega arith)) (record {
    there = slice_get_within luns i l e;
    runs = ap (can_run_by false) e ∙ rw (ne_eqb l.run.members 0 (λ z. omega arith)) refl;
  })
]

pub held_there : (luns : List LunBooks) (i : ℕ) (l : LunBooks) (from : ℕ) → slice_get luns i ≡ Some l → IfSome (held_in from i l) (IsChoice luns)
held_there luns i l from e = elim (none_or_some l.run.members) [
  | inl none ↦ rw (eq-eqb l.run.members 0 none) (begin_there luns i l from None false e none)
  | inr h ↦ rw (ne_eqb l.run.members 0 (λ z. omega arith)) tt
]

pub first_there : (luns : List LunBooks) (known other : Option Choice) → IfSome known (IsChoice luns) → IfSome other (IsChoice luns) → IfSome (first_choice known other) (IsChoice luns)
first_there luns known None h k = h
first_there luns None (Some other) h k = k
first_there luns (Some known) (Some other) h k = elim (cases_Bool (is_less (numbers_of other.turn) (numbers_of known.turn))) [
  | inl q ↦ rw q k
  | inr q ↦ rw q h
]
