-- What may go on sooner ends no later.
use Rattle.std.proofs.Common.{◌≡◌, ℕ, zero, suc, ◌+◌, ◌*◌, ◌≤◌, inl, inr, List, [], ◌∷◌, length, Some, refl, sym, ap, ◌∙◌, subst, arith}
use Rattle.std.specs.Prelude.{slice_get, slice_set}
use Rattle.std.proofs.lemmas.Bool.{cases_lt}
use Rattle.onfi_timing.specs.declared.timing.Timing.{Timing}
use Rattle.onfi_group.specs.declared.rules.Rules.{Rules}
use Rattle.onfi_request.specs.declared.want.Want.{Want}
use Rattle.onfi_problem.specs.declared.lun_state.LunState.{LunState}
use Rattle.onfi_problem.specs.declared.lun_state.LunState.TheVariants.{Free, Running}
use Rattle.onfi_problem.specs.Moves.{Move, Next, Start, IsMove, earliest, placed, lun_after, without}
use Rattle.onfi_problem.specs.Problem.{Problem}
use Rattle.onfi_group.specs.Group.{group_spans, lun_of}
use Rattle.onfi_timing.specs.Phases.{phase_length}
use Rattle.onfi_schedule.specs.Runs.{Step, Run}
use Rattle.onfi_problem.proofs.LunAfter.{lun_after_running, lun_after_free}

abbrev pub SoonerState : LunState → LunState → Type 0
SoonerState (Free a) (Free b) = a ≤ b
SoonerState (Running g n r) (Running g' n' r') = (g ≡ g') × (n ≡ n') × (r ≤ r')
SoonerState (Free a) (Running g' n' r') = ⊥
SoonerState (Running g n r) (Free b) = ⊥

abbrev pub SoonerLuns : List LunState → List LunState → Type 0
SoonerLuns [] [] = Unit {0}
SoonerLuns (x ∷ xs) (y ∷ ys) = SoonerState x y × SoonerLuns xs ys
SoonerLuns [] (y ∷ ys) = ⊥
SoonerLuns (x ∷ xs) [] = ⊥

pub state_self : (x : LunState) → SoonerState x x
state_self (Free a) = omega arith
state_self (Running g n r) = (refl, refl, omega arith)

pub luns_self : (xs : List LunState) → SoonerLuns xs xs
luns_self [] = tt
luns_self (x ∷ xs) = (state_self x, luns_self xs)

pub set_sooner : (xs ys : List LunState) (l : ℕ) (x y : LunState) → SoonerLuns xs ys → SoonerState x y → SoonerLuns (slice_set xs l x) (slice_set ys l y)
set_sooner [] [] l x y h k = tt
set_sooner (a ∷ xs) (b ∷ ys) zero x y h k = (k, h.1)
set_sooner (a ∷ xs) (b ∷ ys) (suc l) x y h k = (h.0, set_sooner xs ys l x y h.1 k)
set_sooner [] (b ∷ ys) l x y h k = absurd h
set_sooner (a ∷ xs) [] l x y h k = absurd h

pub after_sooner : (timing : Timing) (g : List Want) (n a b : ℕ) → a ≤ b → SoonerState (lun_after timing g n a) (lun_after timing g n b)
after_sooner timing g n a b h =
    elim (cases_lt (n + 1) (2 * length g)) [
      | inl k ↦ rw (lun_after_running timing g n a k, lun_after_running timing g n b k) (refl, refl, omega arith)
      | inr k ↦ rw (lun_after_free timing g n a k, lun_after_free timing g n b k) h
    ]

state_above : (xs ys : List LunState) (l : ℕ) (y : LunState) → SoonerLuns xs ys → slice_get ys l ≡ Some y → (x : LunState) × (slice_get xs l ≡ Some x) × SoonerState x y
state_above [] [] l y h k = cc
state_above [] (z ∷ ys) l y h k = absurd h
state_above (x ∷ xs) [] l y h k = absurd h
state_above (x ∷ xs) (z ∷ ys) zero y h k = let e : z ≡ y = cc in (x, refl, subst (λ (w : LunState). SoonerState x w) e h.0)
state_above (x ∷ xs) (z ∷ ys) (suc l) y h k = state_above xs ys l y h.1 k

running_at : (xs ys : List LunState) (l : ℕ) (g : List Want) (n r : ℕ) → SoonerLuns xs ys → slice_get ys l ≡ Some (Running g n r) → (r' : ℕ) × (slice_get xs l ≡ Some (Running g n r')) × (r' ≤ r)
running_at xs ys l g n r h k = let x = state_above xs ys l (Running g n r) h k in go x.0 x.1 x.2
  where
    go : (x : LunState) → slice_get xs l ≡ Some x → SoonerState x (Running g n r) → (r' : ℕ) × (slice_get xs l ≡ Some (Running g n r')) × (r' ≤ r)
    go (Free a) at s = absurd s
    go (Running g' n' r') at s = let eg = s.0 in let en = s.1 in (r', cc, s.2)

free_at : (xs ys : List LunState) (l : ℕ) (b : ℕ) → SoonerLuns xs ys → slice_get ys l ≡ Some (Free b) → (a : ℕ) × (slice_get xs l ≡ Some (Free a)) × (a ≤ b)
free_at xs ys l b h k = let x = state_above xs ys l (Free b) h k in go x.0 x.1 x.2
  where
    go : (x : LunState) → slice_get xs l ≡ Some x → SoonerState x (Free b) → (a : ℕ) × (slice_get xs l ≡ Some (Free a)) × (a ≤ b)
    go (Free a) at s = (a, at, s)
    go (Running g n r) at s = absurd s

-- and the other way
pub state_below : (xs ys : List LunState) (l : ℕ) (x : LunState) → SoonerLuns xs ys → slice_get xs l ≡ Some x → (y : LunState) × (slice_get ys l ≡ Some y) × SoonerState x y
state_below [] [] l x h k = cc
state_below [] (y ∷ ys) l x h k = absurd h
state_below (z ∷ xs) [] l x h k = absurd h
state_below (z ∷ xs) (y ∷ ys) zero x h k = let e : z ≡ x = cc in (y, refl, subst (λ (w : LunState). SoonerState w y) e h.0)
state_below (z ∷ xs) (y ∷ ys) (suc l) x h k = state_below xs ys l x h.1 k

pub as_running : (g : List Want) (n r : ℕ) (y : LunState) → SoonerState (Running g n r) y → (r' : ℕ) × (y ≡ Running g n r') × (r ≤ r')
as_running g n r (Free b) h = absurd h
as_running g n r (Running g' n' r') h = let eg = h.0 in let en = h.1 in (r', cc, h.2)

module _ (timing : Timing) (rules : Rules) where
  abbrev pub at_times : List Want → ℕ → List LunState → Problem
  at_times wants bus_free luns = record { timing = timing; rules = rules; bus_free = bus_free; luns = luns; wants = wants }

  -- a move on both
  record BothMove (p q : Problem) (m : Move) (t : ℕ) : Type 0 where
    is_move : IsMove p m
    sooner : earliest p m ≤ earliest q m
    wants : List Want
    bus_free : ℕ
    luns : List LunState
    luns' : List LunState
    kept : SoonerLuns luns luns'
    here : placed p m t ≡ at_times wants bus_free luns
    there : placed q m t ≡ at_times wants bus_free luns'

  both_move : (m : Move) (t : ℕ) (wants : List Want) (b b' : ℕ) (luns luns' : List LunState) → b ≤ b' → SoonerLuns luns luns' → IsMove (at_times wants b' luns') m → BothMove (at_times wants b luns) (at_times wants b' luns') m t
  both_move (Next l) t wants b b' luns luns' le h (g, n, r, at) =
      let q = running_at luns luns' l g n r h at in
      let at' = q.1 in
      let c = t + phase_length (group_spans timing g) (length g) n in
      record {
        is_move = (g, n, q.0, at');
        sooner = rw (at, at') (omega (arith, q.2));
        wants = wants;
        bus_free = c;
        luns = slice_set luns l (lun_after timing g n c);
        luns' = slice_set luns' l (lun_after timing g n c);
        kept = set_sooner luns luns' l _ _ h (state_self (lun_after timing g n c));
        here = rw at' refl;
        there = rw at refl;
      }
  both_move (Start ms) t wants b b' luns luns' le h (since, at, st) =
      let q = free_at luns luns' (lun_of ms) since h at in
      let at' = q.1 in
      let c = t + phase_length (group_spans timing ms) (length ms) 0 in
      record {
        is_move = (q.0, at', record { group = st.group; first = st.first });
        sooner = rw (at, at') (omega (arith, q.2));
        wants = without ms wants;
        bus_free = c;
        luns = slice_set luns (lun_of ms) (lun_after timing ms 0 c);
        luns' = slice_set luns' (lun_of ms) (lun_after timing ms 0 c);
        kept = set_sooner luns luns' (lun_of ms) _ _ h (state_self (lun_after timing ms 0 c));
        here = refl;
        there = refl;
      }

  pub sooner_run : (steps : List Step) (wants : List Want) (b b' : ℕ) (luns luns' : List LunState) (f : ℕ) → b ≤ b' → SoonerLuns luns luns' → Run (at_times wants b' luns') steps f → (f' : ℕ) × (f' ≤ f) × Run (at_times wants b luns) steps f'
  sooner_run [] wants b b' luns luns' f le h (done, e) =
      (b, omega arith, (record { wants = done.wants; free = λ l g n r at. let y = state_below luns luns' l (Running g n r) h at in let z = as_running g n r y.0 y.2 in done.free l g n z.0 (y.1 ∙ ap (λ (w : LunState). Some w) z.1) }, refl))
  sooner_run (s ∷ steps) wants b b' luns luns' f le h (mv, on_time, run) =
      let m = both_move s.move s.start wants b b' luns luns' le h mv in
      let r = sooner_run steps m.wants m.bus_free m.bus_free m.luns m.luns' f (omega arith) m.kept (subst (λ q. Run q steps f) m.there run) in
      (r.0, r.1, (m.is_move, omega (arith, m.sooner), subst (λ q. Run q steps r.0) (sym m.here) r.2))
