-- No request is passed over for ever: what was passed over often is due, and of what is due the first of its LUN begins.
use Rattle.std.proofs.Common.{◌≡◌, ℕ, ◌+◌, ◌<◌, ◌≤◌, ◌∙◌, inl, inr, Bool, true, false, List, [], ◌∷◌, ◌++◌, length, map, nat_lt, Some, ap, arith, length-append, refl, subst, sym}
use Rattle.std.specs.Prelude.{◌==◌, ◌||◌, cond, min, not}
use Rattle.std.specs.List.{AllByRecursion as All, filter, find}
use Rattle.std.proofs.lemmas.Bool.{cases_Bool, cases_eq, cases_lt, eq-eqb, le-ltb, lt-ltb, false≢true}
use Rattle.onfi_timing.specs.declared.operation.Operation.{Operation}
use Rattle.onfi_timing.specs.declared.operation.Operation.TheVariants.{Read, Program, Erase}
use Rattle.onfi_timing.specs.Kinds.{operation_of}
use Rattle.onfi_request.specs.declared.want.Want.{Want}
use Rattle.onfi_group.specs.Words.{Has, Pairs}
use Rattle.onfi_group.specs.Group.{is_member}
use Rattle.onfi_group.proofs.Lists.{All-each, Has-filter}
use Rattle.onfi_steady.specs.declared.waiter.Waiter.{Waiter}
use Rattle.onfi_steady.specs.Waiting.{begins_with, greatest_number, is_on, left_waiting, passed_by}
use Rattle.onfi_steady.specs.Offer.{firsts, is_due, on_lun, ready_on, turns_of}
use Rattle.onfi_steady.specs.Dispatcher.{begun_books, has_id, is_request}
use Rattle.onfi_steady.specs.Fair.{AcceptsFairly, AreFair, AreWithin, BeginsFairly, CancelsFairly, IsFair, NoneStarves, RunsFairly}
use Rattle.onfi_steady.proofs.Changing.{all_filter, off_cancelled, on_cancelled}
use Rattle.onfi_steady.proofs.Dispatching.{off_left, off_push, on_left, on_push, pass_want}
use Rattle.onfi_steady.proofs.Firsts.{filter_has}

weaken : (at : ℕ) (ws : List Waiter) → AreWithin (at + 1) ws → AreWithin at ws
weaken at [] h = tt
weaken at (w ∷ ws) h = (let a = h.0 in omega arith, weaken (at + 1) ws h.1)

within_has : (at : ℕ) (ws : List Waiter) (w : Waiter) → AreWithin at ws → Has ws w → w.passed ≤ 575
within_has at [] w h i = absurd i
within_has at (v ∷ ws) w h (inl e) = let a = h.0 in subst (λ (z : Waiter). z.passed ≤ 575) e (omega arith)
within_has at (v ∷ ws) w h (inr i) = within_has (at + 1) ws w h.1 i

pub none_starves : NoneStarves
none_starves books fair = All-each (λ w. w.passed ≤ 575) books.waiting (λ w i. within_has 0 (on_lun w.want.lun books.waiting) w (fair w.want.lun).within (Has-filter (is_on w.want.lun) books.waiting w i (eq-eqb w.want.lun w.want.lun refl)))

-- one more after the others
all_push : {A : Type 0} (P : A → Type 0) (xs : List A) (x : A) → All P xs → P x → All P (xs ++ x ∷ [])
all_push P [] x h p = (p, tt)
all_push P (y ∷ xs) x h p = (h.0, all_push P xs x h.1 p)

pairs_push : {A : Type 0} (R : A → A → Type 0) (xs : List A) (x : A) → Pairs R xs → All (λ y. R y x) xs → Pairs R (xs ++ x ∷ [])
pairs_push R [] x h p = (tt, tt)
pairs_push R (y ∷ xs) x h p = (all_push (R y) xs x h.0 p.0, pairs_push R xs x h.1 p.1)

within_push : (at : ℕ) (ws : List Waiter) (w : Waiter) → AreWithin at ws → w.passed ≡ 0 → at + length ws ≤ 575 → AreWithin at (ws ++ w ∷ [])
within_push at [] w h e few = (omega arith, tt)
within_push at (v ∷ ws) w h e few = (h.0, within_push (at + 1) ws w h.1 e (omega arith))

none_below : (ws : List Waiter) → All (λ (v : Waiter). 0 ≤ v.passed) ws
none_below [] = tt
none_below (w ∷ ws) = (omega arith, none_below ws)

fair_push : (ws : List Waiter) (want : Want) → IsFair ws → length ws < 64 → All (λ v. v.want.id < want.id) ws → IsFair (ws ++ record { want = want; passed = 0 } ∷ [])
fair_push ws want fair room later =
    let w : Waiter = record { want = want; passed = 0 } in
    record {
      few = let e : length (ws ++ w ∷ []) ≡ length ws + 1 = length-append ws (w ∷ []) in omega arith;
      rises = pairs_push (λ (a b : Waiter). a.want.id < b.want.id) ws w fair.rises later;
      older = pairs_push (λ (a b : Waiter). b.passed ≤ a.passed) ws w fair.older (none_below ws);
      within = within_push 0 ws w fair.within refl (omega arith);
    }

pub accepts_fairly : AcceptsFairly
accepts_fairly books want fair room later = λ lun. elim (cases_eq want.lun lun) [
  | inl e ↦ (
      let own = subst (λ l. IsFair (on_lun l books.waiting ++ record { want = want; passed = 0 } ∷ [])) e (fair_push (on_lun want.lun books.waiting) want (fair want.lun) room later) in
      subst IsFair (sym (on_push lun books.waiting (record { want = want; passed = 0 }) e)) own)
  | inr d ↦ subst IsFair (sym (off_push lun books.waiting (record { want = want; passed = 0 }) d)) (fair lun)
]

-- what waits on
module _ (lun : ℕ) (ms : List Want) where
  abbrev pass : Waiter → Waiter
  pass = passed_by lun (greatest_number 0 ms)

  abbrev stays : Waiter → Bool
  stays w = not (begins_with lun ms w)

  record IsPassed (w : Waiter) : Type 0 where
    pub least : w.passed ≤ (pass w).passed
    pub most : (pass w).passed ≤ w.passed + 1

  pass_counts : (w : Waiter) → w.passed ≤ 575 → IsPassed w
  pass_counts w h = elim (cases_Bool (is_on lun w)) [
    | inl k ↦ elim (cases_Bool (nat_lt w.want.id (greatest_number 0 ms))) [
      | inl q ↦ record { least = rw (k, q) (omega arith); most = rw (k, q) (omega arith) }
      | inr q ↦ record { least = rw (k, q) (omega arith); most = rw (k, q) (omega arith) }
    ]
    | inr k ↦ record { least = rw k (omega arith); most = rw k (omega arith) }
  ]

  -- an older one is passed over where a later one is
  pass_both : (a b : Waiter) → a.passed ≤ 575 → b.passed ≤ 575 → is_on lun a ≡ true → a.want.id < b.want.id → b.passed ≤ a.passed → (pass b).passed ≤ (pass a).passed
  pass_both a b ha hb on rises older = elim (cases_lt a.want.id (greatest_number 0 ms)) [
    | inl k ↦ (
        let more : (pass a).passed ≡ min (a.passed + 1) 65535 = rw (on, lt-ltb a.want.id (greatest_number 0 ms) k) refl in
        let most = (pass_counts b hb).most in
        omega arith)
    | inr k ↦ (
        let same : (pass b).passed ≡ b.passed = later b (omega arith) in
        let least = (pass_counts a ha).least in
        omega arith)
  ]
    where
      later : (w : Waiter) → greatest_number 0 ms ≤ w.want.id → (pass w).passed ≡ w.passed
      later w h = elim (cases_Bool (is_on lun w)) [
        | inl q ↦ rw (q, le-ltb w.want.id (greatest_number 0 ms) h) refl
        | inr q ↦ rw q refl
      ]

  all_left : (P : Waiter → Type 0) (Q : Waiter → Type 0) (ws : List Waiter) → ((w : Waiter) → P w → Q (pass w)) → All P ws → All Q (map pass (filter stays ws))
  all_left P Q [] f h = tt
  all_left P Q (w ∷ ws) f h = by_test (stays w) (filter stays ws) (all_left P Q ws f h.1)
    where
      by_test : (b : Bool) (rest : List Waiter) → All Q (map pass rest) → All Q (map pass (cond b (w ∷ rest) rest))
      by_test true rest r = (f w h.0, r)
      by_test false rest r = r

  -- what a request is known by in a line
  record IsKnown (w : Waiter) : Type 0 where
    pub on : is_on lun w ≡ true
    pub few : w.passed ≤ 575

  both : (P Q : Waiter → Type 0) (ws : List Waiter) → All P ws → All Q ws → All (λ w. P w × Q w) ws
  both P Q [] h k = tt
  both P Q (w ∷ ws) h k = ((h.0, k.0), both P Q ws h.1 k.1)

  rises_left : (ws : List Waiter) → Pairs (λ a b. a.want.id < b.want.id) ws → Pairs (λ a b. a.want.id < b.want.id) (map pass (filter stays ws))
  rises_left [] h = tt
  rises_left (w ∷ ws) h = by_test (stays w) (filter stays ws) (rises_left ws h.1) (all_left (λ (v : Waiter). w.want.id < v.want.id) (λ (v : Waiter). (pass w).want.id < v.want.id) ws later h.0)
    where
      later : (v : Waiter) → w.want.id < v.want.id → (pass w).want.id < (pass v).want.id
      later v k = let a = ap (λ (z : Want). z.id) (pass_want lun ms w) in let b = ap (λ (z : Want). z.id) (pass_want lun ms v) in omega arith

      by_test : (b : Bool) (rest : List Waiter) → Pairs (λ a b. a.want.id < b.want.id) (map pass rest) → All (λ (v : Waiter). (pass w).want.id < v.want.id) (map pass rest) →
          Pairs (λ a b. a.want.id < b.want.id) (map pass (cond b (w ∷ rest) rest))
      by_test true rest r k = (k, r)
      by_test false rest r k = r

  older_left : (ws : List Waiter) → All IsKnown ws → Pairs (λ a b. a.want.id < b.want.id) ws → Pairs (λ a b. b.passed ≤ a.passed) ws → Pairs (λ a b. b.passed ≤ a.passed) (map pass (filter stays ws))
  older_left [] known rises h = tt
  older_left (w ∷ ws) known rises h =
      by_test (stays w) (filter stays ws) (older_left ws known.1 rises.1 h.1)
      (all_left (λ (v : Waiter). IsKnown v × ((w.want.id < v.want.id) × (v.passed ≤ w.passed))) (λ (v : Waiter). v.passed ≤ (pass w).passed) ws
      (λ v k. pass_both w v known.0.few k.0.few known.0.on k.1.0 k.1.1)
      (both IsKnown (λ (v : Waiter). (w.want.id < v.want.id) × (v.passed ≤ w.passed)) ws known.1 (both (λ (v : Waiter). w.want.id < v.want.id) (λ (v : Waiter). v.passed ≤ w.passed) ws rises.0 h.0)))
    where
      by_test : (b : Bool) (rest : List Waiter) → Pairs (λ a b. b.passed ≤ a.passed) (map pass rest) → All (λ (v : Waiter). v.passed ≤ (pass w).passed) (map pass rest) →
          Pairs (λ a b. b.passed ≤ a.passed) (map pass (cond b (w ∷ rest) rest))
      by_test true rest r k = (k, r)
      by_test false rest r k = r

  few_left : (ws : List Waiter) → length (map pass (filter stays ws)) ≤ length ws
  few_left [] = omega arith
  few_left (w ∷ ws) = by_test (stays w) (filter stays ws) (few_left ws)
    where
      by_test : (b : Bool) (rest : List Waiter) → length (map pass rest) ≤ length ws → length (map pass (cond b (w ∷ rest) rest)) ≤ length (w ∷ ws)
      by_test true rest r = omega arith
      by_test false rest r = omega arith

  -- each of the others comes nearer where the first begins
  nearer : (at : ℕ) (ws : List Waiter) → All IsKnown ws → AreWithin (at + 1) ws → AreWithin at (map pass (filter stays ws))
  nearer at [] known h = tt
  nearer at (w ∷ ws) known h = by_test (stays w) (filter stays ws) (nearer at ws known.1 (weaken (at + 1) ws h.1)) (nearer (at + 1) ws known.1 h.1)
    where
      by_test : (b : Bool) (rest : List Waiter) → AreWithin at (map pass rest) → AreWithin (at + 1) (map pass rest) → AreWithin at (map pass (cond b (w ∷ rest) rest))
      by_test true rest r k = (let a = h.0 in let m = (pass_counts w known.0.few).most in omega arith, k)
      by_test false rest r k = r

  -- what was passed over less than 512 times
  early : (at : ℕ) (ws : List Waiter) → All IsKnown ws → All (λ (w : Waiter). w.passed < 512) ws → at + length ws ≤ 64 → AreWithin at (map pass (filter stays ws))
  early at [] known h few = tt
  early at (w ∷ ws) known h few = by_test (stays w) (filter stays ws) (early at ws known.1 h.1 (omega arith)) (early (at + 1) ws known.1 h.1 (omega arith))
    where
      by_test : (b : Bool) (rest : List Waiter) → AreWithin at (map pass rest) → AreWithin (at + 1) (map pass rest) → AreWithin at (map pass (cond b (w ∷ rest) rest))
      by_test true rest r k = (let a = h.0 in let m = (pass_counts w known.0.few).most in omega arith, k)
      by_test false rest r k = r

  turns_few : (o : Operation) → turns_of o ≤ 512
  turns_few Read = omega arith
  turns_few Program = omega arith
  turns_few Erase = omega arith

  not_due : (w : Waiter) → is_due w ≡ false → w.passed < 512
  not_due w h = elim (cases_lt w.passed (turns_of (operation_of w.want.kind))) [
    | inl k ↦ (let t = turns_few (operation_of w.want.kind) in omega arith)
    | inr k ↦ (let q : true ≡ false = rw (le-ltb w.passed (turns_of (operation_of w.want.kind)) k) at h in absurd (false≢true (sym q)))
  ]

  has_member : (xs : List Want) (w : Want) → Has xs w → is_member xs w ≡ true
  has_member [] w h = absurd h
  has_member (x ∷ xs) w (inl e) = ap (λ z. z || is_member xs w) (eq-eqb x.id w.id (ap (λ (z : Want). z.id) e))
  has_member (x ∷ xs) w (inr i) = ap (λ z. (x.id == w.id) || z) (has_member xs w i) ∙ all_true (x.id == w.id)
    where
      all_true : (b : Bool) → (b || true) ≡ true
      all_true true = refl
      all_true false = refl

  all_early : (w : Waiter) (ws : List Waiter) → w.passed < 512 → All (λ (v : Waiter). v.passed ≤ w.passed) ws → All (λ (v : Waiter). v.passed < 512) ws
  all_early w [] k h = tt
  all_early w (v ∷ ws) k h = (let a = h.0 in omega arith, all_early w ws k h.1)

  within_left : (ws : List Waiter) → All IsKnown ws → IsFair ws → ((w : Waiter) → find is_due (firsts ws) ≡ Some w → Has ms w.want) → AreWithin 0 (map pass (filter stays ws))
  within_left [] known fair takes = tt
  within_left (w ∷ ws) known fair takes = elim (cases_Bool (is_due w)) [
    | inl due ↦ (
        let member = has_member ms w.want (takes w (rw due refl)) in
        let gone : begins_with lun ms w ≡ true = rw (known.0.on, member) refl in
        rw gone (nearer 0 ws known.1 fair.within.1))
    | inr free ↦ (let k = not_due w free in let few = fair.few in early 0 (w ∷ ws) known (k, all_early w ws k fair.older.0) (omega arith))
  ]

  known_each : (ws : List Waiter) → All (λ w. is_on lun w ≡ true) ws → (at : ℕ) → AreWithin at ws → All IsKnown ws
  known_each [] h at k = tt
  known_each (w ∷ ws) h at k = (record { on = h.0; few = (let a = k.0 in omega arith) }, known_each ws h.1 (at + 1) k.1)

  all_on : (ws : List Waiter) → All (λ w. is_on lun w ≡ true) (on_lun lun ws)
  all_on ws = All-each (λ w. is_on lun w ≡ true) (on_lun lun ws) (λ w i. (filter_has (is_on lun) ws w i).1)

  fair_left : (waiting : List Waiter) → IsFair (on_lun lun waiting) → ((w : Waiter) → find is_due (ready_on lun waiting) ≡ Some w → Has ms w.want) → IsFair (on_lun lun (left_waiting lun ms waiting))
  fair_left waiting fair takes =
      let ws = on_lun lun waiting in
      let known = known_each ws (all_on waiting) 0 fair.within in
      subst IsFair (sym (on_left lun ms waiting)) (record {
        few = let a = few_left ws in let b = fair.few in omega arith;
        rises = rises_left ws fair.rises;
        older = older_left ws known fair.rises fair.older;
        within = within_left ws known fair takes;
      })

pub runs_fairly : RunsFairly
runs_fairly books p phase next fair = by_members phase.members.items refl
  where
    by_members : (ms : List Want) → phase.members.items ≡ ms → AreFair (begun_books books phase.lun ms)
    by_members [] e = fair
    by_members (m ∷ ms) e = λ lun. elim (cases_eq lun phase.lun) [
      | inl q ↦ subst (λ l. IsFair (on_lun l (left_waiting phase.lun (m ∷ ms) books.waiting))) (sym q)
          (fair_left phase.lun (m ∷ ms) books.waiting (fair phase.lun) (λ w due. subst (λ z. Has z w.want) e (next.due w due (λ z. absurd (none_some z)))))
      | inr d ↦ subst IsFair (sym (off_left phase.lun (m ∷ ms) lun d books.waiting)) (fair lun)
    ]
      where
        none_some : phase.members.items ≡ [] → ⊥
        none_some z = let q : m ∷ ms ≡ [] = sym e ∙ z in absurd cc

pub begins_fairly : BeginsFairly
begins_fairly rules newest = λ lun. record { few = omega arith; rises = tt; older = tt; within = tt }

-- without some of those that wait
pairs_filter : {A : Type 0} (R : A → A → Type 0) (test : A → Bool) (xs : List A) → Pairs R xs → Pairs R (filter test xs)
pairs_filter R test [] h = tt
pairs_filter {A = A} R test (x ∷ xs) h = by_test (test x) (filter test xs) (pairs_filter R test xs h.1) (all_filter (R x) test xs h.0)
  where
    by_test : (b : Bool) (rest : List A) → Pairs R rest → All (R x) rest → Pairs R (cond b (x ∷ rest) rest)
    by_test true rest r k = (k, r)
    by_test false rest r k = r

within_filter : (test : Waiter → Bool) (at : ℕ) (ws : List Waiter) → AreWithin at ws → AreWithin at (filter test ws)
within_filter test at [] h = tt
within_filter test at (w ∷ ws) h = by_test (test w) (filter test ws) (within_filter test (at + 1) ws h.1) (within_filter test at ws (weaken at ws h.1))
  where
    by_test : (b : Bool) (rest : List Waiter) → AreWithin (at + 1) rest → AreWithin at rest → AreWithin at (cond b (w ∷ rest) rest)
    by_test true rest r k = (h.0, r)
    by_test false rest r k = k

few_filter : (test : Waiter → Bool) (ws : List Waiter) → length (filter test ws) ≤ length ws
few_filter test [] = omega arith
few_filter test (w ∷ ws) = by_test (test w) (filter test ws) (few_filter test ws)
  where
    by_test : (b : Bool) (rest : List Waiter) → length rest ≤ length ws → length (cond b (w ∷ rest) rest) ≤ length (w ∷ ws)
    by_test true rest r = omega arith
    by_test false rest r = omega arith

fair_filter : (test : Waiter → Bool) (ws : List Waiter) → IsFair ws → IsFair (filter test ws)
fair_filter test ws fair = record {
  few = let a = few_filter test ws in let b = fair.few in omega arith;
  rises = pairs_filter (λ (a b : Waiter). a.want.id < b.want.id) test ws fair.rises;
  older = pairs_filter (λ (a b : Waiter). b.passed ≤ a.passed) test ws fair.older;
  within = within_filter test 0 ws fair.within;
}

pub cancels_fairly : CancelsFairly
cancels_fairly books lun id fair = λ at. elim (cases_eq at lun) [
  | inl q ↦ subst (λ l. IsFair (on_lun l (filter (λ w. not (is_request lun id w)) books.waiting))) (sym q)
      (subst IsFair (sym (on_cancelled lun id books.waiting)) (fair_filter (λ w. not (has_id id w)) (on_lun lun books.waiting) (fair lun)))
  | inr d ↦ subst IsFair (sym (off_cancelled lun id at d books.waiting)) (fair at)
]
