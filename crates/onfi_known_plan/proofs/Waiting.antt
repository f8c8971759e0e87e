-- What is asked of the LUNs whose moves yield.
use Rattle.std.proofs.Common.{◌≡◌, ◌≢◌, ℕ, ◌+◌, ◌≤◌, ◌<◌, ◌^◌, inl, inr, Bool, true, false, List, [], ◌∷◌, ◌++◌, refl, sym, ap, ◌∙◌, subst, arith}
use Rattle.std.specs.Prelude.{slice_index, slice_index_or, ◌==◌, max}
use Rattle.std.specs.List.{AllByRecursion as All}
use Rattle.std.proofs.lemmas.Bool.{cases_Bool, eq-eqb, ne_eqb, false≢true}
use Rattle.onfi_problem.specs.Problem.{Problem, IsProblem, IsSmall}
use Rattle.onfi_problem.specs.Moves.{Move, IsMove, move_lun, may_go, earliest}
use Rattle.onfi_problem.proofs.Perm.{All-has, All-weaker}
use Rattle.onfi_schedule.proofs.Exchange.{bus_after}
use Rattle.onfi_demand.specs.Left.{has_left}
use Rattle.onfi_demand.proofs.Keeping.{left_few}
use Rattle.onfi_demand.proofs.Sooner.{move_has}
use Rattle.onfi_known_check.specs.declared.given.Given.{Given}
use Rattle.onfi_known_check.specs.Proves.{with_yields}
use Rattle.onfi_known_plan.specs.declared.yields.Soonest.{Soonest}
use Rattle.onfi_known_plan.specs.Walks.{Awaits, IsGiven, IsSoonest, wait_for, yields}

pub yields_here : (given : List Given) (y : Given) (lun : ℕ) → lun ≡ y.own → yields (given ++ y ∷ []) lun ≡ true
yields_here [] y lun e = rw (eq-eqb lun y.own e) refl
yields_here (z ∷ given) y lun e =
    let h = yields_here given y lun e in
    elim (cases_Bool (lun == z.own)) [ inl k ↦ rw k refl | inr k ↦ rw k h ]

pub yields_same : (given : List Given) (y : Given) (lun : ℕ) → lun ≢ y.own → yields (given ++ y ∷ []) lun ≡ yields given lun
yields_same [] y lun d = rw (ne_eqb lun y.own d) refl
yields_same (z ∷ given) y lun d =
    let h = yields_same given y lun d in
    elim (cases_Bool (lun == z.own)) [ inl k ↦ rw k refl | inr k ↦ rw k h ]

-- what is asked where each waits as long
with_none : (asked : List ℕ) (given : List Given) (lun : ℕ) → yields given lun ≡ false → with_yields asked given lun ≡ slice_index asked lun
with_none asked [] lun h = refl
with_none asked (y ∷ given) lun h = elim (cases_Bool (lun == y.own)) [
  | inl e ↦ (let s : yields (y ∷ given) lun ≡ true = rw e refl in absurd (false≢true (sym h ∙ s)))
  | inr e ↦ (
      let s : yields (y ∷ given) lun ≡ yields given lun = rw e refl in
      let k = with_none asked given lun (sym s ∙ h) in
      rw e k)
]

with_some : (asked : List ℕ) (given : List Given) (lun wait : ℕ) → All (λ y. slice_index asked y.lun + y.longest ≡ wait) given → yields given lun ≡ true → with_yields asked given lun ≡ max wait (slice_index asked lun)
with_some asked [] lun wait all h = absurd (false≢true h)
with_some asked (y ∷ given) lun wait all h = elim (cases_Bool (lun == y.own)) [
  | inl e ↦ (
      let a = all.0 in
      elim (cases_Bool (yields given lun)) [
        | inl f ↦ (let k = with_some asked given lun wait all.1 f in rw e (omega arith))
        | inr f ↦ (let k = with_none asked given lun f in rw e (omega arith))
      ])
  | inr e ↦ (
      let s : yields (y ∷ given) lun ≡ yields given lun = rw e refl in
      let k = with_some asked given lun wait all.1 (sym s ∙ h) in
      rw e k)
]

given_wait : (p : Problem) (soonest : Soonest) (asked : List ℕ) (given : List Given) → All (IsGiven p soonest) given → All (λ y. slice_index asked y.lun + y.longest ≡ wait_for p soonest asked) given
given_wait p soonest asked given all = All-weaker _ _ (λ y g. let l = g.longest in let s : slice_index asked y.lun ≡ slice_index asked soonest.lun = ap (slice_index asked) g.lun in omega arith) given all

-- the soonest asks for no more than lets its moves end in time
pub waits_met : (p : Problem) (moves : List Move) (soonest : Soonest) (asked : List ℕ) (own : ℕ) → IsProblem p → IsSmall p → All (IsMove p) moves → IsSoonest p moves soonest → ((lun : ℕ) → lun < 8 → has_left p lun ≡ true → slice_index asked lun ≤ may_go p lun) → Awaits p soonest own → wait_for p soonest asked ≤ soonest.end
waits_met p moves soonest asked own ip small each is met a =
    let last = (is a.early).0 in
    let mv = All-has (IsMove p) moves last.0 each last.1 in
    let has = subst (λ l. has_left p l ≡ true) last.2 (move_has p last.0 mv) in
    let m = met soonest.lun (left_few p soonest.lun ip small has) has in
    let bus = bus_after p last.0 (earliest p last.0) mv in
    let same : may_go p (move_lun last.0) ≡ may_go p soonest.lun = ap (may_go p) last.2 in
    let end = last.3 in
    omega arith

-- the numbers that are remembered are those that the reader asks for
pub raised_needs : (p : Problem) (moves : List Move) (soonest : Soonest) (given : List Given) (yielded : List Bool) (asked raised : List ℕ) → IsProblem p → IsSmall p → All (IsMove p) moves → IsSoonest p moves soonest
    → ((lun : ℕ) → lun < 8 → has_left p lun ≡ true → slice_index asked lun ≤ may_go p lun) → All (IsGiven p soonest) given
    → ((lun : ℕ) → lun < 8 → slice_index_or yielded lun false ≡ yields given lun)
    → ((lun : ℕ) → lun < 8 → slice_index_or yielded lun false ≡ true → Awaits p soonest lun)
    → ((lun : ℕ) → lun < 8 → slice_index_or yielded lun false ≡ false → slice_index raised lun ≡ slice_index asked lun)
    → ((lun : ℕ) → lun < 8 → slice_index_or yielded lun false ≡ true → wait_for p soonest asked < 2 ^ 64 → slice_index raised lun ≡ max (wait_for p soonest asked) (slice_index asked lun))
    → (lun : ℕ) → lun < 8 → slice_index raised lun ≡ with_yields asked given lun
raised_needs p moves soonest given yielded asked raised ip small each is met all marks waits kept more lun few = go (slice_index_or yielded lun false) refl
  where
    go : (b : Bool) → slice_index_or yielded lun false ≡ b → slice_index raised lun ≡ with_yields asked given lun
    go false e = kept lun few e ∙ sym (with_none asked given lun (sym (marks lun few) ∙ e))
    go true e =
        let a = waits lun few e in
        let w = waits_met p moves soonest asked lun ip small each is met a in
        let early = a.early in
        more lun few e (omega arith) ∙ sym (with_some asked given lun (wait_for p soonest asked) (given_wait p soonest asked given all) (sym (marks lun few) ∙ e))

-- and the node meets them
pub raised_met : (p : Problem) (moves : List Move) (soonest : Soonest) (yielded : List Bool) (asked raised : List ℕ) → IsProblem p → IsSmall p → All (IsMove p) moves → IsSoonest p moves soonest
    → ((lun : ℕ) → lun < 8 → has_left p lun ≡ true → slice_index asked lun ≤ may_go p lun)
    → ((lun : ℕ) → lun < 8 → slice_index_or yielded lun false ≡ true → Awaits p soonest lun)
    → ((lun : ℕ) → lun < 8 → slice_index_or yielded lun false ≡ false → slice_index raised lun ≡ slice_index asked lun)
    → ((lun : ℕ) → lun < 8 → slice_index_or yielded lun false ≡ true → wait_for p soonest asked < 2 ^ 64 → slice_index raised lun ≡ max (wait_for p soonest asked) (slice_index asked lun))
    → (lun : ℕ) → lun < 8 → has_left p lun ≡ true → slice_index raised lun ≤ may_go p lun
raised_met p moves soonest yielded asked raised ip small each is met waits kept more lun few has = go (slice_index_or yielded lun false) refl
  where
    go : (b : Bool) → slice_index_or yielded lun false ≡ b → slice_index raised lun ≤ may_go p lun
    go false e = let k = kept lun few e in let m = met lun few has in omega arith
    go true e =
        let a = waits lun few e in
        let w = waits_met p moves soonest asked lun ip small each is met a in
        let early = a.early in
        let fits = a.fits in
        let k = more lun few e (omega arith) in
        let m = met lun few has in
        omega arith
