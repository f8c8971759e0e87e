-- A gap after a walk for its middle.
use Rattle.std.proofs.Common.{◌≡◌, ℕ, ◌+◌, ◌≤◌, ◌<◌, inl, inr, Bool, true, false, List, Vec, Global, refl, sym, ap, ◌∙◌, subst, arith}
use Rattle.std.specs.Prelude.{Result, Ok, Err, IfOk}
use Rattle.std.proofs.lemmas.Bool.{cases_Bool, cases_lt}
use Rattle.onfi_problem.specs.Problem.{Problem}
use Rattle.onfi_problem.specs.Left.{InLimits}
use Rattle.onfi_problem.specs.Position.{Position}
use Rattle.onfi_schedule.specs.Runs.{schedule_of}
use Rattle.onfi_known_check.specs.declared.token.Token.{Token}
use Rattle.onfi_known_check.proofs.Sound.{proved_is_below}
use Rattle.onfi_planner.specs.Planning.{run_of}
use Rattle.onfi_planner.specs.declared.search.Best.{Best}
use Rattle.onfi_planner.proofs.Halfway.{open_later}
use Rattle.onfi_planner.proofs.Whole.{legal_plan}
use Rattle.onfi_plan.specs.declared.plan.Plan.{Plan}
use Rattle.onfi_known_plan.specs.ByRule.{EndsByRule}
use Rattle.onfi_known_plan.specs.Searched.{IsSearched}
use Rattle.onfi_known_plan.specs.Text.{HasNodesIn, nodes_in}
use Rattle.onfi_known_plan.specs.Walks.{AreMore, HasSoMany, IsBetter, IsProved, IsRunOf}
use Rattle.onfi_known_plan.specs.Within.{IsGap, IsShownBefore}
use Rattle.onfi_known_plan.specs.declared.gap.Gap.{Gap}
use Rattle.onfi_known_plan.specs.declared.planning.Searched.{Searched}
use Rattle.onfi_known_plan.specs.declared.planning.Walked.{Walked}
use Rattle.onfi_known_plan.specs.declared.within.ShownBefore.{ShownBefore}
use Rattle.onfi_known_plan.proofs.Ruled.{ruled_sooner}

-- a run doesn't end before what is shown
shown_first : (x : Position) (best : Best) (tokens : List Token) (e : ℕ) → InLimits x.problem → IsRunOf x best → IsProved x tokens e → e ≤ best.finish
shown_first x best tokens e limits run p =
    let steps = run_of x.groups best.steps.items in
    let s = schedule_of x.problem steps in
    let l = legal_plan x.problem steps s best.finish limits.problem run refl in
    let ends = l.1 in
    let le = proved_is_below x.all x.problem tokens e limits.problem limits.small p.proves s l.0 in
    omega arith

-- a walk that opened less than it may wasn't cut
uncut_below : (cut : Bool) (opened limit : ℕ) → (cut ≡ true → opened ≡ limit) → opened < limit → cut ≡ false
uncut_below true opened limit full less = let e = full refl in absurd (omega arith)
uncut_below false opened limit full less = refl

-- before anything is narrowed
pub gap_searched : (x : Position) (limit : ℕ) (s : Searched) (gap : Gap) → IsSearched x limit s → IsShownBefore x s.best.finish gap.shown → (gap.shown.below < s.best.finish → s.cut ≡ true) → (s.cut ≡ false → gap.shown.tokens ≡ s.tokens)
    → gap.best ≡ s.best → gap.opened ≡ s.opened → IsGap x limit gap
gap_searched x limit s gap is shown whole same best opened =
    let ends = ap (λ (z : Best). z.finish) best in
    let small = is.small in
    let sooner = is.sooner in
    let few = is.opened in
    record {
      limits = is.limits;
      run = subst (IsRunOf x) (sym best) is.run;
      small = omega arith;
      shown = subst (λ e. IsShownBefore x e gap.shown) (sym ends) shown;
      first = is.first;
      ends = is.ends;
      sooner = omega arith;
      by_rule = subst (EndsByRule x.problem) (sym ends) is.by_rule;
      opened = omega arith;
      counted = λ less. let uncut = uncut_below s.cut s.opened limit is.full (omega arith) in ap (λ (z : Vec Token Global). nodes_in z.items) (same uncut) ∙ (is.counted uncut ∙ sym opened);
      nodes = subst (HasSoMany x.problem) (sym opened) is.nodes;
      over = λ less. is.over (whole (omega arith));
    }

-- what is shown of a schedule that ends no later
shown_sooner : (x : Position) (e f : ℕ) (shown : ShownBefore) → IsShownBefore x e shown → shown.below ≤ f → f ≤ e → IsShownBefore x f shown
shown_sooner x e f shown s le sooner = record { within = le; proved = s.proved; greatest = λ less. s.greatest (omega arith) }

-- what a walk shows that wasn't cut
shown_walked : (x : Position) (e below f : ℕ) (old new : ShownBefore) → IsShownBefore x e old → old.below < e → IsProved x new.tokens.items f → new.below ≡ f → f ≤ below → (f < below → old.below ≤ f) → IsShownBefore x below new
shown_walked x e below f old new s gap p is le above = record {
  within = omega arith;
  proved = subst (IsProved x new.tokens.items) (sym is) p;
  greatest = λ less. let more = above (omega arith) in open_later (old.below + 1) (new.below + 1) x.problem (omega arith) (s.greatest gap);
}

module _ (x : Position) (limit middle : ℕ) (gap new : Gap) (old aim : Best) (walked : Walked) (is : IsGap x limit gap) (low : gap.shown.below < gap.best.finish) (above : gap.shown.below ≤ middle) (within : middle ≤ gap.best.finish)
    (starts : old.finish ≡ middle) (better : IsBetter x old aim) (found : aim.finish < middle → new.best ≡ aim) (kept : middle ≤ aim.finish → new.best ≡ gap.best) where
  -- the best is a run, no later, and ends with the walk unless that found nothing
  best_now : IsRunOf x new.best × (new.best.finish ≤ gap.best.finish) × (aim.finish ≤ new.best.finish) × (aim.finish < new.best.finish → gap.shown.below ≤ aim.finish)
  best_now = let sooner = better.sooner in elim (cases_lt aim.finish middle) [
    | inl k ↦ let same = ap (λ (z : Best). z.finish) (found k) in (subst (IsRunOf x) (sym (found k)) (better.found (omega arith)), omega arith, omega arith, λ less. absurd (omega arith))
    | inr k ↦ let same = ap (λ (z : Best). z.finish) (kept k) in (subst (IsRunOf x) (sym (kept k)) is.run, omega arith, omega arith, λ less. omega arith)
  ]

  shown_now : (walked.cut ≡ false → IsProved x walked.tokens.items aim.finish) → (walked.cut ≡ false → new.shown.below ≡ aim.finish) → (walked.cut ≡ false → new.shown.tokens ≡ walked.tokens) → (walked.cut ≡ true → new.shown ≡ gap.shown) → IsShownBefore x new.best.finish new.shown
  shown_now proved below tokens cut =
      let b = best_now in
      elim (cases_Bool walked.cut) [
        | inl q ↦ subst (IsShownBefore x new.best.finish) (sym (cut q)) (shown_sooner x gap.best.finish new.best.finish gap.shown is.shown (shown_first x new.best gap.shown.tokens.items gap.shown.below is.limits b.0 is.shown.proved) b.1)
        | inr q ↦ shown_walked x gap.best.finish new.best.finish aim.finish gap.shown new.shown is.shown low (subst (λ ts. IsProved x ts.items aim.finish) (sym (tokens q)) (proved q)) (below q) b.2 b.3
      ]

  pub narrowed : (walked.cut ≡ false → IsProved x walked.tokens.items aim.finish) → (walked.cut ≡ false → new.shown.below ≡ aim.finish) → (walked.cut ≡ false → new.shown.tokens ≡ walked.tokens) → (walked.cut ≡ true → new.shown ≡ gap.shown)
      → walked.opened ≤ limit → (walked.cut ≡ true → walked.opened ≡ limit) → (walked.cut ≡ false → nodes_in walked.tokens.items ≡ walked.opened)
      → AreMore x.problem old.finish walked.opened → new.opened ≡ walked.opened → IsGap x limit new
  narrowed proved below tokens cut few full counted nodes opened =
      let b = best_now in
      let le = b.1 in
      let small = is.small in
      let sooner = is.sooner in
      record {
        limits = is.limits;
        run = b.0;
        small = omega arith;
        shown = shown_now proved below tokens cut;
        first = is.first;
        ends = is.ends;
        sooner = omega arith;
        by_rule = ruled_sooner x.problem new.best.finish gap.best.finish is.by_rule le;
        opened = omega arith;
        counted = λ less. let uncut = uncut_below walked.cut walked.opened limit full (omega arith) in ap (λ (z : Vec Token Global). nodes_in z.items) (tokens uncut) ∙ (counted uncut ∙ sym opened);
        nodes = subst (HasSoMany x.problem) (sym opened) (is.first, is.ends, nodes is.first (omega arith));
        over = λ _. is.over low;
      }

-- the certificate has a node for each that the plan says
pub counted_plan : {E : Type 0} (p : Problem) (limit : ℕ) (gap : Gap) (r : Result Plan E) → (gap.opened < limit → nodes_in gap.shown.tokens.items ≡ gap.opened)
    → IfOk r (λ plan. plan.opened ≡ gap.opened) → IfOk r (λ plan. HasNodesIn p plan.certificate (nodes_in gap.shown.tokens.items)) → IfOk r (λ plan. plan.opened < limit → HasNodesIn p plan.certificate plan.opened)
counted_plan p limit gap (Ok plan) counted opened has = λ less. subst (HasNodesIn p plan.certificate) (counted (omega arith) ∙ sym opened) has
counted_plan p limit gap (Err fault) counted opened has = tt
