use Rattle.std.proofs.Common.{◌≡◌, ap, ◌∙◌, sym, subst, ℕ, Result}
use Rattle.std.specs.Prelude.{max, IfOk}
use Rattle.onfi_flight.specs.declared.flight.passing.TooLate.{TooLate}
use Rattle.onfi_core.specs.declared.way.By.TheVariants as by
use Rattle.onfi_core.specs.declared.way.Way.TheInside.{Inside}
use Rattle.onfi_core.specs.State.{Way}
use Rattle.onfi_core.specs.Ways.{way_in, way_waited}
use Rattle.onfi_core.proofs.Booked.{plan_waited}
use Rattle.onfi_core.proofs.way.Way.wait.Goals as goal
use Rattle.onfi_core.proofs.way.Way.wait.Goals.{in-Plan, in-Books}

abbrev WaitsTo : Way → Way → ℕ → Result ℕ TooLate → Type 0
WaitsTo old new moment r = IfOk r (λ bus. (bus ≡ max old.now.bus_free moment) × (new ≡ way_waited moment old))

waits_to : (old old' new new' : Way) (moment : ℕ) (r r' : Result ℕ TooLate) → old ≡ old' → new ≡ new' → r ≡ r' → WaitsTo old new moment r → WaitsTo old' new' moment r'
waits_to old old' new new' moment r r' a b e w = subst (λ x. WaitsTo x new' moment r') a (subst (λ x. WaitsTo old x moment r') b (subst (λ x. WaitsTo old new moment x) e w))

pub returns-clause-waited : goal.returns-clause-waited
returns-clause-waited c = elim c.match-self.branch [
  | in-Plan w ↦ waits_to (way_in (by.Plan w.in-Plan.flight)) c.args.self.now (way_in (by.Plan w.wait.new.self)) _ c.args.moment w.wait.result c.match-self.result
      (sym (ap way_in w.in-Plan.is) ∙ c.self.view_is) (sym (ap (λ (i : Inside). way_in i.by) w.self-inside-is)) (sym w.result-is)
      (plan_waited w.in-Plan.flight w.wait.new.self c.args.moment w.wait.result w.wait.ensures.waited)
  | in-Books w ↦ waits_to (way_in (by.Books w.in-Books.books)) c.args.self.now (way_in (by.Books w.wait-in-Books.new.self)) _ c.args.moment w.wait-in-Books.result c.match-self.result
      (sym (ap way_in w.in-Books.is) ∙ c.self.view_is) (sym (ap (λ (i : Inside). way_in i.by) w.self-inside-is)) (sym w.result-is)
      w.wait-in-Books.ensures.waited
]
