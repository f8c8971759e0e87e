use Rattle.std.proofs.Common.{◌≡◌, true, inl, length, sym, ap, ◌∙◌, subst}
use Rattle.std.specs.Prelude.{◌==◌}
use Rattle.std.specs.List.{AllByRecursion as Each}
use Rattle.onfi_flight.specs.Flight.{Flight, IsFree}
use Rattle.onfi_flight.proofs.Begins.{all_free, none_runs, none_there}
use Rattle.onfi_flight.proofs.flight.Flight.without_start.Goals.{then-not-is_empty-via-then-not-is_empty, then-not-is_empty-via-else-not-is_empty+then-not-are_free}
use Rattle.onfi_flight.proofs.flight.Flight.without_start.Goals as goal

pub returns-then-not-is_empty : goal.returns-then-not-is_empty
returns-then-not-is_empty c = inl (
  c.requires,
  λ done.
      elim c.then-not-is_empty.branch [
        | then-not-is_empty-via-then-not-is_empty w ↦ (
            let none : c.is_empty.result ≡ true = c.is_empty.ensures ∙ ap (λ (f : Flight). length f.now.wants == 0) c.self.view_is ∙ ap (λ ws. length ws == 0) done.wants in
            let some = w.if-not-is_empty.true in
            cc)
        | then-not-is_empty-via-else-not-is_empty+then-not-are_free w ↦ (
            let free : w.are_free.result ≡ true = w.are_free.ensures.1 (subst (Each IsFree) (sym w.luns.ensures.value) (all_free c.args.self.now.now.luns done.free)) in
            let some = w.if-not-are_free.true in
            cc)
      ],
)

pub returns : goal.returns
returns c = (
  c.requires,
  record {
    wants = sym (ap (λ (f : Flight). f.now.wants) c.self.view_is) ∙ none_there c.self.inside.wants.items (sym c.is_empty.ensures ∙ c.if-not-is_empty.false);
    free = none_runs c.args.self.now.now.luns (subst (Each IsFree) c.luns.ensures.value (c.are_free.ensures.0 c.if-not-are_free.false));
  },
)
