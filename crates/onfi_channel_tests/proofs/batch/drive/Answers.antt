use Rattle.std.proofs.Common.{◌≡◌, ◌≢◌, ℕ, zero, suc, List, None, Some, replicate, sym, ap, subst, ◌∙◌}
use Rattle.std.specs.Prelude.{slice_get}
use Rattle.std.specs.List.{AllByRecursion as Each}
use Rattle.onfi_timing.specs.declared.timing.Timing.{Timing}
use Rattle.onfi_request.specs.declared.request.Item.{Item}
use Rattle.onfi_request.specs.Range.{Fits}
use Rattle.onfi_request.specs.declared.want.Want.{Want}
use Rattle.onfi_chip.specs.Chip.{no_failures, opened}
use Rattle.onfi_problem.specs.declared.lun_state.LunState.{LunState}
use Rattle.onfi_problem.specs.declared.lun_state.LunState.TheVariants.{Free, Running}
use Rattle.onfi_problem.specs.Problem.{Problem}
use Rattle.onfi_core.specs.State.{wants_from}
use Rattle.onfi_channel_tests.proofs.batch.drive.Goals as goal

none_runs : (n i : ℕ) (g : List Want) (k r : ℕ) → slice_get (replicate n (Free 0)) i ≢ Some (Running g k r)
none_runs zero i g k r e = let f : None ≡ Some (Running g k r) = e in cc
none_runs (suc n) zero g k r e = cc
none_runs (suc n) (suc i) g k r e = none_runs n i g k r e

pub run_batch-requires-clause-opened : goal.run_batch-requires-clause-opened
run_batch-requires-clause-opened g c =
    let made = rw c.expect-problem.ensures at c.new.ensures.ok in
    let timing = ap (λ (p : Problem). p.timing) made in
    (c.in_ok-from_slice.field-0.items, no_failures, c.in_ok-chip.ensures.opened ∙ ap (λ (t : Timing). opened c.args.geometry.now t c.in_ok-from_slice.field-0.items no_failures) (sym timing))

pub run_batch-requires-clause-batch : goal.run_batch-requires-clause-batch
run_batch-requires-clause-batch g c =
    let made = rw c.expect-problem.ensures at c.new.ensures.ok in
    let luns = ap (λ (p : Problem). p.luns) made ∙ c.as_slice-3.ensures.value ∙ c.in_ok-luns.ensures in
    record {
      fits = subst (Each (λ (x : Item). Fits c.args.geometry.now x.request)) c.as_slice.ensures.value (c.all_fit.ensures.0 c.if-not-all_fit.false);
      wants = ap (λ (p : Problem). p.wants) made ∙ c.as_slice-4.ensures.value ∙ c.in_ok-wants.ensures ∙ ap (wants_from c.args.geometry.now 0) c.as_slice-2.ensures.value;
      nothing_runs = λ lun group next ready e. none_runs c.args.geometry.now.lun_count lun group next ready (ap (λ (ls : List LunState). slice_get ls lun) (sym luns) ∙ e);
    }
