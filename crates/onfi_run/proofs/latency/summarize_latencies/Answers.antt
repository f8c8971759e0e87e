use Rattle.std.proofs.Common.{◌≡◌, ◌<◌, ◌/◌, ◌∙◌, length, sym, ap, Some, arith}
use Rattle.std.specs.Prelude.{slice_get}
use Rattle.std.specs.List.{sum}
use Rattle.std.proofs.lemmas.List.Sorted.{IsNonDecreasingBy-from_sort}
use Rattle.std.proofs.lemmas.Option.{slice_get-get_or}
use Rattle.onfi_run.specs.Latency.{place_of_99}
use Rattle.onfi_run.proofs.latency.summarize_latencies.Goals as goal

pub returns : goal.returns
returns c =
    let rising = c.sort_unstable.new.self.items in
    let at = place_of_99 c.len-count.result in
    let count : c.len-count.result ≡ length c.args.latencies.items = omega (arith, c.len-count.ensures) in
    let within : at < length rising = omega (arith, count, c.sort_unstable.ensures.len, c.if-count-eq0.false) in record {
      count = count;
      mean = c.mean-mean.ensures ∙ ap (λ l. sum l / length l) c.as_slice.ensures.value;
      rising = rising;
      same = c.sort_unstable.ensures.permutation;
      is_rising = IsNonDecreasingBy-from_sort (λ x. x) _ c.sort_unstable.ensures.sorted;
      most = ap (λ n. slice_get rising (place_of_99 n)) (sym count) ∙ slice_get-get_or rising at _ within ∙ ap (λ x. Some x) (sym c.index.ensures);
    }
