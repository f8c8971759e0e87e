use Rattle.std.proofs.Common.{◌≡◌, ◌<◌, ◌-◌, ◌/◌, ◌∙◌, length, sym, ap, Some, arith}
use Rattle.std.specs.Prelude.{slice_get}
use Rattle.std.specs.List.{sum}
use Rattle.std.proofs.lemmas.List.Sorted.{IsNonDecreasingBy-from_sort}
use Rattle.std.proofs.lemmas.Option.{slice_get-get_or}
use Rattle.onfi_gap.proofs.summary.summary_of.Goals as goal

pub returns : goal.returns
returns c =
    let rising = c.sort_unstable.new.self.items in
    let last = c.len-count.result - 1 in
    let count : c.len-count.result ≡ length c.args.gaps.items = omega (arith, c.len-count.ensures) in
    let within : last < length rising = omega (arith, count, c.sort_unstable.ensures.len, c.if-count-eq0.false) in
    let half : last / 2 < length rising = omega (arith, within) in record {
      mean = c.mean-mean.ensures ∙ ap (λ l. sum l / length l) c.as_slice.ensures.value;
      rising = rising;
      same = c.sort_unstable.ensures.permutation;
      is_rising = IsNonDecreasingBy-from_sort (λ x. x) _ c.sort_unstable.ensures.sorted;
      median = ap (λ n. slice_get rising ((n - 1) / 2)) (sym count) ∙ slice_get-get_or rising (last / 2) _ half ∙ ap (λ x. Some x) (sym c.index.ensures);
      most = ap (λ n. slice_get rising (n - 1)) (sym count) ∙ slice_get-get_or rising last _ within ∙ ap (λ x. Some x) (sym c.index-2.ensures);
    }
