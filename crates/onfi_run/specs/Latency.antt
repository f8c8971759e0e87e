-- How long operations took, from when they arrived to their replies.
use Rattle.std.specs.Prelude.{◌≡◌, ℕ, ◌-◌, ◌/◌, ◌&&◌, if◌then◌else◌, List, [], length, filter_map, Option, Some, None, slice_get}
use Rattle.std.specs.List.{flat_map, sum}
use Rattle.std.specs.List.Sorted.{IsNonDecreasing, IsPermutation}
use Rattle.std.specs.Option.{is_some, unwrap_or}
use Rattle.onfi_timing.specs.declared.operation.Operation.{Operation}
use Rattle.onfi_timing.specs.Kinds.{operation_of, same_operation}
use Rattle.onfi_run.specs.declared.completion.Completion.{Completion}
use Rattle.onfi_run.specs.declared.latency.Latency.{Latency}
use Rattle.onfi_run.specs.Report.{GotView}

-- of what does that operation and has its reply; without a moment of arrival it arrives as it is submitted
abbrev pub latency_of : Operation → Completion → Option ℕ
latency_of operation c = if same_operation operation (operation_of c.kind) && is_some c.answer then Some (c.at - unwrap_or c.arrives c.sent) else None

-- of all such, by host, channel and serial
abbrev pub latencies : Operation → List GotView → List ℕ
latencies operation got = flat_map (flat_map (filter_map (latency_of operation))) got

-- the place, counted from 0, of the least of that many in rising order that at least 99 of 100 don't pass
abbrev pub place_of_99 : ℕ → ℕ
place_of_99 count = count - count / 100 - 1

-- how many they are, their mean, rounded down, and the least of them that at least 99 of 100 don't pass
pub record IsLatency (xs : List ℕ) (l : Latency) : Type 0 where
  pub count : l.count ≡ length xs
  pub mean : l.mean ≡ sum xs / length xs
  pub rising : List ℕ
  pub same : IsPermutation xs rising
  pub is_rising : IsNonDecreasing rising
  pub most : slice_get rising (place_of_99 (length xs)) ≡ Some l.most_of_99

-- none of none
abbrev pub IsLatencyOf : List ℕ → Option Latency → Type 0
IsLatencyOf xs None = xs ≡ []
IsLatencyOf xs (Some l) = IsLatency xs l
