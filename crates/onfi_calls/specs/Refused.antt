-- Why what a caller says is no problem.
use Rattle.std.specs.Prelude.{◌≡◌, ◌⊎◌, ◌^◌, ◌<◌, ◌≤◌, ℕ, nat_le, Bool, true, false, List, max}
use Rattle.std.specs.List.{list_any}
use Rattle.onfi_timing.specs.Lengths.{AreLengths}
use Rattle.onfi_timing.specs.declared.timing.Timing.{Timing}
use Rattle.onfi_problem.specs.Problem.{Problem, IsSmall, IsProblem}
use Rattle.onfi_problem.specs.Left.{horizon}
use Rattle.onfi_calls.specs.declared.channel.PlainSpans.{PlainSpans}
use Rattle.onfi_calls.specs.declared.channel.PlainChannel.{PlainChannel}
use Rattle.onfi_calls.specs.declared.channel.PlainTiming.{PlainTiming}
use Rattle.onfi_calls.specs.declared.channel.PlainWant.{PlainWant}
use Rattle.onfi_calls.specs.declared.status.Status.{Status}
use Rattle.onfi_calls.specs.declared.status.Status.TheVariants.{ZeroSpan, LongSpan, BadPlaneBits, BadKind, BadMembers, TooMany, BadLun, NoLengths, Clock, Memory}
use Rattle.onfi_calls.specs.Problem.{IsSaid, IsTiming, has_bad_count, have_bad_kind, have_lacking, luns_of}

-- why four numbers aren't the lengths of a kind
abbrev pub AreBadSpans : PlainSpans → Status → Type 0
AreBadSpans s ZeroSpan = (s.cmd ≡ 0) ⊎ (s.post ≡ 0)
AreBadSpans s LongSpan = (1 ≤ s.cmd) × (1 ≤ s.post) × (2 ^ 50 ≤ max (max s.cmd s.gap) (max s.array s.post))
AreBadSpans s _ = ⊥

abbrev pub AreGoodSpans : PlainSpans → Type 0
AreGoodSpans s = AreLengths s.cmd s.gap s.array s.post

abbrev pub is_long : ℕ → Bool
is_long post = nat_le (2 ^ 50) post

pub record AreGoodKinds (t : PlainTiming) : Type 0 where
  pub read : AreGoodSpans t.read
  pub program : AreGoodSpans t.program
  pub erase : AreGoodSpans t.erase

-- the first kind whose lengths are none
pub data IsBadTiming (channel : PlainChannel) (status : Status) : Type 0 where
  in_read : AreBadSpans channel.timing.read status → IsBadTiming channel status
  in_program : AreGoodSpans channel.timing.read → AreBadSpans channel.timing.program status → IsBadTiming channel status
  in_erase : AreGoodSpans channel.timing.read → AreGoodSpans channel.timing.program → AreBadSpans channel.timing.erase status → IsBadTiming channel status
  in_sectors : AreGoodKinds channel.timing → list_any is_long channel.lengths.sectors ≡ true → status ≡ LongSpan → IsBadTiming channel status

pub record IsGoodTiming (channel : PlainChannel) : Type 0 where
  pub kinds : AreGoodKinds channel.timing
  pub sectors : list_any is_long channel.lengths.sectors ≡ false

-- why what is given is no problem of the program; `lacking` where it has sectors without lengths
abbrev pub IsBadProblem : Bool → Problem → Status → Type 0
IsBadProblem lacking p TooMany = IsSmall p → ⊥
IsBadProblem lacking p BadLun = IsSmall p × (IsProblem p → ⊥)
IsBadProblem lacking p NoLengths = IsSmall p × IsProblem p × (lacking ≡ true)
IsBadProblem lacking p Clock = IsSmall p × IsProblem p × (lacking ≡ false) × (2 ^ 62 ≤ horizon p)
IsBadProblem lacking p _ = ⊥

-- the same of the problem that is said
abbrev pub IsFaultSaid : PlainChannel → List PlainWant → Status → Type 0
IsFaultSaid channel wants status = (p : Problem) × IsSaid channel wants p × IsBadProblem (have_lacking channel wants) p status

-- .. or memory ran out before it was made
abbrev pub IsBadSaid : PlainChannel → List PlainWant → Status → Type 0
IsBadSaid channel wants status = (status ≡ Memory) ⊎ IsFaultSaid channel wants status

-- all numbers of what is given are in their ranges
pub record AreSaid (channel : PlainChannel) (wants : List PlainWant) : Type 0 where
  pub few : channel.lun_count ≤ 8
  pub timing : IsGoodTiming channel
  pub plane_bits : channel.rules.plane_bits ≤ 2
  pub counts : list_any has_bad_count (luns_of channel) ≡ false
  pub kinds : have_bad_kind channel wants ≡ false

-- .. and there are these lengths of all that is put out
pub record IsMeasured (channel : PlainChannel) (wants : List PlainWant) (timing : Timing) : Type 0 where
  pub said : AreSaid channel wants
  pub spans : IsTiming channel timing
  pub lengths : have_lacking channel wants ≡ false

-- the first that isn't
pub data IsUnsaid (channel : PlainChannel) (wants : List PlainWant) (status : Status) : Type 0 where
  is_many : 8 < channel.lun_count → status ≡ TooMany → IsUnsaid channel wants status
  is_timing : channel.lun_count ≤ 8 → IsBadTiming channel status → IsUnsaid channel wants status
  is_plane_bits : channel.lun_count ≤ 8 → IsGoodTiming channel → 2 < channel.rules.plane_bits → status ≡ BadPlaneBits → IsUnsaid channel wants status
  is_count : channel.lun_count ≤ 8 → IsGoodTiming channel → channel.rules.plane_bits ≤ 2 → list_any has_bad_count (luns_of channel) ≡ true → status ≡ BadMembers → IsUnsaid channel wants status
  is_kind : channel.lun_count ≤ 8 → IsGoodTiming channel → channel.rules.plane_bits ≤ 2 → list_any has_bad_count (luns_of channel) ≡ false → have_bad_kind channel wants ≡ true → status ≡ BadKind
      → IsUnsaid channel wants status

-- the first fault of what is given
pub data IsRefused (channel : PlainChannel) (wants : List PlainWant) (status : Status) : Type 0 where
  is_unsaid : IsUnsaid channel wants status → IsRefused channel wants status
  is_problem : AreSaid channel wants → IsBadSaid channel wants status → IsRefused channel wants status
