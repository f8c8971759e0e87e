-- What turns and drainings come to for who has no clock: at the greatest moment.
use Rattle.std.specs.Prelude.{◌≡◌, ◌≢◌, ◌⊎◌, ℕ, ◌-◌, ◌^◌, Some}
use Rattle.onfi_seq.specs.declared.drained.Drained.{Drained}
use Rattle.onfi_seq.specs.declared.drained.Drained.TheVariants as drained
use Rattle.onfi_seq.specs.declared.drained.DrainedAt.{DrainedAt}
use Rattle.onfi_seq.specs.declared.drained.DrainedAt.TheVariants as drained_at
use Rattle.onfi_seq.specs.declared.turn.Turn.{Turn}
use Rattle.onfi_seq.specs.declared.turn.Turn.TheVariants as turn
use Rattle.onfi_seq.specs.declared.turn.TurnAt.{TurnAt}
use Rattle.onfi_seq.specs.declared.turn.TurnAt.TheVariants as turn_at
use Rattle.onfi_seq.specs.Sequencer.{Seen}
use Rattle.onfi_seq.specs.Turned.{Goes, LetsPass, NothingPosts, Posts, Takes, Turned}

-- the greatest moment that a caller can hand in
abbrev pub greatest : ℕ
greatest = 2 ^ 64 - 1

-- the same answer of a turn at a moment
abbrev pub timed : Turn → TurnAt
timed turn.Posted = turn_at.Posted
timed (turn.Stopped cause) = turn_at.Stopped cause
timed turn.Phase = turn_at.Phase
timed turn.Accepted = turn_at.Accepted
timed turn.Planned = turn_at.Planned
timed (turn.Over opened) = turn_at.Over opened
timed turn.Memory = turn_at.Memory
timed turn.PostFull = turn_at.PostFull
timed turn.Idle = turn_at.Idle

-- the same end of a draining at a moment
abbrev pub timed_end : Drained → DrainedAt
timed_end drained.Empty = drained_at.Empty
timed_end drained.TurnsSpent = drained_at.TurnsSpent
timed_end (drained.Stopped cause) = drained_at.Stopped cause
timed_end (drained.Over opened) = drained_at.Over opened
timed_end drained.Memory = drained_at.Memory

-- the turn doesn't wait
abbrev pub GoesNow : TurnAt → Type 0
GoesNow answer = (until : ℕ) → answer ≢ turn_at.Waits until

-- the draining doesn't wait
abbrev pub EndsNow : DrainedAt → Type 0
EndsNow end = (until : ℕ) → end ≢ drained_at.Waits until

-- what each answer of a turn says where no time passes: bus, LUNs and plan change by what is done alone
abbrev pub TurnedAtOnce : Seen → TurnAt → Seen → Type 0
TurnedAtOnce q turn_at.Posted q' = Posts q q'
TurnedAtOnce q (turn_at.Stopped cause) q' = (NothingPosts q 4 × (q.0.half.stopped ≡ Some cause) × (q' ≡ q)) ⊎ Goes greatest q (turn_at.Stopped cause) q'
TurnedAtOnce q turn_at.Phase q' = Goes greatest q turn_at.Phase q'
TurnedAtOnce q turn_at.Accepted q' = Takes q q'
TurnedAtOnce q turn_at.Planned q' = Goes greatest q turn_at.Planned q'
TurnedAtOnce q (turn_at.Over opened) q' = Goes greatest q (turn_at.Over opened) q'
TurnedAtOnce q turn_at.Memory q' = Goes greatest q turn_at.Memory q'
TurnedAtOnce q turn_at.PostFull q' = Goes greatest q turn_at.PostFull q'
TurnedAtOnce q turn_at.Idle q' = Goes greatest q turn_at.Idle q'
TurnedAtOnce q (turn_at.Waits until) q' = ⊥

-- at the greatest moment no time passes, and no turn waits
pub record NoClock : Type 0 where
  pub passes : (q q' : Seen) → LetsPass greatest q q' → q' ≡ q
  pub waits : (q q' : Seen) (until : ℕ) → Turned greatest q (turn_at.Waits until) q' → ⊥
  pub at_once : (q q' : Seen) (answer : TurnAt) → Turned greatest q answer q' → TurnedAtOnce q answer q'
