-- What is seen of phases within a window.
use Rattle.std.specs.Prelude.{◌≡◌, ℕ, ◌+◌, ◌-◌, ◌^◌, ◌≤◌, ◌<◌, max, List, length, slice_index}
use Rattle.onfi_problem.specs.Problem.{Problem}
use Rattle.onfi_problem.specs.Moves.{may_go}
use Rattle.onfi_demand.specs.Window.{PhaseLeft, phases_left_on, within, needed, window}
use Rattle.onfi_demand.specs.declared.look.Look.{Look}
use Rattle.onfi_demand.specs.declared.look.Window.{Window}
use Rattle.onfi_demand.specs.declared.look.Seen.{Seen}
use Rattle.onfi_demand.specs.declared.look.Sight.{Sight}

abbrev pub phase_at : ℕ → ℕ → ℕ → PhaseLeft
phase_at from length tail = record { from = from; length = length; tail = tail }

-- what is looked for on a LUN
abbrev pub look_of : Problem → ℕ → Window → Look
look_of p lun window = record { go = may_go p lun; window = window }

-- the lengths of the phases that are looked for
abbrev pub within_look : Look → List PhaseLeft → ℕ
within_look look phases = within look.go look.window.start look.window.tail phases

-- how late they need their LUN to go on, so that each of them within starts at n or later
abbrev pub needed_look : Look → ℕ → List PhaseLeft → ℕ
needed_look look n phases = needed look.go look.window.start look.window.tail n phases

-- these phases were seen beside those before
pub record Sees (look : Look) (before : Seen) (phases : List PhaseLeft) (behind : Seen) : Type 0 where
  pub length : behind.length ≡ before.length + within_look look phases
  pub needs : (n : ℕ) → n - behind.first ≡ max (n - before.first) (needed_look look n phases)

-- before any phase
abbrev pub nothing_seen : Seen
nothing_seen = record { length = 0; first = 2 ^ 64 - 1 }

-- what is within the window, and how late each LUN must go on for it, whatever 64-bit time it starts at
pub record IsSight (p : Problem) (w : Window) (sight : Sight) : Type 0 where
  pub whole : sight.length ≡ window p w.start w.tail
  pub needs : (lun n : ℕ) → lun < length p.luns → n < 2 ^ 64 → n - slice_index sight.firsts lun ≡ needed (may_go p lun) w.start w.tail n (phases_left_on p lun)
  pub none : (lun n : ℕ) → length p.luns ≤ lun → lun < 8 → n < 2 ^ 64 → n - slice_index sight.firsts lun ≡ 0
