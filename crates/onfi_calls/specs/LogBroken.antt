-- The condition that a phase of a log breaks, as a plain struct says it.
use Rattle.std.specs.Prelude.{ℕ, false}
use Rattle.onfi_audit.specs.declared.breach.LogBreach.{LogBreach}
use Rattle.onfi_audit.specs.declared.breach.LogBreach.TheVariants as breach
use Rattle.onfi_calls.specs.declared.log_broken.PlainLogBroken.{PlainLogBroken}

abbrev pub unbroken : PlainLogBroken
unbroken = record { want = 0; other_want = 0; start = 0; earliest = 0; block = 0; page = 0; condition = 0; lun = 0; is_post = false }

-- a phase that starts before it could
abbrev pub too_soon : ℕ → ℕ → ℕ → ℕ → PlainLogBroken
too_soon condition lun start earliest = record unbroken { condition = condition; lun = lun; start = start; earliest = earliest }

abbrev pub of_lun : ℕ → ℕ → PlainLogBroken
of_lun condition lun = record unbroken { condition = condition; lun = lun }

-- a request beside another one
abbrev pub paired : ℕ → ℕ → ℕ → PlainLogBroken
paired condition other_want want = record unbroken { condition = condition; want = want; other_want = other_want }

abbrev pub written_breach : LogBreach → PlainLogBroken
written_breach breach.TooLate = unbroken
written_breach (breach.NoLun lun) = of_lun 1 lun
written_breach (breach.NothingRuns lun) = of_lun 2 lun
written_breach (breach.OtherPhase lun is_post block page) = record (of_lun 3 lun) { is_post = is_post; block = block; page = page }
written_breach (breach.UnknownRequest lun block) = record (of_lun 4 lun) { block = block }
written_breach (breach.BlockOrder earlier later) = paired 5 earlier later
written_breach (breach.NotGrouped first request) = paired 6 first request
written_breach (breach.BusNotFree start bus_free) = too_soon 7 0 start bus_free
written_breach (breach.LunNotFree lun start since) = too_soon 8 lun start since
written_breach (breach.NotReady lun start ready) = too_soon 9 lun start ready
