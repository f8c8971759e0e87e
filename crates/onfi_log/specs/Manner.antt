-- How a log is taken.
use Rattle.onfi_log.specs.declared.manner.Manner.{Manner}
use Rattle.onfi_log.specs.declared.manner.Statuses.TheVariants.{EachPlane}
use Rattle.onfi_log.specs.declared.readies.Readies.{Readies}
use Rattle.onfi_log.specs.declared.readies.Readies.TheVariants.{Stated}

-- to the ns, with a status of each plane, where LUNs are ready as said
abbrev pub exact_by : Readies → Manner
exact_by readies = record { readies = readies; tolerance = 0; statuses = EachPlane }

-- .. by the stated times alone
abbrev pub exact : Manner
exact = exact_by Stated
