-- What was set up, as a problem.
use Rattle.onfi_problem.specs.Problem.{Problem}
use Rattle.onfi_script.specs.declared.setup.Setup.{Setup}

abbrev pub problem_of : Setup → Problem
problem_of s = record { timing = s.timing; rules = s.rules; bus_free = s.bus_free; luns = s.luns.items; wants = s.wants.items }
