-- What is read off a command line is what its words name.
use Rattle.std.proofs.Common.{◌≡◌, ℕ, ◌||◌, Bool, List, codes, Some, None, true, false, sym, ap, ◌∙◌, subst, refl}
use Rattle.std.specs.Prelude.{Option, IsSomeAnd, is_some}
use Rattle.clap.specs.Words.{Row, first_of, subcommand_of}
use Rattle.onfi_planners.specs.declared.by.By.{By}
use Rattle.onfi_planners.specs.declared.by.By.TheVariants as way
use Rattle.onfi_script.specs.declared.command.Command.TheVariants.{Plan, Check, PlanBy, CheckWithin, Legal}
use Rattle.onfi_script.specs.declared.command.PlanOptions.{PlanOptions}
use Rattle.onfi_console.specs.declared.parsed.Named.{Named}
use Rattle.onfi_console.specs.declared.parsed.Named.TheVariants.{Problem, Run, Device, Audit, Gaps}
use Rattle.onfi_console.specs.declared.parsed.Parsed.{Parsed}
use Rattle.onfi_console.specs.declared.parsed.RunBy.{RunBy}
use Rattle.onfi_console.specs.declared.parsed.RunBy.TheVariants.{Plans, Next}
use Rattle.onfi_console.specs.Words.{Ask, IsBy, IsLimit, IsLimitBy, IsNamed, IsParsed, IsPlan, IsRunBy, IsRunLimit, IsWorkers, IsWorkersBy, app, given, output_of}
use Rattle.onfi_console.specs.Readers.{AreRead, IsRead, is_trace, usual_by}

-- a flag that asks for a trace is given, or none is
trace_told : (trace requests : Bool) → is_trace (output_of trace requests) ≡ (trace || requests)
trace_told true true = refl
trace_told true false = refl
trace_told false true = refl
trace_told false false = refl

-- where no limit is given and none is taken, it is the greatest
none_taken : (limit : Option (List ℕ)) (n : ℕ) → limit ≡ None → n ≡ 1048576 → IsLimit 1048576 limit n
none_taken None n none is = is
none_taken (Some text) n none is = cc

not_given : (limit : Option (List ℕ)) → is_some limit ≡ false → IsLimit 1048576 limit 1048576
not_given None none = refl
not_given (Some text) none = cc

limit_read : (text limit : Option (List ℕ)) (by : By) (n : ℕ) → IsBy text by → IsLimitBy by limit n → IsLimit (usual_by text) limit n
limit_read None limit way.Plain n named is = is
limit_read None limit way.Within n named is = cc
limit_read None limit way.Rule n named is = cc
limit_read (Some text) limit way.Plain n named is = subst (λ t. IsLimit (usual_by (Some t)) limit n) (sym named) is
limit_read (Some text) limit way.Within n named is = subst (λ t. IsLimit (usual_by (Some t)) limit n) (sym named) is
limit_read (Some text) limit way.Rule n named is = subst (λ t. IsLimit (usual_by (Some t)) limit n) (sym named) (none_taken limit n is.0 is.1)

run_limit_read : (text limit : Option (List ℕ)) (by : RunBy) (n : ℕ) → IsRunBy text by → IsRunLimit by limit n → IsLimit (usual_by text) limit n
run_limit_read text limit (Plans by) n named is = limit_read text limit by n named is
run_limit_read text limit Next n named is = subst (λ t. IsLimit (usual_by t) limit n) (sym named) (none_taken limit n is.0 is.1)

one_worker : (given : Option (List ℕ)) (n : ℕ) → given ≡ None → n ≡ 1 → IsWorkers given n
one_worker None n none is = is
one_worker (Some text) n none is = cc

workers_read : (by : By) (given : Option (List ℕ)) (n : ℕ) → IsWorkersBy by given n → IsWorkers given n
workers_read way.Plain given n is = is
workers_read way.Within given n is = one_worker given n is.0 is.1
workers_read way.Rule given n is = one_worker given n is.0 is.1

plan_read : (options : PlanOptions) (workers : ℕ) (name : List ℕ) (used : List Row) → name ≡ codes "plan" → IsPlan options workers used → IsRead (Problem (PlanBy options) workers) name used
plan_read options workers name used e is = record {
  command = sym e;
  limit = limit_read (first_of (codes "by") used) (first_of (codes "limit") used) options.by options.limit is.is_by is.is_limit;
  trace = ap is_trace is.is_output ∙ trace_told (given (codes "trace") used) (given (codes "requests") used);
  workers = workers_read options.by (first_of (codes "workers") used) workers is.is_workers;
}

pub read : (named : Named) (name : List ℕ) (used : List Row) → IsNamed named name used → IsRead named name used
read (Problem (Plan limit trace) workers) name used is = elim is [ ]
read (Problem (PlanBy options) workers) name used (e, is) = plan_read options workers name used e is
read (Problem Check workers) name used (e, one, is) = record { command = sym e; limit = refl; trace = refl; workers = one }
read (Problem CheckWithin workers) name used (e, one, is) = record { command = sym e; limit = refl; trace = refl; workers = one }
read (Problem Legal workers) name used (e, one, legal, former, by) = record { command = sym e; limit = refl; trace = refl; workers = one }
read Device name used e = record { command = sym e; limit = refl; trace = refl; workers = refl }
read (Audit options) name used (e, is) = record { command = sym e; limit = not_given (first_of (codes "limit") used) is.no_limit; trace = refl; workers = refl }
read (Gaps options) name used (e, is) = record { command = sym e; limit = is.is_limit; trace = refl; workers = refl }
read (Run options) name used (e, is) =
    record { command = sym e; limit = run_limit_read (first_of (codes "by") used) (first_of (codes "limit") used) options.by options.limit is.is_by is.is_limit; trace = refl; workers = refl }

of_some : (found : Option (List ℕ × List Row)) (parsed : Parsed) → IsSomeAnd found (λ p. IsParsed parsed p.0 p.1) → IsSomeAnd found (λ p. IsRead parsed.named p.0 p.1)
of_some None parsed is = elim is [ ]
of_some (Some p) parsed is = read parsed.named p.0 p.1 is.is_named

-- what the words ask for is read
pub asked_is_read : (words : List (List ℕ)) (parsed : Parsed) → Ask words parsed → AreRead words parsed
asked_is_read words parsed is = of_some (subcommand_of app words) parsed is
