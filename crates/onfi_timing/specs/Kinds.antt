-- What each kind does, and its lengths.
use Rattle.std.specs.Prelude.{◌≡◌, ◌≢◌, ℕ, zero, suc, ◌+◌, Bool, true, false, Option, None, IfSome, is_some, unwrap_or, slice_index_or}
use Rattle.onfi_timing.specs.declared.kind.Kind.{Kind}
use Rattle.onfi_timing.specs.declared.kind.Kind.TheVariants.{Read, Program, Erase, ReadSectors}
use Rattle.onfi_timing.specs.declared.operation.Operation.{Operation}
use Rattle.onfi_timing.specs.declared.operation.Operation.TheVariants.{Read as Reads, Program as Programs, Erase as Erases}
use Rattle.onfi_timing.specs.declared.spans.Spans.{Spans}
use Rattle.onfi_timing.specs.declared.timing.Timing.{Timing}
use Rattle.onfi_timing.specs.Sectors.{least_post}

-- what a kind has a LUN do
abbrev pub operation_of : Kind → Operation
operation_of Read = Reads
operation_of (ReadSectors first count) = Reads
operation_of Program = Programs
operation_of Erase = Erases

abbrev pub same_operation : Operation → Operation → Bool
same_operation Reads Reads = true
same_operation Programs Programs = true
same_operation Erases Erases = true
same_operation _ _ = false

-- how many sectors are put out; none are counted where all of a page is put out, or nothing
abbrev pub sectors_of : Kind → ℕ
sectors_of (ReadSectors first count) = count
sectors_of Read = 0
sectors_of Program = 0
sectors_of Erase = 0

-- the lengths of an operation on whole pages
abbrev pub operation_spans : Timing → Operation → Spans
operation_spans timing Reads = timing.read
operation_spans timing Programs = timing.program
operation_spans timing Erases = timing.erase

-- what is stated of reads of that many sectors, one or more
abbrev pub stated : Timing → ℕ → Option Spans
stated timing zero = None
stated timing (suc before) = slice_index_or timing.sectors before None

-- the lengths of a read of that many sectors: a page's, where nothing else is stated
abbrev pub sector_spans : Timing → ℕ → Spans
sector_spans timing count = unwrap_or (stated timing count) timing.read

abbrev pub spans_of : Timing → Kind → Spans
spans_of timing Read = timing.read
spans_of timing (ReadSectors first count) = sector_spans timing count
spans_of timing Program = timing.program
spans_of timing Erase = timing.erase

-- whether the timing states lengths for a read of that many sectors; for a page it does
abbrev pub states_count : Timing → ℕ → Bool
states_count timing zero = true
states_count timing (suc before) = is_some (stated timing (suc before))

-- whether the timing states lengths of a kind
abbrev pub states : Timing → Kind → Bool
states timing kind = states_count timing (sectors_of kind)

abbrev pub IsStated : Timing → Kind → Type 0
IsStated timing kind = states timing kind ≡ true

-- the least time that an operation takes after its last command, whatever is put out, in ns
abbrev pub least_rest : Timing → Operation → ℕ
least_rest timing Reads = timing.read.array + least_post timing.read.post timing.sectors
least_rest timing Programs = timing.program.array + timing.program.post
least_rest timing Erases = timing.erase.array + timing.erase.post

-- no lengths of some sectors are stated
abbrev pub StatesNone : Timing → Type 0
StatesNone timing = (count : ℕ) → stated timing count ≡ None

-- `after` states a post for reads of that many sectors, and all else that `before` states
pub record StatesToo (before after : Timing) (count post : ℕ) : Type 0 where
  pub read : after.read ≡ before.read
  pub program : after.program ≡ before.program
  pub erase : after.erase ≡ before.erase
  pub own : IfSome (stated after count) (λ spans. spans.post ≡ post)
  pub some : is_some (stated after count) ≡ true
  pub others : (n : ℕ) → n ≢ count → stated after n ≡ stated before n
