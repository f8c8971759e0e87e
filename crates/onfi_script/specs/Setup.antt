-- What the rows of a script set up on its device.
use Rattle.std.specs.Prelude.{◌≡◌, ℕ, zero, suc, ◌+◌, ◌==◌, ◌||◌, nat_lt, not, if◌then◌else◌, Bool, false, List, [], ◌∷◌, ◌++◌, length, map, take, slice_index_or, Option, Some, None}
use Rattle.std.specs.List.{list_any}
use Rattle.onfi_addr.specs.Rows.{plane_at}
use Rattle.onfi_request.specs.declared.want.Want.{Want as WantOf}
use Rattle.onfi_timing.specs.declared.kind.Kind.{Kind}
use Rattle.onfi_timing.specs.declared.kind.Kind.TheVariants.{Read, ReadSectors, Program, Erase}
use Rattle.onfi_timing.specs.Kinds.{states_count}
use Rattle.onfi_problem.specs.declared.lun_state.LunState.{LunState}
use Rattle.onfi_problem.specs.declared.lun_state.LunState.TheVariants as state
use Rattle.onfi_problem.specs.Problem.{Problem}
use Rattle.onfi_script.specs.declared.device.Device.{Device}
use Rattle.onfi_script.specs.declared.row.Row.{Row}
use Rattle.onfi_script.specs.declared.row.Row.TheVariants.{Bus, Free, Running, Want, Weight, Sector, Sectors, RunSectors, Strict}
use Rattle.onfi_script.specs.declared.row.Subject.TheVariants as on
use Rattle.onfi_script.specs.RowParts.{RunningRow}
use Rattle.onfi_script.specs.Subject.{row_on}

-- from when on the bus is free, 0 where no row says
abbrev pub bus_from : Option Row → ℕ
bus_from (Some (Bus bus_free)) = bus_free
bus_from _ = 0

-- groups aren't strict where no row says
abbrev pub strict_from : Option Row → Bool
strict_from (Some (Strict strict)) = strict
strict_from _ = false

-- how much a request counts, 1 where no row says
abbrev pub weight_from : Option Row → ℕ
weight_from (Some (Weight request weight)) = weight
weight_from _ = 1

abbrev pub weight_at : List Row → ℕ → ℕ
weight_at rows request = weight_from (row_on (on.Weight request) rows)

-- of the wants, by their numbers
abbrev pub weights : List Row → List ℕ
weights rows = map (weight_at rows) (0 ∷ 1 ∷ 2 ∷ 3 ∷ 4 ∷ 5 ∷ 6 ∷ 7 ∷ [])

-- how many sectors a request puts out, 0 where no row says: all of its page
abbrev pub sectors_from : Option Row → ℕ
sectors_from (Some (Sectors request count)) = count
sectors_from _ = 0

abbrev pub sectors_at : List Row → ℕ → ℕ
sectors_at rows id = if nat_lt id 8 then sectors_from (row_on (on.Sectors id) rows) else 0

-- .. the members of what runs on a LUN, in order
abbrev pub run_sectors_from : Option Row → List ℕ
run_sectors_from (Some (RunSectors row)) = row.counts
run_sectors_from _ = []

abbrev pub run_sectors_at : List Row → ℕ → List ℕ
run_sectors_at rows lun = run_sectors_from (row_on (on.RunSectors lun) rows)

-- a read that puts out some sectors; nothing else does
abbrev pub some_sectors : ℕ → Kind → Kind
some_sectors count Read = ReadSectors 0 count
some_sectors count kind = kind

-- .. all of its page, where there are none
abbrev pub putting_out : ℕ → Kind → Kind
putting_out count kind = if count == 0 then kind else some_sectors count kind

abbrev pub with_sectors : ℕ → WantOf → WantOf
with_sectors count want = record want { kind = putting_out count want.kind }

-- a want with the sectors that the rows say
abbrev pub asked : List Row → WantOf → WantOf
asked rows want = with_sectors (sectors_at rows want.id) want

-- something else than a read is to put out some sectors
abbrev pub is_amiss : ℕ → Kind → Bool
is_amiss count Read = false
is_amiss count (ReadSectors first sectors) = false
is_amiss count Program = nat_lt 0 count
is_amiss count Erase = nat_lt 0 count

-- .. as a request
abbrev pub want_amiss : List Row → WantOf → Bool
want_amiss rows want = is_amiss (sectors_at rows want.id) want.kind

-- .. of what runs on a LUN
abbrev pub runs_amiss : List Row → Row → Bool
runs_amiss rows (Running row) = list_any (λ count. is_amiss count row.kind) (take (length row.blocks) (run_sectors_at rows row.lun))
runs_amiss rows _ = false

-- .. of these wants, or of what runs
abbrev pub asks_amiss : List Row → List WantOf → Bool
asks_amiss rows wants = list_any (want_amiss rows) wants || list_any (runs_amiss rows) rows

-- a member of the group that a row names
abbrev pub member : ℕ → RunningRow → ℕ → WantOf
member plane_bits row block = record { id = 0; kind = row.kind; lun = row.lun; plane = plane_at plane_bits block; block = block; page = row.page }

abbrev pub members : ℕ → RunningRow → List WantOf
members plane_bits row = map (member plane_bits row) row.blocks

-- what a LUN does, free from 0 where no row says
abbrev pub state_from : ℕ → Option Row → LunState
state_from plane_bits (Some (Free lun since)) = state.Free since
state_from plane_bits (Some (Running row)) = state.Running (members plane_bits row) row.next row.ready
state_from plane_bits _ = state.Free 0

-- members with that many sectors each, from number `at` on; one that lacks a number puts out all of its page
unfoldable pub each_asked : ℕ → List ℕ → List WantOf → List WantOf
each_asked at counts [] = []
each_asked at counts (want ∷ wants) = with_sectors (slice_index_or counts at 0) want ∷ each_asked (at + 1) counts wants

-- what a LUN does, with the sectors of what runs on it
abbrev pub run_asked : List ℕ → LunState → LunState
run_asked counts (state.Free since) = state.Free since
run_asked counts (state.Running group next ready) = state.Running (each_asked 0 counts group) next ready

abbrev pub state_at : ℕ → List Row → ℕ → LunState
state_at plane_bits rows lun = run_asked (run_sectors_at rows lun) (state_from plane_bits (row_on (on.Lun lun) rows))

-- of the first `luns` LUNs
unfoldable pub states : ℕ → List Row → ℕ → List LunState
states plane_bits rows zero = []
states plane_bits rows (suc luns) = states plane_bits rows luns ++ state_at plane_bits rows luns ∷ []

-- the want of a row, with this number
abbrev pub want_in : ℕ → ℕ → Row → Option WantOf
want_in plane_bits id (Want kind lun block page) = Some (record { id = id; kind = kind; lun = lun; plane = plane_at plane_bits block; block = block; page = page })
want_in plane_bits id _ = None

-- one more in front, where there is one
abbrev pub numbered : Option WantOf → ℕ → (ℕ → List WantOf) → List WantOf
numbered None id rest = rest id
numbered (Some want) id rest = want ∷ rest (id + 1)

-- the wants of these rows, their numbers from `id` on
unfoldable pub wants_from : ℕ → ℕ → List Row → List WantOf
wants_from plane_bits id [] = []
wants_from plane_bits id (row ∷ rows) = numbered (want_in plane_bits id row) id (λ next. wants_from plane_bits next rows)

-- the row names a LUN that isn't there
abbrev pub names_absent : ℕ → Row → Bool
names_absent luns (Free lun since) = not (nat_lt lun luns)
names_absent luns (Running row) = not (nat_lt row.lun luns)
names_absent luns _ = false

-- the row names a LUN that the device lacks, or a sector with more bytes than its page: then no post of one is stated
abbrev pub is_beyond : Device → Row → Bool
is_beyond device (Sector bytes) = not (states_count device.timing 1)
is_beyond device row = names_absent device.luns row

-- the rows set up this problem on the device
pub record SetsUp (rows : List Row) (device : Device) (p : Problem) : Type 0 where
  pub timing : p.timing ≡ device.timing
  pub read : p.rules.read ≡ device.reads
  pub write : p.rules.write ≡ device.writes
  pub strict : p.rules.strict ≡ strict_from (row_on on.Strict rows)
  pub plane_bits : p.rules.plane_bits ≡ device.plane_bits
  pub bus_free : p.bus_free ≡ bus_from (row_on on.Bus rows)
  pub luns : p.luns ≡ states device.plane_bits rows device.luns
  pub wants : p.wants ≡ map (asked rows) (wants_from device.plane_bits 0 rows)
