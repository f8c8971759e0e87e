-- What a phase puts out of its page.
use Rattle.std.specs.Prelude.{◌≡◌, ◌<◌, ℕ, if◌then◌else◌, true, false}
use Rattle.onfi_addr.specs.declared.geometry.Geometry.{Geometry}
use Rattle.onfi_timing.specs.declared.kind.Kind.{Kind}
use Rattle.onfi_timing.specs.declared.kind.Kind.TheVariants.{Read, Program, Erase, ReadSectors}
use Rattle.onfi_request.specs.Parts.{bytes_out, first_column, has_part}
use Rattle.onfi_calls.specs.declared.device.PlainGeometry.{PlainGeometry}
use Rattle.onfi_calls.specs.declared.output.PlainOutput.{PlainOutput}
use Rattle.onfi_calls.specs.declared.phase.PlainPhase.{PlainPhase}
use Rattle.onfi_calls.specs.declared.status.Status.{Status}
use Rattle.onfi_calls.specs.declared.status.Status.TheVariants.{BadGeometry, BadKind, BadSectors}
use Rattle.onfi_calls.specs.Device.{written_geometry}
use Rattle.onfi_calls.specs.Problem.{kind_of, operation_in}
use Rattle.onfi_calls.specs.Geometry.{IsNoGeometry}
use Rattle.onfi_calls.specs.Status.{number_of}

-- a read that names sectors puts out those from that one on
abbrev pub from_sector : ℕ → Kind → Kind
from_sector first Read = Read
from_sector first (ReadSectors begin count) = ReadSectors first count
from_sector first Program = Program
from_sector first Erase = Erase

-- the device that is said, whose sectors have that many bytes
pub record IsSectored (said : PlainGeometry) (sector_bytes : ℕ) (geometry : Geometry) : Type 0 where
  pub written : said ≡ written_geometry geometry
  pub sectors : geometry.sector_bytes ≡ sector_bytes

-- what the post of a kind puts out; a command puts out nothing
abbrev pub output_of : Geometry → PlainPhase → Kind → PlainOutput
output_of geometry phase kind =
    if phase.is_post then record { column = first_column geometry kind; bytes = bytes_out geometry kind } else record { column = 0; bytes = 0 }

-- the output of a phase of the device that is said; its page has the sectors that are named
pub record IsOutputSaid (said : PlainGeometry) (sector_bytes : ℕ) (phase : PlainPhase) (first : ℕ) (output : PlainOutput) : Type 0 where
  pub geometry : Geometry
  pub device : IsSectored said sector_bytes geometry
  pub operation : operation_in phase.kind < 3
  pub there : has_part geometry (from_sector first (kind_of phase.kind)) ≡ true
  pub output_is : output ≡ output_of geometry phase (from_sector first (kind_of phase.kind))

-- its page doesn't have them
pub record HasNoPart (said : PlainGeometry) (sector_bytes : ℕ) (phase : PlainPhase) (first : ℕ) : Type 0 where
  pub geometry : Geometry
  pub device : IsSectored said sector_bytes geometry
  pub operation : operation_in phase.kind < 3
  pub not_there : has_part geometry (from_sector first (kind_of phase.kind)) ≡ false

-- why there is no output: the first of these
abbrev pub IsNoOutput : PlainGeometry → ℕ → PlainPhase → ℕ → Status → Type 0
IsNoOutput said sector_bytes phase first BadKind = 2 < operation_in phase.kind
IsNoOutput said sector_bytes phase first BadGeometry = (operation_in phase.kind < 3) × IsNoGeometry said
IsNoOutput said sector_bytes phase first BadSectors = HasNoPart said sector_bytes phase first
IsNoOutput said sector_bytes phase first _ = ⊥

-- a caller is given the output of a phase, or a number that says why there is none, and nothing else
pub data GivesOutput (said : PlainGeometry) (sector_bytes : ℕ) (phase : PlainPhase) (first : ℕ) (old new : PlainOutput) (result : ℕ) : Type 0 where
  gives_output : IsOutputSaid said sector_bytes phase first new → result ≡ 0 → GivesOutput said sector_bytes phase first old new result
  refuses_output : (status : Status) → IsNoOutput said sector_bytes phase first status → new ≡ old → result ≡ number_of status
      → GivesOutput said sector_bytes phase first old new result
