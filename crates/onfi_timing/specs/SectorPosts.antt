-- Posts of reads of some sectors: those of a page, with the bytes of the sectors for the bytes of the page.
use Rattle.std.specs.Prelude.{◌≡◌, ℕ, zero, suc, ◌+◌, ◌*◌, ◌&&◌, nat_le, if◌then◌else◌, List, [], ◌∷◌, map, Option, Some, None, slice_index_or, unwrap_or, option_map}
use Rattle.onfi_param.specs.Fields.{t_ccs}
use Rattle.onfi_addr.specs.declared.geometry.Geometry.{Geometry}
use Rattle.onfi_addr.specs.Rows.{page_bytes_of}
use Rattle.onfi_timing.specs.declared.sheet.Sheet.{Sheet}
use Rattle.onfi_timing.specs.declared.spans.Spans.{Spans}
use Rattle.onfi_timing.specs.declared.strobe_values.StrobeValues.{StrobeValues}
use Rattle.onfi_timing.specs.declared.strobes.Strobes.{Strobes}
use Rattle.onfi_timing.specs.declared.timing.Timing.{Timing}
use Rattle.onfi_timing.specs.declared.values.Values.{Values}
use Rattle.onfi_timing.specs.Kinds.{stated}
use Rattle.onfi_timing.specs.Strobes.{IsStrobedTiming, IsSheetBeside, Give, bytes_out, ns_up}
use Rattle.onfi_timing.specs.Table.{IsTiming, Gives, command_cycles}

-- the post of what is stated; 0 where nothing is
abbrev pub post_or_none : Option Spans → ℕ
post_or_none None = 0
post_or_none (Some spans) = spans.post

-- reads of one to seven sectors have these posts, in order; none are stated where 0 stands
abbrev pub HasPosts : Timing → List ℕ → Type 0
HasPosts timing posts = (before : ℕ) → post_or_none (stated timing (suc before)) ≡ slice_index_or posts before 0

-- all but posts of reads of some sectors is the same
pub record HasPages (before after : Timing) : Type 0 where
  pub read : after.read ≡ before.read
  pub program : after.program ≡ before.program
  pub erase : after.erase ≡ before.erase

-- how many sectors lengths are stated of
abbrev pub counts : List ℕ
counts = 1 ∷ 2 ∷ 3 ∷ 4 ∷ 5 ∷ 6 ∷ 7 ∷ []

-- the bytes of that many sectors, where a page has as many; none where sectors have none
abbrev pub bytes_of : ℕ → ℕ → ℕ → Option ℕ
bytes_of page_bytes sector_bytes count =
    if nat_le 1 sector_bytes && nat_le (count * sector_bytes) page_bytes then Some (count * sector_bytes) else None

-- the post of that many sectors, by the time that bytes take; 0 where a page has fewer bytes
abbrev pub sector_post : (ℕ → ℕ) → ℕ → ℕ → ℕ → ℕ
sector_post time page_bytes sector_bytes count = unwrap_or (option_map time (bytes_of page_bytes sector_bytes count)) 0

-- .. of one to seven
abbrev pub sector_posts : (ℕ → ℕ) → ℕ → ℕ → List ℕ
sector_posts time page_bytes sector_bytes = map (sector_post time page_bytes sector_bytes) counts

-- how long an output of that many bytes of a page holds the bus, in ns: of all its bytes the post of a read
abbrev pub output_time : List ℕ → Geometry → Values → ℕ → ℕ
output_time page g v bytes = command_cycles g * v.t_wc + t_ccs page + bytes * v.t_rc + v.t_rhw

-- .. where bytes go by strobes
abbrev pub strobed_output : List ℕ → Geometry → Values → StrobeValues → ℕ → ℕ
strobed_output page g v s bytes = ns_up (1000 * (command_cycles g * v.t_wc + t_ccs page + v.t_rhw) + bytes_out s bytes)

-- the phase lengths by page, geometry and sheet, with those of reads of sectors of that many bytes
pub record IsSectorTiming (page : List ℕ) (g : Geometry) (sheet : Sheet) (sector_bytes : ℕ) (timing : Timing) : Type 0 where
  pub pages : IsTiming page g sheet timing
  pub values : Values
  pub given : Gives sheet values
  pub sectors : HasPosts timing (sector_posts (output_time page g values) (page_bytes_of g) sector_bytes)

-- .. by strobes
pub record IsStrobedSectorTiming (page : List ℕ) (g : Geometry) (sheet : Sheet) (strobes : Strobes) (sector_bytes : ℕ) (timing : Timing) : Type 0 where
  pub pages : IsStrobedTiming page g sheet strobes timing
  pub values : Values
  pub sheet_gives : IsSheetBeside sheet values
  pub strobe_values : StrobeValues
  pub strobes_give : Give strobes strobe_values
  pub sectors : HasPosts timing (sector_posts (strobed_output page g values strobe_values) (page_bytes_of g) sector_bytes)
