-- What is written of a device: the fields of its parameter page, and the rows of the first form that describe the same device.
use Rattle.std.specs.Prelude.{◌≡◌, ℕ, ◌*◌, ◌/◌, ◌%◌, ◌<◌, ◌≤◌, ◌++◌, ◌⊎◌, if◌then◌else◌, Bool, true, false, List, [], length, codes, Result, Ok, Err}
use Rattle.std.specs.Fmt.{decimal}
use Rattle.std.specs.List.{flat_map, list_any}
use Rattle.onfi_param.specs.Copies.{IsFirstCopy, IsPageCopy, copy_at}
use Rattle.onfi_param.specs.Fields as field
use Rattle.onfi_param.specs.declared.fault.PageFault.TheVariants.{Short, NoCopy}
use Rattle.onfi_timing.specs.declared.spans.Spans.{Spans}
use Rattle.onfi_timing.specs.declared.timing.Timing.{Timing}
use Rattle.onfi_timing.specs.Kinds.{sector_spans, states_count}
use Rattle.onfi_timing.specs.SectorPosts.{counts}
use Rattle.onfi_script.specs.declared.device.Device.{Device as Of}
use Rattle.onfi_script.specs.declared.fault.Refusal.{Refusal}
use Rattle.onfi_script.specs.declared.fault.ScriptFault.{ScriptFault}
use Rattle.onfi_script.specs.declared.fault.ScriptFault.TheVariants as fault
use Rattle.onfi_script.specs.declared.purpose.Purpose.TheVariants as for_a
use Rattle.onfi_script.specs.declared.row.Row.{Row}
use Rattle.onfi_script.specs.Answer.{whole}
use Rattle.onfi_script.specs.Device.{TellsDevice, is_page, page_bytes}
use Rattle.onfi_script.specs.Input.{TellsRows}
use Rattle.onfi_script.specs.Text.{Answer, name_of, refused}

-- a name, with a comma after it, and a number
unfoldable pub line : List ℕ → ℕ → List ℕ
line name n = (name ++ decimal n) ++ codes "\n"

-- how many LUNs, and bits of a plane's address
unfoldable pub lun_lines : List ℕ → List ℕ
lun_lines page = line (codes "luns,") (field.lun_count page) ++ line (codes "plane-address-bits,") (field.plane_address_bits page)

-- how many blocks and pages
unfoldable pub block_lines : List ℕ → List ℕ
block_lines page = line (codes "blocks-per-lun,") (field.blocks_per_lun page) ++ line (codes "pages-per-block,") (field.pages_per_block page)

-- how many bytes of a page
unfoldable pub byte_lines : List ℕ → List ℕ
byte_lines page = line (codes "data-bytes,") (field.data_bytes page) ++ line (codes "spare-bytes,") (field.spare_bytes page)

-- how many cycles of addresses
unfoldable pub cycle_lines : List ℕ → List ℕ
cycle_lines page = line (codes "column-address-cycles,") (field.column_cycles page) ++ line (codes "row-address-cycles,") (field.row_cycles page)

-- how much there is of what
unfoldable pub sizes : List ℕ → List ℕ
sizes page = lun_lines page ++ block_lines page ++ byte_lines page ++ cycle_lines page

-- what features say of bus, LUNs and pages: 1 where the device can
unfoldable pub feature_lines : ℕ → List ℕ
feature_lines features = line (codes "wide-bus,") (features % 2) ++ line (codes "several-luns,") (features / 2 % 2)
    ++ line (codes "any-page-order,") (features / 4 % 2)

-- .. and of several planes
unfoldable pub plane_lines : ℕ → List ℕ
plane_lines features = line (codes "multi-plane-writes,") (features / 8 % 2) ++ line (codes "multi-plane-reads,") (features / 64 % 2)

-- .. and what optional commands there are
unfoldable pub command_lines : ℕ → List ℕ
command_lines commands = line (codes "read-status-enhanced,") (commands / 8 % 2)
    ++ line (codes "change-read-column-enhanced,") (commands / 64 % 2)

-- what the device can do
unfoldable pub abilities : List ℕ → List ℕ
abilities page = feature_lines (field.features page) ++ plane_lines (field.features page) ++ command_lines (field.optional_commands page)

-- its times, in ns
unfoldable pub times : List ℕ → List ℕ
times page = line (codes "tR,") (1000 * field.t_r page) ++ line (codes "tPROG,") (1000 * field.t_prog page)
    ++ line (codes "tBERS,") (1000 * field.t_bers page) ++ line (codes "tCCS,") (field.t_ccs page)

-- 1 where it holds
abbrev pub bit : Bool → ℕ
bit true = 1
bit false = 0

-- the row `shape` of a device
unfoldable pub shape_row : Of → List ℕ
shape_row device = (codes "shape," ++ decimal device.luns) ++ (codes "," ++ decimal device.plane_bits)
    ++ (codes "," ++ decimal (bit device.reads)) ++ (codes "," ++ decimal (bit device.writes)) ++ codes "\n"

-- the row `spans` of a kind, after its name
unfoldable pub spans_row : List ℕ → Spans → List ℕ
spans_row name spans = (name ++ decimal spans.cmd) ++ (codes "," ++ decimal spans.gap) ++ (codes "," ++ decimal spans.array)
    ++ (codes "," ++ decimal spans.post) ++ codes "\n"

-- .. of each kind
unfoldable pub spans_rows : Timing → List ℕ
spans_rows timing = spans_row (codes "spans,read,") timing.read ++ spans_row (codes "spans,program,") timing.program
    ++ spans_row (codes "spans,erase,") timing.erase

-- the row `sectorpost` of so many sectors
unfoldable pub sector_post_row : ℕ → ℕ → List ℕ
sector_post_row count post = (codes "sectorpost," ++ decimal count) ++ line (codes ",") post

-- .. where their post is stated
unfoldable pub sector_row : Timing → ℕ → List ℕ
sector_row timing count = if states_count timing count then sector_post_row count (sector_spans timing count).post else []

-- .. of one to seven
unfoldable pub sector_rows : Timing → List ℕ
sector_rows timing = flat_map (sector_row timing) counts

-- the rows of the first form, or why it can't be planned for
unfoldable pub rows_of : Result Of ScriptFault → List ℕ
rows_of (Ok device) = shape_row device ++ spans_rows device.timing ++ sector_rows device.timing
rows_of (Err f) = codes "refused," ++ name_of f ++ codes "\n"

-- the rows give a page, and with their sheet this device
abbrev pub described : List ℕ → Result Of ScriptFault → Answer
described page device = record { text = sizes page ++ abilities page ++ times page ++ rows_of device; status = 0 }

pub record Describes (rows : List Row) (answer : Answer) : Type 0 where
  pub page : List ℕ
  pub device : Result Of ScriptFault
  pub first : IsFirstCopy (page_bytes rows) page
  pub tells : TellsDevice rows device
  pub text : answer ≡ described page device

-- why the rows give no page
abbrev pub IsPageless : List Row → ScriptFault → Type 0
IsPageless rows fault.Missing = list_any is_page rows ≡ false
IsPageless rows (fault.Page Short) = length (page_bytes rows) < 256
IsPageless rows (fault.Page NoCopy) = (256 ≤ length (page_bytes rows)) × ((number : ℕ) → ¬ IsPageCopy (copy_at (page_bytes rows) number))
IsPageless rows _ = ⊥

-- the script is refused for this
pub record IsRefusedFor (Why : ScriptFault → Type 0) (answer : Answer) : Type 0 where
  pub fault : ScriptFault
  pub why : Why fault
  pub text : answer ≡ refused (whole fault)

-- the answer to rows
abbrev pub AnswersRows : List Row → Answer → Type 0
AnswersRows rows answer = Describes rows answer ⊎ IsRefusedFor (IsPageless rows) answer

-- the answer to an input whose rows are read, or refused
pub record IsRead (input : List ℕ) (answer : Answer) : Type 0 where
  pub rows : List Row
  pub read : TellsRows for_a.Problem input (Ok rows)
  pub answers : AnswersRows rows answer

pub record IsUnread (input : List ℕ) (answer : Answer) : Type 0 where
  pub refusal : Refusal
  pub read : TellsRows for_a.Problem input (Err refusal)
  pub text : answer ≡ refused refusal

abbrev pub IsDescription : List ℕ → Answer → Type 0
IsDescription input answer = IsRead input answer ⊎ IsUnread input answer
