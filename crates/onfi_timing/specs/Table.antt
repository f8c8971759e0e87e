-- The table of phase lengths: what each takes of the parameter page, the geometry and the timing sheet, in ns.
use Rattle.std.specs.Prelude.{◌≡◌, ℕ, ◌+◌, ◌*◌, ◌≤◌, ◌⊎◌, List, [], ◌∷◌, Option, Some, None, find, is_none}
use Rattle.onfi_param.specs.Fields.{t_prog, t_bers, t_r, t_ccs}
use Rattle.onfi_addr.specs.declared.geometry.Geometry.{Geometry}
use Rattle.onfi_addr.specs.Rows.{page_bytes_of}
use Rattle.onfi_timing.specs.declared.parameter.Parameter.{Parameter}
use Rattle.onfi_timing.specs.declared.parameter.Parameter.TheVariants.{Twc, Trc, Tadl, Twhr, Trhw, Twb, Tplrbsy, Tplpbsy, Tplebsy}
use Rattle.onfi_timing.specs.declared.sheet.Sheet.{Sheet}
use Rattle.onfi_timing.specs.declared.spans.Spans.{Spans}
use Rattle.onfi_timing.specs.declared.timing.Timing.{Timing}
use Rattle.onfi_timing.specs.declared.fault.SheetFault.{SheetFault}
use Rattle.onfi_timing.specs.declared.fault.SheetFault.TheVariants.{Missing, ZeroCycle}
use Rattle.onfi_timing.specs.declared.values.Values.{Values}
use Rattle.onfi_timing.specs.Sheet.{given}

-- the parameters, in the order in which a missing one is reported
abbrev pub in_order : List Parameter
in_order = Twc ∷ Trc ∷ Tadl ∷ Twhr ∷ Trhw ∷ Twb ∷ Tplrbsy ∷ Tplpbsy ∷ Tplebsy ∷ []

-- the sheet gives these values
pub record Gives (sheet : Sheet) (values : Values) : Type 0 where
  pub t_wc : sheet.t_wc ≡ Some values.t_wc
  pub t_rc : sheet.t_rc ≡ Some values.t_rc
  pub t_adl : sheet.t_adl ≡ Some values.t_adl
  pub t_whr : sheet.t_whr ≡ Some values.t_whr
  pub t_rhw : sheet.t_rhw ≡ Some values.t_rhw
  pub t_wb : sheet.t_wb ≡ Some values.t_wb
  pub t_plrbsy : sheet.t_plrbsy ≡ Some values.t_plrbsy
  pub t_plpbsy : sheet.t_plpbsy ≡ Some values.t_plpbsy
  pub t_plebsy : sheet.t_plebsy ≡ Some values.t_plebsy

-- the page gives microseconds for tPROG, tBERS and tR
abbrev pub ns_of : ℕ → ℕ
ns_of microseconds = 1000 * microseconds

-- a command opens, carries column and row cycles, and closes
abbrev pub command_cycles : Geometry → ℕ
command_cycles g = 2 + g.column_address_cycles + g.row_address_cycles

-- a status byte: its command and row cycles, then one byte out
abbrev pub status_time : Geometry → Values → ℕ
status_time g v = (1 + g.row_address_cycles) * v.t_wc + v.t_whr + v.t_rc + v.t_rhw

pub record IsReadTime (page : List ℕ) (g : Geometry) (v : Values) (spans : Spans) : Type 0 where
  pub cmd : spans.cmd ≡ command_cycles g * v.t_wc
  pub gap : spans.gap ≡ v.t_wb + v.t_plrbsy
  pub array : spans.array ≡ v.t_wb + ns_of (t_r page)
  pub post : spans.post ≡ command_cycles g * v.t_wc + t_ccs page + page_bytes_of g * v.t_rc + v.t_rhw

pub record IsProgramTime (page : List ℕ) (g : Geometry) (v : Values) (spans : Spans) : Type 0 where
  pub cmd : spans.cmd ≡ command_cycles g * v.t_wc + v.t_adl + page_bytes_of g * v.t_wc
  pub gap : spans.gap ≡ v.t_wb + v.t_plpbsy
  pub array : spans.array ≡ v.t_wb + ns_of (t_prog page)
  pub post : spans.post ≡ status_time g v

-- an erase carries row cycles alone
pub record IsEraseTime (page : List ℕ) (g : Geometry) (v : Values) (spans : Spans) : Type 0 where
  pub cmd : spans.cmd ≡ (2 + g.row_address_cycles) * v.t_wc
  pub gap : spans.gap ≡ v.t_wb + v.t_plebsy
  pub array : spans.array ≡ v.t_wb + ns_of (t_bers page)
  pub post : spans.post ≡ status_time g v

pub record IsTimingOf (page : List ℕ) (g : Geometry) (v : Values) (timing : Timing) : Type 0 where
  pub read : IsReadTime page g v timing.read
  pub program : IsProgramTime page g v timing.program
  pub erase : IsEraseTime page g v timing.erase

-- the first parameter that the sheet doesn't give
abbrev pub first_missing : Sheet → Option Parameter
first_missing sheet = find (λ parameter. is_none (given sheet parameter)) in_order

-- why there are no phase lengths: the first missing parameter, or a cycle without length
abbrev pub IsTimingFault : Sheet → SheetFault → Type 0
IsTimingFault sheet (Missing parameter) = first_missing sheet ≡ Some parameter
IsTimingFault sheet ZeroCycle = (first_missing sheet ≡ None) × ((sheet.t_wc ≡ Some 0) ⊎ (sheet.t_rc ≡ Some 0))
IsTimingFault sheet _ = ⊥

-- the phase lengths by page, geometry and sheet
pub record IsTiming (page : List ℕ) (g : Geometry) (sheet : Sheet) (timing : Timing) : Type 0 where
  pub values : Values
  pub given : Gives sheet values
  pub none_missing : first_missing sheet ≡ None
  pub write_cycle : 1 ≤ values.t_wc
  pub read_cycle : 1 ≤ values.t_rc
  pub table : IsTimingOf page g values timing
