-- What the longer rows of a script say.
use Rattle.std.specs.Prelude.{ℕ, Bool, List}
use Rattle.onfi_timing.specs.declared.kind.Kind.{Kind}

-- how many LUNs there are, how many bits name a plane, and may reads, and may programs and erases, be grouped
pub record ShapeRow : Type 0 where
  pub luns : ℕ
  pub plane_bits : ℕ
  pub read : Bool
  pub write : Bool

-- the lengths of a kind, in ns
pub record SpansRow : Type 0 where
  pub kind : Kind
  pub cmd : ℕ
  pub gap : ℕ
  pub array : ℕ
  pub post : ℕ

-- how long an output of that many sectors holds the bus, in ns
pub record SectorPostRow : Type 0 where
  pub count : ℕ
  pub post : ℕ

-- how many sectors the members of what runs on a LUN put out, in the order of its blocks
pub record RunSectorsRow : Type 0 where
  pub lun : ℕ
  pub counts : List ℕ

-- how many blocks a LUN has, how many pages a block, how many bytes a page, and may pages be programmed in any order
pub record GeometryRow : Type 0 where
  pub blocks : ℕ
  pub pages : ℕ
  pub bytes : ℕ
  pub any_order : Bool

-- a LUN runs a group of these blocks, of which phase `next` may start from `ready`
pub record RunningRow : Type 0 where
  pub lun : ℕ
  pub next : ℕ
  pub ready : ℕ
  pub kind : Kind
  pub page : ℕ
  pub blocks : List ℕ
