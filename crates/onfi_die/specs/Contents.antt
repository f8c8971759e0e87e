-- A block of a device, and what requests that name it do to it.
use Rattle.std.specs.Prelude.{ℕ, ◌+◌, ◌==◌, ◌&&◌, Bool, List, [], ◌∷◌, replicate}
use Rattle.std.specs.List.{list_any}
use Rattle.onfi_timing.specs.declared.kind.Kind.{Kind}
use Rattle.onfi_timing.specs.declared.kind.Kind.TheVariants.{Read, Program, Erase, ReadSectors}
use Rattle.onfi_request.specs.declared.answer.Answer.{Answer}
use Rattle.onfi_request.specs.declared.fault.Fault.{Fault}
use Rattle.onfi_request.specs.declared.request.Request.{Request}
use Rattle.onfi_die.specs.declared.page.Page.{Page}
use Rattle.onfi_die.specs.declared.page.Page.TheVariants.{Erased}
use Rattle.onfi_die.specs.Shapes.{Device}
use Rattle.onfi_die.specs.Block.{Did, did}

-- a block's pages, and how many programs and erases it was asked for
pub record Contents : Type 0 where
  pub pages : List Page
  pub changes : ℕ

-- a block as it opens
abbrev pub fresh : Device → Contents
fresh device = record { pages = replicate device.shape.pages Erased; changes = 0 }

-- programs and erases count, failed ones too; reads don't
abbrev pub counted : Kind → ℕ → ℕ
counted Read changes = changes
counted (ReadSectors first count) changes = changes
counted Program changes = changes + 1
counted Erase changes = changes + 1

abbrev pub is_fault : ℕ → ℕ → ℕ → Fault → Bool
is_fault lun block number f = f.lun == lun && (f.block == block && f.number == number)

-- whether the next program or erase of the block fails
abbrev pub fails : Device → ℕ → ℕ → ℕ → Bool
fails device lun block changes = list_any (is_fault lun block changes) device.faults

-- what the request does on its block
abbrev pub request_did : Device → Request → Contents → Did
request_did device r contents = did device.shape r.kind r.place.page r.bytes (fails device r.place.lun r.place.block contents.changes) contents.pages

unfoldable pub contents_after : Device → Request → Contents → Contents
contents_after device r contents = record { pages = (request_did device r contents).pages; changes = counted r.kind contents.changes }

unfoldable pub answer_of : Device → Request → Contents → Answer
answer_of device r contents = (request_did device r contents).answer

-- the requests, one by one
abbrev pub runs : Device → List Request → Contents → Contents
runs device [] contents = contents
runs device (r ∷ rs) contents = runs device rs (contents_after device r contents)
