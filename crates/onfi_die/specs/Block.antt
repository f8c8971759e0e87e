-- What a request does to a block, and what it answers.
use Rattle.std.specs.Prelude.{ℕ, ◌+◌, ◌-◌, ◌*◌, ◌==◌, ◌&&◌, ◌||◌, Bool, true, false, if◌then◌else◌, List, [], length, replicate, take, drop, min, slice_set, slice_index_or}
use Rattle.std.specs.List.{list_all}
use Rattle.onfi_timing.specs.declared.kind.Kind.{Kind}
use Rattle.onfi_timing.specs.declared.kind.Kind.TheVariants.{Read, Program, Erase, ReadSectors}
use Rattle.onfi_request.specs.declared.answer.Answer.{Answer}
use Rattle.onfi_request.specs.declared.answer.Answer.TheVariants.{Read as Gave, Done, Failed}
use Rattle.onfi_die.specs.declared.page.Page.{Page}
use Rattle.onfi_die.specs.declared.page.Page.TheVariants.{Erased, Torn, Holds}
use Rattle.onfi_die.specs.declared.shape.Shape.{Shape}

abbrev pub is_erased : Page → Bool
is_erased Erased = true
is_erased Torn = false
is_erased (Holds content) = false

-- erased reads as FFh throughout, torn as 00h throughout
abbrev pub shown : ℕ → Page → List ℕ
shown bytes Erased = replicate bytes 255
shown bytes Torn = replicate bytes 0
shown bytes (Holds content) = content

-- what a read of that kind puts out of the bytes of a page: all of them, or its sectors as far as the page has them
abbrev pub put_out : Shape → Kind → List ℕ → List ℕ
put_out shape Read content = content
put_out shape (ReadSectors first count) content = if count == 0 then content else take (count * shape.sector_bytes) (drop (first * shape.sector_bytes) content)
put_out shape Program content = []
put_out shape Erase content = []

-- how many bytes these are
abbrev pub length_out : Shape → Kind → ℕ
length_out shape Read = shape.bytes
length_out shape (ReadSectors first count) = if count == 0 then shape.bytes else min (count * shape.sector_bytes) (shape.bytes - first * shape.sector_bytes)
length_out shape Program = 0
length_out shape Erase = 0

-- the page is erased and, where pages are programmed in order, so is each higher page
abbrev pub may_program : Bool → ℕ → List Page → Bool
may_program any_order page pages = is_erased (slice_index_or pages page Torn) && (any_order || list_all is_erased (drop (page + 1) pages))

-- the pages that an operation leaves, and its answer
pub record Did : Type 0 where
  pub pages : List Page
  pub answer : Answer

abbrev pub programmed : Bool → ℕ → List ℕ → List Page → Did
programmed any_order page content pages =
    if may_program any_order page pages
    then record { pages = slice_set pages page (Holds content); answer = Done }
    else record { pages = pages; answer = Failed }

-- a kind, a page, bytes and a fault bit give a new list of pages and an answer
abbrev pub did : Shape → Kind → ℕ → List ℕ → Bool → List Page → Did
did shape Read page content fault pages = record { pages = pages; answer = Gave (shown shape.bytes (slice_index_or pages page Erased)) }
did shape (ReadSectors first count) page content fault pages =
    record { pages = pages; answer = Gave (put_out shape (ReadSectors first count) (shown shape.bytes (slice_index_or pages page Erased))) }
did shape Program page content true pages = record { pages = slice_set pages page Torn; answer = Failed }
did shape Program page content false pages = programmed shape.any_order page content pages
did shape Erase page content true pages = record { pages = replicate (length pages) Torn; answer = Failed }
did shape Erase page content false pages = record { pages = replicate (length pages) Erased; answer = Done }
