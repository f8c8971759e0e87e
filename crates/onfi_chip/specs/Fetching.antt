-- What the post of a member asks for.
use Rattle.std.specs.Prelude.{◌≡◌, ℕ, List, length}
use Rattle.onfi_addr.specs.declared.geometry.Geometry.{Geometry}
use Rattle.onfi_addr.specs.Rows.{row_of}
use Rattle.onfi_request.specs.Parts.{bytes_out}
use Rattle.onfi_chip.specs.declared.fetch.Fetch.{Fetch}
use Rattle.onfi_chip.specs.declared.post.Post.{Post}
use Rattle.onfi_chip.specs.Chip.{Chip}
use Rattle.onfi_chip.specs.Calls.{IsNextPost}

-- it has room for the bytes that are put out
abbrev pub HasRoom : Geometry → Fetch → Type 0
HasRoom geometry fetch = length fetch.room.items ≡ bytes_out geometry fetch.kind

-- the post is the next call of the chip's group, and of that kind
pub record IsNextFetch (geometry : Geometry) (chip : Chip) (now : ℕ) (fetch : Fetch) (post : Post) (left : List Post) : Type 0 where
  pub kind : post.kind ≡ fetch.kind
  pub next : IsNextPost chip now (row_of geometry fetch.place) post left
