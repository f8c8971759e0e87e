-- The items of one host, and how they are numbered.
use Rattle.std.specs.Prelude.{◌≡◌, ℕ, ◌+◌, ◌<◌, ◌≤◌, List, [], ◌∷◌, ◌++◌, length, slice_index_or}
use Rattle.onfi_addr.specs.declared.geometry.Geometry.{Geometry}
use Rattle.onfi_request.specs.declared.request.Item.{Item}
use Rattle.onfi_request.specs.Range.{Fits}
pub use Rattle.onfi_request.specs.Items.{is_from, items_from}

-- each is an item of the host that its device takes, with the next serial, from this one on
abbrev pub AreNumbered : Geometry → ℕ → ℕ → List Item → Type 0
AreNumbered geometry host serial [] = Unit {0}
AreNumbered geometry host serial (x ∷ xs) =
    (x.host ≡ host) × (x.serial ≡ serial) × Fits geometry x.request × AreNumbered geometry host (serial + 1) xs

-- the item may come next after these: it is of one of that many hosts, has that host's next serial, and the device takes it
pub record IsNext (geometry : Geometry) (hosts : ℕ) (accepted : List Item) (x : Item) : Type 0 where
  pub host : x.host < hosts
  pub serial : x.serial ≡ length (items_from x.host accepted)
  pub fits : Fits geometry x.request

-- where `sents` says what the first hosts sent, that is what was accepted of each, and then what waits; the items of each
-- host are numbered from 0 on, and from the number `hosts` on there are none
pub record IsSplit (geometry : Geometry) (hosts : ℕ) (accepted : List Item) (sents : List (List Item)) (waiting : List Item) : Type 0 where
  pub sent : (host : ℕ) → host < length sents → slice_index_or sents host [] ≡ items_from host accepted ++ items_from host waiting
  pub numbered : (host : ℕ) → AreNumbered geometry host 0 (items_from host accepted ++ items_from host waiting)
  pub no_other : (host : ℕ) → hosts ≤ host → items_from host accepted ++ items_from host waiting ≡ []
