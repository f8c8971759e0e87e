-- What a read of a page gives.
use Rattle.std.proofs.Common.{◌≡◌, ℕ, ◌+◌, ◌≤◌, List, length, take, drop, arith}
use Rattle.std.proofs.lemmas.List.{length-drop, length-replicate, length-take}
use Rattle.onfi_die.specs.declared.page.Page.{Page}
use Rattle.onfi_die.specs.declared.page.Page.TheVariants.{Erased, Torn, Holds}
use Rattle.onfi_die.specs.Block.{shown}
use Rattle.onfi_die.specs.Whole.{IsWide}

pub length_shown : (bytes : ℕ) (page : Page) → IsWide bytes page → length (shown bytes page) ≡ bytes
length_shown bytes Erased w = length-replicate bytes 255
length_shown bytes Torn w = length-replicate bytes 0
length_shown bytes (Holds content) w = w

-- a part of a page has as many bytes as are asked for
pub length_part : (bytes from count : ℕ) (content : List ℕ) → length content ≡ bytes → from + count ≤ bytes → length (take count (drop from content)) ≡ count
length_part bytes from count content size within =
    let a = length-take count (drop from content) in
    let b = length-drop from content in
    omega (arith, a, b, size, within)
