-- Lists of up to four requests, compared by their numbers.
use Rattle.std.specs.Prelude.{◌==◌, if◌then◌else◌, Bool, true, false, List, Option, Some, None, slice_get}
use Rattle.onfi_request.specs.declared.want.Want.{Want}

abbrev pub is_same : Option Want → Option Want → Bool
is_same None None = true
is_same None (Some other) = false
is_same (Some member) None = false
is_same (Some member) (Some other) = member.id == other.id

abbrev pub are_same : List Want → List Want → Bool
are_same members others =
    if is_same (slice_get members 0) (slice_get others 0) then (if is_same (slice_get members 1) (slice_get others 1) then
    (if is_same (slice_get members 2) (slice_get others 2) then is_same (slice_get members 3) (slice_get others 3) else false) else false) else false
