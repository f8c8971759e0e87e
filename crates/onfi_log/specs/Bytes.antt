-- The command bytes of a phase.
use Rattle.std.specs.Prelude.{ℕ, if◌then◌else◌, Bool, true, false, not, List, Option, Some, None, codes}
use Rattle.std.specs.Str.{bytes_eq}
use Rattle.onfi_timing.specs.declared.operation.Operation.{Operation}
use Rattle.onfi_timing.specs.declared.operation.Operation.TheVariants.{Read, Program, Erase}
use Rattle.onfi_log.specs.declared.bytes.Bytes.{Bytes}
use Rattle.onfi_log.specs.declared.bytes.Bytes.TheVariants.{Last, More, Other}

-- the first one, in hexadecimal: of a command, or of a post
abbrev pub opener_word : Operation → Bool → List ℕ
opener_word Read false = codes "00"
opener_word Program false = codes "80"
opener_word Erase false = codes "60"
opener_word Read true = codes "06"
opener_word Program true = codes "78"
opener_word Erase true = codes "78"

-- the last one: each plane of a multi-plane operation but the last closes with a byte of its own; a status has none
abbrev pub closer_word : Operation → Bool → Bool → List ℕ
closer_word Read false true = codes "30"
closer_word Read false false = codes "32"
closer_word Program false true = codes "10"
closer_word Program false false = codes "11"
closer_word Erase false true = codes "D0"
closer_word Erase false false = codes "D1"
closer_word Read true last = codes "E0"
closer_word Program true last = codes "-"
closer_word Erase true last = codes "-"

abbrev pub closed_by : Operation → Bool → List ℕ → Bytes
closed_by operation is_post closer =
    if bytes_eq closer (closer_word operation is_post true) then Last
    else (if bytes_eq closer (closer_word operation is_post false) then More
    else Other)

-- what they say of a phase
abbrev pub bytes_of : Operation → Bool → List ℕ → List ℕ → Bytes
bytes_of operation is_post opener closer = if bytes_eq opener (opener_word operation is_post) then closed_by operation is_post closer else Other

-- the bytes are those of the phase: of a command of which it is known whether it is the last, or of any phase
abbrev pub fits : Option Bool → Bytes → Bool
fits known Other = false
fits None Last = true
fits None More = true
fits (Some last) Last = last
fits (Some last) More = not last
