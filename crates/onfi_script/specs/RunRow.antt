-- What a row that is taken for a run alone says.
use Rattle.std.specs.Prelude.{ℕ, ◌==◌, if◌then◌else◌, List, [], ◌∷◌, Result, Ok, Err, codes}
use Rattle.std.specs.Str.{bytes_eq}
use Rattle.onfi_timing.specs.declared.kind.Kind.TheVariants.{ReadSectors}
use Rattle.onfi_script.specs.declared.fault.ScriptFault.{ScriptFault}
use Rattle.onfi_script.specs.declared.fault.ScriptFault.TheVariants.{Hex, OutOfRange}
use Rattle.onfi_script.specs.declared.operation.Aim.{Aim}
use Rattle.onfi_script.specs.declared.operation.Content.{Content}
use Rattle.onfi_script.specs.declared.operation.Content.TheVariants.{Given, Filled}
use Rattle.onfi_script.specs.declared.row.Row.{Row}
use Rattle.onfi_script.specs.declared.row.Row.TheVariants.{Channels, Hosts, Batch, SubmitCap, PostCap, Op, Fault, ChipFail, NotReady, Array, At, Geometry}
use Rattle.onfi_script.specs.Field.{given, field, flag, hex_bytes, number, kind, lun, block, page, span, first_sector, some_sectors}
use Rattle.onfi_script.specs.Row.{Record}

-- the number of a call, below 2^32
abbrev pub call_number : List ℕ → Result ℕ ScriptFault
call_number text = number 0 4294967295 text

-- the number of a channel or a host
abbrev pub end_number : List ℕ → Result ℕ ScriptFault
end_number text = number 0 3 text

abbrev pub channels_row : Record → Result Row ScriptFault
channels_row row = given (number 1 4 (field row 1)) (λ count. Ok (Channels count))

abbrev pub hosts_row : Record → Result Row ScriptFault
hosts_row row = given (number 1 4 (field row 1)) (λ count. Ok (Hosts count))

abbrev pub batch_row : Record → Result Row ScriptFault
batch_row row = given (number 1 8 (field row 1)) (λ count. Ok (Batch count))

abbrev pub submit_cap_row : Record → Result Row ScriptFault
submit_cap_row row = given (number 1 1024 (field row 1)) (λ count. Ok (SubmitCap count))

abbrev pub post_cap_row : Record → Result Row ScriptFault
post_cap_row row = given (number 1 1024 (field row 1)) (λ count. Ok (PostCap count))

abbrev pub chip_fail_row : Record → Result Row ScriptFault
chip_fail_row row = given (end_number (field row 1)) (λ channel. given (call_number (field row 2)) (λ number. Ok (ChipFail channel number)))

abbrev pub not_ready_row : Record → Result Row ScriptFault
not_ready_row row = given (end_number (field row 1)) (λ channel. given (call_number (field row 2)) (λ number. Ok (NotReady channel number)))

abbrev pub fault_row : Record → Result Row ScriptFault
fault_row row =
    given (end_number (field row 1)) (λ channel.
    given (lun (field row 2)) (λ lun.
    given (block (field row 3)) (λ block.
    given (call_number (field row 4)) (λ number.
    Ok (Fault channel (record { lun = lun; block = block; number = number }))))))

abbrev pub array_row : Record → Result Row ScriptFault
array_row row =
    given (end_number (field row 1)) (λ channel.
    given (lun (field row 2)) (λ lun.
    given (call_number (field row 3)) (λ number.
    given (span 0 (field row 4)) (λ length.
    Ok (Array channel lun number length)))))

-- a moment of arrival, below 2^62 ns and not before that one
abbrev pub at_row : ℕ → Record → Result Row ScriptFault
at_row before row = given (number before 4611686018427387903 (field row 1)) (λ moment. Ok (At moment))

abbrev pub geometry_row : Record → Result Row ScriptFault
geometry_row row =
    given (number 1 65536 (field row 1)) (λ blocks.
    given (number 1 4096 (field row 2)) (λ pages.
    given (number 1 65535 (field row 3)) (λ bytes.
    given (flag (field row 4)) (λ any_order.
    Ok (Geometry (record { blocks = blocks; pages = pages; bytes = bytes; any_order = any_order }))))))

-- the only one of the bytes
abbrev pub only : List ℕ → Result ℕ ScriptFault
only [] = Err Hex
only (byte ∷ []) = Ok byte
only (byte ∷ other ∷ bytes) = Err Hex

-- a page of one byte
abbrev pub filled : List ℕ → Result Content ScriptFault
filled digits = given (hex_bytes digits) (λ bytes. given (only bytes) (λ byte. Ok (Filled byte)))

-- bytes in hexadecimal, or after a star the one byte of a whole page
abbrev pub content : List ℕ → Result Content ScriptFault
content [] = given (hex_bytes []) (λ bytes. Ok (Given bytes))
content (c ∷ text) = if c == 42 then filled text else given (hex_bytes (c ∷ text)) (λ bytes. Ok (Given bytes))

-- who asks which channel for what
abbrev pub aim : Record → Result Aim ScriptFault
aim row =
    given (end_number (field row 1)) (λ host.
    given (end_number (field row 2)) (λ channel.
    given (kind (field row 3)) (λ kind.
    given (lun (field row 4)) (λ lun.
    given (block (field row 5)) (λ block.
    given (page (field row 6)) (λ page.
    Ok (record { host = host; channel = channel; kind = kind; place = record { lun = lun; block = block; page = page } })))))))

abbrev pub op_row : Record → Result Row ScriptFault
op_row row = given (aim row) (λ aim. given (content (field row 7)) (λ content. Ok (Op (record { aim = aim; content = content }))))

-- who reads some sectors of a page of which channel
abbrev pub read_aim : Record → Result Aim ScriptFault
read_aim row =
    given (end_number (field row 1)) (λ host.
    given (end_number (field row 2)) (λ channel.
    given (lun (field row 3)) (λ lun.
    given (block (field row 4)) (λ block.
    given (page (field row 5)) (λ page.
    given (first_sector (field row 6)) (λ first.
    given (some_sectors (field row 7)) (λ count.
    Ok (record { host = host; channel = channel; kind = ReadSectors first count; place = record { lun = lun; block = block; page = page } }))))))))

abbrev pub op_read_row : Record → Result Row ScriptFault
op_read_row row = given (read_aim row) (λ aim. Ok (Op (record { aim = aim; content = Given [] })))
