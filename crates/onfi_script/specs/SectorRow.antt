-- What the rows of reads of some sectors say.
use Rattle.std.specs.Prelude.{drop, Result, Ok}
use Rattle.onfi_script.specs.declared.fault.ScriptFault.{ScriptFault}
use Rattle.onfi_script.specs.declared.row.Row.{Row}
use Rattle.onfi_script.specs.declared.row.Row.TheVariants.{SectorPost, Sector, Sectors, RunSectors}
use Rattle.onfi_script.specs.Field.{given, field, number, lun, span, sector_bytes, sectors}
use Rattle.onfi_script.specs.Row.{Record, each_of}

abbrev pub sector_post_row : Record → Result Row ScriptFault
sector_post_row row =
    given (number 1 7 (field row 1)) (λ count.
    given (span 1 (field row 2)) (λ post.
    Ok (SectorPost (record { count = count; post = post }))))

abbrev pub sector_row : Record → Result Row ScriptFault
sector_row row = given (sector_bytes (field row 1)) (λ bytes. Ok (Sector bytes))

abbrev pub sectors_row : Record → Result Row ScriptFault
sectors_row row = given (number 0 7 (field row 1)) (λ request. given (sectors (field row 2)) (λ count. Ok (Sectors request count)))

abbrev pub run_sectors_row : Record → Result Row ScriptFault
run_sectors_row row =
    given (lun (field row 1)) (λ lun.
    given (each_of sectors (drop 2 row)) (λ counts.
    Ok (RunSectors (record { lun = lun; counts = counts }))))
