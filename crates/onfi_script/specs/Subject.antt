-- What a row settles for a script.
use Rattle.std.specs.Prelude.{◌==◌, ◌&&◌, Bool, true, false, List, Option, Some, None, find}
use Rattle.onfi_timing.specs.declared.kind.Kind.{Kind}
use Rattle.onfi_timing.specs.declared.kind.Kind.TheVariants.{Read, Program, Erase}
use Rattle.onfi_script.specs.declared.row.Row.{Row}
use Rattle.onfi_script.specs.declared.row.Row.TheVariants.{Shape, Spans, Page, Sheet, Strobe, Bus, Free, Running, Want, Weight, SectorPost, Sector, Sectors, RunSectors, Strict, Channels, Hosts, Batch, SubmitCap, PostCap, Op, Fault, ChipFail, NotReady, Array, At, Geometry}
use Rattle.onfi_script.specs.declared.row.Subject.{Subject}
use Rattle.onfi_script.specs.declared.row.Subject.TheVariants as on

abbrev pub subject_of : Row → Option Subject
subject_of (Shape row) = Some on.Shape
subject_of (Spans row) = Some (on.Spans row.kind)
subject_of (Page bytes) = None
subject_of (Sheet sheet) = None
subject_of (Strobe strobes) = None
subject_of (Bus bus_free) = Some on.Bus
subject_of (Free lun since) = Some (on.Lun lun)
subject_of (Running row) = Some (on.Lun row.lun)
subject_of (Want kind lun block page) = None
subject_of (Weight request weight) = Some (on.Weight request)
subject_of (SectorPost row) = Some (on.SectorPost row.count)
subject_of (Sector bytes) = Some on.Sector
subject_of (Sectors request count) = Some (on.Sectors request)
subject_of (RunSectors row) = Some (on.RunSectors row.lun)
subject_of (Strict strict) = Some on.Strict
subject_of (Channels count) = Some on.Channels
subject_of (Hosts count) = Some on.Hosts
subject_of (Batch count) = Some on.Batch
subject_of (SubmitCap count) = Some on.SubmitCap
subject_of (PostCap count) = Some on.PostCap
subject_of (Op op) = None
subject_of (Fault channel fault) = None
subject_of (ChipFail channel number) = None
subject_of (NotReady channel number) = None
subject_of (Array channel lun number length) = Some (on.Array channel lun number)
subject_of (At moment) = None
subject_of (Geometry row) = Some on.Geometry

-- an operation of a host
abbrev pub is_op : Row → Bool
is_op (Op op) = true
is_op _ = false

abbrev pub is_kind : Kind → Kind → Bool
is_kind Read Read = true
is_kind Program Program = true
is_kind Erase Erase = true
is_kind kind other = false

abbrev pub is_subject : Subject → Subject → Bool
is_subject on.Shape on.Shape = true
is_subject (on.Spans kind) (on.Spans other) = is_kind kind other
is_subject on.Bus on.Bus = true
is_subject (on.Lun lun) (on.Lun other) = lun == other
is_subject (on.Weight request) (on.Weight other) = request == other
is_subject (on.SectorPost count) (on.SectorPost other) = count == other
is_subject on.Sector on.Sector = true
is_subject (on.Sectors request) (on.Sectors other) = request == other
is_subject (on.RunSectors lun) (on.RunSectors other) = lun == other
is_subject on.Strict on.Strict = true
is_subject on.Channels on.Channels = true
is_subject on.Hosts on.Hosts = true
is_subject on.Batch on.Batch = true
is_subject on.SubmitCap on.SubmitCap = true
is_subject on.PostCap on.PostCap = true
is_subject on.Geometry on.Geometry = true
is_subject (on.Array channel lun number) (on.Array on at other) = (channel == on) && (lun == at) && (number == other)
is_subject subject other = false

-- the row settles that
abbrev pub settled_by : Option Subject → Subject → Bool
settled_by None subject = false
settled_by (Some other) subject = is_subject subject other

abbrev pub settles : Subject → Row → Bool
settles subject row = settled_by (subject_of row) subject

-- the row that settles a subject
abbrev pub row_on : Subject → List Row → Option Row
row_on subject rows = find (settles subject) rows
