-- The request of an operation.
use Rattle.std.specs.Prelude.{ℕ, List, replicate}
use Rattle.onfi_addr.specs.declared.geometry.Geometry.{Geometry}
use Rattle.onfi_addr.specs.Rows.{page_bytes_of}
use Rattle.onfi_request.specs.declared.request.Request.{Request}
use Rattle.onfi_script.specs.declared.operation.Content.{Content}
use Rattle.onfi_script.specs.declared.operation.Content.TheVariants.{Given, Filled}
use Rattle.onfi_script.specs.declared.operation.Operation.{Operation}

-- the bytes of a row, or a whole page of one byte
abbrev pub bytes_of : Geometry → Content → List ℕ
bytes_of geometry (Given bytes) = bytes
bytes_of geometry (Filled byte) = replicate (page_bytes_of geometry) byte

abbrev pub request_of : Geometry → Operation → Request
request_of geometry op = record { kind = op.aim.kind; place = op.aim.place; bytes = bytes_of geometry op.content }
