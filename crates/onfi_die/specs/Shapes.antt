-- The shape of a device's blocks, and a device with its injected faults.
use Rattle.std.specs.Prelude.{List}
use Rattle.onfi_addr.specs.declared.geometry.Geometry.{Geometry}
use Rattle.onfi_addr.specs.Rows.{page_bytes_of}
use Rattle.onfi_request.specs.declared.fault.Fault.{Fault}
use Rattle.onfi_die.specs.declared.shape.Shape.{Shape}

abbrev pub shape_of : Geometry → Shape
shape_of geometry = record { pages = geometry.pages_per_block; bytes = page_bytes_of geometry; any_order = geometry.any_page_order; sector_bytes = geometry.sector_bytes }

-- the blocks of a channel's dies, as far as answers rest on them: their shape, and the faults injected
pub record Device : Type 0 where
  pub shape : Shape
  pub faults : List Fault

abbrev pub device_of : Geometry → List Fault → Device
device_of geometry faults = record { shape = shape_of geometry; faults = faults }
