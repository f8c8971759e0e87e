-- Requests as operations at a place.
use Rattle.onfi_addr.specs.declared.place.Place.{Place}
use Rattle.onfi_request.specs.declared.request.Request.{Request}
use Rattle.onfi_die.specs.declared.prepared.Prepared.{Prepared}
use Rattle.onfi_die.specs.Prepared.{kind_of, data_of}

-- the request that the operation does
abbrev pub request_of : Place → Prepared → Request
request_of place operation = record { kind = kind_of operation; place = place; bytes = data_of operation }
