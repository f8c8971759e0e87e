-- What hosts send.
use Rattle.std.specs.Prelude.{◌≡◌, ℕ, ◌==◌, false, if◌then◌else◌, List, [], ◌∷◌, ◌++◌, map, Some, slice_get}
use Rattle.onfi_addr.specs.declared.geometry.Geometry.{Geometry}
use Rattle.onfi_request.specs.declared.request.Item.{Item}
use Rattle.onfi_request.specs.declared.request.Request.{Request}
use Rattle.onfi_script.specs.declared.row.Row.{Row}
use Rattle.onfi_run.specs.declared.port.Port.{Port}
use Rattle.onfi_run.specs.Operations.{requests_on}

-- the requests that a port's host end sent
abbrev pub sent_by : Port → List Request
sent_by p = map (λ (x : Item). x.request) p.host.sent

-- they are the first of these, and all of them unless one was left out
pub record IsSending (requests : List Request) (p : Port) : Type 0 where
  pub rest : List Request
  pub first : requests ≡ sent_by p ++ rest
  pub whole : p.left_out ≡ false → rest ≡ []

-- .. by channel
abbrev pub AreSending : (ℕ → List Request) → List Port → Type 0
AreSending requests ports = (channel : ℕ) (p : Port) → slice_get ports channel ≡ Some p → IsSending (requests channel) p

-- one request more on a channel
abbrev pub with_request : (ℕ → List Request) → ℕ → Request → ℕ → List Request
with_request requests channel request at = if channel == at then requests at ++ request ∷ [] else requests at

-- what a host's ends sent are the first of the operations in these rows, channel by channel, all of them unless one was left out
abbrev pub HasSent : Geometry → List Row → ℕ → List Port → Type 0
HasSent geometry rows host ports = AreSending (requests_on geometry rows host) ports
