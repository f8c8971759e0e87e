-- What the rows of a run set up.
use Rattle.std.specs.Prelude.{◌≡◌, ℕ, List, Option, Some}
use Rattle.onfi_group.specs.declared.rules.Rules.{Rules}
use Rattle.onfi_core.specs.declared.setup.Setup.{Setup}
use Rattle.onfi_core.specs.declared.setup.Choice.{Choice}
use Rattle.onfi_script.specs.declared.device.PageDevice.{PageDevice}
use Rattle.onfi_script.specs.declared.row.Row.{Row}
use Rattle.onfi_script.specs.declared.row.Row.TheVariants.{Channels, Hosts, Batch, SubmitCap, PostCap}
use Rattle.onfi_script.specs.declared.row.Subject.TheVariants as on
use Rattle.onfi_script.specs.Setup.{strict_from}
use Rattle.onfi_script.specs.Subject.{row_on}

-- 1, 1, 8, 64 and 64 where no row says
abbrev pub channels_from : Option Row → ℕ
channels_from (Some (Channels count)) = count
channels_from _ = 1

abbrev pub hosts_from : Option Row → ℕ
hosts_from (Some (Hosts count)) = count
hosts_from _ = 1

abbrev pub batch_from : Option Row → ℕ
batch_from (Some (Batch count)) = count
batch_from _ = 8

abbrev pub submit_cap_from : Option Row → ℕ
submit_cap_from (Some (SubmitCap count)) = count
submit_cap_from _ = 64

abbrev pub post_cap_from : Option Row → ℕ
post_cap_from (Some (PostCap count)) = count
post_cap_from _ = 64

abbrev pub channels_in : List Row → ℕ
channels_in rows = channels_from (row_on on.Channels rows)

abbrev pub hosts_in : List Row → ℕ
hosts_in rows = hosts_from (row_on on.Hosts rows)

abbrev pub batch_in : List Row → ℕ
batch_in rows = batch_from (row_on on.Batch rows)

abbrev pub submit_cap_in : List Row → ℕ
submit_cap_in rows = submit_cap_from (row_on on.SubmitCap rows)

abbrev pub post_cap_in : List Row → ℕ
post_cap_in rows = post_cap_from (row_on on.PostCap rows)

-- the page says what may be grouped, a row whether strictly
pub record AreRules (rows : List Row) (device : PageDevice) (rules : Rules) : Type 0 where
  pub read : rules.read ≡ device.geometry.multi_plane_reads
  pub write : rules.write ≡ device.geometry.multi_plane_writes
  pub strict : rules.strict ≡ strict_from (row_on on.Strict rows)
  pub plane_bits : rules.plane_bits ≡ device.geometry.plane_address_bits

-- the rows set this up on the device; there are always four hosts, and one that isn't used sends nothing
pub record SetsUp (rows : List Row) (device : PageDevice) (most : ℕ) (by : Choice) (setup : Setup) : Type 0 where
  pub geometry : setup.geometry ≡ device.geometry
  pub timing : setup.timing ≡ device.timing
  pub rules : AreRules rows device setup.rules
  pub channels : setup.channels ≡ channels_in rows
  pub hosts : setup.hosts ≡ 4
  pub batch : setup.batch ≡ batch_in rows
  pub submit_cap : setup.submit_cap ≡ submit_cap_in rows
  pub post_cap : setup.post_cap ≡ post_cap_in rows
  pub limit : setup.limit ≡ most
  pub choice : setup.choice ≡ by
