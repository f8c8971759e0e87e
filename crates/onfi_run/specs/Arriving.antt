-- When the operations of a run with a clock arrive at their hosts.
use Rattle.std.specs.Prelude.{ℕ, ◌≤◌, List, [], ◌∷◌, map, Option, None, Some, IfSome, slice_get}
use Rattle.std.specs.List.{cons_option, range_with_len, AllByRecursion as Each}
use Rattle.std.specs.Option.{option_map, option_or, unwrap_or}
use Rattle.onfi_timing.specs.declared.kind.Kind.{Kind}
use Rattle.onfi_script.specs.declared.row.Row.{Row}
use Rattle.onfi_script.specs.Seen.{moment_in}
use Rattle.onfi_run.specs.Operations.{kind_in}

-- an operation of that kind that arrives at a moment, or, without one, as it is submitted
pub record Expected : Type 0 where
  pub kind : Kind
  pub arrives : Option ℕ

abbrev pub expected : Option ℕ → Kind → Expected
expected arrives kind = record { kind = kind; arrives = arrives }

-- the operations of that host on that channel, in the order of their rows: each arrives at the moment that the last row before it gave, `arrives` where none did
unfoldable pub expected_from : Option ℕ → List Row → ℕ → ℕ → List Expected
expected_from arrives [] host channel = []
expected_from arrives (row ∷ rows) host channel =
    cons_option (option_map (expected arrives) (kind_in host channel row)) (expected_from (option_or (moment_in row) arrives) rows host channel)

abbrev pub expected_on : List Row → ℕ → ℕ → List Expected
expected_on rows host channel = expected_from None rows host channel

-- by channel
abbrev pub expected_of : List Row → ℕ → ℕ → List (List Expected)
expected_of rows channels host = map (expected_on rows host) (range_with_len 0 channels)

-- ---- when hosts go past rows
-- from when on a host may go past a row: from the moment that it gives, else from 0 on
abbrev pub come_of : Option Row → ℕ
come_of None = 0
come_of (Some row) = unwrap_or (moment_in row) 0

-- .. past the row at that place
abbrev pub comes_at : List Row → ℕ → ℕ
comes_at rows place = come_of (slice_get rows place)

-- the row gives no moment, or one that has come
abbrev pub HasCome : ℕ → Row → Type 0
HasCome now row = IfSome (moment_in row) (λ moment. moment ≤ now)

-- .. of all these rows
abbrev pub HaveCome : ℕ → List Row → Type 0
HaveCome now rows = Each (HasCome now) rows
