-- Texts that are given in a caller's room.
use Rattle.std.specs.Prelude.{◌≡◌, ℕ, ◌≤◌, ◌<◌, ◌++◌, List, length, drop}

-- the status of a text that is longer than the room for it
abbrev pub no_room : ℕ
no_room = 3

-- a text with its status, given in a caller's room: it stands at the beginning of the room, or where it is longer the
-- room is as it was; its length is given in both cases
pub record Gives (text : List ℕ) (status : ℕ) (old new : List ℕ) (bytes result : ℕ) : Type 0 where
  pub counted : bytes ≡ length text
  pub fits : length text ≤ length old → (new ≡ text ++ drop (length text) old) × (result ≡ status)
  pub lacks : length old < length text → (new ≡ old) × (result ≡ no_room)
