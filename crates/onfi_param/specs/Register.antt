-- What the register of the check value holds while a bit or a byte is shifted through it.
use Rattle.std.specs.Prelude.{ℕ, zero, suc, ◌*◌, nat_lt, cond, bit_xor}
use Rattle.onfi_param.specs.Crc.{polynomial}

-- the divisor is taken off where it goes in
abbrev pub reduced : ℕ → ℕ
reduced n = cond (nat_lt n 65536) n (bit_xor n polynomial)

-- what is left after n zero bits are brought down
unfoldable pub idle : ℕ → ℕ → ℕ
idle left zero = left
idle left (suc n) = idle (reduced (left * 2)) n

-- the register after a byte, laid over its high half
abbrev pub after_byte : ℕ → ℕ → ℕ
after_byte left byte = idle (bit_xor left (byte * 256)) 8
