-- The registers: x0 is always 0, and there is none past x31.
use Rattle.std.specs.Prelude.{ℕ, ◌-◌, Bool, cond, ◌&&◌, nat_le, slice_index, slice_set}
use Rattle.rv32i_core.specs.declared.registers.Registers.{Registers}

-- x1 to x31
abbrev pub held : ℕ → Bool
held k = nat_le 1 k && nat_le k 31

abbrev pub register : Registers → ℕ → ℕ
register rs k = cond (held k) (slice_index rs.x (k - 1)) 0

-- a write to x0 is dropped
abbrev pub with_register : Registers → ℕ → ℕ → Registers
with_register rs k v = cond (held k) (record { x = slice_set rs.x (k - 1) v }) rs
