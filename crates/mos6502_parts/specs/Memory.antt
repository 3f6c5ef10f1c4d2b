-- What stands at an address, and what a write leaves.
use Rattle.std.specs.Prelude.{ℕ, ◌+◌, ◌-◌, ◌*◌, cond, ◌==◌, nat_le, nat_lt, slice_index, slice_set}
use Rattle.mos6502_parts.specs.declared.memory.Memory.{Memory}

-- RAM at 0000h to 07FFh, ROM at F800h to FFFFh, the lamp at D000h and the switch at D001h; 0 is read everywhere else
abbrev pub byte_at : Memory → ℕ → ℕ
byte_at b at =
    cond (nat_lt at 0x800) (slice_index b.ram at)
    (cond (at == 0xD000) b.lamp (cond (at == 0xD001) b.switch (cond (nat_le 0xF800 at) (slice_index b.rom (at - 0xF800)) 0)))

-- the word whose bytes stand at these two addresses
abbrev pub word_at : Memory → ℕ → ℕ → ℕ
word_at b low high = byte_at b low + 256 * byte_at b high

abbrev pub with_ram : Memory → ℕ → ℕ → Memory
with_ram b at byte = record { lamp = b.lamp; switch = b.switch; ram = slice_set b.ram at byte; rom = b.rom }

abbrev pub with_lamp : Memory → ℕ → Memory
with_lamp b byte = record { lamp = byte; switch = b.switch; ram = b.ram; rom = b.rom }

abbrev pub with_switch : Memory → ℕ → Memory
with_switch b byte = record { lamp = b.lamp; switch = byte; ram = b.ram; rom = b.rom }

-- a write reaches RAM and the lamp, and is ignored everywhere else
abbrev pub stored : Memory → ℕ → ℕ → Memory
stored b at byte = cond (nat_lt at 0x800) (with_ram b at byte) (cond (at == 0xD000) (with_lamp b byte) b)
