-- Memory: what is read and written at each address.
use Rattle.std.specs.Prelude.{ℕ, ◌+◌, ◌-◌, ◌*◌, ◌/◌, ◌%◌, ◌^◌, Bool, cond, ◌&&◌, ◌==◌, nat_le, slice_index, slice_set}
use Rattle.rv32i_decode.specs.declared.instructions.LoadKind.{LoadKind}
use Rattle.rv32i_decode.specs.declared.instructions.LoadKind.TheVariants.{Lb, Lh, Lw, Lbu, Lhu}
use Rattle.rv32i_decode.specs.declared.instructions.StoreKind.{StoreKind}
use Rattle.rv32i_decode.specs.declared.instructions.StoreKind.TheVariants.{Sb, Sh, Sw}
use Rattle.rv32i_decode.specs.Formats.{sign_extended}
use Rattle.rv32i_core.specs.Words.{◌⊕◌}
use Rattle.rv32i_core.specs.declared.bus.Bus.{Bus}

-- whether an address lies in a region, by its first and its last
abbrev pub within : ℕ → ℕ → ℕ → Bool
within first last a = nat_le first a && nat_le a last

-- ROM, RAM, lamp and switch; all else reads 0
abbrev pub byte_at : Bus → ℕ → ℕ
byte_at m a =
    cond (within 0x0000 0x07ff a) (slice_index m.rom a)
    (cond (within 0x1000 0x17ff a) (slice_index m.ram (a - 0x1000))
    (cond (a == 0x2000) m.lamp
    (cond (a == 0x2001) m.switch 0)))

-- wider reads: byte by byte, the low byte first, with addresses that wrap at 32 bits
abbrev pub half_at : Bus → ℕ → ℕ
half_at m a = byte_at m a + byte_at m (a ⊕ 1) * 2 ^ 8

abbrev pub word_at : Bus → ℕ → ℕ
word_at m a = byte_at m a + byte_at m (a ⊕ 1) * 2 ^ 8 + byte_at m (a ⊕ 2) * 2 ^ 16 + byte_at m (a ⊕ 3) * 2 ^ 24

abbrev pub with_ram : Bus → ℕ → ℕ → Bus
with_ram m i b = record { rom = m.rom; ram = slice_set m.ram i b; lamp = m.lamp; switch = m.switch }

abbrev pub with_lamp : Bus → ℕ → Bus
with_lamp m b = record { rom = m.rom; ram = m.ram; lamp = b; switch = m.switch }

-- only RAM and the lamp are written
abbrev pub with_byte : Bus → ℕ → ℕ → Bus
with_byte m a b =
    cond (within 0x1000 0x17ff a) (with_ram m (a - 0x1000) b)
    (cond (a == 0x2000) (with_lamp m b) m)

-- byte k of a word, from the lowest
abbrev pub byte_of : ℕ → ℕ → ℕ
byte_of v k = v / 2 ^ (8 * k) % 2 ^ 8

abbrev pub with_half : Bus → ℕ → ℕ → Bus
with_half m a v = with_byte (with_byte m a (v % 2 ^ 8)) (a ⊕ 1) (byte_of v 1)

abbrev pub with_word : Bus → ℕ → ℕ → Bus
with_word m a v =
    with_byte (with_byte (with_byte (with_byte m a (v % 2 ^ 8)) (a ⊕ 1) (byte_of v 1)) (a ⊕ 2) (byte_of v 2)) (a ⊕ 3) (byte_of v 3)

-- what a load puts in rd
abbrev pub loaded : Bus → LoadKind → ℕ → ℕ
loaded m Lb a = sign_extended 8 (byte_at m a)
loaded m Lh a = sign_extended 16 (half_at m a)
loaded m Lw a = word_at m a
loaded m Lbu a = byte_at m a
loaded m Lhu a = half_at m a

-- what a store of rs2 leaves
abbrev pub stored : Bus → StoreKind → ℕ → ℕ → Bus
stored m Sb a v = with_byte m a (v % 2 ^ 8)
stored m Sh a v = with_half m a v
stored m Sw a v = with_word m a v
