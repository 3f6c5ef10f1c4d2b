-- Where the operand of an instruction stands, by its mode. The place of m is that of the opcode.
use Rattle.std.specs.Prelude.{ℕ, ◌+◌, ◌-◌, ◌*◌, ◌/◌, ◌%◌, cond, nat_lt}
use Rattle.mos6502_parts.specs.declared.opcodes.Mode.{Mode}
use Rattle.mos6502_parts.specs.declared.opcodes.Mode.TheVariants.{Immediate, ZeroPage, ZeroPageX, ZeroPageY, Absolute, AbsoluteX, AbsoluteY, IndexedIndirect, IndirectIndexed}
use Rattle.mos6502_parts.specs.Memory.{byte_at, word_at}
use Rattle.mos6502_core.specs.declared.cpu.Cpu.{Cpu}
use Rattle.mos6502_core.specs.Registers.{past}

-- the byte behind the opcode with an index added: a zero-page address wraps at 256
abbrev pub zero_page_address : Cpu → ℕ → ℕ
zero_page_address m index = (byte_at m.memory (past m 1) + index) % 256

-- the word behind the opcode, low byte first, with an index added
abbrev pub absolute : Cpu → ℕ → ℕ
absolute m index = (word_at m.memory (past m 1) (past m 2) + index) % 65536

-- the word at a zero-page address: both its bytes stand in the zero page
abbrev pub pointer : Cpu → ℕ → ℕ
pointer m at = word_at m.memory at ((at + 1) % 256)

-- the word at an address, with its high byte taken from the same page
abbrev pub indirect : Cpu → ℕ → ℕ
indirect m at = word_at m.memory at (at / 256 * 256 + (at % 256 + 1) % 256)

-- the target of a branch: the next instruction's address with the signed byte behind the opcode added
abbrev pub relative : Cpu → ℕ
relative m =
    let offset = byte_at m.memory (past m 1) in
    cond (nat_lt offset 128) ((past m 2 + offset) % 65536) ((past m 2 + 65536 - (256 - offset)) % 65536)

-- the effective address
abbrev pub address : Mode → Cpu → ℕ
address Immediate m = past m 1
address ZeroPage m = zero_page_address m 0
address ZeroPageX m = zero_page_address m m.x
address ZeroPageY m = zero_page_address m m.y
address Absolute m = absolute m 0
address AbsoluteX m = absolute m m.x
address AbsoluteY m = absolute m m.y
address IndexedIndirect m = pointer m (zero_page_address m m.x)
address IndirectIndexed m = (pointer m (zero_page_address m 0) + m.y) % 65536

-- the byte that the instruction works on
abbrev pub operand : Mode → Cpu → ℕ
operand mode m = byte_at m.memory (address mode m)
