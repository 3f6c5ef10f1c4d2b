-- The opcodes of the manual, operation by operation, and the length of an instruction.
use Rattle.std.specs.Prelude.{ℕ, ◌+◌, cond, List, [], ◌∷◌, ◌==◌}
use Rattle.mos6502_parts.specs.declared.opcodes.Mode.{Mode}
use Rattle.mos6502_parts.specs.declared.opcodes.Mode.TheVariants.{Immediate, ZeroPage, ZeroPageX, ZeroPageY, Absolute, AbsoluteX, AbsoluteY, IndexedIndirect, IndirectIndexed}
use Rattle.mos6502_parts.specs.declared.opcodes.ReadOp.TheVariants.{Adc, And, Bit, Cmp, Cpx, Cpy, Eor, Lda, Ldx, Ldy, Ora, Sbc}
use Rattle.mos6502_parts.specs.declared.opcodes.StoreOp.TheVariants.{Sta, Stx, Sty}
use Rattle.mos6502_parts.specs.declared.opcodes.ChangeOp.TheVariants.{Asl, Dec, Inc, Lsr, Rol, Ror}
use Rattle.mos6502_parts.specs.declared.opcodes.BranchOp.TheVariants.{Bcc, Bcs, Beq, Bmi, Bne, Bpl, Bvc, Bvs}
use Rattle.mos6502_parts.specs.declared.opcodes.ImpliedOp.TheVariants.{Brk, Clc, Cld, Cli, Clv, Dex, Dey, Inx, Iny, Nop, Pha, Php, Pla, Plp, Rti, Rts, Sec, Sed, Sei, Tax, Tay, Tsx, Txa, Txs, Tya}
use Rattle.mos6502_parts.specs.declared.opcodes.Instruction.{Instruction}
use Rattle.mos6502_parts.specs.declared.opcodes.Instruction.TheVariants.{Read, Store, Change, ChangeA, Branch, Jmp, JmpIndirect, Jsr, Implied, Undefined}

-- how many bytes behind the opcode say where the operand stands
abbrev pub operand_length : Mode → ℕ
operand_length Immediate = 1
operand_length ZeroPage = 1
operand_length ZeroPageX = 1
operand_length ZeroPageY = 1
operand_length Absolute = 2
operand_length AbsoluteX = 2
operand_length AbsoluteY = 2
operand_length IndexedIndirect = 1
operand_length IndirectIndexed = 1

-- the length of an instruction: BRK and what is undefined count as one byte
abbrev pub instruction_bytes : Instruction → ℕ
instruction_bytes (Read op mode) = 1 + operand_length mode
instruction_bytes (Store op mode) = 1 + operand_length mode
instruction_bytes (Change op mode) = 1 + operand_length mode
instruction_bytes (ChangeA op) = 1
instruction_bytes (Branch op) = 2
instruction_bytes Jmp = 3
instruction_bytes JmpIndirect = 3
instruction_bytes Jsr = 3
instruction_bytes (Implied op) = 1
instruction_bytes Undefined = 1

-- the 151 opcodes
abbrev pub opcodes : List (ℕ × Instruction)
opcodes =
    (0x69, Read Adc Immediate) ∷
    (0x65, Read Adc ZeroPage) ∷
    (0x75, Read Adc ZeroPageX) ∷
    (0x6D, Read Adc Absolute) ∷
    (0x7D, Read Adc AbsoluteX) ∷
    (0x79, Read Adc AbsoluteY) ∷
    (0x61, Read Adc IndexedIndirect) ∷
    (0x71, Read Adc IndirectIndexed) ∷
    (0x29, Read And Immediate) ∷
    (0x25, Read And ZeroPage) ∷
    (0x35, Read And ZeroPageX) ∷
    (0x2D, Read And Absolute) ∷
    (0x3D, Read And AbsoluteX) ∷
    (0x39, Read And AbsoluteY) ∷
    (0x21, Read And IndexedIndirect) ∷
    (0x31, Read And IndirectIndexed) ∷
    (0x24, Read Bit ZeroPage) ∷
    (0x2C, Read Bit Absolute) ∷
    (0xC9, Read Cmp Immediate) ∷
    (0xC5, Read Cmp ZeroPage) ∷
    (0xD5, Read Cmp ZeroPageX) ∷
    (0xCD, Read Cmp Absolute) ∷
    (0xDD, Read Cmp AbsoluteX) ∷
    (0xD9, Read Cmp AbsoluteY) ∷
    (0xC1, Read Cmp IndexedIndirect) ∷
    (0xD1, Read Cmp IndirectIndexed) ∷
    (0xE0, Read Cpx Immediate) ∷
    (0xE4, Read Cpx ZeroPage) ∷
    (0xEC, Read Cpx Absolute) ∷
    (0xC0, Read Cpy Immediate) ∷
    (0xC4, Read Cpy ZeroPage) ∷
    (0xCC, Read Cpy Absolute) ∷
    (0x49, Read Eor Immediate) ∷
    (0x45, Read Eor ZeroPage) ∷
    (0x55, Read Eor ZeroPageX) ∷
    (0x4D, Read Eor Absolute) ∷
    (0x5D, Read Eor AbsoluteX) ∷
    (0x59, Read Eor AbsoluteY) ∷
    (0x41, Read Eor IndexedIndirect) ∷
    (0x51, Read Eor IndirectIndexed) ∷
    (0xA9, Read Lda Immediate) ∷
    (0xA5, Read Lda ZeroPage) ∷
    (0xB5, Read Lda ZeroPageX) ∷
    (0xAD, Read Lda Absolute) ∷
    (0xBD, Read Lda AbsoluteX) ∷
    (0xB9, Read Lda AbsoluteY) ∷
    (0xA1, Read Lda IndexedIndirect) ∷
    (0xB1, Read Lda IndirectIndexed) ∷
    (0xA2, Read Ldx Immediate) ∷
    (0xA6, Read Ldx ZeroPage) ∷
    (0xB6, Read Ldx ZeroPageY) ∷
    (0xAE, Read Ldx Absolute) ∷
    (0xBE, Read Ldx AbsoluteY) ∷
    (0xA0, Read Ldy Immediate) ∷
    (0xA4, Read Ldy ZeroPage) ∷
    (0xB4, Read Ldy ZeroPageX) ∷
    (0xAC, Read Ldy Absolute) ∷
    (0xBC, Read Ldy AbsoluteX) ∷
    (0x09, Read Ora Immediate) ∷
    (0x05, Read Ora ZeroPage) ∷
    (0x15, Read Ora ZeroPageX) ∷
    (0x0D, Read Ora Absolute) ∷
    (0x1D, Read Ora AbsoluteX) ∷
    (0x19, Read Ora AbsoluteY) ∷
    (0x01, Read Ora IndexedIndirect) ∷
    (0x11, Read Ora IndirectIndexed) ∷
    (0xE9, Read Sbc Immediate) ∷
    (0xE5, Read Sbc ZeroPage) ∷
    (0xF5, Read Sbc ZeroPageX) ∷
    (0xED, Read Sbc Absolute) ∷
    (0xFD, Read Sbc AbsoluteX) ∷
    (0xF9, Read Sbc AbsoluteY) ∷
    (0xE1, Read Sbc IndexedIndirect) ∷
    (0xF1, Read Sbc IndirectIndexed) ∷
    (0x85, Store Sta ZeroPage) ∷
    (0x95, Store Sta ZeroPageX) ∷
    (0x8D, Store Sta Absolute) ∷
    (0x9D, Store Sta AbsoluteX) ∷
    (0x99, Store Sta AbsoluteY) ∷
    (0x81, Store Sta IndexedIndirect) ∷
    (0x91, Store Sta IndirectIndexed) ∷
    (0x86, Store Stx ZeroPage) ∷
    (0x96, Store Stx ZeroPageY) ∷
    (0x8E, Store Stx Absolute) ∷
    (0x84, Store Sty ZeroPage) ∷
    (0x94, Store Sty ZeroPageX) ∷
    (0x8C, Store Sty Absolute) ∷
    (0x0A, ChangeA Asl) ∷
    (0x06, Change Asl ZeroPage) ∷
    (0x16, Change Asl ZeroPageX) ∷
    (0x0E, Change Asl Absolute) ∷
    (0x1E, Change Asl AbsoluteX) ∷
    (0xC6, Change Dec ZeroPage) ∷
    (0xD6, Change Dec ZeroPageX) ∷
    (0xCE, Change Dec Absolute) ∷
    (0xDE, Change Dec AbsoluteX) ∷
    (0xE6, Change Inc ZeroPage) ∷
    (0xF6, Change Inc ZeroPageX) ∷
    (0xEE, Change Inc Absolute) ∷
    (0xFE, Change Inc AbsoluteX) ∷
    (0x4A, ChangeA Lsr) ∷
    (0x46, Change Lsr ZeroPage) ∷
    (0x56, Change Lsr ZeroPageX) ∷
    (0x4E, Change Lsr Absolute) ∷
    (0x5E, Change Lsr AbsoluteX) ∷
    (0x2A, ChangeA Rol) ∷
    (0x26, Change Rol ZeroPage) ∷
    (0x36, Change Rol ZeroPageX) ∷
    (0x2E, Change Rol Absolute) ∷
    (0x3E, Change Rol AbsoluteX) ∷
    (0x6A, ChangeA Ror) ∷
    (0x66, Change Ror ZeroPage) ∷
    (0x76, Change Ror ZeroPageX) ∷
    (0x6E, Change Ror Absolute) ∷
    (0x7E, Change Ror AbsoluteX) ∷
    (0x10, Branch Bpl) ∷
    (0x30, Branch Bmi) ∷
    (0x50, Branch Bvc) ∷
    (0x70, Branch Bvs) ∷
    (0x90, Branch Bcc) ∷
    (0xB0, Branch Bcs) ∷
    (0xD0, Branch Bne) ∷
    (0xF0, Branch Beq) ∷
    (0x4C, Jmp) ∷
    (0x6C, JmpIndirect) ∷
    (0x20, Jsr) ∷
    (0x00, Implied Brk) ∷
    (0x18, Implied Clc) ∷
    (0xD8, Implied Cld) ∷
    (0x58, Implied Cli) ∷
    (0xB8, Implied Clv) ∷
    (0xCA, Implied Dex) ∷
    (0x88, Implied Dey) ∷
    (0xE8, Implied Inx) ∷
    (0xC8, Implied Iny) ∷
    (0xEA, Implied Nop) ∷
    (0x48, Implied Pha) ∷
    (0x08, Implied Php) ∷
    (0x68, Implied Pla) ∷
    (0x28, Implied Plp) ∷
    (0x40, Implied Rti) ∷
    (0x60, Implied Rts) ∷
    (0x38, Implied Sec) ∷
    (0xF8, Implied Sed) ∷
    (0x78, Implied Sei) ∷
    (0xAA, Implied Tax) ∷
    (0xA8, Implied Tay) ∷
    (0xBA, Implied Tsx) ∷
    (0x8A, Implied Txa) ∷
    (0x9A, Implied Txs) ∷
    (0x98, Implied Tya) ∷
    []

-- what a list of opcodes has for a byte; what it does not list is undefined
abbrev pub listed : List (ℕ × Instruction) → ℕ → Instruction
listed [] byte = Undefined
listed (row ∷ rows) byte = cond (byte == row.0) row.1 (listed rows byte)

unfoldable pub decoded : ℕ → Instruction
decoded byte = listed opcodes byte
