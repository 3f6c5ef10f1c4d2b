-- What each instruction does, and one step of the processor.
use Rattle.std.specs.Prelude.{ℕ, ◌+◌, ◌%◌, Bool, true, false, cond, not, ◌||◌, ◌==◌, bit_and, bit_or, bit_xor}
use Rattle.mos6502_parts.specs.declared.flags.Flags.{Flags}
use Rattle.mos6502_parts.specs.declared.arithmetic.Outcome.{Outcome}
use Rattle.mos6502_parts.specs.declared.opcodes.ReadOp.{ReadOp}
use Rattle.mos6502_parts.specs.declared.opcodes.ReadOp.TheVariants.{Adc, And, Bit, Cmp, Cpx, Cpy, Eor, Lda, Ldx, Ldy, Ora, Sbc}
use Rattle.mos6502_parts.specs.declared.opcodes.StoreOp.{StoreOp}
use Rattle.mos6502_parts.specs.declared.opcodes.StoreOp.TheVariants.{Sta, Stx, Sty}
use Rattle.mos6502_parts.specs.declared.opcodes.BranchOp.{BranchOp}
use Rattle.mos6502_parts.specs.declared.opcodes.BranchOp.TheVariants.{Bcc, Bcs, Beq, Bmi, Bne, Bpl, Bvc, Bvs}
use Rattle.mos6502_parts.specs.declared.opcodes.ImpliedOp.{ImpliedOp}
use Rattle.mos6502_parts.specs.declared.opcodes.ImpliedOp.TheVariants.{Brk, Clc, Cld, Cli, Clv, Dex, Dey, Inx, Iny, Nop, Pha, Php, Pla, Plp, Rti, Rts, Sec, Sed, Sei, Tax, Tay, Tsx, Txa, Txs, Tya}
use Rattle.mos6502_parts.specs.declared.opcodes.Instruction.{Instruction}
use Rattle.mos6502_parts.specs.declared.opcodes.Instruction.TheVariants.{Read, Store, Change, ChangeA, Branch, Jmp, JmpIndirect, Jsr, Implied, Undefined}
use Rattle.mos6502_parts.specs.Flags.{flag_byte_with_break, flags_of, with_c, with_d, with_i, with_v}
use Rattle.mos6502_parts.specs.Memory.{byte_at}
use Rattle.mos6502_parts.specs.Arithmetic.{sum, difference, compared, changed, tested}
use Rattle.mos6502_parts.specs.Opcodes.{decoded, operand_length, instruction_bytes}
use Rattle.mos6502_core.specs.declared.cpu.Cpu.{Cpu}
use Rattle.mos6502_core.specs.Registers.{with_a, with_s, with_p, with_place, with_stopped, past, advanced}
use Rattle.mos6502_core.specs.Addresses.{address, operand, absolute, indirect, relative}
use Rattle.mos6502_core.specs.Effects.{loaded_a, loaded_x, loaded_y, stored_at, put, pushed, pulled, top, interrupted, resumed, called, retired}

-- the outcome of an operation goes to A
abbrev pub put_a : Outcome → Cpu → Cpu
put_a outcome m = with_p (with_a m outcome.value) outcome.flags

-- the operations on a byte M that is read
abbrev pub worked : ReadOp → ℕ → Cpu → Cpu
worked Adc byte m = put_a (sum m.p m.a byte) m
worked And byte m = loaded_a (bit_and m.a byte) m
worked Bit byte m = with_p m (tested m.p m.a byte)
worked Cmp byte m = with_p m (compared m.p m.a byte)
worked Cpx byte m = with_p m (compared m.p m.x byte)
worked Cpy byte m = with_p m (compared m.p m.y byte)
worked Eor byte m = loaded_a (bit_xor m.a byte) m
worked Lda byte m = loaded_a byte m
worked Ldx byte m = loaded_x byte m
worked Ldy byte m = loaded_y byte m
worked Ora byte m = loaded_a (bit_or m.a byte) m
worked Sbc byte m = put_a (difference m.p m.a byte) m

-- the register that is stored
abbrev pub register : StoreOp → Cpu → ℕ
register Sta m = m.a
register Stx m = m.x
register Sty m = m.y

-- the flag by which each branch goes
abbrev pub branches : BranchOp → Flags → Bool
branches Bcc p = not p.c
branches Bcs p = p.c
branches Beq p = p.z
branches Bmi p = p.n
branches Bne p = not p.z
branches Bpl p = not p.n
branches Bvc p = not p.v
branches Bvs p = p.v

-- where a branch leads
abbrev pub branched : BranchOp → Cpu → ℕ
branched op m = cond (branches op m.p) (relative m) (past m 2)

-- the operations without an operand, with the place just past the opcode; the way back from BRK leaves out one byte more
abbrev pub implied : ImpliedOp → Cpu → Cpu
implied Brk m = interrupted (past m 1) (flag_byte_with_break m.p) 0xFFFE m
implied Clc m = with_p m (with_c m.p false)
implied Cld m = with_p m (with_d m.p false)
implied Cli m = with_p m (with_i m.p false)
implied Clv m = with_p m (with_v m.p false)
implied Dex m = loaded_x ((m.x + 255) % 256) m
implied Dey m = loaded_y ((m.y + 255) % 256) m
implied Inx m = loaded_x ((m.x + 1) % 256) m
implied Iny m = loaded_y ((m.y + 1) % 256) m
implied Nop m = m
implied Pha m = pushed m.a m
implied Php m = pushed (flag_byte_with_break m.p) m
implied Pla m = loaded_a (top m) (pulled m)
implied Plp m = with_p (pulled m) (flags_of (top m))
implied Rti m = resumed m
implied Rts m = retired m
implied Sec m = with_p m (with_c m.p true)
implied Sed m = with_p m (with_d m.p true)
implied Sei m = with_p m (with_i m.p true)
implied Tax m = loaded_x m.a m
implied Tay m = loaded_y m.a m
implied Tsx m = loaded_x m.s m
implied Txa m = loaded_a m.x m
implied Txs m = with_s m m.x
implied Tya m = loaded_a m.y m

-- the processor after an instruction at its place
unfoldable pub executed : Instruction → Cpu → Cpu
executed (Read op mode) m = worked op (operand mode m) (advanced (1 + operand_length mode) m)
executed (Store op mode) m = stored_at (address mode m) (register op m) (advanced (1 + operand_length mode) m)
executed (Change op mode) m = put (address mode m) (changed op m.p (operand mode m)) (advanced (1 + operand_length mode) m)
executed (ChangeA op) m = put_a (changed op m.p m.a) (advanced 1 m)
executed (Branch op) m = with_place m (branched op m)
executed Jmp m = with_place m (absolute m 0)
executed JmpIndirect m = with_place m (indirect m (absolute m 0))
executed Jsr m = called m
executed (Implied op) m = implied op (advanced 1 m)
executed Undefined m = with_stopped m true

-- the instruction at the place
abbrev pub instruction : Cpu → Instruction
instruction m = decoded (byte_at m.memory m.place)

abbrev pub stepped : Cpu → Cpu
stepped m = executed (instruction m) m

-- a step is a transfer where it stops the processor, or ends elsewhere than just past the instruction, reckoned without wrap
abbrev pub transfers : Cpu → Bool
transfers m = (stepped m).stopped || not ((stepped m).place == m.place + instruction_bytes (instruction m))
