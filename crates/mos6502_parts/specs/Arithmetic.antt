-- The arithmetic of the processor. Each operation gives a result and the flags after it.
use Rattle.std.specs.Prelude.{ℕ, ◌+◌, ◌-◌, ◌*◌, ◌/◌, ◌%◌, Bool, cond, not, ◌&&◌, ◌==◌, bit_and, nat_le}
use Rattle.mos6502_parts.specs.declared.flags.Flags.{Flags}
use Rattle.mos6502_parts.specs.declared.arithmetic.Outcome.{Outcome}
use Rattle.mos6502_parts.specs.declared.opcodes.ChangeOp.{ChangeOp}
use Rattle.mos6502_parts.specs.declared.opcodes.ChangeOp.TheVariants.{Asl, Dec, Inc, Lsr, Rol, Ror}
use Rattle.mos6502_parts.specs.Flags.{bit, set_in, judged_with_carry}

abbrev pub same : Bool → Bool → Bool
same a b = cond a b (not b)

-- is bit 7 of a byte set?
abbrev pub negative : ℕ → Bool
negative byte = nat_le 128 byte

-- V: the operands agree in bit 7, and the result does not agree with them
abbrev pub overflow : ℕ → ℕ → ℕ → Bool
overflow a v result = same (negative a) (negative v) && not (same (negative a) (negative result))

-- the result and flags of a sum of A and a byte that comes to this total
abbrev pub totalled : Flags → ℕ → ℕ → ℕ → Outcome
totalled p a v total =
    record {
      value = total % 256;
      flags = record { n = negative (total % 256); v = overflow a v (total % 256); d = p.d; i = p.i; z = (total % 256 == 0); c = nat_le 256 total };
    }

-- ADC: A + M + C, in binary whatever D is
abbrev pub sum : Flags → ℕ → ℕ → Outcome
sum p a v = totalled p a v (a + v + bit p.c)

-- SBC: A - M - borrow, which is A + (255 - M) + C
abbrev pub difference : Flags → ℕ → ℕ → Outcome
difference p a v = sum p a (255 - v)

-- CMP, CPX and CPY: the register less M, modulo 256, is not kept; C says that the register is at least M
abbrev pub compared : Flags → ℕ → ℕ → Flags
compared p register v = record { n = negative ((register + 256 - v) % 256); v = p.v; d = p.d; i = p.i; z = (register == v); c = nat_le v register }

abbrev pub result : Flags → ℕ → Bool → Outcome
result p value carry = record { value = value; flags = judged_with_carry p value carry }

-- ASL and LSR bring in a zero, ROL and ROR the old carry, and the bit that falls out goes to C; INC and DEC wrap and leave C
abbrev pub changed : ChangeOp → Flags → ℕ → Outcome
changed Asl p v = result p (v % 128 * 2) (negative v)
changed Dec p v = result p ((v + 255) % 256) p.c
changed Inc p v = result p ((v + 1) % 256) p.c
changed Lsr p v = result p (v / 2) (set_in v 1)
changed Rol p v = result p (v % 128 * 2 + bit p.c) (negative v)
changed Ror p v = result p (v / 2 + 128 * bit p.c) (set_in v 1)

-- BIT: N and V are bits 7 and 6 of M, Z says that A and M share no bit
abbrev pub tested : Flags → ℕ → ℕ → Flags
tested p a v = record { n = set_in v 128; v = set_in v 64; d = p.d; i = p.i; z = (bit_and a v == 0); c = p.c }
