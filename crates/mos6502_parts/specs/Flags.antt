-- The flags, and the byte P that holds them.
use Rattle.std.specs.Prelude.{ℕ, ◌+◌, ◌*◌, ◌/◌, ◌%◌, Bool, cond, ◌==◌, nat_le}
use Rattle.mos6502_parts.specs.declared.flags.Flags.{Flags}

abbrev pub bit : Bool → ℕ
bit b = cond b 1 0

-- is the bit of this weight set?
abbrev pub set_in : ℕ → ℕ → Bool
set_in byte weight = byte / weight % 2 == 1

-- P, from bit 7 to bit 0: N V 1 0 D I Z C
abbrev pub flag_byte : Flags → ℕ
flag_byte p = 128 * bit p.n + 64 * bit p.v + 32 + 8 * bit p.d + 4 * bit p.i + 2 * bit p.z + bit p.c

-- P as PHP and BRK push it: with bit 4 set
abbrev pub flag_byte_with_break : Flags → ℕ
flag_byte_with_break p = flag_byte p + 16

-- the flags in a byte, whatever its bits 5 and 4 are
abbrev pub flags_of : ℕ → Flags
flags_of byte =
    record {
      n = set_in byte 128;
      v = set_in byte 64;
      d = set_in byte 8;
      i = set_in byte 4;
      z = set_in byte 2;
      c = set_in byte 1;
    }

-- N and Z by a result, the other flags as they were
abbrev pub judged : Flags → ℕ → Flags
judged p result = record { n = nat_le 128 result; v = p.v; d = p.d; i = p.i; z = (result == 0); c = p.c }

-- N, Z and C
abbrev pub judged_with_carry : Flags → ℕ → Bool → Flags
judged_with_carry p result carry = record { n = nat_le 128 result; v = p.v; d = p.d; i = p.i; z = (result == 0); c = carry }

-- one flag set or cleared
abbrev pub with_c : Flags → Bool → Flags
with_c p b = record { n = p.n; v = p.v; d = p.d; i = p.i; z = p.z; c = b }

abbrev pub with_d : Flags → Bool → Flags
with_d p b = record { n = p.n; v = p.v; d = b; i = p.i; z = p.z; c = p.c }

abbrev pub with_i : Flags → Bool → Flags
with_i p b = record { n = p.n; v = p.v; d = p.d; i = b; z = p.z; c = p.c }

abbrev pub with_v : Flags → Bool → Flags
with_v p b = record { n = p.n; v = b; d = p.d; i = p.i; z = p.z; c = p.c }
