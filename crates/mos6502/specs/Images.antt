-- The image of a processor: a list of 4,106 bytes.
use Rattle.std.specs.Prelude.{ℕ, ◌+◌, ◌*◌, ◌/◌, ◌%◌, Bool, cond, ◌&&◌, List, [], ◌∷◌, ◌++◌, length, take, drop, replicate, ◌==◌, nat_lt, slice_index}
use Rattle.std.specs.List.{list_all}
use Rattle.mos6502_parts.specs.Flags.{bit, flag_byte, flags_of}
use Rattle.mos6502_core.specs.declared.cpu.Cpu.{Cpu}

-- A, X, Y, S, P, place (high byte first), stopped, lamp, switch
abbrev pub head_of : Cpu → List ℕ
head_of m =
    m.a ∷ m.x ∷ m.y ∷ m.s ∷ flag_byte m.p ∷ (m.place / 256) ∷ (m.place % 256) ∷ bit m.stopped ∷ m.memory.lamp ∷ m.memory.switch ∷ []

-- and then RAM and ROM
unfoldable pub image_of : Cpu → List ℕ
image_of m = head_of m ++ (m.memory.ram ++ m.memory.rom)

-- the processor that an image holds
unfoldable pub cpu_of : List ℕ → Cpu
cpu_of i =
    record {
      a = slice_index i 0;
      x = slice_index i 1;
      y = slice_index i 2;
      s = slice_index i 3;
      p = flags_of (slice_index i 4);
      place = slice_index i 5 * 256 + slice_index i 6;
      stopped = (slice_index i 7 == 1);
      memory = record { lamp = slice_index i 8; switch = slice_index i 9; ram = take 2048 (drop 10 i); rom = drop 2058 i };
    }

-- bit 5 of P is set and bit 4 clear
abbrev pub lawful_flags : ℕ → Bool
lawful_flags byte = byte / 16 % 4 == 2

abbrev pub lawful_stopped : ℕ → Bool
lawful_stopped byte = nat_lt byte 2

abbrev pub all_bytes : List ℕ → Bool
all_bytes xs = list_all (λ x. nat_lt x 256) xs

-- which images are lawful: 4,106 bytes with a lawful P and a lawful stopped byte
unfoldable pub lawful_image : List ℕ → Bool
lawful_image i = length i == 4106 && (all_bytes i && (lawful_flags (slice_index i 4) && lawful_stopped (slice_index i 7)))

-- where an image offends: at P, or else at its stopped byte
abbrev pub offending_offset : List ℕ → ℕ
offending_offset i = cond (lawful_flags (slice_index i 4)) 7 4

-- zeros, but for P
abbrev pub blank_image : List ℕ
blank_image = 0 ∷ 0 ∷ 0 ∷ 0 ∷ 0x20 ∷ replicate 4101 0
