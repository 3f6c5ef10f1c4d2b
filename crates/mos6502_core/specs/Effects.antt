-- What instructions have in common.
use Rattle.std.specs.Prelude.{ℕ, ◌+◌, ◌*◌, ◌/◌, ◌%◌, true}
use Rattle.mos6502_parts.specs.declared.arithmetic.Outcome.{Outcome}
use Rattle.mos6502_parts.specs.Flags.{flags_of, judged, with_i}
use Rattle.mos6502_parts.specs.Memory.{byte_at, word_at, stored}
use Rattle.mos6502_core.specs.declared.cpu.Cpu.{Cpu}
use Rattle.mos6502_core.specs.Registers.{with_a, with_x, with_y, with_s, with_p, with_place, with_memory, past}

-- a byte goes to a register, with N and Z by it
abbrev pub loaded_a : ℕ → Cpu → Cpu
loaded_a byte m = with_p (with_a m byte) (judged m.p byte)

abbrev pub loaded_x : ℕ → Cpu → Cpu
loaded_x byte m = with_p (with_x m byte) (judged m.p byte)

abbrev pub loaded_y : ℕ → Cpu → Cpu
loaded_y byte m = with_p (with_y m byte) (judged m.p byte)

-- a byte goes to memory
abbrev pub stored_at : ℕ → ℕ → Cpu → Cpu
stored_at at byte m = with_memory m (stored m.memory at byte)

-- the outcome of an operation goes back to where its operand came from
abbrev pub put : ℕ → Outcome → Cpu → Cpu
put at outcome m = with_p (stored_at at outcome.value m) outcome.flags

-- the stack is the page 0100h; a push stores at S and then lowers S
abbrev pub pushed : ℕ → Cpu → Cpu
pushed byte m = with_s (stored_at (256 + m.s) byte m) ((m.s + 255) % 256)

-- a pull raises S and then reads there
abbrev pub top : Cpu → ℕ
top m = byte_at m.memory (256 + (m.s + 1) % 256)

abbrev pub pulled : Cpu → Cpu
pulled m = with_s m ((m.s + 1) % 256)

-- a word is pushed high byte first, and pulled low byte first
abbrev pub pushed_word : ℕ → Cpu → Cpu
pushed_word word m = pushed (word % 256) (pushed (word / 256) m)

abbrev pub top_word : Cpu → ℕ
top_word m = top m + 256 * top (pulled m)

abbrev pub pulled_word : Cpu → Cpu
pulled_word m = pulled (pulled m)

-- an interrupt pushes the way back and P, sets I, and goes to the word at its vector
abbrev pub interrupted : ℕ → ℕ → ℕ → Cpu → Cpu
interrupted back flags vector m =
    let saved = pushed flags (pushed_word back m) in
    with_place (with_p saved (with_i m.p true)) (word_at saved.memory vector ((vector + 1) % 65536))

-- RTI pulls P and then the place
abbrev pub resumed : Cpu → Cpu
resumed m = with_place (with_p (pulled_word (pulled m)) (flags_of (top m))) (top_word (pulled m))

-- JSR takes the low byte of its target, pushes the address of its own last byte, and then takes the high byte there
abbrev pub called : Cpu → Cpu
called m =
    let saved = pushed_word (past m 2) m in
    with_place saved (byte_at m.memory (past m 1) + 256 * byte_at saved.memory (past m 2))

-- RTS goes just past the address that it pulls
abbrev pub retired : Cpu → Cpu
retired m = with_place (pulled_word m) ((top_word m + 1) % 65536)
