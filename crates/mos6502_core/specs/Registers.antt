-- One register set, the others as they were.
use Rattle.std.specs.Prelude.{ℕ, ◌+◌, ◌%◌, Bool}
use Rattle.mos6502_parts.specs.declared.flags.Flags.{Flags}
use Rattle.mos6502_parts.specs.declared.memory.Memory.{Memory}
use Rattle.mos6502_core.specs.declared.cpu.Cpu.{Cpu}

abbrev pub with_a : Cpu → ℕ → Cpu
with_a m v = record { a = v; x = m.x; y = m.y; s = m.s; p = m.p; place = m.place; stopped = m.stopped; memory = m.memory }

abbrev pub with_x : Cpu → ℕ → Cpu
with_x m v = record { a = m.a; x = v; y = m.y; s = m.s; p = m.p; place = m.place; stopped = m.stopped; memory = m.memory }

abbrev pub with_y : Cpu → ℕ → Cpu
with_y m v = record { a = m.a; x = m.x; y = v; s = m.s; p = m.p; place = m.place; stopped = m.stopped; memory = m.memory }

abbrev pub with_s : Cpu → ℕ → Cpu
with_s m v = record { a = m.a; x = m.x; y = m.y; s = v; p = m.p; place = m.place; stopped = m.stopped; memory = m.memory }

abbrev pub with_p : Cpu → Flags → Cpu
with_p m v = record { a = m.a; x = m.x; y = m.y; s = m.s; p = v; place = m.place; stopped = m.stopped; memory = m.memory }

abbrev pub with_place : Cpu → ℕ → Cpu
with_place m v = record { a = m.a; x = m.x; y = m.y; s = m.s; p = m.p; place = v; stopped = m.stopped; memory = m.memory }

abbrev pub with_stopped : Cpu → Bool → Cpu
with_stopped m v = record { a = m.a; x = m.x; y = m.y; s = m.s; p = m.p; place = m.place; stopped = v; memory = m.memory }

abbrev pub with_memory : Cpu → Memory → Cpu
with_memory m v = record { a = m.a; x = m.x; y = m.y; s = m.s; p = m.p; place = m.place; stopped = m.stopped; memory = v }

-- the address so many bytes past the place; addresses wrap from FFFFh to 0000h
abbrev pub past : Cpu → ℕ → ℕ
past m bytes = (m.place + bytes) % 65536

abbrev pub advanced : ℕ → Cpu → Cpu
advanced bytes m = with_place m (past m bytes)
