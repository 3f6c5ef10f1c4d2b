-- The events that reach the processor from outside.
use Rattle.std.specs.Prelude.{Bool, not, ◌&&◌}
use Rattle.machine.specs.declared.Event.{Event}
use Rattle.machine.specs.declared.Event.TheVariants.{Timer, Switch}
use Rattle.mos6502_parts.specs.Flags.{flag_byte}
use Rattle.mos6502_parts.specs.Memory.{with_switch}
use Rattle.mos6502_core.specs.declared.cpu.Cpu.{Cpu}
use Rattle.mos6502_core.specs.Registers.{with_memory}
use Rattle.mos6502_core.specs.Effects.{interrupted}

-- the timer is always heard while the processor runs, the switch where I is clear
abbrev pub hears : Event → Cpu → Bool
hears Timer m = not m.stopped
hears (Switch byte) m = not m.stopped && not m.p.i

-- the timer goes through FFFAh, the switch sets its byte and goes through FFFEh; P is pushed with bit 4 clear
abbrev pub taken_event : Event → Cpu → Cpu
taken_event Timer m = interrupted m.place (flag_byte m.p) 0xFFFA m
taken_event (Switch byte) m = interrupted m.place (flag_byte m.p) 0xFFFE (with_memory m (with_switch m.memory byte))
