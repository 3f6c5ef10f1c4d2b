-- What an event does to the core that takes it.
use Rattle.std.specs.Prelude.{ℕ, false}
use Rattle.machine.specs.declared.Event.{Event}
use Rattle.machine.specs.declared.Event.TheVariants.{Timer, Switch}
use Rattle.rv32i_core.specs.declared.bus.Bus.{Bus}
use Rattle.rv32i_core.specs.declared.state.State.{State}
use Rattle.rv32i_core.specs.Execution.{with_bus}

abbrev pub with_switch : Bus → ℕ → Bus
with_switch m d = record { rom = m.rom; ram = m.ram; lamp = m.lamp; switch = d }

-- the place is saved, events wait until the return word, and the handler begins
abbrev pub entered : State → ℕ → State
entered s handler =
    record { registers = s.registers; place = handler; saved = s.place; enabled = false; stopped = s.stopped; bus = s.bus }

unfoldable pub interrupted : Event → State → State
interrupted Timer s = entered s 0x10
interrupted (Switch d) s = entered (with_bus s (with_switch s.bus d)) 0x20
