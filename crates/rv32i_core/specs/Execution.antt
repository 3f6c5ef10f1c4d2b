-- What each instruction does to the core.
use Rattle.std.specs.Prelude.{ℕ, ◌+◌, ◌*◌, ◌/◌, ◌%◌, Bool, true, cond, not, ◌||◌, ◌==◌}
use Rattle.rv32i_decode.specs.declared.instructions.Condition.{Condition}
use Rattle.rv32i_decode.specs.declared.instructions.StoreKind.{StoreKind}
use Rattle.rv32i_decode.specs.declared.instructions.BType.{BType}
use Rattle.rv32i_decode.specs.declared.instructions.SType.{SType}
use Rattle.rv32i_decode.specs.declared.instructions.Instruction.{Instruction}
use Rattle.rv32i_decode.specs.declared.instructions.Instruction.TheVariants.{Lui, Auipc, Jal, Jalr, Branch, Load, Store, OpImm, Op, Fence, Ecall, Ebreak, Return, Undefined}
use Rattle.rv32i_decode.specs.Decoding.{decoded}
use Rattle.rv32i_core.specs.declared.bus.Bus.{Bus}
use Rattle.rv32i_core.specs.declared.registers.Registers.{Registers}
use Rattle.rv32i_core.specs.declared.state.State.{State}
use Rattle.rv32i_core.specs.Words.{◌⊕◌, computed, met}
use Rattle.rv32i_core.specs.Registers.{register, with_register}
use Rattle.rv32i_core.specs.Memory.{word_at, loaded, stored}

abbrev pub with_registers : State → Registers → State
with_registers s rs =
    record { registers = rs; place = s.place; saved = s.saved; enabled = s.enabled; stopped = s.stopped; bus = s.bus }

abbrev pub with_place : State → ℕ → State
with_place s t =
    record { registers = s.registers; place = t; saved = s.saved; enabled = s.enabled; stopped = s.stopped; bus = s.bus }

abbrev pub with_enabled : State → Bool → State
with_enabled s b =
    record { registers = s.registers; place = s.place; saved = s.saved; enabled = b; stopped = s.stopped; bus = s.bus }

abbrev pub with_stopped : State → Bool → State
with_stopped s b =
    record { registers = s.registers; place = s.place; saved = s.saved; enabled = s.enabled; stopped = b; bus = s.bus }

abbrev pub with_bus : State → Bus → State
with_bus s m =
    record { registers = s.registers; place = s.place; saved = s.saved; enabled = s.enabled; stopped = s.stopped; bus = m }

-- the value of a register
abbrev pub x : State → ℕ → ℕ
x s k = register s.registers k

-- the core with a value in rd
abbrev pub with_x : State → ℕ → ℕ → State
with_x s rd v = with_registers s (with_register s.registers rd v)

-- nothing but stopped is set
abbrev pub halted : State → State
halted s = with_stopped s true

-- on to the next instruction
abbrev pub onward : State → State
onward s = with_place s (s.place ⊕ 4)

-- a value in rd, and on
abbrev pub written : State → ℕ → ℕ → State
written s rd v = onward (with_x s rd v)

-- a taken target: one that is no multiple of 4 stops the core, and then rd is not written
abbrev pub gone : State → ℕ → State
gone s t = cond (t % 4 == 0) (with_place s t) (halted s)

abbrev pub linked : State → ℕ → ℕ → State
linked s rd t = cond (t % 4 == 0) (with_place (with_x s rd (s.place ⊕ 4)) t) (halted s)

abbrev pub branched : State → Condition → BType → State
branched s c f = cond (met c (x s f.rs1) (x s f.rs2)) (gone s (s.place ⊕ f.imm)) (onward s)

-- rs2 in memory, and on
abbrev pub put_out : State → StoreKind → SType → State
put_out s k f = onward (with_bus s (stored s.bus k (x s f.rs1 ⊕ f.imm) (x s f.rs2)))

-- back to the saved place, with events enabled
abbrev pub returned : State → State
returned s = with_enabled (with_place s s.saved) true

-- one effect for each instruction; JALR clears bit 0 of its target
abbrev pub effect : State → Instruction → State
effect s (Lui f) = written s f.rd f.imm
effect s (Auipc f) = written s f.rd (s.place ⊕ f.imm)
effect s (Jal f) = linked s f.rd (s.place ⊕ f.imm)
effect s (Jalr f) = linked s f.rd ((x s f.rs1 ⊕ f.imm) / 2 * 2)
effect s (Branch c f) = branched s c f
effect s (Load k f) = written s f.rd (loaded s.bus k (x s f.rs1 ⊕ f.imm))
effect s (Store k f) = put_out s k f
effect s (OpImm o f) = written s f.rd (computed o (x s f.rs1) f.imm)
effect s (Op o f) = written s f.rd (computed o (x s f.rs1) (x s f.rs2))
effect s Fence = onward s
effect s Ecall = halted s
effect s Ebreak = halted s
effect s Return = returned s
effect s Undefined = halted s

-- the core after the instruction at its place
unfoldable pub stepped : State → State
stepped s = effect s (decoded (word_at s.bus s.place))

-- whether the core is stopped, or elsewhere than just past the instruction at p; just past is reckoned without wrap
abbrev pub elsewhere : ℕ → State → Bool
elsewhere p s = s.stopped || not (s.place == p + 4)

-- whether the instruction at the place is a transfer
abbrev pub transfers : State → Bool
transfers s = elsewhere s.place (stepped s)
