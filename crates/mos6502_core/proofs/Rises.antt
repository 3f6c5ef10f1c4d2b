-- A step that is no transfer leaves a higher place than it found.
use Rattle.std.proofs.Common.{◌≡◌, ◌+◌, ◌<◌, ◌≤◌, false, not, eqb, arith, lit≤}
use Rattle.std.proofs.lemmas.Bool.{or_parts, not-false, eqb-true}
use Rattle.mos6502_parts.specs.declared.opcodes.Instruction.{Instruction}
use Rattle.mos6502_parts.specs.declared.opcodes.Instruction.TheVariants.{Read, Store, Change, ChangeA, Branch, Jmp, JmpIndirect, Jsr, Implied, Undefined}
use Rattle.mos6502_parts.specs.Opcodes.{instruction_bytes}
use Rattle.mos6502_core.specs.declared.cpu.Cpu.{Cpu}
use Rattle.mos6502_core.specs.Instructions.{instruction, stepped, transfers}

some_bytes : (i : Instruction) → 1 ≤ instruction_bytes i
some_bytes (Read op mode) = omega arith
some_bytes (Store op mode) = omega arith
some_bytes (Change op mode) = omega arith
some_bytes (ChangeA op) = lit≤ tt
some_bytes (Branch op) = lit≤ tt
some_bytes Jmp = lit≤ tt
some_bytes JmpIndirect = lit≤ tt
some_bytes Jsr = lit≤ tt
some_bytes (Implied op) = lit≤ tt
some_bytes Undefined = lit≤ tt

pub rises : (m : Cpu) → transfers m ≡ false → m.place < (stepped m).place
rises m e =
    let past = m.place + instruction_bytes (instruction m) in
    let test : not (eqb (stepped m).place past) ≡ false = (or_parts (stepped m).stopped (not (eqb (stepped m).place past)) e).1 in
    let same : (stepped m).place ≡ past = eqb-true (stepped m).place past (not-false (eqb (stepped m).place past) test) in
    let some = some_bytes (instruction m) in
    omega (arith, same, some)
