use Rattle.std.proofs.Common.{◌≡◌, ℕ, ◌<◌, List, map, get_or, refl, ap, ◌∙◌, arith, rules}
use Rattle.std.specs.List.{range_with_len}
use Rattle.std.proofs.lemmas.List.FromFn.{get_or-map-range_with_len}
use Rattle.mos6502_parts.specs.declared.opcodes.Instruction.{Instruction}
use Rattle.mos6502_parts.specs.Opcodes.{decoded}
use Rattle.mos6502_parts.proofs.opcodes.decode.Goals as goal

-- a matrix that lists what each byte stands for, from 0 to 255
reads : (matrix : List Instruction) (d : Instruction) → matrix ≡ map decoded (range_with_len 0 256) → (byte : ℕ) → byte < 256 → get_or matrix byte d ≡ decoded byte
reads matrix d is byte fits = ap (λ (rows : List Instruction). get_or rows byte d) is ∙ get_or-map-range_with_len decoded 0 256 byte byte d fits (omega arith)

pub returns : goal.returns
unfolding decoded
returns c = reads _ _ refl c.from.result (search rules) ∙ ap decoded c.from.ensures
