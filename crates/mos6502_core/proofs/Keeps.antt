-- A processor whose registers and memory are in range stays so, whatever it carries out.
use Rattle.std.proofs.Common.{◌≡◌, ℕ, zero, suc, ◌+◌, ◌-◌, ◌*◌, ◌/◌, ◌%◌, ◌<◌, Bool, true, false, eqb, ltb, leb, List, [], ◌∷◌, length, get_or, arith, lit<, length-set}
use lib.Bits.{bit_and, bit_or, bit_xor}
use Rattle.std.specs.List.{All}
use Rattle.std.proofs.lemmas.Bool.{cond_both}
use Rattle.std.proofs.lemmas.List.Elements.{All-head, All-tail, All-set}
use Rattle.std.proofs.lemmas.Nat.{and_le_l, or_lt, xor_lt}
use Rattle.mos6502_parts.specs.declared.flags.Flags.{Flags}
use Rattle.mos6502_parts.specs.declared.memory.Memory.{Memory}
use Rattle.mos6502_parts.specs.declared.arithmetic.Outcome.{Outcome}
use Rattle.mos6502_parts.specs.declared.opcodes.ReadOp.{ReadOp}
use Rattle.mos6502_parts.specs.declared.opcodes.ReadOp.TheVariants.{Adc, And, Bit, Cmp, Cpx, Cpy, Eor, Lda, Ldx, Ldy, Ora, Sbc}
use Rattle.mos6502_parts.specs.declared.opcodes.StoreOp.{StoreOp}
use Rattle.mos6502_parts.specs.declared.opcodes.StoreOp.TheVariants.{Sta, Stx, Sty}
use Rattle.mos6502_parts.specs.declared.opcodes.ChangeOp.{ChangeOp}
use Rattle.mos6502_parts.specs.declared.opcodes.ChangeOp.TheVariants.{Asl, Dec, Inc, Lsr, Rol, Ror}
use Rattle.mos6502_parts.specs.declared.opcodes.ImpliedOp.{ImpliedOp}
use Rattle.mos6502_parts.specs.declared.opcodes.ImpliedOp.TheVariants.{Brk, Clc, Cld, Cli, Clv, Dex, Dey, Inx, Iny, Nop, Pha, Php, Pla, Plp, Rti, Rts, Sec, Sed, Sei, Tax, Tay, Tsx, Txa, Txs, Tya}
use Rattle.mos6502_parts.specs.declared.opcodes.Instruction.{Instruction}
use Rattle.mos6502_parts.specs.declared.opcodes.Instruction.TheVariants.{Read, Store, Change, ChangeA, Branch, Jmp, JmpIndirect, Jsr, Implied, Undefined}
use Rattle.mos6502_parts.specs.Flags.{bit, flag_byte, flag_byte_with_break, flags_of, with_i}
use Rattle.mos6502_parts.specs.Memory.{byte_at, word_at, stored, with_ram, with_lamp, with_switch}
use Rattle.mos6502_parts.specs.Arithmetic.{sum, difference, changed}
use Rattle.mos6502_parts.specs.Opcodes.{operand_length}
use Rattle.mos6502_core.specs.declared.cpu.Cpu.{Cpu}
use Rattle.mos6502_core.specs.Registers.{with_a, with_x, with_y, with_s, with_p, with_place, with_stopped, with_memory, past, advanced}
use Rattle.mos6502_core.specs.Addresses.{address, operand, absolute, indirect, relative}
use Rattle.mos6502_core.specs.Effects.{loaded_a, loaded_x, loaded_y, stored_at, put, pushed, pulled, top, pushed_word, pulled_word, top_word, interrupted, resumed, called}
use Rattle.mos6502_core.specs.Instructions.{put_a, worked, register, branches, implied, executed, instruction, stepped}

-- each number of the list is a byte
abbrev pub AllBytes : List ℕ → Type 0
AllBytes xs = All (λ n. n < 256) xs

-- past its end a list reads as 0
pub byte_in : (xs : List ℕ) (k : ℕ) → AllBytes xs → get_or xs k 0 < 256
byte_in [] k h = lit< tt
byte_in (x ∷ xs) zero h = All-head (λ n. n < 256) x xs h
byte_in (x ∷ xs) (suc k) h = byte_in xs k (All-tail (λ n. n < 256) x xs h)

pub record SoundMemory (b : Memory) : Type 0 where
  pub lamp : b.lamp < 256
  pub switch : b.switch < 256
  pub ram : length b.ram ≡ 2048
  pub rom : length b.rom ≡ 2048
  pub ram_bytes : AllBytes b.ram
  pub rom_bytes : AllBytes b.rom

pub record Sound (m : Cpu) : Type 0 where
  pub a : m.a < 256
  pub x : m.x < 256
  pub y : m.y < 256
  pub s : m.s < 256
  pub place : m.place < 65536
  pub memory : SoundMemory m.memory

pub bit_small : (b : Bool) → bit b < 2
bit_small true = lit< tt
bit_small false = lit< tt

-- memory

byte_small : (b : Memory) (at : ℕ) → SoundMemory b → byte_at b at < 256
byte_small b at h =
    let small : ℕ → Type 0 = λ n. n < 256 in
    cond_both (ltb at 0x800) (get_or b.ram at 0) _ small (λ _. byte_in b.ram at h.ram_bytes)
    (λ _. cond_both (eqb at 0xD000) b.lamp _ small (λ _. h.lamp)
    (λ _. cond_both (eqb at 0xD001) b.switch _ small (λ _. h.switch)
    (λ _. cond_both (leb 0xF800 at) (get_or b.rom (at - 0xF800) 0) 0 small (λ _. byte_in b.rom (at - 0xF800) h.rom_bytes) (λ _. lit< tt))))

word_small : (b : Memory) (low high : ℕ) → SoundMemory b → word_at b low high < 65536
word_small b low high h = let l = byte_small b low h in let g = byte_small b high h in omega (arith, l, g)

with_ram_kept : (b : Memory) (at v : ℕ) → v < 256 → SoundMemory b → SoundMemory (with_ram b at v)
with_ram_kept b at v g h = record { lamp = h.lamp; switch = h.switch; ram = simp length-set h.ram; rom = h.rom; ram_bytes = All-set (λ n. n < 256) b.ram at v g h.ram_bytes; rom_bytes = h.rom_bytes }

with_lamp_kept : (b : Memory) (v : ℕ) → v < 256 → SoundMemory b → SoundMemory (with_lamp b v)
with_lamp_kept b v g h = record { lamp = g; switch = h.switch; ram = h.ram; rom = h.rom; ram_bytes = h.ram_bytes; rom_bytes = h.rom_bytes }

pub with_switch_kept : (b : Memory) (v : ℕ) → v < 256 → SoundMemory b → SoundMemory (with_switch b v)
with_switch_kept b v g h = record { lamp = h.lamp; switch = g; ram = h.ram; rom = h.rom; ram_bytes = h.ram_bytes; rom_bytes = h.rom_bytes }

stored_kept : (b : Memory) (at v : ℕ) → v < 256 → SoundMemory b → SoundMemory (stored b at v)
stored_kept b at v g h =
    cond_both (ltb at 0x800) (with_ram b at v) _ SoundMemory (λ _. with_ram_kept b at v g h)
    (λ _. cond_both (eqb at 0xD000) (with_lamp b v) b SoundMemory (λ _. with_lamp_kept b v g h) (λ _. h))

-- registers

a_kept : (m : Cpu) (v : ℕ) → v < 256 → Sound m → Sound (with_a m v)
a_kept m v g h = record { a = g; x = h.x; y = h.y; s = h.s; place = h.place; memory = h.memory }

x_kept : (m : Cpu) (v : ℕ) → v < 256 → Sound m → Sound (with_x m v)
x_kept m v g h = record { a = h.a; x = g; y = h.y; s = h.s; place = h.place; memory = h.memory }

y_kept : (m : Cpu) (v : ℕ) → v < 256 → Sound m → Sound (with_y m v)
y_kept m v g h = record { a = h.a; x = h.x; y = g; s = h.s; place = h.place; memory = h.memory }

s_kept : (m : Cpu) (v : ℕ) → v < 256 → Sound m → Sound (with_s m v)
s_kept m v g h = record { a = h.a; x = h.x; y = h.y; s = g; place = h.place; memory = h.memory }

p_kept : (m : Cpu) (v : Flags) → Sound m → Sound (with_p m v)
p_kept m v h = record { a = h.a; x = h.x; y = h.y; s = h.s; place = h.place; memory = h.memory }

place_kept : (m : Cpu) (v : ℕ) → v < 65536 → Sound m → Sound (with_place m v)
place_kept m v g h = record { a = h.a; x = h.x; y = h.y; s = h.s; place = g; memory = h.memory }

stopped_kept : (m : Cpu) (v : Bool) → Sound m → Sound (with_stopped m v)
stopped_kept m v h = record { a = h.a; x = h.x; y = h.y; s = h.s; place = h.place; memory = h.memory }

pub memory_kept : (m : Cpu) (v : Memory) → SoundMemory v → Sound m → Sound (with_memory m v)
memory_kept m v g h = record { a = h.a; x = h.x; y = h.y; s = h.s; place = h.place; memory = g }

advanced_kept : (n : ℕ) (m : Cpu) → Sound m → Sound (advanced n m)
advanced_kept n m h = place_kept m (past m n) (omega arith) h

-- effects

loaded_a_kept : (v : ℕ) (m : Cpu) → v < 256 → Sound m → Sound (loaded_a v m)
loaded_a_kept v m g h = p_kept (with_a m v) _ (a_kept m v g h)

loaded_x_kept : (v : ℕ) (m : Cpu) → v < 256 → Sound m → Sound (loaded_x v m)
loaded_x_kept v m g h = p_kept (with_x m v) _ (x_kept m v g h)

loaded_y_kept : (v : ℕ) (m : Cpu) → v < 256 → Sound m → Sound (loaded_y v m)
loaded_y_kept v m g h = p_kept (with_y m v) _ (y_kept m v g h)

stored_at_kept : (at v : ℕ) (m : Cpu) → v < 256 → Sound m → Sound (stored_at at v m)
stored_at_kept at v m g h = memory_kept m _ (stored_kept m.memory at v g h.memory) h

put_kept : (at : ℕ) (o : Outcome) (m : Cpu) → o.value < 256 → Sound m → Sound (put at o m)
put_kept at o m g h = p_kept (stored_at at o.value m) o.flags (stored_at_kept at o.value m g h)

put_a_kept : (o : Outcome) (m : Cpu) → o.value < 256 → Sound m → Sound (put_a o m)
put_a_kept o m g h = p_kept (with_a m o.value) o.flags (a_kept m o.value g h)

pushed_kept : (v : ℕ) (m : Cpu) → v < 256 → Sound m → Sound (pushed v m)
pushed_kept v m g h = s_kept (stored_at (256 + m.s) v m) ((m.s + 255) % 256) (omega arith) (stored_at_kept (256 + m.s) v m g h)

pulled_kept : (m : Cpu) → Sound m → Sound (pulled m)
pulled_kept m h = s_kept m ((m.s + 1) % 256) (omega arith) h

top_small : (m : Cpu) → Sound m → top m < 256
top_small m h = byte_small m.memory (256 + (m.s + 1) % 256) h.memory

pushed_word_kept : (v : ℕ) (m : Cpu) → v < 65536 → Sound m → Sound (pushed_word v m)
pushed_word_kept v m g h = pushed_kept (v % 256) (pushed (v / 256) m) (omega arith) (pushed_kept (v / 256) m (omega arith) h)

top_word_small : (m : Cpu) → Sound m → top_word m < 65536
top_word_small m h = let l = top_small m h in let g = top_small (pulled m) (pulled_kept m h) in omega (arith, l, g)

pub flag_byte_small : (p : Flags) → flag_byte p + 16 < 256
flag_byte_small p = omega (arith, bit_small)

pub interrupted_kept : (back flags vector : ℕ) (m : Cpu) → back < 65536 → flags < 256 → Sound m → Sound (interrupted back flags vector m)
interrupted_kept back flags vector m g k h =
    let saved = pushed flags (pushed_word back m) in
    let q : Sound saved = pushed_kept flags (pushed_word back m) k (pushed_word_kept back m g h) in
    place_kept (with_p saved (with_i m.p true)) _ (word_small saved.memory vector ((vector + 1) % 65536) q.memory) (p_kept saved (with_i m.p true) q)

resumed_kept : (m : Cpu) → Sound m → Sound (resumed m)
resumed_kept m h =
    let q = pulled_kept m h in
    place_kept _ _ (top_word_small (pulled m) q) (p_kept (pulled_word (pulled m)) (flags_of (top m)) (pulled_kept (pulled (pulled m)) (pulled_kept (pulled m) q)))

called_kept : (m : Cpu) → Sound m → Sound (called m)
called_kept m h =
    let saved = pushed_word (past m 2) m in
    let q : Sound saved = pushed_word_kept (past m 2) m (omega arith) h in
    let low = byte_small m.memory (past m 1) h.memory in
    let high = byte_small saved.memory (past m 2) q.memory in
    place_kept saved _ (omega (arith, low, high)) q

-- instructions

operand_small : (m : Cpu) (at : ℕ) → Sound m → byte_at m.memory at < 256
operand_small m at h = byte_small m.memory at h.memory

worked_kept : (op : ReadOp) (v : ℕ) (m : Cpu) → v < 256 → Sound m → Sound (worked op v m)
worked_kept Adc v m g h = put_a_kept (sum m.p m.a v) m (omega arith) h
worked_kept And v m g h = loaded_a_kept (bit_and m.a v) m (omega (arith, and_le_l m.a v, h.a)) h
worked_kept Bit v m g h = p_kept m _ h
worked_kept Cmp v m g h = p_kept m _ h
worked_kept Cpx v m g h = p_kept m _ h
worked_kept Cpy v m g h = p_kept m _ h
worked_kept Eor v m g h = loaded_a_kept (bit_xor m.a v) m (xor_lt 8 m.a v h.a g) h
worked_kept Lda v m g h = loaded_a_kept v m g h
worked_kept Ldx v m g h = loaded_x_kept v m g h
worked_kept Ldy v m g h = loaded_y_kept v m g h
worked_kept Ora v m g h = loaded_a_kept (bit_or m.a v) m (or_lt 8 m.a v h.a g) h
worked_kept Sbc v m g h = put_a_kept (difference m.p m.a v) m (omega arith) h

register_small : (op : StoreOp) (m : Cpu) → Sound m → register op m < 256
register_small Sta m h = h.a
register_small Stx m h = h.x
register_small Sty m h = h.y

changed_small : (op : ChangeOp) (p : Flags) (v : ℕ) → v < 256 → (changed op p v).value < 256
changed_small Asl p v g = omega arith
changed_small Dec p v g = omega arith
changed_small Inc p v g = omega arith
changed_small Lsr p v g = omega arith
changed_small Rol p v g = omega (arith, bit_small p.c)
changed_small Ror p v g = omega (arith, bit_small p.c)

implied_kept : (op : ImpliedOp) (m : Cpu) → Sound m → Sound (implied op m)
implied_kept Brk m h = interrupted_kept (past m 1) (flag_byte_with_break m.p) 0xFFFE m (omega arith) (flag_byte_small m.p) h
implied_kept Clc m h = p_kept m _ h
implied_kept Cld m h = p_kept m _ h
implied_kept Cli m h = p_kept m _ h
implied_kept Clv m h = p_kept m _ h
implied_kept Dex m h = loaded_x_kept ((m.x + 255) % 256) m (omega arith) h
implied_kept Dey m h = loaded_y_kept ((m.y + 255) % 256) m (omega arith) h
implied_kept Inx m h = loaded_x_kept ((m.x + 1) % 256) m (omega arith) h
implied_kept Iny m h = loaded_y_kept ((m.y + 1) % 256) m (omega arith) h
implied_kept Nop m h = h
implied_kept Pha m h = pushed_kept m.a m h.a h
implied_kept Php m h = pushed_kept (flag_byte_with_break m.p) m (flag_byte_small m.p) h
implied_kept Pla m h = loaded_a_kept (top m) (pulled m) (top_small m h) (pulled_kept m h)
implied_kept Plp m h = p_kept (pulled m) _ (pulled_kept m h)
implied_kept Rti m h = resumed_kept m h
implied_kept Rts m h = place_kept (pulled_word m) ((top_word m + 1) % 65536) (omega arith) (pulled_kept (pulled m) (pulled_kept m h))
implied_kept Sec m h = p_kept m _ h
implied_kept Sed m h = p_kept m _ h
implied_kept Sei m h = p_kept m _ h
implied_kept Tax m h = loaded_x_kept m.a m h.a h
implied_kept Tay m h = loaded_y_kept m.a m h.a h
implied_kept Tsx m h = loaded_x_kept m.s m h.s h
implied_kept Txa m h = loaded_a_kept m.x m h.x h
implied_kept Txs m h = s_kept m m.x h.x h
implied_kept Tya m h = loaded_a_kept m.y m h.y h

relative_small : (m : Cpu) → relative m < 65536
relative_small m =
    let offset = byte_at m.memory (past m 1) in
    cond_both (ltb offset 128) ((past m 2 + offset) % 65536) ((past m 2 + 65536 - (256 - offset)) % 65536) (λ n. n < 65536) (λ _. omega arith) (λ _. omega arith)

indirect_small : (m : Cpu) (at : ℕ) → Sound m → indirect m at < 65536
indirect_small m at h = word_small m.memory at (at / 256 * 256 + (at % 256 + 1) % 256) h.memory

executed_kept : (i : Instruction) (m : Cpu) → Sound m → Sound (executed i m)
unfolding executed
executed_kept (Read op mode) m h = worked_kept op (operand mode m) _ (operand_small m (address mode m) h) (advanced_kept (1 + operand_length mode) m h)
executed_kept (Store op mode) m h = stored_at_kept (address mode m) (register op m) _ (register_small op m h) (advanced_kept (1 + operand_length mode) m h)
executed_kept (Change op mode) m h =
    put_kept (address mode m) (changed op m.p (operand mode m)) _ (changed_small op m.p (operand mode m) (operand_small m (address mode m) h))
    (advanced_kept (1 + operand_length mode) m h)
executed_kept (ChangeA op) m h = put_a_kept (changed op m.p m.a) _ (changed_small op m.p m.a h.a) (advanced_kept 1 m h)
executed_kept (Branch op) m h =
    place_kept m _ (cond_both (branches op m.p) (relative m) (past m 2) (λ n. n < 65536) (λ _. relative_small m) (λ _. omega arith)) h
executed_kept Jmp m h = place_kept m (absolute m 0) (omega arith) h
executed_kept JmpIndirect m h = place_kept m (indirect m (absolute m 0)) (indirect_small m (absolute m 0) h) h
executed_kept Jsr m h = called_kept m h
executed_kept (Implied op) m h = implied_kept op _ (advanced_kept 1 m h)
executed_kept Undefined m h = stopped_kept m true h

pub stepped_kept : (m : Cpu) → Sound m → Sound (stepped m)
stepped_kept m h = executed_kept (instruction m) m h
