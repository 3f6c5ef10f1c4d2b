-- What every core has whose image is lawful, and that instructions and events keep it.
use Rattle.std.specs.Prelude.{◌≡◌, ℕ, ◌-◌, ◌*◌, ◌/◌, ◌%◌, ◌^◌, ◌<◌, Bool, true, false, cond, length, ◌==◌, refl}
use Rattle.std.proofs.Common.{◌∙◌, inl, inr, arith}
use Rattle.std.proofs.lemmas.Bool.Decides.{eqb_tells}
use Rattle.std.proofs.lemmas.List.{length-set}
use Rattle.machine.specs.declared.Event.{Event}
use Rattle.machine.specs.declared.Event.TheVariants.{Timer, Switch}
use Rattle.machine.specs.Kinds.{Fits}
use Rattle.rv32i_decode.specs.declared.instructions.StoreKind.{StoreKind}
use Rattle.rv32i_decode.specs.declared.instructions.StoreKind.TheVariants.{Sb, Sh, Sw}
use Rattle.rv32i_decode.specs.declared.instructions.Instruction.{Instruction}
use Rattle.rv32i_decode.specs.declared.instructions.Instruction.TheVariants.{Lui, Auipc, Jal, Jalr, Branch, Load, Store, OpImm, Op, Fence, Ecall, Ebreak, Return, Undefined}
use Rattle.rv32i_decode.specs.Decoding.{decoded}
use Rattle.rv32i_core.specs.declared.bus.Bus.{Bus}
use Rattle.rv32i_core.specs.declared.registers.Registers.{Registers}
use Rattle.rv32i_core.specs.declared.state.State.{State}
use Rattle.rv32i_core.specs.Words.{◌⊕◌, met}
use Rattle.rv32i_core.specs.Registers.{held, with_register}
use Rattle.rv32i_core.specs.Memory.{within, with_ram, with_byte, byte_of, stored, word_at}
use Rattle.rv32i_core.specs.Execution.{with_bus, with_x, x, halted, onward, gone, linked, returned, effect, stepped}
use Rattle.rv32i.specs.Images.{bytes}
use Rattle.rv32i.specs.Events.{interrupted}
use Rattle.rv32i.specs.Bytes.{bytes_set}

pub record SoundBus (m : Bus) : Type 0 where
  pub rom_size : length m.rom ≡ 2048
  pub rom_bytes : bytes m.rom ≡ true
  pub ram_size : length m.ram ≡ 2048
  pub ram_bytes : bytes m.ram ≡ true
  pub lamp_byte : m.lamp < 256
  pub switch_byte : m.switch < 256

pub record Sound (s : State) : Type 0 where
  pub count : length s.registers.x ≡ 31
  pub place_fits : s.place < 2 ^ 32
  pub place_aligned : s.place % 4 ≡ 0
  pub saved_fits : s.saved < 2 ^ 32
  pub saved_aligned : s.saved % 4 ≡ 0
  pub bus_sound : SoundBus s.bus

by_cond : {X : Type 0} (P : X → Type 0) (b : Bool) (y z : X) → P y → P z → P (cond b y z)
by_cond P true y z p q = p
by_cond P false y z p q = q

by_zero : {X : Type 0} (P : X → Type 0) (n : ℕ) (y z : X) → (n ≡ 0 → P y) → P z → P (cond (n == 0) y z)
by_zero P n y z p q = elim (eqb_tells n 0) [ inl h ↦ rw h.0 (p h.1) | inr h ↦ rw h.0 q ]

-- memory
on_ram : (m : Bus) (i b : ℕ) → b < 256 → SoundBus m → SoundBus (with_ram m i b)
on_ram m i b l h =
    record {
      rom_size = h.rom_size;
      rom_bytes = h.rom_bytes;
      ram_size = length-set m.ram i b ∙ h.ram_size;
      ram_bytes = bytes_set m.ram i b l h.ram_bytes;
      lamp_byte = h.lamp_byte;
      switch_byte = h.switch_byte;
    }

on_byte : (m : Bus) (a b : ℕ) → b < 256 → SoundBus m → SoundBus (with_byte m a b)
on_byte m a b l h =
    by_cond SoundBus (within 0x1000 0x17ff a) _ _ (on_ram m (a - 0x1000) b l h)
    (by_cond SoundBus (a == 0x2000) _ _
    (record { rom_size = h.rom_size; rom_bytes = h.rom_bytes; ram_size = h.ram_size; ram_bytes = h.ram_bytes; lamp_byte = l; switch_byte = h.switch_byte }) h)

a_byte : (v : ℕ) → v % 2 ^ 8 < 256
a_byte v = omega arith

on_stored : (m : Bus) (k : StoreKind) (a v : ℕ) → SoundBus m → SoundBus (stored m k a v)
on_stored m Sb a v h = on_byte m a (v % 2 ^ 8) (a_byte v) h
on_stored m Sh a v h = on_byte _ (a ⊕ 1) (byte_of v 1) (a_byte (v / 2 ^ 8)) (on_byte m a (v % 2 ^ 8) (a_byte v) h)
on_stored m Sw a v h =
    on_byte _ (a ⊕ 3) (byte_of v 3) (a_byte (v / 2 ^ 24))
    (on_byte _ (a ⊕ 2) (byte_of v 2) (a_byte (v / 2 ^ 16))
    (on_byte _ (a ⊕ 1) (byte_of v 1) (a_byte (v / 2 ^ 8)) (on_byte m a (v % 2 ^ 8) (a_byte v) h)))

-- the parts of instructions
on_bus : (s : State) (m : Bus) → SoundBus m → Sound s → Sound (with_bus s m)
on_bus s m b h =
    record { count = h.count; place_fits = h.place_fits; place_aligned = h.place_aligned; saved_fits = h.saved_fits; saved_aligned = h.saved_aligned; bus_sound = b }

count_kept : (rs : Registers) (k v : ℕ) → length rs.x ≡ 31 → length (with_register rs k v).x ≡ 31
count_kept rs k v h =
    by_cond (λ (r : Registers). length r.x ≡ 31) (held k) _ _ (length-set rs.x (k - 1) v ∙ h) h

on_x : (s : State) (rd v : ℕ) → Sound s → Sound (with_x s rd v)
on_x s rd v h =
    record {
      count = count_kept s.registers rd v h.count;
      place_fits = h.place_fits;
      place_aligned = h.place_aligned;
      saved_fits = h.saved_fits;
      saved_aligned = h.saved_aligned;
      bus_sound = h.bus_sound;
    }

on_halted : (s : State) → Sound s → Sound (halted s)
on_halted s h =
    record { count = h.count; place_fits = h.place_fits; place_aligned = h.place_aligned; saved_fits = h.saved_fits; saved_aligned = h.saved_aligned; bus_sound = h.bus_sound }

on_onward : (s : State) → Sound s → Sound (onward s)
on_onward s h =
    let p = h.place_aligned in
    record { count = h.count; place_fits = omega arith; place_aligned = omega arith; saved_fits = h.saved_fits; saved_aligned = h.saved_aligned; bus_sound = h.bus_sound }

on_gone : (s : State) (t : ℕ) → t < 2 ^ 32 → Sound s → Sound (gone s t)
on_gone s t l h =
    by_zero Sound (t % 4) _ _
    (λ e. record { count = h.count; place_fits = l; place_aligned = e; saved_fits = h.saved_fits; saved_aligned = h.saved_aligned; bus_sound = h.bus_sound })
    (on_halted s h)

on_linked : (s : State) (rd t : ℕ) → t < 2 ^ 32 → Sound s → Sound (linked s rd t)
on_linked s rd t l h =
    by_zero Sound (t % 4) _ _
    (λ e. record { count = (on_x s rd (s.place ⊕ 4) h).count; place_fits = l; place_aligned = e; saved_fits = h.saved_fits; saved_aligned = h.saved_aligned; bus_sound = h.bus_sound })
    (on_halted s h)

on_returned : (s : State) → Sound s → Sound (returned s)
on_returned s h =
    record { count = h.count; place_fits = h.saved_fits; place_aligned = h.saved_aligned; saved_fits = h.saved_fits; saved_aligned = h.saved_aligned; bus_sound = h.bus_sound }

a_word : (a b : ℕ) → a ⊕ b < 2 ^ 32
a_word a b = omega arith

even_word : (a b : ℕ) → (a ⊕ b) / 2 * 2 < 2 ^ 32
even_word a b = omega arith

on_effect : (s : State) (i : Instruction) → Sound s → Sound (effect s i)
on_effect s (Lui f) h = on_onward _ (on_x s f.rd f.imm h)
on_effect s (Auipc f) h = on_onward _ (on_x s f.rd _ h)
on_effect s (Jal f) h = on_linked s f.rd _ (a_word s.place f.imm) h
on_effect s (Jalr f) h = on_linked s f.rd _ (even_word (x s f.rs1) f.imm) h
on_effect s (Branch c f) h =
    by_cond Sound (met c (x s f.rs1) (x s f.rs2)) _ _ (on_gone s _ (a_word s.place f.imm) h) (on_onward s h)
on_effect s (Load k f) h = on_onward _ (on_x s f.rd _ h)
on_effect s (Store k f) h = on_onward _ (on_bus s _ (on_stored s.bus k _ _ h.bus_sound) h)
on_effect s (OpImm o f) h = on_onward _ (on_x s f.rd _ h)
on_effect s (Op o f) h = on_onward _ (on_x s f.rd _ h)
on_effect s Fence h = on_onward s h
on_effect s Ecall h = on_halted s h
on_effect s Ebreak h = on_halted s h
on_effect s Return h = on_returned s h
on_effect s Undefined h = on_halted s h

pub on_stepped : (s : State) → Sound s → Sound (stepped s)
unfolding stepped
on_stepped s h = on_effect s (decoded (word_at s.bus s.place)) h

pub on_interrupted : (s : State) (e : Event) → Fits e → Sound s → Sound (interrupted e s)
unfolding interrupted
on_interrupted s Timer f h =
    record { count = h.count; place_fits = omega arith; place_aligned = refl; saved_fits = h.place_fits; saved_aligned = h.place_aligned; bus_sound = h.bus_sound }
on_interrupted s (Switch d) f h =
    let b = h.bus_sound in
    record {
      count = h.count;
      place_fits = omega arith;
      place_aligned = refl;
      saved_fits = h.place_fits;
      saved_aligned = h.place_aligned;
      bus_sound = record { rom_size = b.rom_size; rom_bytes = b.rom_bytes; ram_size = b.ram_size; ram_bytes = b.ram_bytes; lamp_byte = b.lamp_byte; switch_byte = f };
    }
