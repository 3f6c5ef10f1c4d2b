-- The 6502 keeps the laws of a kind of machine.
use Rattle.std.specs.Prelude.{◌≡◌, ℕ, ◌<◌, true, false, not, List, refl}
use Rattle.std.proofs.Common.{sym, ap, subst, arith, lit<, lit≤}
use Rattle.std.proofs.lemmas.Bool.{cond_both}
use Rattle.machine.specs.Kinds.{Fits, Rises, ImageLaws}
use Rattle.machine.specs.declared.Event.{Event}
use Rattle.machine.specs.declared.Event.TheVariants.{Timer, Switch}
use Rattle.mos6502_parts.specs.Flags.{flag_byte}
use Rattle.mos6502_parts.specs.Memory.{with_switch}
use Rattle.mos6502_core.specs.declared.cpu.Cpu.{Cpu}
use Rattle.mos6502_core.specs.Registers.{with_memory}
use Rattle.mos6502_core.specs.Instructions.{stepped}
use Rattle.mos6502_core.proofs.Keeps.{Sound, stepped_kept, interrupted_kept, memory_kept, with_switch_kept, flag_byte_small}
use Rattle.mos6502_core.proofs.Rises.{rises}
use Rattle.mos6502.specs.Images.{image_of, cpu_of, lawful_flags, lawful_image, offending_offset, blank_image}
use Rattle.mos6502.specs.Events.{hears, taken_event}
use Rattle.mos6502.specs.Guest.{mos6502}
use Rattle.mos6502.specs.Back.{cpu_image, cpu_sound, sound_image, lawful_parts}

held : (i : List ℕ) → lawful_image i ≡ true → Sound (cpu_of i)
held i e = cpu_sound i (lawful_parts i e)

flag_byte_fits : (m : Cpu) → flag_byte m.p < 256
flag_byte_fits m = omega (arith, flag_byte_small m.p)

pub taken_kept : (event : Event) (m : Cpu) → Fits event → Sound m → Sound (taken_event event m)
taken_kept Timer m f h = interrupted_kept m.place (flag_byte m.p) 0xFFFA m h.place (flag_byte_fits m) h
taken_kept (Switch byte) m f h =
    let set = memory_kept m (with_switch m.memory byte) (with_switch_kept m.memory byte f h.memory) h in
    interrupted_kept m.place (flag_byte m.p) 0xFFFE (with_memory m (with_switch m.memory byte)) h.place (flag_byte_fits m) set

deaf : (event : Event) (m : Cpu) → m.stopped ≡ true → hears event m ≡ false
deaf Timer m e = ap not e
deaf (Switch byte) m e = simp e

blank_lawful : lawful_image blank_image ≡ true
unfolding lawful_image
blank_lawful = refl

offends : (i : List ℕ) → offending_offset i < 4106
offends i = cond_both (lawful_flags _) 7 4 (λ k. k < 4106) (λ _. lit< tt) (λ _. lit< tt)

pub image_laws : ImageLaws mos6502
image_laws =
    record {
      size_low = lit≤ tt;
      size_high = lit≤ tt;
      guest_fits = lit< tt;
      blank_lawful = blank_lawful;
      length_is = λ i e. (lawful_parts i e).long;
      bytes_are = λ i e k. (lawful_parts i e).bytes k 0;
      offends = λ i _ _ _. offends i;
      place_fits = λ i e. omega (arith, (held i e).place);
      lamp_fits = λ i e. (held i e).memory.lamp;
      stopped_unready = λ i event _ _ e. deaf event (cpu_of i) e;
      next_lawful = λ i e _. sound_image (stepped (cpu_of i)) (stepped_kept (cpu_of i) (held i e));
      taken_lawful = λ i event f e _. sound_image (taken_event event (cpu_of i)) (taken_kept event (cpu_of i) f (held i e));
    }

pub rising : Rises mos6502
rising i e _ t =
    let after = stepped (cpu_of i) in
    let back : cpu_of (image_of after) ≡ after = cpu_image after (stepped_kept (cpu_of i) (held i e)).memory.ram in
    subst (λ (m : Cpu). (cpu_of i).place < m.place) (sym back) (rises (cpu_of i) t)
