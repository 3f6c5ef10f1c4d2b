-- From what an instruction or an event does to the core, to what it does to the image.
use Rattle.std.specs.Prelude.{◌≡◌, ℕ, zero, suc, ◌+◌, ◌*◌, ◌^◌, ◌<◌, true, List, map, slice_index}
use Rattle.std.proofs.Common.{sym, ap, subst, ◌∙◌, arith}
use Rattle.std.specs.List.{range_with_len}
use Rattle.machine.specs.declared.Event.{Event}
use Rattle.machine.specs.declared.Event.TheVariants.{Timer, Switch}
use Rattle.machine.specs.Kinds.{Fits}
use Rattle.rv32i_core.specs.declared.state.State.{State}
use Rattle.rv32i_core.specs.Execution.{stepped, transfers}
use Rattle.rv32i.specs.Images.{image_of, core_of, word_in, words_in, place_in, stopped_in, enabled_in, lamp_in, lawful, Sized}
use Rattle.rv32i.specs.Bytes.{byte_at}
use Rattle.rv32i.specs.ImagesLemmas.{core_told}
use Rattle.rv32i.specs.Laws.{from_lawful, core_sound, word_fits, next_lawful, taken_lawful}
use Rattle.rv32i.specs.Events.{interrupted}
use Rattle.rv32i.specs.Guest.{next, moves, taken}

-- the sizes of the core of a lawful image
all_fit : (f : ℕ → ℕ) (b : ℕ) → ((k : ℕ) → f k < b) → 0 < b → (a n k : ℕ) → slice_index (map f (range_with_len a n)) k < b
all_fit f b h z a zero k = z
all_fit f b h z a (suc n) zero = h a
all_fit f b h z a (suc n) (suc k) = all_fit f b h z (a + 1) n k

core_sized : (i : List ℕ) → lawful i ≡ true → Sized (core_of i)
unfolding core_of words_in
core_sized i h =
    let l = from_lawful i h in
    let s = core_sound i l in
    record {
      register_count = s.count;
      register_fits = all_fit (λ k. word_in i (4 * k)) (2 ^ 32) (λ k. word_fits i (4 * k) (byte_at i l.all_bytes)) (omega arith) 0 31;
      place_fits = s.place_fits;
      saved_fits = s.saved_fits;
      rom_size = s.bus_sound.rom_size;
      ram_size = s.bus_sound.ram_size;
    }

-- an event keeps the sizes
sizes_kept : (s : State) (e : Event) → Sized s → Sized (interrupted e s)
unfolding interrupted
sizes_kept s Timer z =
    record { register_count = z.register_count; register_fits = z.register_fits; place_fits = omega arith; saved_fits = z.place_fits; rom_size = z.rom_size; ram_size = z.ram_size }
sizes_kept s (Switch d) z =
    record { register_count = z.register_count; register_fits = z.register_fits; place_fits = omega arith; saved_fits = z.place_fits; rom_size = z.rom_size; ram_size = z.ram_size }

-- what can be seen of a core that its image tells whole
module _ (s : State) (whole : core_of (image_of s) ≡ s) where
  pub place_seen : place_in (image_of s) ≡ s.place
  unfolding core_of
  place_seen = ap (λ (t : State). t.place) whole

  pub stopped_seen : stopped_in (image_of s) ≡ s.stopped
  unfolding core_of
  stopped_seen = ap (λ (t : State). t.stopped) whole

  pub enabled_seen : enabled_in (image_of s) ≡ s.enabled
  unfolding core_of
  enabled_seen = ap (λ (t : State). t.enabled) whole

  pub lamp_seen : lamp_in (image_of s) ≡ s.bus.lamp
  unfolding core_of
  lamp_seen = ap (λ (t : State). t.bus.lamp) whole

  -- the sizes of its parts
  sizes_seen : lawful (image_of s) ≡ true → Sized s
  sizes_seen h = subst Sized whole (core_sized (image_of s) h)

  -- a step of a running core
  pub next_seen : next (image_of s) ≡ image_of (stepped s)
  unfolding next
  next_seen = ap (λ (u : State). image_of (stepped u)) whole

  pub moves_seen : moves (image_of s) ≡ transfers s
  unfolding moves
  moves_seen = ap transfers whole

  pub next_sound : lawful (image_of s) ≡ true → lawful (image_of (stepped s)) ≡ true
  next_sound h = ap lawful (sym next_seen) ∙ next_lawful (image_of s) h

  -- an event
  pub taken_seen : (e : Event) → taken e (image_of s) ≡ image_of (interrupted e s)
  unfolding taken
  taken_seen e = ap (λ (u : State). image_of (interrupted e u)) whole

  pub taken_sound : (e : Event) → Fits e → lawful (image_of s) ≡ true → lawful (image_of (interrupted e s)) ≡ true
  taken_sound e f h = ap lawful (sym (taken_seen e)) ∙ taken_lawful (image_of s) e f h

  pub taken_whole : (e : Event) → lawful (image_of s) ≡ true → core_of (image_of (interrupted e s)) ≡ interrupted e s
  taken_whole e h = core_told (interrupted e s) (sizes_kept s e (sizes_seen h))
