-- The laws of the kind.
use Rattle.std.specs.Prelude.{◌≡◌, ℕ, ◌+◌, ◌%◌, ◌^◌, ◌<◌, Bool, true, false, not, ◌&&◌, ◌||◌, List, [], ◌∷◌, ◌++◌, length, drop, ◌==◌, slice_index, slice_index_or, refl}
use Rattle.std.proofs.Common.{ap, ◌∙◌, arith, length-append, length-take, length-drop}
use Rattle.std.proofs.lemmas.Bool.Decides.{nat_tests}
use Rattle.std.proofs.lemmas.Bool.{and_parts, and_from, and_right, eqb-true, eq-eqb, ltb-true, lt-ltb, not-false}
use Rattle.machine.specs.declared.Event.{Event}
use Rattle.machine.specs.Kinds.{Fits, Rises, ImageLaws}
use Rattle.rv32i_core.specs.declared.state.State.{State}
use Rattle.rv32i_core.specs.Words.{truth}
use Rattle.rv32i_core.specs.Execution.{stepped, elsewhere}
use Rattle.rv32i.specs.Images.{high_first, words, image_of, word_in, words_in, place_in, saved_in, core_of, aligned, flag, bytes, well_formed, offending, lawful, blank, stopped_in, enabled_in}
use Rattle.rv32i.specs.Guest.{next, moves, taken, rv32i}
use Rattle.rv32i.specs.Events.{interrupted}
use Rattle.rv32i.specs.Bytes.{byte_at, bytes_append, bytes_take, bytes_drop, bytes_four, bytes_word, bytes_words}
use Rattle.rv32i.specs.ImagesLemmas.{front_length, byte_behind, place_told, saved_told, image_told}
use Rattle.rv32i.specs.Soundness.{Sound, on_stepped, on_interrupted}

-- what a lawful image is
pub record Lawful (i : List ℕ) : Type 0 where
  pub long : length i ≡ 4232
  pub all_bytes : bytes i ≡ true
  pub place_aligned : place_in i % 4 ≡ 0
  pub saved_aligned : saved_in i % 4 ≡ 0
  pub enabled_flag : slice_index_or i 132 0 < 2
  pub stopped_flag : slice_index_or i 133 0 < 2

pub from_lawful : (i : List ℕ) → lawful i ≡ true → Lawful i
unfolding lawful
from_lawful i h =
    let a = and_parts (length i == 4232) (bytes i && well_formed i) h in
    let b = and_parts (bytes i) (well_formed i) a.1 in
    let c = and_parts (aligned (place_in i)) (aligned (saved_in i) && (flag (slice_index i 132) && flag (slice_index i 133))) b.1 in
    let d = and_parts (aligned (saved_in i)) (flag (slice_index i 132) && flag (slice_index i 133)) c.1 in
    let e = and_parts (flag (slice_index i 132)) (flag (slice_index i 133)) d.1 in
    record {
      long = eqb-true (length i) 4232 a.0;
      all_bytes = b.0;
      place_aligned = eqb-true (place_in i % 4) 0 c.0;
      saved_aligned = eqb-true (saved_in i % 4) 0 d.0;
      enabled_flag = ltb-true (slice_index i 132) 2 e.0;
      stopped_flag = ltb-true (slice_index i 133) 2 e.1;
    }

pub to_lawful : (i : List ℕ) → Lawful i → lawful i ≡ true
unfolding lawful
to_lawful i l =
    let e = and_from (flag (slice_index i 132)) (flag (slice_index i 133)) (lt-ltb (slice_index i 132) 2 l.enabled_flag) (lt-ltb (slice_index i 133) 2 l.stopped_flag) in
    let d = and_from (aligned (saved_in i)) (flag (slice_index i 132) && flag (slice_index i 133)) (eq-eqb (saved_in i % 4) 0 l.saved_aligned) e in
    let c = and_from (aligned (place_in i)) (aligned (saved_in i) && (flag (slice_index i 132) && flag (slice_index i 133))) (eq-eqb (place_in i % 4) 0 l.place_aligned) d in
    let b = and_from (bytes i) (well_formed i) l.all_bytes c in
    and_from (length i == 4232) (bytes i && well_formed i) (eq-eqb (length i) 4232 l.long) b

-- a word of bytes fits 32 bits
pub word_fits : (i : List ℕ) (k : ℕ) → ((j : ℕ) → slice_index i j < 256) → word_in i k < 2 ^ 32
word_fits i k f =
    let a = f k in
    let b = f (k + 1) in
    let c = f (k + 2) in
    let d = f (k + 3) in
    omega arith

-- the core of a lawful image is sound
pub core_sound : (i : List ℕ) → Lawful i → Sound (core_of i)
unfolding core_of words_in
core_sound i l =
    let f = byte_at i l.all_bytes in
    let n = l.long in
    record {
      count = refl;
      place_fits = word_fits i 124 f;
      place_aligned = l.place_aligned;
      saved_fits = word_fits i 128 f;
      saved_aligned = l.saved_aligned;
      bus_sound =
          record {
            rom_size = simp (length-take, length-drop) (omega arith);
            rom_bytes = bytes_take 2048 (drop 136 i) (bytes_drop 136 i l.all_bytes);
            ram_size = simp (length-take, length-drop) (omega arith);
            ram_bytes = bytes_take 2048 (drop 2184 i) (bytes_drop 2184 i l.all_bytes);
            lamp_byte = f 134;
            switch_byte = f 135;
          };
    }

-- the image of a sound core is lawful
truth_small : (n : ℕ) (b : Bool) → n ≡ truth b → n < 2
truth_small n true e = omega arith
truth_small n false e = omega arith

truth_byte : (b : Bool) → truth b < 256
truth_byte true = omega arith
truth_byte false = omega arith

image_long : (s : State) → Sound s → length (image_of s) ≡ 4232
unfolding image_of
image_long s h =
    let A = words s.registers.x in
    let M : List ℕ = s.bus.rom ++ s.bus.ram in
    let l = front_length s h.count in
    let m = length-append s.bus.rom s.bus.ram in
    let e = length-append A (high_first s.place ++ (high_first s.saved ++ ((truth s.enabled ∷ truth s.stopped ∷ s.bus.lamp ∷ s.bus.switch ∷ []) ++ M))) in
    omega (arith, h.bus_sound.rom_size, h.bus_sound.ram_size)

image_bytes : (s : State) → Sound s → bytes (image_of s) ≡ true
unfolding image_of
image_bytes s h =
    let b = h.bus_sound in
    let M : List ℕ = s.bus.rom ++ s.bus.ram in
    let F : List ℕ = truth s.enabled ∷ truth s.stopped ∷ s.bus.lamp ∷ s.bus.switch ∷ [] in
    let m : bytes M ≡ true = bytes_append s.bus.rom s.bus.ram b.rom_bytes b.ram_bytes in
    let f : bytes F ≡ true =
    bytes_four (truth s.enabled) (truth s.stopped) s.bus.lamp s.bus.switch (truth_byte s.enabled) (truth_byte s.stopped) b.lamp_byte b.switch_byte in
    let v = bytes_append (high_first s.saved) (F ++ M) (bytes_word s.saved) (bytes_append F M f m) in
    let p = bytes_append (high_first s.place) (high_first s.saved ++ (F ++ M)) (bytes_word s.place) v in
    bytes_append (words s.registers.x) (high_first s.place ++ (high_first s.saved ++ (F ++ M))) (bytes_words s.registers.x) p

pub image_lawful : (s : State) → Sound s → lawful (image_of s) ≡ true
image_lawful s h =
    to_lawful (image_of s)
    (record {
      long = image_long s h;
      all_bytes = image_bytes s h;
      place_aligned = ap (λ n. n % 4) (place_told s h.count h.place_fits) ∙ h.place_aligned;
      saved_aligned = ap (λ n. n % 4) (saved_told s h.count h.saved_fits) ∙ h.saved_aligned;
      enabled_flag = truth_small (slice_index (image_of s) 132) s.enabled (byte_behind s h.count 8 132 refl);
      stopped_flag = truth_small (slice_index (image_of s) 133) s.stopped (byte_behind s h.count 9 133 refl);
    })

pub next_lawful : (i : List ℕ) → lawful i ≡ true → lawful (next i) ≡ true
unfolding next
next_lawful i h = image_lawful (stepped (core_of i)) (on_stepped (core_of i) (core_sound i (from_lawful i h)))

pub taken_lawful : (i : List ℕ) (e : Event) → Fits e → lawful i ≡ true → lawful (taken e i) ≡ true
unfolding taken
taken_lawful i e f h = image_lawful (interrupted e (core_of i)) (on_interrupted (core_of i) e f (core_sound i (from_lawful i h)))

-- a stopped guest is ready for no event
unready : (a b : Bool) → b ≡ true → (a && not b) ≡ false
unready a b h = and_right a (not b) (ap not h)

offends_inside : (i : List ℕ) → offending i < 4232
offends_inside i = grind (arith, nat_tests)

pub laws : ImageLaws rv32i
unfolding lawful blank
laws =
    record {
      size_low = omega arith;
      size_high = omega arith;
      guest_fits = omega arith;
      blank_lawful = refl;
      length_is = λ i h. (from_lawful i h).long;
      bytes_are = λ i h k l. byte_at i (from_lawful i h).all_bytes k;
      offends = λ i l b h. offends_inside i;
      place_fits = λ i h. word_fits i 124 (byte_at i (from_lawful i h).all_bytes);
      lamp_fits = λ i h. byte_at i (from_lawful i h).all_bytes 134;
      stopped_unready = λ i e f h s. unready (enabled_in i) (stopped_in i) s;
      next_lawful = λ i h r. next_lawful i h;
      taken_lawful = λ i e f h r. taken_lawful i e f h;
    }

-- no transfer: the next instruction, reckoned without wrap
or_right : (a b : Bool) → (a || b) ≡ false → b ≡ false
or_right true b h = cc
or_right false b h = h

just_past : (p : ℕ) (t : State) → elsewhere p t ≡ false → t.place ≡ p + 4
just_past p t h = eqb-true t.place (p + 4) (not-false (t.place == p + 4) (or_right t.stopped (not (t.place == p + 4)) h))

pub rises : Rises rv32i
unfolding next moves core_of
rises i h r m =
    let c = core_of i in
    let z = on_stepped c (core_sound i (from_lawful i h)) in
    let p : place_in (image_of (stepped c)) ≡ (stepped c).place = place_told (stepped c) z.count z.place_fits in
    let q : (stepped c).place ≡ place_in i + 4 = just_past (place_in i) (stepped c) m in
    omega arith

-- a lawful image is the image of its core
pub image_back : (i : List ℕ) → lawful i ≡ true → image_of (core_of i) ≡ i
image_back i h =
    let l = from_lawful i h in
    image_told i (byte_at i l.all_bytes) l.long l.enabled_flag l.stopped_flag
