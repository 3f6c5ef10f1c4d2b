-- The processor and its image: each gives the other back, and what is in range has a lawful image.
use Rattle.std.specs.Prelude.{◌≡◌, ℕ, zero, suc, ◌/◌, ◌%◌, ◌<◌, Bool, true, false, ◌&&◌, List, ◌∷◌, ◌++◌, length, drop, ◌==◌, nat_eq, nat_lt, slice_index, slice_index_or, refl}
use Rattle.std.proofs.Common.{ap, subst, ◌∙◌, ⊎_elim, arith, lit<, length-append, drop-cons}
use Rattle.std.proofs.lemmas.Nat.{div-mul-add, mod-mul-add, div-add-mod'}
use Rattle.std.proofs.lemmas.List.{take-append-drop, drop-drop, take_at, drop_at, length-take, length-drop}
use Rattle.std.proofs.lemmas.List.Elements.{All-weaker, All-from_recursion, All-append, All-take, All-drop}
use Rattle.std.proofs.lemmas.List.Sums.{AllPass-from_list_all, list_all-from_AllPass}
use Rattle.std.proofs.lemmas.Bool.{and_parts, and_from, eqb-true, eq-eqb, ltb-true, lt-ltb, cases_Bool}
use Rattle.mos6502_parts.specs.declared.flags.Flags.{Flags}
use Rattle.mos6502_parts.specs.Flags.{bit, flag_byte, flags_of}
use Rattle.mos6502_core.specs.declared.cpu.Cpu.{Cpu}
use Rattle.mos6502_core.proofs.Keeps.{Sound, AllBytes, byte_in, bit_small, flag_byte_small}
use Rattle.mos6502.specs.Images.{head_of, image_of, cpu_of, lawful_flags, lawful_stopped, all_bytes, lawful_image}

-- bits

bit_back : (b : Bool) → (bit b == 1) ≡ b
bit_back true = refl
bit_back false = refl

bit_of : (n : ℕ) → n < 2 → bit (n == 1) ≡ n
bit_of zero h = refl
bit_of (suc zero) h = refl
bit_of (suc (suc n)) h = omega arith

-- the flags and their byte

flag_back : (n : ℕ) (b : Bool) → n ≡ bit b → (n == 1) ≡ b
flag_back n b e = ap (λ (k : ℕ). nat_eq k 1) e ∙ bit_back b

flags_back : (p : Flags) → flags_of (flag_byte p) ≡ p
flags_back p =
    let n = flag_back (flag_byte p / 128 % 2) p.n (omega (arith, bit_small)) in
    let v = flag_back (flag_byte p / 64 % 2) p.v (omega (arith, bit_small)) in
    let d = flag_back (flag_byte p / 8 % 2) p.d (omega (arith, bit_small)) in
    let i = flag_back (flag_byte p / 4 % 2) p.i (omega (arith, bit_small)) in
    let z = flag_back (flag_byte p / 2 % 2) p.z (omega (arith, bit_small)) in
    let c = flag_back (flag_byte p / 1 % 2) p.c (omega (arith, bit_small)) in
    λ k. record { n = n k; v = v k; d = d k; i = i k; z = z k; c = c k }

flag_byte_lawful : (p : Flags) → flag_byte p / 16 % 4 ≡ 2
flag_byte_lawful p = omega (arith, bit_small)

byte_back : (v : ℕ) → v < 256 → v / 16 % 4 ≡ 2 → flag_byte (flags_of v) ≡ v
byte_back v h f =
    rw (
      bit_of (v / 128 % 2) (omega arith),
      bit_of (v / 64 % 2) (omega arith),
      bit_of (v / 8 % 2) (omega arith),
      bit_of (v / 4 % 2) (omega arith),
      bit_of (v / 2 % 2) (omega arith),
      bit_of (v / 1 % 2) (omega arith),
    )
    (omega arith)

-- from the processor to its image and back

pub cpu_image : (m : Cpu) → length m.memory.ram ≡ 2048 → cpu_of (image_of m) ≡ m
unfolding image_of cpu_of
cpu_image m h =
    rw (
      flags_back m.p,
      div-add-mod' m.place 256,
      bit_back m.stopped,
      take_at m.memory.ram m.memory.rom 2048 h,
      drop_at m.memory.ram m.memory.rom 2048 h,
    )

-- what a lawful image is

pub record Lawful (i : List ℕ) : Type 0 where
  pub long : length i ≡ 4106
  pub bytes : AllBytes i
  pub flags : slice_index_or i 4 0 / 16 % 4 ≡ 2
  pub stops : slice_index_or i 7 0 < 2

all_from : (xs : List ℕ) → all_bytes xs ≡ true → AllBytes xs
all_from xs e = All-weaker (λ n. nat_lt n 256 ≡ true) (λ n. n < 256) (λ n. ltb-true n 256) xs (AllPass-from_list_all (λ n. nat_lt n 256) xs e)

all_true : (xs : List ℕ) → AllBytes xs → all_bytes xs ≡ true
all_true xs h = list_all-from_AllPass (λ n. nat_lt n 256) xs (All-weaker (λ n. n < 256) (λ n. nat_lt n 256 ≡ true) (λ n. lt-ltb n 256) xs h)

pub lawful_parts : (i : List ℕ) → lawful_image i ≡ true → Lawful i
unfolding lawful_image
lawful_parts i e =
    let rest = lawful_flags (slice_index i 4) && lawful_stopped (slice_index i 7) in
    let outer = and_parts (length i == 4106) (all_bytes i && rest) e in
    let inner = and_parts (all_bytes i) rest outer.1 in
    let last = and_parts (lawful_flags (slice_index i 4)) (lawful_stopped (slice_index i 7)) inner.1 in
    record {
      long = eqb-true (length i) 4106 outer.0;
      bytes = all_from i inner.0;
      flags = eqb-true (slice_index i 4 / 16 % 4) 2 last.0;
      stops = ltb-true (slice_index i 7) 2 last.1;
    }

pub lawful_from : (i : List ℕ) → Lawful i → lawful_image i ≡ true
unfolding lawful_image
lawful_from i w =
    and_from (length i == 4106) _ (eq-eqb (length i) 4106 w.long)
    (and_from (all_bytes i) _ (all_true i w.bytes)
    (and_from (lawful_flags (slice_index i 4)) (lawful_stopped (slice_index i 7)) (eq-eqb (slice_index i 4 / 16 % 4) 2 w.flags) (lt-ltb (slice_index i 7) 2 w.stops)))

-- from an image to its processor and back

cell : (i : List ℕ) (k : ℕ) → length i ≡ 4106 → k < 10 → drop k i ≡ slice_index i k ∷ drop (suc k) i
cell i k l h = drop-cons i k 0 (omega arith)

front : (i : List ℕ) → length i ≡ 4106
    → slice_index i 0 ∷ slice_index i 1 ∷ slice_index i 2 ∷ slice_index i 3 ∷ slice_index i 4 ∷ slice_index i 5 ∷ slice_index i 6 ∷ slice_index i 7 ∷ slice_index i 8 ∷ slice_index i 9 ∷ drop 10 i
    ≡ i
front i l =
    rw (
      ← cell i 9 l (lit< tt),
      ← cell i 8 l (lit< tt),
      ← cell i 7 l (lit< tt),
      ← cell i 6 l (lit< tt),
      ← cell i 5 l (lit< tt),
      ← cell i 4 l (lit< tt),
      ← cell i 3 l (lit< tt),
      ← cell i 2 l (lit< tt),
      ← cell i 1 l (lit< tt),
      ← cell i 0 l (lit< tt),
    )

pub image_cpu : (i : List ℕ) → Lawful i → image_of (cpu_of i) ≡ i
unfolding image_of cpu_of
image_cpu i w =
    let low : slice_index_or i 6 0 < 256 = byte_in i 6 w.bytes in
    rw (
      byte_back (slice_index i 4) (byte_in i 4 w.bytes) w.flags,
      div-mul-add (slice_index i 5) 256 (slice_index i 6) low,
      mod-mul-add (slice_index i 5) 256 (slice_index i 6) low,
      bit_of (slice_index i 7) w.stops,
      ← drop-drop 2048 10 i,
      take-append-drop 2048 (drop 10 i),
    )
    (front i w.long)

-- a processor in range has a lawful image, and a lawful image holds a processor in range

head_bytes : (m : Cpu) → Sound m → AllBytes (head_of m)
head_bytes m h =
    let p : flag_byte m.p < 256 = omega (arith, flag_byte_small) in
    let high : m.place / 256 < 256 = omega (arith, h.place) in
    let low : m.place % 256 < 256 = omega arith in
    let stop : bit m.stopped < 256 = omega (arith, bit_small) in
    All-from_recursion (λ n. n < 256) (head_of m) (h.a, (h.x, (h.y, (h.s, (p, (high, (low, (stop, (h.memory.lamp, (h.memory.switch, tt))))))))))

image_lawful : (m : Cpu) → Sound m → Lawful (image_of m)
unfolding image_of
image_lawful m h =
    record {
      long = let a = h.memory.ram in let o = h.memory.rom in simp length-append (omega arith);
      bytes =
          let byte : ℕ → Type 0 = λ n. n < 256 in
          All-append byte (head_of m) (m.memory.ram ++ m.memory.rom) (head_bytes m h)
          (All-append byte m.memory.ram m.memory.rom h.memory.ram_bytes h.memory.rom_bytes);
      flags = flag_byte_lawful m.p;
      stops = bit_small m.stopped;
    }

pub sound_image : (m : Cpu) → Sound m → lawful_image (image_of m) ≡ true
sound_image m h = lawful_from (image_of m) (image_lawful m h)

pub cpu_sound : (i : List ℕ) → Lawful i → Sound (cpu_of i)
unfolding cpu_of
cpu_sound i w =
    let f : (k : ℕ) → slice_index_or i k 0 < 256 = λ k. byte_in i k w.bytes in
    let l = w.long in
    record {
      a = f 0;
      x = f 1;
      y = f 2;
      s = f 3;
      place = omega (arith, f 5, f 6);
      memory =
          record {
            lamp = f 8;
            switch = f 9;
            ram = simp (length-take, length-drop) (omega arith);
            rom = simp length-drop (omega arith);
            ram_bytes = All-take (λ n. n < 256) 2048 (drop 10 i) (All-drop (λ n. n < 256) 10 i w.bytes);
            rom_bytes = All-drop (λ n. n < 256) 2058 i w.bytes;
          };
    }

-- what is known of every machine makes its processor one in range
pub sound_from : (m : Cpu) → lawful_image (image_of m) ≡ true → length m.memory.ram ≡ 2048 → Sound m
sound_from m e l = subst Sound (cpu_image m l) (cpu_sound (image_of m) (lawful_parts (image_of m) e))

-- what is no lawful image
pub unlawful : (i : List ℕ) → (Lawful i → ⊥) → lawful_image i ≡ false
unlawful i refuted = ⊎_elim (λ e. absurd (refuted (lawful_parts i e))) (λ e. e) (cases_Bool (lawful_image i))
