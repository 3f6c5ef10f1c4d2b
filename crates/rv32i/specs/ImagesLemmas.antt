-- Images and cores are each other's inverse.
use Rattle.std.specs.Prelude.{◌≡◌, ℕ, zero, suc, ◌+◌, ◌*◌, ◌/◌, ◌%◌, ◌^◌, ◌<◌, ◌≤◌, Bool, true, false, List, [], ◌∷◌, ◌++◌, map, length, take, drop, ◌==◌, nat_eq, slice_index, slice_index_or}
use Rattle.std.proofs.Math.Path.{refl, sym, ap}
use Rattle.std.proofs.Common.{◌∙◌}
use mathlib.Core.List.{append_assoc}
use native.Mathlib.Omega.{arith}
use Rattle.std.proofs.Math.ListN.{length-drop}
use Rattle.std.specs.List.{range_with_len}
use Rattle.std.proofs.lemmas.Bool.Decides.{nat_tests}
use Rattle.std.proofs.lemmas.Nat.{shr-shr, div-add-mod'}
use Rattle.std.proofs.lemmas.List.{take_at, drop_at, drop-drop, get_or-append-add, drop_more, take-append-drop, take_all}
use Rattle.std.proofs.lemmas.List.FromFn.{fill_by_all, map-range_with_len_more}
use Rattle.rv32i_core.specs.declared.state.State.{State}
use Rattle.rv32i_core.specs.Words.{truth}
use Rattle.rv32i.specs.Images.{high_first, words, image_of, word_in, words_in, place_in, saved_in, core_of, Sized}

-- words one after the other
pub length_words : (ws : List ℕ) → length (words ws) ≡ 4 * length ws
length_words [] = refl
length_words (w ∷ ws) = let h = length_words ws in omega arith

pub words_push : (ws : List ℕ) (w : ℕ) → words (ws ++ w ∷ []) ≡ words ws ++ high_first w
words_push [] w = refl
words_push (v ∷ ws) w = ap (λ l. high_first v ++ l) (words_push ws w)

-- a word from its four bytes
by_parts : (q₃ q₂ q₁ r₃ r₂ r₁ r₀ w : ℕ) → q₂ * 256 + r₁ ≡ q₁ → q₃ * 256 + r₂ ≡ q₂ → q₁ * 256 + r₀ ≡ w → r₃ ≡ q₃
    → r₃ * 16777216 + r₂ * 65536 + r₁ * 256 + r₀ ≡ w
by_parts q₃ q₂ q₁ r₃ r₂ r₁ r₀ w a b c d = omega arith

word_first : (w : ℕ) (rest : List ℕ) → w < 2 ^ 32 → word_in (high_first w ++ rest) 0 ≡ w
word_first w rest h =
    let a : w / 65536 * 256 + w / 256 % 256 ≡ w / 256 = rw (shr-shr w 8 8) at (div-add-mod' (w / 256) 256) in
    let b : w / 16777216 * 256 + w / 65536 % 256 ≡ w / 65536 = rw (shr-shr w 16 8) at (div-add-mod' (w / 65536) 256) in
    let c : w / 256 * 256 + w % 256 ≡ w = div-add-mod' w 256 in
    let d : w / 16777216 % 256 ≡ w / 16777216 = omega arith in
    by_parts (w / 16777216) (w / 65536) (w / 256) (w / 16777216 % 256) (w / 65536 % 256) (w / 256 % 256) (w % 256) w a b c d

word_after : (A R : List ℕ) (n k i : ℕ) → length A ≡ n → n + k ≡ i → word_in (A ++ R) i ≡ word_in R k
word_after A R n k i l e =
    let at : (j m : ℕ) → i + j ≡ m → slice_index (A ++ R) m ≡ slice_index_or R (k + j) 0 =
    λ j m h. ap (λ m. slice_index (A ++ R) m) (omega arith) ∙ get_or-append-add A R (k + j) 0 in
    let a : slice_index_or (A ++ R) i 0 ≡ slice_index_or R k 0 = ap (λ m. slice_index (A ++ R) m) (omega arith) ∙ get_or-append-add A R k 0 in
    cc (at 1 (i + 1) refl, at 2 (i + 2) refl, at 3 (i + 3) refl)

word_among : (ws R : List ℕ) (k : ℕ) → k < length ws → ((j : ℕ) → slice_index ws j < 2 ^ 32) → word_in (words ws ++ R) (4 * k) ≡ slice_index ws k
word_among [] R k h f = omega arith
word_among (w ∷ ws) R zero h f = word_first w (words ws ++ R) (f 0)
word_among (w ∷ ws) R (suc k) h f =
    word_after (high_first w) (words ws ++ R) 4 (4 * k) (4 * suc k) refl (omega arith)
    ∙ word_among ws R k (omega arith) (λ j. f (suc j))

pub words_all : (xs bs : List ℕ) (n : ℕ) → length xs ≡ n → ((k : ℕ) → k < n → slice_index xs k ≡ word_in bs (4 * k)) → xs ≡ words_in n bs
unfolding words_in
words_all xs bs n l f = fill_by_all (λ k. word_in bs (4 * k)) xs n 0 l f

truth_is : (b : Bool) → (truth b == 1) ≡ b
truth_is true = refl
truth_is false = refl

-- what stands behind the registers
abbrev memory : State → List ℕ
memory s = s.bus.rom ++ s.bus.ram

abbrev flags : State → List ℕ
flags s = truth s.enabled ∷ truth s.stopped ∷ s.bus.lamp ∷ s.bus.switch ∷ memory s

abbrev behind : State → List ℕ
behind s = high_first s.place ++ (high_first s.saved ++ flags s)

-- the parts of an image that are told by 31 registers in front of them
module _ (s : State) (count : length s.registers.x ≡ 31) where
  pub front_length : length (words s.registers.x) ≡ 124
  front_length = length_words s.registers.x ∙ ap (λ n. 4 * n) count

  pub byte_behind : (k i : ℕ) → 124 + k ≡ i → slice_index (image_of s) i ≡ slice_index (behind s) k
  unfolding image_of
  byte_behind k i h =
      let l = front_length in
      ap (λ m. slice_index (words s.registers.x ++ behind s) m) (omega arith) ∙ get_or-append-add (words s.registers.x) (behind s) k 0

  pub place_told : s.place < 2 ^ 32 → place_in (image_of s) ≡ s.place
  unfolding image_of
  place_told h =
      word_after (words s.registers.x) (behind s) 124 0 124 front_length refl
      ∙ word_first s.place (high_first s.saved ++ flags s) h

  pub saved_told : s.saved < 2 ^ 32 → saved_in (image_of s) ≡ s.saved
  unfolding image_of
  saved_told h = word_after (words s.registers.x) (behind s) 124 4 128 front_length refl ∙ word_first s.saved (flags s) h

  pub drop_told : drop 136 (image_of s) ≡ memory s
  unfolding image_of
  drop_told =
      sym (drop-drop 12 124 (words s.registers.x ++ behind s))
      ∙ ap (drop 12) (drop_at (words s.registers.x) (behind s) 124 front_length)

registers_told : (s : State) → Sized s → words_in 31 (image_of s) ≡ s.registers.x
unfolding image_of
registers_told s z =
    let x = s.registers.x in
    sym (words_all x (words x ++ behind s) 31 z.register_count (λ k h. sym (word_among x (behind s) k (omega (arith, z.register_count)) z.register_fits)))

pub core_told : (s : State) → Sized s → core_of (image_of s) ≡ s
unfolding core_of
core_told s z =
    let n = z.register_count in
    let i = image_of s in
    let xs = registers_told s z in
    let p = place_told s n z.place_fits in
    let q = saved_told s n z.saved_fits in
    let en : nat_eq (slice_index i 132) 1 ≡ s.enabled = ap (λ n. nat_eq n 1) (byte_behind s n 8 132 refl) ∙ truth_is s.enabled in
    let st : nat_eq (slice_index i 133) 1 ≡ s.stopped = ap (λ n. nat_eq n 1) (byte_behind s n 9 133 refl) ∙ truth_is s.stopped in
    let la : slice_index_or i 134 0 ≡ s.bus.lamp = byte_behind s n 10 134 refl in
    let sw : slice_index_or i 135 0 ≡ s.bus.switch = byte_behind s n 11 135 refl in
    let d = drop_told s n in
    let ro : take 2048 (drop 136 i) ≡ s.bus.rom = ap (take 2048) d ∙ take_at s.bus.rom s.bus.ram 2048 z.rom_size in
    let rb : drop 2184 i ≡ s.bus.ram =
    sym (drop-drop 2048 136 i) ∙ ap (drop 2048) d ∙ drop_at s.bus.rom s.bus.ram 2048 z.rom_size in
    let ra : take 2048 (drop 2184 i) ≡ s.bus.ram = ap (take 2048) rb ∙ take_all 2048 s.bus.ram (omega (arith, z.ram_size)) in
    λ j. record {
      registers = record { x = xs j };
      place = p j;
      saved = q j;
      enabled = en j;
      stopped = st j;
      bus = record { rom = ro j; ram = ra j; lamp = la j; switch = sw j };
    }

-- and back
parts_first : (a b c d : ℕ) → a < 256 → b < 256 → c < 256 → d < 256 → high_first (a * 16777216 + b * 65536 + c * 256 + d) ≡ a ∷ b ∷ c ∷ d ∷ []
parts_first a b c d ha hb hc hd =
    let w = a * 16777216 + b * 65536 + c * 256 + d in
    let p : w / 16777216 % 256 ≡ a = omega arith in
    let q : w / 65536 % 256 ≡ b = omega arith in
    let r : w / 256 % 256 ≡ c = omega arith in
    let s : w % 256 ≡ d = omega arith in
    λ i. p i ∷ q i ∷ r i ∷ s i ∷ []

module _ (bs : List ℕ) (fits : (j : ℕ) → slice_index bs j < 256) where
  next_byte : (a b : ℕ) → a < length bs → a + 1 ≡ b → drop a bs ≡ slice_index bs a ∷ drop b bs
  next_byte a b h e = drop_more bs a 0 h ∙ ap (λ n. slice_index bs a ∷ drop n bs) e

  four : (i : ℕ) → i + 4 ≤ length bs
      → drop i bs ≡ (slice_index bs i ∷ slice_index bs (i + 1) ∷ slice_index bs (i + 2) ∷ slice_index bs (i + 3) ∷ []) ++ drop (i + 4) bs
  four i h =
      let d₀ = next_byte i (i + 1) (omega arith) refl in
      let d₁ = next_byte (i + 1) (i + 2) (omega arith) (omega arith) in
      let d₂ = next_byte (i + 2) (i + 3) (omega arith) (omega arith) in
      let d₃ = next_byte (i + 3) (i + 4) (omega arith) (omega arith) in
      cc

  word_told : (i k : ℕ) → i + 4 ≡ k → k ≤ length bs → drop i bs ≡ high_first (word_in bs i) ++ drop k bs
  word_told i k e h =
      let f = four i (omega arith) in
      let p = parts_first (slice_index bs i) (slice_index bs (i + 1)) (slice_index bs (i + 2)) (slice_index bs (i + 3)) (fits i) (fits (i + 1)) (fits (i + 2)) (fits (i + 3)) in
      f ∙ ap (λ l. l ++ drop (i + 4) bs) (sym p) ∙ ap (λ n. high_first (word_in bs i) ++ drop n bs) e

  words_told : (n : ℕ) → 4 * n ≤ length bs → words (words_in n bs) ++ drop (4 * n) bs ≡ bs
  unfolding words_in
  words_told zero h = refl
  words_told (suc n) h =
      let f : ℕ → ℕ = λ k. word_in bs (4 * k) in
      let o : suc n ≡ n + 1 = omega arith in
      let m : words_in (suc n) bs ≡ words_in n bs ++ f n ∷ [] = ap (λ k. map f (range_with_len 0 k)) o ∙ map-range_with_len_more f 0 n n (omega arith) in
      let r : words (words_in (suc n) bs) ≡ words (words_in n bs) ++ high_first (f n) = ap words m ∙ words_push (words_in n bs) (f n) in
      let d : drop (4 * n) bs ≡ high_first (f n) ++ drop (4 * suc n) bs = word_told (4 * n) (4 * suc n) (omega arith) h in
      ap (λ l. l ++ drop (4 * suc n) bs) r ∙ append_assoc (words (words_in n bs)) (high_first (f n)) (drop (4 * suc n) bs)
      ∙ ap (λ l. words (words_in n bs) ++ l) (sym d) ∙ words_told n (omega arith)

  truth_of : (n : ℕ) → n < 2 → truth (n == 1) ≡ n
  truth_of n h = grind (arith, nat_tests)

  pub image_told : length bs ≡ 4232 → slice_index bs 132 < 2 → slice_index bs 133 < 2 → image_of (core_of bs) ≡ bs
  unfolding core_of image_of
  image_told l h₂ h₃ =
      let x : words (words_in 31 bs) ++ drop 124 bs ≡ bs = words_told 31 (omega arith) in
      let p : drop 124 bs ≡ high_first (word_in bs 124) ++ drop 128 bs = word_told 124 128 refl (omega arith) in
      let q : drop 128 bs ≡ high_first (word_in bs 128) ++ drop 132 bs = word_told 128 132 refl (omega arith) in
      let f : drop 132 bs ≡ (slice_index bs 132 ∷ slice_index bs 133 ∷ slice_index bs 134 ∷ slice_index bs 135 ∷ []) ++ drop 136 bs = four 132 (omega arith) in
      let e₂ = truth_of (slice_index bs 132) h₂ in
      let e₃ = truth_of (slice_index bs 133) h₃ in
      let m : take 2048 (drop 136 bs) ++ drop 2048 (drop 136 bs) ≡ drop 136 bs = take-append-drop 2048 (drop 136 bs) in
      let n : drop 2048 (drop 136 bs) ≡ drop 2184 bs = drop-drop 2048 136 bs in
      let k : take 2048 (drop 2184 bs) ≡ drop 2184 bs = take_all 2048 (drop 2184 bs) (simp length-drop (omega arith)) in
      cc
