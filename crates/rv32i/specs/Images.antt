-- The image of a core: a list of 4,232 bytes.
use Rattle.std.specs.Prelude.{◌≡◌, ℕ, ◌+◌, ◌*◌, ◌/◌, ◌%◌, ◌^◌, ◌<◌, Bool, cond, not, ◌&&◌, List, [], ◌∷◌, ◌++◌, map, length, take, drop, replicate, ◌==◌, nat_lt, slice_index}
use Rattle.std.specs.List.{list_all, range_with_len}
use Rattle.rv32i_core.specs.declared.state.State.{State}
use Rattle.rv32i_core.specs.Words.{truth}

-- a word as four bytes, the high one first
abbrev pub high_first : ℕ → List ℕ
high_first w = (w / 2 ^ 24 % 2 ^ 8) ∷ (w / 2 ^ 16 % 2 ^ 8) ∷ (w / 2 ^ 8 % 2 ^ 8) ∷ (w % 2 ^ 8) ∷ []

abbrev pub words : List ℕ → List ℕ
words [] = []
words (w ∷ ws) = high_first w ++ words ws

-- x1 to x31, place, saved place, enabled, stopped, lamp, switch, ROM, RAM
unfoldable pub image_of : State → List ℕ
image_of s =
    words s.registers.x
    ++ (high_first s.place
    ++ (high_first s.saved
    ++ ((truth s.enabled ∷ truth s.stopped ∷ s.bus.lamp ∷ s.bus.switch ∷ [])
    ++ (s.bus.rom ++ s.bus.ram))))

-- the word at an offset
abbrev pub word_in : List ℕ → ℕ → ℕ
word_in i k = slice_index i k * 2 ^ 24 + slice_index i (k + 1) * 2 ^ 16 + slice_index i (k + 2) * 2 ^ 8 + slice_index i (k + 3)

-- the first n words
unfoldable pub words_in : ℕ → List ℕ → List ℕ
words_in n i = map (λ k. word_in i (4 * k)) (range_with_len 0 n)

abbrev pub place_in : List ℕ → ℕ
place_in i = word_in i 124

abbrev pub saved_in : List ℕ → ℕ
saved_in i = word_in i 128

abbrev pub enabled_in : List ℕ → Bool
enabled_in i = slice_index i 132 == 1

abbrev pub stopped_in : List ℕ → Bool
stopped_in i = slice_index i 133 == 1

abbrev pub lamp_in : List ℕ → ℕ
lamp_in i = slice_index i 134

-- the core of an image
unfoldable pub core_of : List ℕ → State
core_of i =
    record {
      registers = record { x = words_in 31 i };
      place = place_in i;
      saved = saved_in i;
      enabled = enabled_in i;
      stopped = stopped_in i;
      bus = record { rom = take 2048 (drop 136 i); ram = take 2048 (drop 2184 i); lamp = lamp_in i; switch = slice_index i 135 };
    }

-- a place is a multiple of 4, and a flag is 0 or 1
abbrev pub aligned : ℕ → Bool
aligned p = p % 4 == 0

abbrev pub flag : ℕ → Bool
flag b = nat_lt b 2

-- the first offset that offends
abbrev pub offending : List ℕ → ℕ
offending i =
    cond (not (aligned (place_in i))) 124
    (cond (not (aligned (saved_in i))) 128
    (cond (not (flag (slice_index i 132))) 132 133))

abbrev pub bytes : List ℕ → Bool
bytes bs = list_all (λ b. nat_lt b 256) bs

abbrev pub well_formed : List ℕ → Bool
well_formed i = aligned (place_in i) && (aligned (saved_in i) && (flag (slice_index i 132) && flag (slice_index i 133)))

unfoldable pub lawful : List ℕ → Bool
lawful i = length i == 4232 && (bytes i && well_formed i)

-- all bytes are 0 but enabled
unfoldable pub blank : List ℕ
blank = replicate 132 0 ++ (1 ∷ replicate 4099 0)

-- what the types of a core's parts say of their sizes
pub record Sized (s : State) : Type 0 where
  pub register_count : length s.registers.x ≡ 31
  pub register_fits : (k : ℕ) → slice_index s.registers.x k < 2 ^ 32
  pub place_fits : s.place < 2 ^ 32
  pub saved_fits : s.saved < 2 ^ 32
  pub rom_size : length s.bus.rom ≡ 2048
  pub ram_size : length s.bus.ram ≡ 2048
