-- The parts of an image, cut from its front on.
use Rattle.std.specs.Prelude.{◌≡◌, ℕ, List, length, take, drop, slice_index}
use Rattle.rv32i.specs.declared.image.Parts.{Parts}
use Rattle.rv32i.specs.Images.{word_in, place_in, saved_in, lamp_in}

pub record PartsIn (i : List ℕ) (p : Parts) : Type 0 where
  pub long : length i ≡ 4232
  pub registers : p.registers.now ≡ take 124 i
  pub place : word_in p.place 0 ≡ place_in i
  pub saved : word_in p.saved 0 ≡ saved_in i
  pub enabled : p.enabled ≡ slice_index i 132
  pub stopped : p.stopped ≡ slice_index i 133
  pub lamp : p.lamp ≡ lamp_in i
  pub switch : p.switch ≡ slice_index i 135
  pub rom : p.rom.now ≡ take 2048 (drop 136 i)
  pub ram : p.ram.now ≡ take 2048 (drop 2184 i)
