-- What a check of bytes finds: the first thing wrong, or a lawful image.
use Rattle.std.proofs.Common.{◌≡◌, ℕ, ◌<◌, Bool, true, false, cond, not, ◌&&◌, eqb, List, length, take, drop, get_or, sym, ap, ◌∙◌}
use Rattle.std.specs.Prelude.{◌==◌}
use Rattle.std.proofs.lemmas.Bool.{and_left, and_right, and_from, eq-eqb, ne_eqb, cond-true, cond-false}
use Rattle.machine.specs.declared.GuestFault.{GuestFault}
use Rattle.machine.specs.declared.GuestFault.TheVariants.{WrongLength, Unlawful}
use Rattle.machine.specs.Faults.{load_fault}
use Rattle.rv32i_core.specs.declared.state.State.{State}
use Rattle.rv32i.specs.declared.image.Parts.{Parts}
use Rattle.rv32i.specs.Parts.{PartsIn}
use Rattle.rv32i.proofs.Cuts.{words_front}
use Rattle.rv32i.specs.Images.{core_of, word_in, words_in, place_in, saved_in, lamp_in, aligned, flag, bytes, well_formed, offending, lawful}
use Rattle.rv32i.specs.Guest.{rv32i}
use Rattle.rv32i.specs.Bytes.{bytes_from}

pub record Refused (i : List ℕ) (f : GuestFault) : Type 0 where
  pub verdict : lawful i ≡ false
  pub fault : f ≡ load_fault rv32i i

pub wrong_length : (i : List ℕ) → (length i ≡ 4232 → ⊥) → Refused i WrongLength
unfolding lawful
wrong_length i h =
    let e = ne_eqb (length i) 4232 h in
    record {
      verdict = and_left (eqb (length i) 4232) (bytes i && well_formed i) e;
      fault = sym (cond-false (eqb (length i) 4232) (Unlawful (offending i)) WrongLength e);
    }

-- an image that is not well-formed, with the offset that offends
unlawful : (i : List ℕ) (k : ℕ) → length i ≡ 4232 → well_formed i ≡ false → offending i ≡ k → Refused i (Unlawful k)
unfolding lawful
unlawful i k l w o =
    let e = eq-eqb (length i) 4232 l in
    record {
      verdict = and_right (eqb (length i) 4232) (bytes i && well_formed i) (and_right (bytes i) (well_formed i) w);
      fault = sym (cond-true (eqb (length i) 4232) (Unlawful (offending i)) WrongLength e ∙ ap Unlawful o);
    }

-- the four rules, and the first that is broken
abbrev rules : Bool → Bool → Bool → Bool → Bool
rules p q e s = p && (q && (e && s))

abbrev first_broken : Bool → Bool → Bool → ℕ
first_broken p q e = cond (not p) 124 (cond (not q) 128 (cond (not e) 132 133))

-- what each part of an image says of it
module _ (i : List ℕ) (p : Parts) (s : PartsIn i p) where
  place_is : (b : Bool) → aligned (word_in p.place 0) ≡ b → aligned (place_in i) ≡ b
  place_is b h = ap aligned (sym s.place) ∙ h

  saved_is : (b : Bool) → aligned (word_in p.saved 0) ≡ b → aligned (saved_in i) ≡ b
  saved_is b h = ap aligned (sym s.saved) ∙ h

  enabled_is : (b : Bool) → flag p.enabled ≡ b → flag (get_or i 132 0) ≡ b
  enabled_is b h = ap flag (sym s.enabled) ∙ h

  stopped_is : (b : Bool) → flag p.stopped ≡ b → flag (get_or i 133 0) ≡ b
  stopped_is b h = ap flag (sym s.stopped) ∙ h

  pub bad_place : aligned (word_in p.place 0) ≡ false → Refused i (Unlawful 124)
  bad_place h =
      let a = place_is false h in
      unlawful i 124 s.long (λ j. rules (a j) (aligned (saved_in i)) (flag (get_or i 132 0)) (flag (get_or i 133 0)))
      (λ j. first_broken (a j) (aligned (saved_in i)) (flag (get_or i 132 0)))

  pub bad_saved : aligned (word_in p.place 0) ≡ true → aligned (word_in p.saved 0) ≡ false → Refused i (Unlawful 128)
  bad_saved g h =
      let a = place_is true g in
      let b = saved_is false h in
      unlawful i 128 s.long (λ j. rules (a j) (b j) (flag (get_or i 132 0)) (flag (get_or i 133 0)))
      (λ j. first_broken (a j) (b j) (flag (get_or i 132 0)))

  pub bad_enabled : aligned (word_in p.place 0) ≡ true → aligned (word_in p.saved 0) ≡ true → flag p.enabled ≡ false → Refused i (Unlawful 132)
  bad_enabled f g h =
      let a = place_is true f in
      let b = saved_is true g in
      let c = enabled_is false h in
      unlawful i 132 s.long (λ j. rules (a j) (b j) (c j) (flag (get_or i 133 0))) (λ j. first_broken (a j) (b j) (c j))

  pub bad_stopped : aligned (word_in p.place 0) ≡ true → aligned (word_in p.saved 0) ≡ true → flag p.enabled ≡ true → flag p.stopped ≡ false
      → Refused i (Unlawful 133)
  bad_stopped e f g h =
      let a = place_is true e in
      let b = saved_is true f in
      let c = enabled_is true g in
      let d = stopped_is false h in
      unlawful i 133 s.long (λ j. rules (a j) (b j) (c j) (d j)) (λ j. first_broken (a j) (b j) (c j))

  pub accepted : ((k : ℕ) → get_or i k 0 < 256) → aligned (word_in p.place 0) ≡ true → aligned (word_in p.saved 0) ≡ true → flag p.enabled ≡ true
      → flag p.stopped ≡ true → lawful i ≡ true
  unfolding lawful
  accepted bs e f g h =
      let a = place_is true e in
      let b = saved_is true f in
      let c = enabled_is true g in
      let d = stopped_is true h in
      and_from (eqb (length i) 4232) (bytes i && well_formed i) (eq-eqb (length i) 4232 s.long)
      (and_from (bytes i) (well_formed i) (bytes_from i bs) (λ j. rules (a j) (b j) (c j) (d j)))

  -- the core that is read from the parts
  pub core_read : (t : State) → t.registers.x ≡ words_in 31 p.registers.now → t.place ≡ word_in p.place 0 → t.saved ≡ word_in p.saved 0
      → t.enabled ≡ (p.enabled == 1) → t.stopped ≡ (p.stopped == 1)
      → t.bus ≡ record { rom = p.rom.now; ram = p.ram.now; lamp = p.lamp; switch = p.switch } → t ≡ core_of i
  unfolding core_of
  core_read t x pl sa en st b =
      let x₁ = x ∙ ap (words_in 31) s.registers ∙ words_front i in
      let pl₁ = pl ∙ s.place in
      let sa₁ = sa ∙ s.saved in
      let en₁ = en ∙ ap (λ v. eqb v 1) s.enabled in
      let st₁ = st ∙ ap (λ v. eqb v 1) s.stopped in
      let b₁ : t.bus ≡ record { rom = take 2048 (drop 136 i); ram = take 2048 (drop 2184 i); lamp = lamp_in i; switch = get_or i 135 0 } =
      b ∙ (λ j. record { rom = s.rom j; ram = s.ram j; lamp = s.lamp j; switch = s.switch j }) in
      λ j. record { registers = record { x = x₁ j }; place = pl₁ j; saved = sa₁ j; enabled = en₁ j; stopped = st₁ j; bus = b₁ j }
