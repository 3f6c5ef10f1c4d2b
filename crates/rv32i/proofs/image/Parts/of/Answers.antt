use Rattle.std.proofs.Common.{◌≡◌, ◌+◌, length, take, drop, get_or, refl, sym, ap, ◌∙◌, arith}
use Rattle.std.proofs.lemmas.List.{drop-drop, take_all}
use Rattle.rv32i.specs.Images.{word_in}
use Rattle.rv32i.proofs.Cuts.{byte_cut, word_cut}
use Rattle.rv32i.proofs.image.Parts.of.Goals as goal

pub returns : goal.returns
returns c =
    let b = c.args.bytes.now in
    let r₁ = c.in_ok-registers.rest.now in
    let r₂ = c.in_ok-place.rest.now in
    let r₃ = c.in_ok-saved.rest.now in
    let r₄ = c.in_ok-enabled.rest.now in
    let r₅ = c.in_ok-rom.rest.now in
    let e₁ : (c.in_ok-registers.registers.now ≡ take 124 b) × (r₁ ≡ drop 124 b) × (length r₁ + 124 ≡ length b) = c.in_ok-registers.ensures.cases in
    let e₂ : (c.in_ok-place.field-0-0.now ≡ take 4 r₁) × (r₂ ≡ drop 4 r₁) × (length r₂ + 4 ≡ length r₁) = c.in_ok-place.ensures.cases in
    let e₃ : (c.in_ok-saved.field-0-0.now ≡ take 4 r₂) × (r₃ ≡ drop 4 r₂) × (length r₃ + 4 ≡ length r₂) = c.in_ok-saved.ensures.cases in
    let e₄ : (c.in_ok-enabled.field-0-0.now ≡ take 4 r₃) × (r₄ ≡ drop 4 r₃) × (length r₄ + 4 ≡ length r₃) = c.in_ok-enabled.ensures.cases in
    let e₅ : (c.in_ok-rom.rom.now ≡ take 2048 r₄) × (r₅ ≡ drop 2048 r₄) × (length r₅ + 2048 ≡ length r₄) = c.in_ok-rom.ensures.cases in
    let l₆ : length r₅ ≡ 2048 = c.in_ok-ram.ensures.cases.long in
    let m₆ : c.in_ok-ram.ram.now ≡ r₅ = c.in_ok-ram.ensures.cases.same in
    let d₂ : r₂ ≡ drop 128 b = e₂.1 ∙ ap (drop 4) e₁.1 ∙ drop-drop 4 124 b in
    let d₃ : r₃ ≡ drop 132 b = e₃.1 ∙ ap (drop 4) d₂ ∙ drop-drop 4 128 b in
    let d₄ : r₄ ≡ drop 136 b = e₄.1 ∙ ap (drop 4) d₃ ∙ drop-drop 4 132 b in
    let d₅ : r₅ ≡ drop 2184 b = e₅.1 ∙ ap (drop 2048) d₄ ∙ drop-drop 2048 136 b in
    let p : c.in_ok-place.field-0-0.now ≡ take 4 (drop 124 b) = e₂.0 ∙ ap (take 4) e₁.1 in
    let s : c.in_ok-saved.field-0-0.now ≡ take 4 (drop 128 b) = e₃.0 ∙ ap (take 4) d₂ in
    let f : c.in_ok-enabled.field-0-0.now ≡ take 4 (drop 132 b) = e₄.0 ∙ ap (take 4) d₃ in
    record {
      long = omega arith;
      registers = e₁.0;
      place = ap (λ l. word_in l 0) p ∙ word_cut b 124;
      saved = ap (λ l. word_in l 0) s ∙ word_cut b 128;
      enabled = ap (λ l. get_or l 0 0) f ∙ byte_cut b 4 132 0 132 (omega arith) refl;
      stopped = ap (λ l. get_or l 1 0) f ∙ byte_cut b 4 132 1 133 (omega arith) refl;
      lamp = ap (λ l. get_or l 2 0) f ∙ byte_cut b 4 132 2 134 (omega arith) refl;
      switch = ap (λ l. get_or l 3 0) f ∙ byte_cut b 4 132 3 135 (omega arith) refl;
      rom = e₅.0 ∙ ap (take 2048) d₄;
      ram = m₆ ∙ sym (take_all 2048 r₅ (omega arith)) ∙ ap (take 2048) d₅;
    }
