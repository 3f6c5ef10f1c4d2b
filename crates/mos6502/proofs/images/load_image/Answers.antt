use Rattle.std.proofs.Common.{◌≡◌, ℕ, ◌/◌, ◌%◌, ◌<◌, ◌≤◌, cond, eqb, ◌≢◌, List, length, get_or, Ok, Err, Result, sym, ap, ◌∙◌, arith, rules}
use Rattle.std.proofs.lemmas.Bool.{cond-true, cond-false, eq-eqb, ne_eqb}
use Rattle.std.proofs.lemmas.List.Elements.{All-from_get_or}
use Rattle.machine.specs.declared.GuestFault.{GuestFault}
use Rattle.machine.specs.declared.GuestFault.TheVariants.{WrongLength, Unlawful}
use Rattle.machine.specs.Faults.{load_fault}
use Rattle.mos6502_core.specs.declared.cpu.Cpu.{Cpu}
use Rattle.mos6502.specs.Images.{cpu_of, lawful_flags, lawful_image, offending_offset}
use Rattle.mos6502.specs.Guest.{mos6502}
use Rattle.mos6502.specs.Back.{Lawful, lawful_from, unlawful}
use Rattle.mos6502.proofs.images.load_image.Goals as goal

-- the answer for an image
abbrev answer : List ℕ → Result Cpu GuestFault
answer i = cond (lawful_image i) (Ok (cpu_of i)) (Err (load_fault mos6502 i))

refused : (i : List ℕ) (f : GuestFault) → (Lawful i → ⊥) → load_fault mos6502 i ≡ f → ◌≡◌ {A = Result Cpu GuestFault} (Err f) (answer i)
refused i f refuted fault = sym (cond-false (lawful_image i) _ _ (unlawful i refuted) ∙ ap (λ (g : GuestFault). Err g) fault)

at_offset : (i : List ℕ) (k : ℕ) → length i ≡ 4106 → offending_offset i ≡ k → (Lawful i → ⊥) → ◌≡◌ {A = Result Cpu GuestFault} (Err (Unlawful k)) (answer i)
at_offset i k l e refuted =
    refused i (Unlawful k) refuted (cond-true (eqb (length i) 4106) _ _ (eq-eqb (length i) 4106 l) ∙ ap (λ (at : ℕ). Unlawful at) e)

pub returns-in_err-image : goal.returns-in_err-image
returns-in_err-image c =
    let i = c.args.bytes.now in
    let other : length i ≢ 4106 = search rules in
    let is : c.from_residual.result ≡ Err WrongLength = search rules in
    is ∙ refused i WrongLength (λ w. other w.long) (cond-false (eqb (length i) 4106) _ _ (ne_eqb (length i) 4106 other))

pub returns-then-image-ne2 : goal.returns-then-image-ne2
returns-then-image-ne2 c =
    let i = c.args.bytes.now in
    let other : get_or i 4 0 / 16 % 4 ≢ 2 = search rules in
    at_offset i 4 (search rules) (cond-false (lawful_flags (get_or i 4 0)) 7 4 (ne_eqb _ 2 other)) (λ w. other w.flags)

pub returns-then-image-ge2 : goal.returns-then-image-ge2
returns-then-image-ge2 c =
    let i = c.args.bytes.now in
    let flags : get_or i 4 0 / 16 % 4 ≡ 2 = search rules in
    let high : 2 ≤ get_or i 7 0 = search rules in
    at_offset i 7 (search rules) (cond-true (lawful_flags (get_or i 4 0)) 7 4 (eq-eqb _ 2 flags)) (λ w. omega (arith, w.stops))

pub returns : goal.returns
returns c =
    let i = c.args.bytes.now in
    let held : c.processor.result ≡ cpu_of i = search rules in
    let lawful : Lawful i =
    record { long = search rules; bytes = All-from_get_or (λ n. n < 256) i 0 (λ k _. (c.type_inv.bytes k).fits); flags = search rules; stops = search rules }
    in
    ap (λ (m : Cpu). Ok m) held ∙ sym (cond-true (lawful_image i) _ _ (lawful_from i lawful))
