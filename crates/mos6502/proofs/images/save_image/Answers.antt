use Rattle.std.proofs.Common.{◌≡◌, ◌≤◌, true, leb, ◌++◌, length, drop, Ok, Err, sym, ap, ◌∙◌, rules}
use Rattle.std.proofs.lemmas.Bool.{le-leb, cond-true}
use Rattle.machine.specs.declared.GuestFault.TheVariants.{ShortBuffer}
use Rattle.machine.specs.Bytes.{over}
use Rattle.mos6502.specs.Images.{image_of}
use Rattle.mos6502.proofs.images.save_image.Goals as goal

pub returns : goal.returns
returns c =
    let b = c.args.buffer.now in
    let i = image_of c.args.cpu.now in
    let h : 4106 ≤ length b = search rules in
    let r : leb 4106 (length b) ≡ true = le-leb 4106 (length b) h in
    record {
      answer = sym (cond-true (leb 4106 (length b)) (Ok 4106) (Err (ShortBuffer 4106)) r);
      memory = ap (λ l. l ++ drop 4106 b) c.write.ensures.written ∙ ap (λ k. i ++ drop k b) (sym c.write.ensures.whole) ∙ sym (cond-true (leb 4106 (length b)) (over i b) b r);
    }
