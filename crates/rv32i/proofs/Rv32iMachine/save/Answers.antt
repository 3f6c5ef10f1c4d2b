use Rattle.std.proofs.Common.{◌≡◌, ◌≤◌, true, leb, ◌++◌, length, drop, Ok, Err, sym, ap, ◌∙◌, rules}
use Rattle.std.proofs.lemmas.Bool.{le-leb, cond-true}
use Rattle.machine.specs.declared.GuestFault.TheVariants.{ShortBuffer}
use Rattle.machine.specs.Bytes.{over}
use Rattle.rv32i.specs.Images.{image_of}
use Rattle.rv32i.specs.Laws.{from_lawful}
use Rattle.rv32i.proofs.Rv32iMachine.save.Goals as goal

pub returns : goal.returns
returns c =
    let b = c.args.buffer.now in
    let i = image_of c.args.self.now.state in
    let h : 4232 ≤ length b = search rules in
    let r : leb 4232 (length b) ≡ true = le-leb 4232 (length b) h in
    let n : length i ≡ 4232 = (from_lawful i c.args.self.now.sound).long in
    record {
      answer = sym (cond-true (leb 4232 (length b)) (Ok 4232) (Err (ShortBuffer 4232)) r);
      memory = ap (λ l. l ++ drop 4232 b) c.write.ensures ∙ ap (λ k. i ++ drop k b) (sym n) ∙ sym (cond-true (leb 4232 (length b)) (over i b) b r);
    }
