use Rattle.std.proofs.Common.{◌≡◌, length, refl, arith, length-append, rules}
use Rattle.mos6502.specs.Images.{head_of, image_of}
use Rattle.mos6502.proofs.Writes.{whole_image}
use Rattle.mos6502.proofs.images.write.Goals as goal

pub returns : goal.returns
unfolding image_of
returns c =
    let image = c.args.image.now in
    let m = c.args.cpu.now in
    let head : c.copy_from_slice.new.self ≡ head_of m = search rules in
    let long : length image ≡ 4106 = search rules in
    let ram : length m.memory.ram ≡ 2048 = search rules in
    let rom : length m.memory.rom ≡ 2048 = search rules in
    record {
      written = rw (head, c.copy_from_slice-2.ensures.after, c.copy_from_slice-3.ensures.after) (whole_image image (head_of m) m.memory.ram m.memory.rom long refl ram rom);
      whole = simp length-append (omega arith);
    }
