use Rattle.std.proofs.Common.{◌≡◌, ◌≤◌, length, take, drop, arith, rules}
use Rattle.std.proofs.lemmas.List.{length-drop, take_all}
use Rattle.mos6502.specs.Images.{cpu_of}
use Rattle.mos6502.proofs.images.processor.Goals as goal

pub returns : goal.returns
unfolding cpu_of
returns c =
    let i = c.args.image.now in
    let short : length (drop 2058 i) ≤ 2048 = simp length-drop (omega arith) in
    let ram : c.unwrap.result ≡ take 2048 (drop 10 i) = search rules in
    let rom : c.unwrap-2.result ≡ take 2048 (drop 2058 i) = search rules in
    simp (c.from.ensures, c.from_be_bytes.ensures, ram, rom, take_all 2048 (drop 2058 i) short)
