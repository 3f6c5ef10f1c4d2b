use Rattle.std.proofs.Common.{◌≡◌, ◌∙◌, arith, rules}
use Rattle.rv32i_decode.specs.Formats.{sign_extended}
use Rattle.rv32i_core.proofs.Numbers.{widened_byte, widened_half}
use Rattle.rv32i_core.proofs.bus.Bus.load.Goals as goal

pub returns-in-Lb : goal.returns-in-Lb
returns-in-Lb c =
    let e = c.extend.ensures in
    let w : c.extend.result ≡ sign_extended 8 c.byte.result = e.2 ∙ widened_byte c.byte.result c.cast_signed.result e.0 (omega arith) c.cast_signed.ensures e.1 in
    search rules

pub returns-in-Lh : goal.returns-in-Lh
returns-in-Lh c =
    let e = c.extend-in-Lh.ensures in
    let w : c.extend-in-Lh.result ≡ sign_extended 16 c.half.result = e.2 ∙ widened_half c.half.result c.cast_signed-in-Lh.result e.0 (omega arith) c.cast_signed-in-Lh.ensures e.1 in
    search rules
