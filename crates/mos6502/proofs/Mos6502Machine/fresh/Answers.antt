use Rattle.std.proofs.Common.{◌≡◌, refl, rules}
use Rattle.mos6502_parts.specs.Flags.{flags_of}
use Rattle.mos6502.specs.Images.{image_of}
use Rattle.mos6502.proofs.Mos6502Machine.fresh.Goals as goal

pub returns : goal.returns
unfolding image_of
returns c = let clear : c.default.result ≡ flags_of 0 = search rules in rw (clear) refl
