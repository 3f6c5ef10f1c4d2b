-- Facts of numbers: sign extension by way of signed numbers, and bit 0.
use Rattle.std.proofs.Common.{◌≡◌, ℕ, ◌*◌, ◌/◌, ◌%◌, ◌^◌, ◌<◌, ℤ, ap, ◌∙◌, arith, w8, w16, w32, to_z, of_z}
use lib.Bits.{bit_and}
use Rattle.std.proofs.lemmas.Nat.{and_shr, and_mod, and_mask, and_comm}
use Rattle.std.proofs.lemmas.Int.{ints, of_z-to_z}
use Rattle.std.proofs.lemmas.Bool.Decides.{nat_tests}
use Rattle.rv32i_decode.specs.Formats.{sign_extended}

-- a signed number of 8 bits, or of 16, as one of 32
pub widened_byte : (b : ℕ) (s z : ℤ) → b < 2 ^ 8 → s ≡ to_z w8 b → z ≡ to_z w8 (of_z w8 s) → of_z w32 z ≡ sign_extended 8 b
unfolding sign_extended
widened_byte b s z h p q =
    let e : of_z w8 s ≡ b = ap (of_z w8) p ∙ of_z-to_z w8 b h in
    ap (of_z w32) (q ∙ ap (to_z w8) e) ∙ grind (arith, nat_tests, ints)

pub widened_half : (v : ℕ) (s z : ℤ) → v < 2 ^ 16 → s ≡ to_z w16 v → z ≡ to_z w16 (of_z w16 s) → of_z w32 z ≡ sign_extended 16 v
unfolding sign_extended
widened_half v s z h p q =
    let e : of_z w16 s ≡ v = ap (of_z w16) p ∙ of_z-to_z w16 v h in
    ap (of_z w32) (q ∙ ap (to_z w16) e) ∙ grind (arith, nat_tests, ints)

-- a mask of all bits but bit 0 keeps the quotient by 2 and clears the remainder
pub evened : (t : ℕ) → t < 2 ^ 32 → bit_and t 4294967294 ≡ t / 2 * 2
evened t h =
    let q : bit_and t 4294967294 / 2 ≡ t / 2 = and_shr t 4294967294 1 ∙ and_mask (t / 2) 31 ∙ omega arith in
    let r : bit_and t 4294967294 % 2 ≡ 0 = and_mod t 4294967294 1 ∙ and_comm (t % 2) 0 in
    omega arith
