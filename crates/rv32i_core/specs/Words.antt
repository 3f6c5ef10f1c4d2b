-- Words of 32 bits: sums that wrap, signed numbers by two's complement, and what the operations and the conditions of branches are.
use Rattle.std.specs.Prelude.{ℕ, ◌+◌, ◌-◌, ◌*◌, ◌/◌, ◌%◌, ◌^◌, Bool, cond, not, ℤ, ◌==◌, bit_and, bit_or, bit_xor, int_le, int_lt, nat_le, nat_lt}
use Rattle.std.specs.Int.Signed.{shr_z}
use Rattle.std.proofs.Common.{to_z, of_z}
use Rattle.std.specs.Int.{w32}
use Rattle.rv32i_decode.specs.declared.instructions.Operation.{Operation}
use Rattle.rv32i_decode.specs.declared.instructions.Operation.TheVariants.{Add, Sub, Sll, Slt, Sltu, Xor, Srl, Sra, Or, And}
use Rattle.rv32i_decode.specs.declared.instructions.Condition.{Condition}
use Rattle.rv32i_decode.specs.declared.instructions.Condition.TheVariants.{Eq, Ne, Lt, Ge, Ltu, Geu}

infixl 60 ◌⊕◌ ◌⊖◌
-- sums and differences wrap at 32 bits
abbrev pub ◌⊕◌ : ℕ → ℕ → ℕ
a ⊕ b = (a + b) % 2 ^ 32

abbrev pub ◌⊖◌ : ℕ → ℕ → ℕ
a ⊖ b = (a + (2 ^ 32 - b)) % 2 ^ 32

-- the two's complement number that a word holds, and the word that holds one
abbrev pub signed : ℕ → ℤ
signed a = to_z w32 a

abbrev pub word_of : ℤ → ℕ
word_of z = of_z w32 z

-- a comparison puts 1 or 0 in its register
abbrev pub truth : Bool → ℕ
truth b = cond b 1 0

-- shifts go by the low five bits of their amount; the arithmetic one divides the signed number, rounding down
abbrev pub computed : Operation → ℕ → ℕ → ℕ
computed Add a b = a ⊕ b
computed Sub a b = a ⊖ b
computed Sll a b = a * 2 ^ (b % 32) % 2 ^ 32
computed Slt a b = truth (int_lt (signed a) (signed b))
computed Sltu a b = truth (nat_lt a b)
computed Xor a b = bit_xor a b
computed Srl a b = a / 2 ^ (b % 32)
computed Sra a b = word_of (shr_z (signed a) (2 ^ (b % 32)))
computed Or a b = bit_or a b
computed And a b = bit_and a b

-- whether a branch is taken
abbrev pub met : Condition → ℕ → ℕ → Bool
met Eq a b = a == b
met Ne a b = not (a == b)
met Lt a b = int_lt (signed a) (signed b)
met Ge a b = int_le (signed b) (signed a)
met Ltu a b = nat_lt a b
met Geu a b = nat_le b a
