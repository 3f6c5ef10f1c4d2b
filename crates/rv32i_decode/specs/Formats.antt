-- The instruction formats: the fields of a word, and the immediates. All numbers are below 2 ^ 32; a negative immediate is its two's complement.
use Rattle.std.specs.Prelude.{ℕ, ◌+◌, ◌-◌, ◌*◌, ◌/◌, ◌%◌, ◌^◌, cond, nat_lt}
use Rattle.rv32i_decode.specs.declared.instructions.RType.{RType}
use Rattle.rv32i_decode.specs.declared.instructions.IType.{IType}
use Rattle.rv32i_decode.specs.declared.instructions.SType.{SType}
use Rattle.rv32i_decode.specs.declared.instructions.BType.{BType}
use Rattle.rv32i_decode.specs.declared.instructions.UType.{UType}
use Rattle.rv32i_decode.specs.declared.instructions.JType.{JType}

-- inst[high:low]
unfoldable pub inst : ℕ → ℕ → ℕ → ℕ
inst w high low = w / 2 ^ low % 2 ^ (high + 1 - low)

-- a number of so many bits, with its top bit carried on to 32 bits
unfoldable pub sign_extended : ℕ → ℕ → ℕ
sign_extended width v = cond (nat_lt v (2 ^ (width - 1))) v (2 ^ 32 - 2 ^ width + v)

abbrev pub opcode_of : ℕ → ℕ
opcode_of w = inst w 6 0

abbrev pub rd_of : ℕ → ℕ
rd_of w = inst w 11 7

abbrev pub funct3_of : ℕ → ℕ
funct3_of w = inst w 14 12

abbrev pub rs1_of : ℕ → ℕ
rs1_of w = inst w 19 15

abbrev pub rs2_of : ℕ → ℕ
rs2_of w = inst w 24 20

abbrev pub funct7_of : ℕ → ℕ
funct7_of w = inst w 31 25

-- the immediates: each part of the word, at the bit of the immediate where it stands
abbrev pub imm_i : ℕ → ℕ
imm_i w = sign_extended 12 (inst w 31 20)

abbrev pub imm_s : ℕ → ℕ
imm_s w = sign_extended 12 (inst w 31 25 * 2 ^ 5 + inst w 11 7)

abbrev pub imm_b : ℕ → ℕ
imm_b w = sign_extended 13 (inst w 31 31 * 2 ^ 12 + inst w 7 7 * 2 ^ 11 + inst w 30 25 * 2 ^ 5 + inst w 11 8 * 2 ^ 1)

abbrev pub imm_u : ℕ → ℕ
imm_u w = inst w 31 12 * 2 ^ 12

abbrev pub imm_j : ℕ → ℕ
imm_j w = sign_extended 21 (inst w 31 31 * 2 ^ 20 + inst w 19 12 * 2 ^ 12 + inst w 20 20 * 2 ^ 11 + inst w 30 21 * 2 ^ 1)

-- the formats
abbrev pub r_type : ℕ → RType
r_type w = record { rd = rd_of w; rs1 = rs1_of w; rs2 = rs2_of w }

abbrev pub i_type : ℕ → IType
i_type w = record { rd = rd_of w; rs1 = rs1_of w; imm = imm_i w }

abbrev pub s_type : ℕ → SType
s_type w = record { rs1 = rs1_of w; rs2 = rs2_of w; imm = imm_s w }

abbrev pub b_type : ℕ → BType
b_type w = record { rs1 = rs1_of w; rs2 = rs2_of w; imm = imm_b w }

abbrev pub u_type : ℕ → UType
u_type w = record { rd = rd_of w; imm = imm_u w }

abbrev pub j_type : ℕ → JType
j_type w = record { rd = rd_of w; imm = imm_j w }
