-- The opcode map: the instruction that a word is.
use Rattle.std.specs.Prelude.{ℕ, cond, Some, None, Option, ◌==◌}
use Rattle.rv32i_decode.specs.declared.instructions.Operation.{Operation}
use Rattle.rv32i_decode.specs.declared.instructions.Operation.TheVariants.{Add, Sub, Sll, Slt, Sltu, Xor, Srl, Sra, Or, And}
use Rattle.rv32i_decode.specs.declared.instructions.Condition.{Condition}
use Rattle.rv32i_decode.specs.declared.instructions.Condition.TheVariants.{Eq, Ne, Lt, Ge, Ltu, Geu}
use Rattle.rv32i_decode.specs.declared.instructions.LoadKind.{LoadKind}
use Rattle.rv32i_decode.specs.declared.instructions.LoadKind.TheVariants.{Lb, Lh, Lw, Lbu, Lhu}
use Rattle.rv32i_decode.specs.declared.instructions.StoreKind.{StoreKind}
use Rattle.rv32i_decode.specs.declared.instructions.StoreKind.TheVariants.{Sb, Sh, Sw}
use Rattle.rv32i_decode.specs.declared.instructions.Instruction.{Instruction}
use Rattle.rv32i_decode.specs.declared.instructions.Instruction.TheVariants.{Lui, Auipc, Jal, Jalr, Branch, Load, Store, OpImm, Op, Fence, Ecall, Ebreak, Return, Undefined}
use Rattle.rv32i_decode.specs.Formats.{opcode_of, funct3_of, funct7_of, r_type, i_type, s_type, b_type, u_type, j_type}

-- OP: funct3 and funct7
abbrev pub operation_of : ℕ → ℕ → Option Operation
operation_of f3 f7 =
    cond (f7 == 0x00)
    (cond (f3 == 0) (Some Add)
    (cond (f3 == 1) (Some Sll)
    (cond (f3 == 2) (Some Slt)
    (cond (f3 == 3) (Some Sltu)
    (cond (f3 == 4) (Some Xor)
    (cond (f3 == 5) (Some Srl)
    (cond (f3 == 6) (Some Or)
    (cond (f3 == 7) (Some And) None))))))))
    (cond (f7 == 0x20)
    (cond (f3 == 0) (Some Sub)
    (cond (f3 == 5) (Some Sra) None)) None)

-- OP-IMM: the shifts have funct7 above their amount, and with another there they are no instructions; elsewhere the immediate fills its place
abbrev pub immediate_operation_of : ℕ → ℕ → Option Operation
immediate_operation_of f3 f7 =
    cond (f3 == 1) (operation_of 1 f7)
    (cond (f3 == 5) (operation_of 5 f7) (operation_of f3 0x00))

-- BRANCH
abbrev pub condition_of : ℕ → Option Condition
condition_of f3 =
    cond (f3 == 0) (Some Eq)
    (cond (f3 == 1) (Some Ne)
    (cond (f3 == 4) (Some Lt)
    (cond (f3 == 5) (Some Ge)
    (cond (f3 == 6) (Some Ltu)
    (cond (f3 == 7) (Some Geu) None)))))

-- LOAD
abbrev pub load_of : ℕ → Option LoadKind
load_of f3 =
    cond (f3 == 0) (Some Lb)
    (cond (f3 == 1) (Some Lh)
    (cond (f3 == 2) (Some Lw)
    (cond (f3 == 4) (Some Lbu)
    (cond (f3 == 5) (Some Lhu) None))))

-- STORE
abbrev pub store_of : ℕ → Option StoreKind
store_of f3 =
    cond (f3 == 0) (Some Sb)
    (cond (f3 == 1) (Some Sh)
    (cond (f3 == 2) (Some Sw) None))

-- the instruction of each opcode that has several, or some and undefined words
abbrev pub jalr_of : ℕ → Instruction
jalr_of w = cond (funct3_of w == 0) (Jalr (i_type w)) Undefined

abbrev pub branch_with : Option Condition → ℕ → Instruction
branch_with (Some c) w = Branch c (b_type w)
branch_with None w = Undefined

abbrev pub branch_of : ℕ → Instruction
branch_of w = branch_with (condition_of (funct3_of w)) w

abbrev pub loading_with : Option LoadKind → ℕ → Instruction
loading_with (Some k) w = Load k (i_type w)
loading_with None w = Undefined

abbrev pub loading_of : ℕ → Instruction
loading_of w = loading_with (load_of (funct3_of w)) w

abbrev pub storing_with : Option StoreKind → ℕ → Instruction
storing_with (Some k) w = Store k (s_type w)
storing_with None w = Undefined

abbrev pub storing_of : ℕ → Instruction
storing_of w = storing_with (store_of (funct3_of w)) w

abbrev pub op_imm_with : Option Operation → ℕ → Instruction
op_imm_with (Some o) w = OpImm o (i_type w)
op_imm_with None w = Undefined

abbrev pub op_imm_of : ℕ → Instruction
op_imm_of w = op_imm_with (immediate_operation_of (funct3_of w) (funct7_of w)) w

abbrev pub op_with : Option Operation → ℕ → Instruction
op_with (Some o) w = Op o (r_type w)
op_with None w = Undefined

abbrev pub op_of : ℕ → Instruction
op_of w = op_with (operation_of (funct3_of w) (funct7_of w)) w

-- a fence is one whatever its other bits
abbrev pub fence_of : ℕ → Instruction
fence_of w = cond (funct3_of w == 0) Fence Undefined

-- SYSTEM: whole words only, among them the house's return word
abbrev pub system_of : ℕ → Instruction
system_of w =
    cond (w == 0x0000_0073) Ecall
    (cond (w == 0x0010_0073) Ebreak
    (cond (w == 0x3020_0073) Return Undefined))

abbrev pub decoded_by : ℕ → ℕ → Instruction
decoded_by opcode w =
    cond (opcode == 0x37) (Lui (u_type w))
    (cond (opcode == 0x17) (Auipc (u_type w))
    (cond (opcode == 0x6f) (Jal (j_type w))
    (cond (opcode == 0x67) (jalr_of w)
    (cond (opcode == 0x63) (branch_of w)
    (cond (opcode == 0x03) (loading_of w)
    (cond (opcode == 0x23) (storing_of w)
    (cond (opcode == 0x13) (op_imm_of w)
    (cond (opcode == 0x33) (op_of w)
    (cond (opcode == 0x0f) (fence_of w)
    (cond (opcode == 0x73) (system_of w) Undefined))))))))))

-- the instruction that a word is
unfoldable pub decoded : ℕ → Instruction
decoded w = decoded_by (opcode_of w) w
