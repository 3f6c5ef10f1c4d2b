-- Lists of bytes, and memory that a caller supplies.
use Rattle.std.specs.Prelude.{ℕ, ◌<◌, List, ◌++◌, length, get_or, drop}

-- each number of the list is a byte
abbrev pub Bytes : List ℕ → Type 0
Bytes xs = (k : ℕ) → k < length xs → get_or xs k 0 < 256

-- the supplied memory after something was put at its front: what lies behind it is left
abbrev pub over {ℓ} : {A : Type ℓ} → List A → List A → List A
over front memory = front ++ drop (length front) memory
