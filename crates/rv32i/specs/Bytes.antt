-- Lists of bytes: what keeps them so.
use Rattle.std.specs.Prelude.{◌≡◌, ℕ, zero, suc, ◌/◌, ◌%◌, ◌^◌, ◌<◌, true, List, [], ◌∷◌, ◌++◌, take, drop, nat_lt, slice_index, slice_set, refl}
use Rattle.std.specs.List.{All}
use Rattle.std.proofs.Common.{arith, lit<}
use Rattle.std.proofs.lemmas.Bool.{ltb-true, lt-ltb}
use Rattle.std.proofs.lemmas.List.Elements.{All-weaker, All-head, All-tail, All-from_get_or, All-from_recursion, All-append, All-take, All-drop, All-set}
use Rattle.std.proofs.lemmas.List.Sums.{AllPass-from_list_all, list_all-from_AllPass}
use Rattle.rv32i.specs.Images.{bytes, high_first, words}

-- each number of the list is a byte
abbrev AllBytes : List ℕ → Type 0
AllBytes bs = All (λ n. n < 256) bs

all_from : (bs : List ℕ) → bytes bs ≡ true → AllBytes bs
all_from bs h = All-weaker (λ n. nat_lt n 256 ≡ true) (λ n. n < 256) (λ n. ltb-true n 256) bs (AllPass-from_list_all (λ n. nat_lt n 256) bs h)

all_true : (bs : List ℕ) → AllBytes bs → bytes bs ≡ true
all_true bs h = list_all-from_AllPass (λ n. nat_lt n 256) bs (All-weaker (λ n. n < 256) (λ n. nat_lt n 256 ≡ true) (λ n. lt-ltb n 256) bs h)

-- past its end a list reads as 0
byte_in : (bs : List ℕ) (k : ℕ) → AllBytes bs → slice_index bs k < 256
byte_in [] k h = lit< tt
byte_in (b ∷ bs) zero h = All-head (λ n. n < 256) b bs h
byte_in (b ∷ bs) (suc k) h = byte_in bs k (All-tail (λ n. n < 256) b bs h)

pub byte_at : (bs : List ℕ) → bytes bs ≡ true → (k : ℕ) → slice_index bs k < 256
byte_at bs h k = byte_in bs k (all_from bs h)

pub bytes_from : (bs : List ℕ) → ((k : ℕ) → slice_index bs k < 256) → bytes bs ≡ true
bytes_from bs f = all_true bs (All-from_get_or (λ n. n < 256) bs 0 (λ k l. f k))

pub bytes_append : (xs ys : List ℕ) → bytes xs ≡ true → bytes ys ≡ true → bytes (xs ++ ys) ≡ true
bytes_append xs ys h k = all_true (xs ++ ys) (All-append (λ n. n < 256) xs ys (all_from xs h) (all_from ys k))

pub bytes_take : (n : ℕ) (bs : List ℕ) → bytes bs ≡ true → bytes (take n bs) ≡ true
bytes_take n bs h = all_true (take n bs) (All-take (λ n. n < 256) n bs (all_from bs h))

pub bytes_drop : (n : ℕ) (bs : List ℕ) → bytes bs ≡ true → bytes (drop n bs) ≡ true
bytes_drop n bs h = all_true (drop n bs) (All-drop (λ n. n < 256) n bs (all_from bs h))

pub bytes_set : (bs : List ℕ) (i b : ℕ) → b < 256 → bytes bs ≡ true → bytes (slice_set bs i b) ≡ true
bytes_set bs i b l h = all_true (slice_set bs i b) (All-set (λ n. n < 256) bs i b l (all_from bs h))

pub bytes_four : (a b c d : ℕ) → a < 256 → b < 256 → c < 256 → d < 256 → bytes (a ∷ b ∷ c ∷ d ∷ []) ≡ true
bytes_four a b c d ha hb hc hd = all_true (a ∷ b ∷ c ∷ d ∷ []) (All-from_recursion (λ n. n < 256) (a ∷ b ∷ c ∷ d ∷ []) (ha, (hb, (hc, (hd, tt)))))

pub bytes_word : (w : ℕ) → bytes (high_first w) ≡ true
bytes_word w =
    bytes_four (w / 2 ^ 24 % 2 ^ 8) (w / 2 ^ 16 % 2 ^ 8) (w / 2 ^ 8 % 2 ^ 8) (w % 2 ^ 8) (omega arith) (omega arith) (omega arith) (omega arith)

pub bytes_words : (ws : List ℕ) → bytes (words ws) ≡ true
bytes_words [] = refl
bytes_words (w ∷ ws) = bytes_append (high_first w) (words ws) (bytes_word w) (bytes_words ws)
