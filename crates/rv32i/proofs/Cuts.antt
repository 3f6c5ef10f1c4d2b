-- What is cut out of a list of bytes, as it stands in the whole.
use Rattle.std.proofs.Common.{◌≡◌, ℕ, Bool, true, false, zero, suc, ◌+◌, ◌*◌, ◌<◌, List, [], ◌∷◌, ◌++◌, length, map, take, drop, get_or, refl, sym, ap, subst, ◌∙◌, arith}
use Rattle.std.specs.Simd.{first_chunks}
use Rattle.std.specs.Array.{IsFromFnResult, IsFromFnResultFrom}
use Rattle.std.specs.Fn.{Called}
use denote.Param.Members.{Mut}
use mir.Val.{bool_byte}
use Rattle.rv32i_core.specs.Words.{truth}
use Rattle.std.proofs.lemmas.List.{get_or-take, get_or-drop, drop-drop}
use Rattle.std.specs.List.{range_with_len, flat_map}
use Rattle.std.proofs.lemmas.List.FromFn.{get_or-map-range_with_len}
use Rattle.rv32i.specs.Images.{high_first, words, word_in, words_in}
use Rattle.rv32i.specs.ImagesLemmas.{words_all}

pub byte_cut : (i : List ℕ) (n k j m : ℕ) → j < n → k + j ≡ m → get_or (take n (drop k i)) j 0 ≡ get_or i m 0
byte_cut i n k j m h e = get_or-take n (drop k i) j 0 h ∙ get_or-drop k i j 0 ∙ ap (λ m. get_or i m 0) e

pub word_cut : (i : List ℕ) (k : ℕ) → word_in (take 4 (drop k i)) 0 ≡ word_in i k
word_cut i k =
    cc (
      byte_cut i 4 k 0 k (omega arith) (omega arith),
      byte_cut i 4 k 1 (k + 1) (omega arith) refl,
      byte_cut i 4 k 2 (k + 2) (omega arith) refl,
      byte_cut i 4 k 3 (k + 3) (omega arith) refl,
    )

chunk_at : (i : List ℕ) (n k : ℕ) → k < n → get_or (first_chunks 4 n i) k [] ≡ take 4 (drop (4 * k) i)
chunk_at i zero k h = absurd (omega arith)
chunk_at i (suc n) zero h = refl
chunk_at i (suc n) (suc k) h =
    chunk_at (drop 4 i) n k (omega arith) ∙ ap (take 4) (drop-drop (4 * k) 4 i ∙ ap (λ m. drop m i) (omega arith))

-- the words of the front
pub words_front : (i : List ℕ) → words_in 31 (take 124 i) ≡ words_in 31 i
unfolding words_in
words_front i =
    let f : ℕ → ℕ = λ k. word_in (take 124 i) (4 * k) in
    words_all (map f (range_with_len 0 31)) i 31 refl (λ k h. get_or-map-range_with_len f 0 31 k k 0 h (omega arith)
    ∙ cc (
      get_or-take 124 i (4 * k) 0 (omega arith),
      get_or-take 124 i (4 * k + 1) 0 (omega arith),
      get_or-take 124 i (4 * k + 2) 0 (omega arith),
      get_or-take 124 i (4 * k + 3) 0 (omega arith),
    ))

-- the word of a chunk
pub chunk_word : (i : List ℕ) (n k : ℕ) → k < n → word_in (get_or (first_chunks 4 n i) k []) 0 ≡ word_in i (4 * k)
chunk_word i n k h = ap (λ c. word_in c 0) (chunk_at i n k h) ∙ word_cut i (4 * k)

-- words as bytes, one after the other
pub joined : (xs : List ℕ) (ys : List (List ℕ)) → length ys ≡ length xs → ((i : ℕ) → i < length xs → get_or ys i [] ≡ high_first (get_or xs i 0))
    → flat_map (λ y. y) ys ≡ words xs
joined [] [] l f = refl
joined [] (y ∷ ys) l f = absurd (omega arith)
joined (x ∷ xs) [] l f = absurd (omega arith)
joined (x ∷ xs) (y ∷ ys) l f =
    let h = f 0 (omega arith) in
    let t = joined xs ys (omega arith) (λ i k. f (suc i) (omega arith)) in
    λ j. h j ++ t j

-- A closure that no call changes was called at each index, and what a call keeps to, the element there does that it made.
module _ {F B : Type 0} (g : Mut F (ℕ × Unit {0}) B) (P : ℕ → B → Type 0) (f : F) (h : (i : ℕ) (y : B) (f' : F) → Called g f (i, tt) y f' → P i y × (f' ≡ f)) where
  made_from : (p : F) (ys : List B) (i n k : ℕ) (e : B) → p ≡ f → IsFromFnResultFrom g p ys i n → k < n → P (i + k) (get_or ys (i + k) e)
  made_from p ys i zero k e s m l = absurd (omega arith)
  made_from p ys i (suc n) zero e s m l =
      let r = h i m.1 m.0 (subst (λ u. Called g u (i, tt) m.1 m.0) s m.3) in
      let o : i ≡ i + 0 = omega arith in
      subst (λ j. P j (get_or ys j e)) o (subst (P i) (sym (m.2.1 e)) r.0)
  made_from p ys i (suc n) (suc k) e s m l =
      let r = h i m.1 m.0 (subst (λ u. Called g u (i, tt) m.1 m.0) s m.3) in
      let o : i + 1 + k ≡ i + suc k = omega arith in
      subst (λ j. P j (get_or ys j e)) o (made_from m.0 ys (i + 1) n k e r.1 m.4 (omega arith))

  pub made : (ys : List B) (n k : ℕ) (e : B) → IsFromFnResult g f ys n → k < n → P k (get_or ys k e)
  made ys n k e m l =
      let o : 0 + k ≡ k = omega arith in
      subst (λ j. P j (get_or ys j e)) o (made_from f ys 0 n k e refl m.each l)

-- a flag as a byte
pub byte_truth : (b : Bool) → bool_byte b ≡ truth b
byte_truth true = refl
byte_truth false = refl
