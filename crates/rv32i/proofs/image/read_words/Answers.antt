use Rattle.std.proofs.Common.{◌≡◌, ℕ, ◌/◌, List, [], length, get_or, ap, ◌∙◌, arith, rules}
use Rattle.rv32i.specs.Images.{word_in}
use Rattle.rv32i.specs.ImagesLemmas.{words_all}
use Rattle.rv32i.proofs.Cuts.{chunk_word, made}
use Rattle.rv32i.proofs.image.read_words.Goals as goal

pub returns : goal.returns
returns c =
    let b = c.args.bytes.now in
    let w = c.unwrap-words.result.now in
    let P : ℕ → ℕ → Type 0 = λ i y. y ≡ word_in (get_or w i []) 0 in
    let m = c.from_fn.ensures.items in
    let l : length c.from_fn.result ≡ 31 = omega (arith, m.long) in
    let q : w ≡ c.as_chunks.result.0.now = search rules in
    words_all c.from_fn.result b 31 l (λ k h. made _ P _ (λ i y f' k. search rules) c.from_fn.result 31 k 0 m h ∙ ap (λ (cs : List (List ℕ)). word_in (get_or cs k []) 0) (q ∙ c.as_chunks.ensures.front) ∙ chunk_word b (length b / 4) k (omega arith))
