use Rattle.std.proofs.Common.{◌≡◌, ℕ, List, [], length, get_or, arith, rules}
use Rattle.rv32i.specs.Images.{high_first}
use Rattle.rv32i.proofs.Cuts.{joined, made}
use Rattle.rv32i.proofs.image.word_bytes.Goals as goal

pub returns : goal.returns
returns c =
    let P : ℕ → List ℕ → Type 0 = λ i y. y ≡ high_first (get_or c.args.x.now i 0) in
    let m = c.from_fn.ensures.items in
    let l : length c.from_fn.result ≡ length c.args.x.now = omega (arith, m.long) in
    joined c.args.x.now c.from_fn.result l (λ i h. made _ P _ (λ i y f' k. search rules) c.from_fn.result 31 i [] m (omega arith))
