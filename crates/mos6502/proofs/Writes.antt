-- An image is written part by part.
use Rattle.std.proofs.Common.{◌≡◌, ℕ, ◌+◌, List, [], ◌++◌, length, drop, refl, ap, ◌∙◌, append_assoc, append-nil, arith, length-append, drop_of_length-le}
use borrow.Rule.Slice.PartMut.{put_mid}
use Rattle.std.proofs.lemmas.List.{take_at, drop_at, drop-drop}
use Rattle.machine.specs.Bytes.{over}

-- behind what is written already
one_more : (front part memory : List ℕ) (at size : ℕ) → length front ≡ at → put_mid at size (front ++ drop at memory) part ≡ (front ++ part) ++ drop (at + size) memory
one_more front part memory at size l =
    rw (take_at front (drop at memory) at l, drop_at front (drop at memory) at l, drop-drop size at memory, append_assoc front part (drop (at + size) memory))

three_parts : (memory head ram rom : List ℕ) → length head ≡ 10 → length ram ≡ 2048 → length rom ≡ 2048
    → put_mid 2058 2048 (put_mid 10 2048 (put_mid 0 10 memory head) ram) rom ≡ over (head ++ (ram ++ rom)) memory
three_parts memory head ram rom h a o =
    let first = one_more [] head memory 0 10 refl in
    let second = ap (λ (xs : List ℕ). put_mid 10 2048 xs ram) first ∙ one_more head ram memory 10 2048 h in
    let long : length (head ++ ram) ≡ 2058 = simp length-append (omega arith) in
    let third = ap (λ (xs : List ℕ). put_mid 2058 2048 xs rom) second ∙ one_more (head ++ ram) rom memory 2058 2048 long in
    let whole : length (head ++ (ram ++ rom)) ≡ 4106 = simp length-append (omega arith) in
    third ∙ rw (whole, append_assoc head ram rom)

-- and all of an image
pub whole_image : (memory head ram rom : List ℕ) → length memory ≡ 4106 → length head ≡ 10 → length ram ≡ 2048 → length rom ≡ 2048
    → put_mid 2058 2048 (put_mid 10 2048 (put_mid 0 10 memory head) ram) rom ≡ head ++ (ram ++ rom)
whole_image memory head ram rom l h a o =
    let long : length (head ++ (ram ++ rom)) ≡ 4106 = simp length-append (omega arith) in
    three_parts memory head ram rom h a o
    ∙ ap (λ (xs : List ℕ). (head ++ (ram ++ rom)) ++ xs) (drop_of_length-le memory {i = length (head ++ (ram ++ rom))} (omega arith))
    ∙ append-nil (head ++ (ram ++ rom))
