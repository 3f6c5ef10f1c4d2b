use Rattle.std.proofs.Common.{◌≡◌, [], ◌∷◌, ◌++◌, ◌∙◌}
use Rattle.rv32i_core.specs.Words.{truth}
use Rattle.rv32i.specs.Images.{image_of}
use Rattle.rv32i.proofs.Cuts.{byte_truth}
use Rattle.rv32i.proofs.image.write.Goals as goal

pub returns : goal.returns
unfolding image_of
returns c =
    let s = c.args.state.now in
    let x = c.copy_from_slice.ensures.after ∙ c.as_flattened.ensures.value ∙ c.word_bytes.ensures in
    let p = c.copy_from_slice-2.ensures.after ∙ c.to_be_bytes.ensures in
    let q = c.copy_from_slice-3.ensures.after ∙ c.to_be_bytes-2.ensures in
    let f = c.copy_from_slice-4.ensures.after in
    let en : c.from.result ≡ truth s.enabled = c.from.ensures ∙ byte_truth s.enabled in
    let st : c.from-2.result ≡ truth s.stopped = c.from-2.ensures ∙ byte_truth s.stopped in
    let g : c.copy_from_slice-4.new.self ≡ truth s.enabled ∷ truth s.stopped ∷ s.bus.lamp ∷ s.bus.switch ∷ [] =
    f ∙ (λ j. en j ∷ st j ∷ s.bus.lamp ∷ s.bus.switch ∷ []) in
    λ j. x j ++ (p j ++ (q j ++ (g j ++ (c.copy_from_slice-5.ensures.after j ++ c.copy_from_slice-6.ensures.after j))))
