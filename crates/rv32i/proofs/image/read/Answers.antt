use Rattle.std.proofs.Common.{refl, rules}
use Rattle.rv32i.specs.Parts.{PartsIn}
use Rattle.rv32i.proofs.Verdicts.{wrong_length, bad_place, bad_saved, bad_enabled, bad_stopped, accepted, core_read}
use Rattle.rv32i.proofs.image.read.Goals as goal

pub returns-in_err-parts : goal.returns-in_err-parts
returns-in_err-parts c = search (rules, wrong_length)

pub returns-in_err-read_place : goal.returns-in_err-read_place
returns-in_err-read_place c = search (rules, bad_place)

pub returns-in_err-read_place-2 : goal.returns-in_err-read_place-2
returns-in_err-read_place-2 c = search (rules, bad_saved)

pub returns-in_err-read_flag : goal.returns-in_err-read_flag
returns-in_err-read_flag c = search (rules, bad_enabled)

pub returns-in_err-read_flag-2 : goal.returns-in_err-read_flag-2
returns-in_err-read_flag-2 c = search (rules, bad_stopped)

pub returns : goal.returns
returns c =
    let b = c.args.bytes.now in
    let p = c.in_ok-parts.parts in
    let s : PartsIn b p = search rules in
    let place = c.in_ok-read_place.ensures in
    let saved = c.in_ok-read_place-2.ensures in
    let enabled = c.in_ok-read_flag.ensures in
    let stopped = c.in_ok-read_flag-2.ensures in (
      accepted b p s (λ k. (c.type_inv.bytes k).fits) place.1 saved.1 enabled.1 stopped.1,
      core_read b p s _ c.read_words.ensures place.0 saved.0 enabled.0 stopped.0 refl,
    )
