use Rattle.std.proofs.Common.{◌<◌, ◌-◌, [], ap, arith, get_or, length, ◌∙◌}
use Rattle.std.proofs.lemmas.Grind.{common_steps}
use Rattle.std.proofs.lemmas.List.{length-map}
use Rattle.explanation.proofs.FileRecords.{text_at}
use Rattle.explanation.proofs.refusal.text_of.Goals as goal

pub returns : goal.returns
returns c =
    let files = c.files.result.now in
    let place = c.args.provider - 1 in
    let long = length-map files (λ f. f.now) in
    let size = ap length c.files.ensures.files in
    let least = c.requires.least in
    let most = c.requires.most in
    let within : place < length files = omega (arith, long, size, least, most) in
    text_at files place _ within ∙ ap (λ texts. get_or texts place []) c.files.ensures.files

pub bounds-files-provider : goal.bounds-files-provider
bounds-files-provider c = grind (arith, common_steps)
