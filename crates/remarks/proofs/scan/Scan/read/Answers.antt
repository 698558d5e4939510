use Rattle.std.proofs.Common.{◌∙◌, Some, sym, ap, refl}
use Rattle.std.proofs.lemmas.Bool.{false≢true}
use Rattle.remarks.specs.Quotes.{state_at}
use Rattle.remarks.specs.Scans.{place_of}
use Rattle.remarks.proofs.Places.{state_more}
use Rattle.remarks.proofs.Scanning.{scanned_breaking, scanned_opening, scanned_other}
use Rattle.remarks.proofs.scan.Scan.read.Goals as goal

pub returns-then-opens : goal.returns-then-opens
returns-then-opens c =
    let text = c.args.text.now in
    let known = c.requires.scanned in
    let stands = ap place_of (state_more text c.args.at c.requires.within) ∙ c.after-self.ensures.steps (state_at text c.args.at) known.place in
    scanned_opening text c.args.at c.args.self.now _ known stands refl refl (c.opens.ensures.0 c.if-opens.true)

pub returns-then-breaks : goal.returns-then-breaks
returns-then-breaks c =
    let text = c.args.text.now in
    let known = c.requires.scanned in
    let stands = ap place_of (state_more text c.args.at c.requires.within) ∙ c.after-self.ensures.steps (state_at text c.args.at) known.place in
    let found = c.break_record.ensures in
    scanned_breaking text c.args.at c.args.self.now _ known (stands ∙ ap (λ it. Some it) (sym found.place)) found.opened found.first
    (rw found.place c.after-self.ensures.entered) (λ opens. false≢true (sym c.if-opens.false ∙ c.opens.ensures.1 opens)) (c.breaks.ensures.0 c.if-breaks.true)

pub returns-then-is_line_end : goal.returns-then-is_line_end
returns-then-is_line_end c =
    let text = c.args.text.now in
    let known = c.requires.scanned in
    let stands = ap place_of (state_more text c.args.at c.requires.within) ∙ c.after-self.ensures.steps (state_at text c.args.at) known.place in
    scanned_other text c.args.at c.args.self.now _ known stands refl refl c.after-self.ensures.entered
    (λ opens. false≢true (sym c.if-opens.false ∙ c.opens.ensures.1 opens)) (λ breaks. false≢true (sym c.if-breaks.false ∙ c.breaks.ensures.1 breaks))

pub returns-else-is_line_end : goal.returns-else-is_line_end
returns-else-is_line_end c =
    let text = c.args.text.now in
    let known = c.requires.scanned in
    let stands = ap place_of (state_more text c.args.at c.requires.within) ∙ c.after-self.ensures.steps (state_at text c.args.at) known.place in
    scanned_other text c.args.at c.args.self.now _ known stands refl refl c.after-self.ensures.entered
    (λ opens. false≢true (sym c.if-opens.false ∙ c.opens.ensures.1 opens)) (λ breaks. false≢true (sym c.if-breaks.false ∙ c.breaks.ensures.1 breaks))
