use Rattle.std.proofs.lemmas.Grind.{common_steps}
use Rattle.std.proofs.Common.{List, ℕ, ◌++◌, ap, sym, ◌∙◌, arith}
use Rattle.feel_tests.specs.Words.{escaped}
use Rattle.feel_tests.proofs.FirstWord.{begins_quoted, quoted_inside}
use Rattle.feel_tests.proofs.QuoteFront.{front_no_piece}
use Rattle.feel_tests.proofs.strings.inside_at.Goals as goal

pub returns-in-Close-clause-ok : goal.returns-in-Close-clause-ok
returns-in-Close-clause-ok c =
    begins_quoted c.args.text.now c.args.inside.now c.pieces.bytes.items c.in-Close.following.now c.requires (c.pieces.invariant ∙ ap (λ (t : List ℕ). escaped c.pieces.bytes.items ++ t) c.in-Close.ensures)

pub returns-in-BadEscape-clause-refused : goal.returns-in-BadEscape-clause-refused
returns-in-BadEscape-clause-refused c memory bytes rest b =
    front_no_piece c.pieces.bytes.items bytes c.pieces.rest.now rest c.in-BadEscape.ensures.no_byte c.in-BadEscape.ensures.no_quote (sym c.pieces.invariant ∙ quoted_inside c.args.text.now c.args.inside.now bytes rest c.requires b)

pub returns-in-End-clause-refused : goal.returns-in-End-clause-refused
returns-in-End-clause-refused c memory bytes rest b =
    front_no_piece c.pieces.bytes.items bytes c.pieces.rest.now rest c.in-End.ensures.no_byte c.in-End.ensures.no_quote (sym c.pieces.invariant ∙ quoted_inside c.args.text.now c.args.inside.now bytes rest c.requires b)

pub pieces-preserved : goal.pieces-preserved
pieces-preserved c = grind (arith, common_steps)

pub pieces-smaller : goal.pieces-smaller
pieces-smaller c = grind (arith, common_steps)
