use Rattle.std.proofs.Common.{ap, sym, ◌∙◌, rules}
use Rattle.std.specs.Ordering.{nat_cmp}
use Rattle.std.specs.Cmp.Lexicographic.{slice_cmp}
use Rattle.std.proofs.lemmas.Fn.{always_returns_same}
use Rattle.cutplan.specs.Matching.{bytes_of}
use Rattle.cutplan.proofs.TextSearch.{has_found, text_searched}
use Rattle.cutplan.proofs.lookup.is_named.Goals as goal

pub returns-in-Ok : goal.returns-in-Ok
returns-in-Ok c =
    let facts = c.binary_search_by.ensures in
    let found = facts.position (λ name. slice_cmp nat_cmp (bytes_of name) c.args.text.now) (always_returns_same _ _ _ (λ a r g called. (search rules, search rules))) in
    sym (ap has_found c.in-Ok.is) ∙ text_searched c.args.names.now c.args.text.now c.binary_search_by.result c.requires facts.bound found

pub returns-in-Err : goal.returns-in-Err
returns-in-Err c =
    let facts = c.binary_search_by.ensures in
    let found = facts.position (λ name. slice_cmp nat_cmp (bytes_of name) c.args.text.now) (always_returns_same _ _ _ (λ a r g called. (search rules, search rules))) in
    sym (ap has_found c.in-Err.is) ∙ text_searched c.args.names.now c.args.text.now c.binary_search_by.result c.requires facts.bound found
