use Rattle.std.proofs.Common.{◌-◌, [], get_or, arith}
use Rattle.std.proofs.lemmas.Grind.{common_steps}
use Rattle.explanation.proofs.FoundClaims.{none_given, searched_all, searched_first, searched_more}
use Rattle.explanation.proofs.finding.find_in.Goals as goal

pub records-init : goal.records-init
records-init c =
    let terms = c.args.terms.now in
    searched_first terms.plan.names (get_or terms.files (c.args.provider - 1) []) c.args.id.now c.args.provider c.args.earlier c.reader_begins_with_all_rows.ensures c.in_ok-rows.rows
    c.in_ok-rows.ensures.start c.in_ok-rows.ensures.apart

pub returns-in_default : goal.returns-in_default
returns-in_default c =
    let terms = c.args.terms.now in
    let given = rw c.in_default.is at c.in_ok-summary.ensures.gives in
    searched_all terms.plan.names (get_or terms.files (c.args.provider - 1) []) c.args.id.now c.args.provider c.args.earlier c.no_records_give_no_rows.ensures c.records.rows c.records.found
    c.records.invariant (none_given _ _ _ given)

pub records-preserved : goal.records-preserved
records-preserved c =
    let terms = c.args.terms.now in
    let given = rw c.in-Some.is at c.in_ok-summary.ensures.gives in
    searched_more terms.plan.names (get_or terms.files (c.args.provider - 1) []) c.args.id.now c.args.provider c.args.earlier c.given_row_is_the_first.ensures c.records.rows c.next_summary.new.self
    c.records.found c.in_ok-more.more _ _ c.records.invariant given c.in_ok-more.ensures

pub records-smaller : goal.records-smaller
records-smaller c = grind (arith, common_steps)
